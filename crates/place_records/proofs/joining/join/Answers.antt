use Rattle.std.proofs.Common.{◌+◌, ◌<◌, ◌^◌, map, length, ap, subst, arith}
use Rattle.place_records.specs.Twins.{twin_sets}
use Rattle.place_records.specs.Blocks.{AreNames}
use Rattle.place_records.proofs.BlockLemmas.{IsBlock-join}
use Rattle.place_records.proofs.joining.join.Goals as goal

pub append_renamed-requires-clause-known : goal.append_renamed-requires-clause-known
append_renamed-requires-clause-known g c entry held =
    let below = c.requires.known entry held in
    omega (arith, below, c.in_ok-names.ensures.names.long, ap (λ ts. length (map (twin_sets {W = g.row.W}) ts)) c.as_slice.ensures.value, ap length c.as_slice-2.ensures.value)

pub returns : goal.returns
returns g c problem bound kinds from mid to order order' first second =
    let own = map (twin_sets {W = g.row.W}) c.args.block.now.twins.items in
    let twins = map (twin_sets {W = g.row.W}) c.args.joined.now.twins.keys in
    let all = map (twin_sets {W = g.row.W}) c.names_among.new.all.keys in
    let names = c.in_ok-names.names.items in
    let places = c.args.joined.now.places in
    let moved = c.args.block.now.places in
    let named : AreNames own all names = subst (λ ts. AreNames (map (twin_sets {W = g.row.W}) ts) all names) c.as_slice.ensures.value c.in_ok-names.ensures.names in
    let few : length places + length moved < 2 ^ 32 = omega (arith, c.if-len-room.false, c.saturating_sub-room.ensures, c.len.ensures, c.len-2.ensures, first.filled.few) in
    rw (c.in_ok-extend_from_slice.ensures.items, c.as_slice-3.ensures.value, c.in_ok-append_renamed.ensures.all, c.as_slice-2.ensures.value)
    (IsBlock-join problem bound kinds from mid to twins own all names c.args.joined.now.sequences.items c.args.block.now.sequences.items places moved order order' first second c.names_among.ensures.grow named few)
