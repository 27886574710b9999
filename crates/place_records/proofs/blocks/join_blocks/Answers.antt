use Rattle.std.proofs.Common.{rules, ◌≡◌, ◌∙◌, ◌+◌, ℕ, suc, List, [], ◌∷◌, drop, map, ap, sym, subst, arith}
use Rattle.std.proofs.Math.Seq.{drop-cons}
use Rattle.std.proofs.lemmas.List.{drop_all}
use Rattle.place_records.specs.declared.blocks.Piece.{Piece}
use Rattle.place_records.specs.Twins.{twin_sets}
use Rattle.place_records.specs.Filled.{AreKnown}
use Rattle.place_records.specs.Spans.{AreBlocks}
use Rattle.place_records.proofs.blocks.join_blocks.Goals as goal

pub loop-block-init : goal.loop-block-init
loop-block-init g c problem bound kinds at to are before = (at, are, before)

pub join-requires : goal.join-requires
join-requires g c =
    let width = c.requires.width in
    let item = c.block-item.result in
    let known : AreKnown (map (twin_sets {W = g.row.W}) item.twins.items) item.places =
    subst (λ (b : Piece g.row.W). AreKnown (map (twin_sets {W = g.row.W}) b.twins.items) b.places) (sym c.block-item.is) (c.requires.known c.loop-block.block-index item c.loop-block-test.true) in
    search rules

pub loop-block-preserved : goal.loop-block-preserved
loop-block-preserved g c problem bound kinds at to are before =
    let blocks = c.args.blocks.now in
    let index : ℕ = c.loop-block.block-index in
    let item = c.block-item.result in
    let (mid, rest, so_far) = c.loop-block.invariant problem bound kinds at to are before in
    let after : suc index ≡ index + 1 = omega arith in
    let here : drop index blocks ≡ item ∷ drop (index + 1) blocks =
    drop-cons blocks index item c.loop-block-test.true ∙ (ap (λ (b : Piece g.row.W). b ∷ drop (suc index) blocks) (sym c.block-item.is) ∙ ap (λ (n : ℕ). item ∷ drop n blocks) after) in
    let (next, order, is, others) = subst (λ (bs : List (Piece g.row.W)). AreBlocks {W = g.row.W} problem bound kinds mid bs to) here rest in
    (next, others, c.in_ok-join.ensures problem bound kinds 0 mid next (omega arith) order so_far is)

pub returns : goal.returns
returns g c problem bound kinds at to are before =
    let blocks = c.args.blocks.now in
    let (mid, rest, so_far) = c.loop-block.invariant problem bound kinds at to are before in
    let over : drop c.loop-block.block-index blocks ≡ [] = drop_all c.loop-block.block-index blocks c.loop-block-test.false in
    let last : mid ≡ to = subst (λ (bs : List (Piece g.row.W)). AreBlocks {W = g.row.W} problem bound kinds mid bs to) over rest in
    rw (sym last) so_far
