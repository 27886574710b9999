use Rattle.std.proofs.Common.{◌<◌, ◌∙◌, length, arith}
use Rattle.std.proofs.lemmas.Option.{get_or_from_slice_get}
use Rattle.std.proofs.lemmas.List.{get_or_read}
use Rattle.sequence_grids.proofs.KindLemmas.{HasKind-at}
use Rattle.sequence_grids.proofs.TableLemmas.{step-kept}
use Rattle.sequence_grids.proofs.PlaceLemmas.{HasTriple-step}
use Rattle.sequence_grids.proofs.places.known_place.Goals as goal

pub returns-clause-triple : goal.returns-clause-triple
returns-clause-triple c rest has =
    let table = c.args.tables.now in
    let kinds = c.args.kinds.now in
    let number = c.index-kind.result.now in
    let (first, inside, is, some) = c.in_ok-triple.ensures in
    let step = step-kept table.predecessors table.classes table.triples c.args.steps.now c.index.result.now.class c.args.after c.in_ok-triple.triple c.requires.steps first inside is some in
    let known : c.args.t.0 < length kinds.numbers.items = omega (arith, c.requires.item, c.requires.kinds.all) in
    let kind = HasKind-at c.args.job.now c.args.bound table.classes kinds c.requires.kinds c.args.t.0 number known (get_or_read kinds.numbers.items c.args.t.0 number known c.index-kind.ensures 0) c.if-kind.false in
    HasTriple-step c.args.job.now c.requires.whole c.args.bound table c.requires.table kinds c.args.t number kind c.index.result.now
    (λ k found. c.index.ensures ∙ get_or_from_slice_get kinds.kinds.items number k c.index.result.now found)
    c.args.after c.in_ok-triple.triple step rest has
