use Rattle.std.proofs.Common.{◌≡◌, ℕ, None, List, sym, ap, subst}
use Rattle.std.specs.List.{AllZip}
use Rattle.std.proofs.lemmas.Result.{IfOk-weaker}
use Rattle.sequence_grids.specs.Grids.{GridList}
use Rattle.place_walk.specs.declared.stand.Stand.{Stand}
use Rattle.stand_sums.specs.declared.next_rank.NextRank.{NextRank}
use Rattle.snapshot_project.specs.Ahead.{items_if}
use Rattle.snapshot_project.specs.Longer.{AreKept, IsKeptOf}
use Rattle.snapshot_project.proofs.growing.longer_by.Goals as goal

pub longer_from-requires-clause-kept : goal.longer_from-requires-clause-kept
longer_from-requires-clause-kept c =
    let part : GridList = c.args.part.now in
    let run : List Stand = c.args.found.run.stands in
    let (least, ranks, kept) = c.requires.kept (ap items_if c.in-None.is) in
    (least, ranks, subst (AreKept part c.args.aim least ranks run) (sym c.as_slice.ensures.value) kept)

pub returns-clause-stands : goal.returns-clause-stands
returns-clause-stands c =
    let part : GridList = c.args.part.now in
    let run : List Stand = c.args.found.run.stands in
    let found : List NextRank = c.args.found.ranks.items in
    IfOk-weaker c.longer_from.result
    (λ longer. (least : ℕ) (ranks : List ℕ) → AreKept part c.args.aim least ranks run c.as_slice.result.now → AllZip (IsKeptOf part least ranks) c.as_slice.result.now longer.items)
    (λ longer. items_if c.args.found.longer ≡ None → (least : ℕ) (ranks : List ℕ) → AreKept part c.args.aim least ranks run found → AllZip (IsKeptOf part least ranks) found longer.items)
    (λ longer told untold least ranks kept.
    subst (λ (l : List NextRank). AllZip (IsKeptOf part least ranks) l longer.items) c.as_slice.ensures.value
    (told least ranks (subst (AreKept part c.args.aim least ranks run) (sym c.as_slice.ensures.value) kept)))
    c.longer_from.ensures
