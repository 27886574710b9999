use Rattle.std.proofs.Common.{◌≡◌, ◌<◌, Some, List, [], ◌∷◌, ◌++◌, length, slice_get, refl, subst, arith}
use Rattle.std.proofs.lemmas.Option.{slice_get_read}
use Rattle.mine_model.proofs.ElementLemmas.{get-some}
use Rattle.snapshot_project.specs.declared.next_rank.NextRank.{NextRank}
use Rattle.layer_tests.proofs.snapshots.longer_by.Goals as goal

pub returns-clause-projected : goal.returns-clause-projected
returns-clause-projected c =
    let grown = c.in_ok-next.field-0 in
    let within : c.in-Some.place < length grown.next.items =
    subst (λ (ranks : List NextRank). c.in-Some.place < length ranks) c.as_slice.ensures.value c.in-Some.ensures in
    let next = get-some grown.next.items c.in-Some.place within in
    let kid : slice_get grown.longer.items c.in-Some.place ≡ Some c.swap_remove.result =
    slice_get_read grown.longer.items (length grown.longer.items) c.in-Some.place c.swap_remove.result refl
    (omega (arith, within, c.in_ok-next.ensures.all)) c.swap_remove.ensures.value in (
      c.requires.projected.0 ++ next.0.rank ∷ [],
      c.in_ok-next.ensures.each c.requires.projected.0 c.requires.projected.1 c.in-Some.place next.0 c.swap_remove.result next.1 kid,
    )
