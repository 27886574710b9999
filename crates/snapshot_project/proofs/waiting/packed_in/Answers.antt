use Rattle.std.proofs.Common.{◌≡◌, ℕ, ◌<◌, Some, List, ◌∷◌, [], ◌++◌, length, take, get_or, sym, subst}
use Rattle.std.specs.List.{AllZip, slice_get}
use Rattle.std.proofs.lemmas.List.{take_more}
use Rattle.std.proofs.lemmas.Option.{slice_get-get_or}
use Rattle.std.proofs.lemmas.Slice.Zip.{all_zipped_more}
use Rattle.mine_model.proofs.ElementLemmas.{get-held}
use Rattle.sequence_grids.specs.Grids.{GridList}
use Rattle.stand_sums.specs.declared.next_rank.NextRank.{NextRank}
use Rattle.snapshot_project.specs.Longer.{IsKeptOf}
use Rattle.snapshot_project.proofs.waiting.packed_in.Goals as goal

-- no rank
abbrev blank : NextRank
blank = record { rank = 0; weight = 0; support = 0; longer = 0; first = 0; last = 0 }

pub loop-next-preserved : goal.loop-next-preserved
loop-next-preserved c = λ least ranks kept.
    let part : GridList = c.args.part.now in
    let found : List NextRank = c.args.found.now in
    let k : ℕ = c.loop-next.next-index in
    let next : NextRank = get_or found k blank in
    let inside : k < length found = c.loop-next-test.true in
    let at : slice_get found k ≡ Some next = slice_get-get_or found k blank inside in
    let one : IsKeptOf part least ranks next c.in_ok-packed.field-0 = c.in_ok-packed.ensures least ranks (kept next (get-held found k next at)) in
    subst (λ (l : List NextRank). AllZip (IsKeptOf part least ranks) l c.push.new.self.items) (sym (take_more found k blank inside))
    (subst (AllZip (IsKeptOf part least ranks) (take k found ++ next ∷ [])) (sym c.in_ok-push.ensures.items)
    (all_zipped_more (IsKeptOf part least ranks) (take k found) c.loop-next.longer.items next c.in_ok-packed.field-0 (c.loop-next.invariant least ranks kept) one))
