use Rattle.std.proofs.Common.{◌≡◌, ◌<◌, ◌∙◌, ℕ, List, length, get_or, set, ap, rules}
use Rattle.stand_sums.specs.declared.shelf.Shelf.{Shelf}
use Rattle.stand_sums.specs.Kept.{older}
use Rattle.stand_sums.proofs.FileLemmas.{left-shelf, older-more}
use Rattle.stand_sums.proofs.filing.make_older.Goals as goal

pub loop-index-preserved : goal.loop-index-preserved
loop-index-preserved c =
    let shelves : List Shelf = c.args.shelves.now.items in
    let k : ℕ = c.loop-index.index in
    let inside : k < length shelves = search rules in
    let one : Shelf = c.index_mut.result.now in
    let one_is : one ≡ get_or shelves k one =
    c.index_mut.ensures.value ∙ ap (λ (l : List Shelf). get_or l k one) c.loop-index.invariant ∙ left-shelf shelves k one inside in
    ap (λ (l : List Shelf). set l k (older one)) c.loop-index.invariant ∙ older-more shelves k one inside (older one) (ap older one_is)
