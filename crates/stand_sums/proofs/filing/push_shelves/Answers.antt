use Rattle.std.proofs.Common.{◌≡◌, ◌≢◌, ◌<◌, ◌++◌, ◌∙◌, ℕ, Some, List, [], ◌∷◌, length, length-set, get_or, set, sym, ap, subst, arith, rules}
use Rattle.std.specs.List.{slice_get}
use Rattle.stand_sums.specs.declared.next_rank.NextRank.{NextRank}
use Rattle.stand_sums.specs.declared.shelf.Shelf.{Shelf}
use Rattle.stand_sums.specs.Kept.{empty_shelf, ArePlaced}
use Rattle.stand_sums.proofs.FileLemmas.{ranks-apart, shelves-more, placed-new}
use Rattle.stand_sums.proofs.filing.push_shelves.Goals as goal

pub loop-wanted-preserved : goal.loop-wanted-preserved
loop-wanted-preserved c =
    let nexts : List NextRank = c.args.next.now in
    let k : ℕ = c.loop-wanted.wanted-index in
    let none : NextRank = record { rank = 0; weight = 0; support = 0; longer = 0; first = 0; last = 0 } in
    let next : NextRank = get_or nexts k none in
    let shelf : Shelf = empty_shelf next in
    let places : List ℕ = c.loop-wanted.places.items in
    let shelves : List Shelf = c.loop-wanted.shelves.items in
    let inside = c.loop-wanted-test.true in
    let pushed : c.push.new.self.items ≡ shelves ++ shelf ∷ [] = c.in_ok-push.ensures.items in
    let place : c.in_ok-place.place ≡ length shelves = search rules in
    let apart : (j : ℕ) (one : Shelf) → slice_get shelves j ≡ Some one → one.rank ≢ next.rank =
    (λ j one at. ranks-apart nexts c.requires.rising k none inside j one (subst (λ (l : List Shelf). slice_get l j ≡ Some one) c.loop-wanted.invariant.shelves at)) in
    let short : next.rank < length c.args.places.now.items = c.requires.within k none inside in
    let within : next.rank < length places = omega (arith, short, c.loop-wanted.invariant.room) in
    let new : ArePlaced (set places next.rank (length shelves)) (shelves ++ shelf ∷ []) = placed-new places shelves shelf c.loop-wanted.invariant.placed within apart in
    record {
      room = length-set places next.rank c.in_ok-place.place ∙ c.loop-wanted.invariant.room;
      placed = subst (λ (n : ℕ). ArePlaced (set places next.rank n) c.push.new.self.items) (sym place)
          (subst (ArePlaced (set places next.rank (length shelves))) (sym pushed) new);
      shelves = pushed ∙ ap (λ (l : List Shelf). l ++ shelf ∷ []) c.loop-wanted.invariant.shelves ∙ shelves-more nexts c.requires.rising k none inside;
    }
