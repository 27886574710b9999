-- What follows a longer prefix, from what was counted behind its last rank.
use Rattle.std.proofs.Common.{◌≡◌, ℕ, zero, suc, ◌+◌, ◌<◌, ◌≤◌, inl, inr, Bool, true, false, cond, ◌==◌, IsTrue, Some, None, List, [], ◌∷◌, length, map, get_or, replicate, refl, sym, ap, ◌∙◌, subst, arith}
use Rattle.std.specs.List.{All, AllZip, Contains, list_any, slice_get}
use Rattle.std.specs.Prelude.{nat_le}
use Rattle.std.proofs.lemmas.Bool.{cases_eq, cases_lt, ne_eqb}
use Rattle.std.proofs.lemmas.List.{length-map}
use Rattle.std.proofs.lemmas.List.Elements.{All-contains, Contains-append_left, Contains-append_right}
use Rattle.std.proofs.lemmas.Option.{same_Some}
use Rattle.mine_model.specs.Support.{Counts}
use Rattle.mine_model.proofs.ListLemmas.{Contains-cases, Contains-first, Contains-other, Contains-none, Contains-by, Contains-from}
use Rattle.mine_model.proofs.ElementLemmas.{among-held}
use Rattle.place_walk.specs.declared.visit.Visit.{Visit}
use Rattle.place_walk.specs.declared.stand.Stand.{Stand}
use Rattle.place_walk.specs.Courses.{Course}
use Rattle.place_walk.specs.Visits.{AreVisits}
use Rattle.place_walk.specs.Groups.{AreGroups}
use Rattle.stand_sums.specs.declared.aim.Aim.{Aim}
use Rattle.stand_sums.specs.declared.next_rank.NextRank.{NextRank}
use Rattle.stand_sums.specs.Writings.{Ranks, follows}
use Rattle.stand_sums.specs.Sequences.{HasOne, all_weighed, AreSequences}
use Rattle.stand_sums.specs.Sums.{Tally, empty_tally, AreCounted, AreLaidOut, AreNext, IsTold}
use Rattle.stand_sums.specs.Files.{stands_of}
use Rattle.stand_sums.proofs.WritingLemmas.{follows-writes}
use Rattle.mask_sums.specs.Kept.{free, IsSeen}
use Rattle.mask_sums.proofs.SetLemmas.{none-counted as zero-counted}
use Rattle.mask_sums.proofs.RoomLemmas.{free-counted}
use Rattle.level_ahead.specs.declared.next_of.NextOf.{NextOf}
use Rattle.level_ahead.specs.Counts.{Behind, AreAdded, AreReaching}
use Rattle.level_ahead.specs.Longer.{last_tally, last_told, last_tallies}
use Rattle.level_ahead.proofs.StandLemmas.{AreMatched, matched}
use Rattle.level_ahead.proofs.LongerLemmas.{EachStand, kids-counted, kids-quiet, quiet-counted, free-stands}

-- ---- the tallies

record IsTallyAt (counts : List ℕ) (rank count : ℕ) (tally : Tally) : Type 0 where
  pub inside : rank < count
  pub is : tally ≡ last_tally (get_or counts rank 0)

tallies-from : (counts : List ℕ) (first count k : ℕ) (tally : Tally) → slice_get (last_tallies counts first count) k ≡ Some tally → (k < count) × (tally ≡ last_tally (get_or counts (first + k) 0))
tallies-from counts first zero k tally at = absurd (cc)
tallies-from counts first (suc count) zero tally at =
    (omega arith, sym (same_Some (last_tally (get_or counts first 0)) tally at) ∙ ap (λ (n : ℕ). last_tally (get_or counts n 0)) (let e : first ≡ first + 0 = omega arith in e))
tallies-from counts first (suc count) (suc k) tally at =
    let (inside, is) = tallies-from counts (suc first) count k tally at in
    (omega arith, is ∙ ap (λ (n : ℕ). last_tally (get_or counts n 0)) (let e : suc first + k ≡ first + suc k = omega arith in e))

from-tallies : (counts : List ℕ) (first count k : ℕ) → k < count → slice_get (last_tallies counts first count) k ≡ Some (last_tally (get_or counts (first + k) 0))
from-tallies counts first zero k inside = absurd (omega arith)
from-tallies counts first (suc count) zero inside = ap (λ (n : ℕ). Some (last_tally (get_or counts n 0))) (let e : first ≡ first + 0 = omega arith in e)
from-tallies counts first (suc count) (suc k) inside =
    from-tallies counts (suc first) count k (omega arith) ∙ ap (λ (n : ℕ). Some (last_tally (get_or counts n 0))) (let e : suc first + k ≡ first + suc k = omega arith in e)

tally-at : (counts : List ℕ) (count k : ℕ) (tally : Tally) → slice_get (last_tallies counts 0 count) k ≡ Some tally → IsTallyAt counts k count tally
tally-at counts count k tally at =
    let (inside, is) = tallies-from counts 0 count k tally at in
    record { inside = inside; is = is ∙ ap (λ (n : ℕ). last_tally (get_or counts n 0)) (let e : 0 + k ≡ k = omega arith in e) }

at-tally : (counts : List ℕ) (count k : ℕ) → k < count → slice_get (last_tallies counts 0 count) k ≡ Some (last_tally (get_or counts k 0))
at-tally counts count k inside = from-tallies counts 0 count k inside ∙ ap (λ (n : ℕ). Some (last_tally (get_or counts n 0))) (let e : 0 + k ≡ k = omega arith in e)

-- ---- those that reach the least

told-at : (xs : List NextOf) (k : ℕ) (d : NextRank) (e : NextOf) → k < length xs → (get_or (map last_told xs) k d).rank ≡ (get_or xs k e).rank
told-at [] k d e short = absurd (omega arith)
told-at (x ∷ xs) zero d e short = refl
told-at (x ∷ xs) (suc k) d e short = told-at xs k d e (omega arith)

no-places : (found : List NextOf) → AreLaidOut 0 (map last_told found) 0
no-places [] = refl
no-places (next ∷ found) = (refl, omega arith, no-places found)

cond-same : (b : Bool) → ◌≡◌ {A = ℕ} (cond b 0 0) 0
cond-same true = refl
cond-same false = refl

is-told : (enough : ℕ) (next : NextOf) → IsTold enough (last_tally next.count) (last_told next)
is-told enough next = record {
  weight = refl;
  support = refl;
  longer = refl;
  stands = let none = cond-same (nat_le enough 0) in omega (arith, none);
}

told-by : (enough : ℕ) (counts : List ℕ) (next : NextOf) → next.count ≡ get_or counts next.rank 0 → IsTold enough (last_tally (get_or counts next.rank 0)) (last_told next)
told-by enough counts next same = subst (λ (n : ℕ). IsTold enough (last_tally n) (last_told next)) same (is-told enough next)

-- ranks from the count on do not follow
pub longer-next : (counts : List ℕ) (count least enough : ℕ) (found : List NextOf) → 1 ≤ least → count ≤ 256 → ((rank : ℕ) → rank < 256 → count ≤ rank → 1 ≤ get_or counts rank 0 → ⊥)
    → AreReaching least counts found → AreNext least enough (last_tallies counts 0 count) (map last_told found)
longer-next counts count least enough found some few none are = record {
  rising = λ i j d below inside.
      let long = length-map found last_told in
      let short : j < length found = omega (arith, inside, long) in
      let e : NextOf = record { rank = 0; count = 0 } in
      let first = told-at found i d e (omega arith) in
      let second = told-at found j d e short in
      let less = are.rising i j e below short in
      omega (arith, first, second, less);
  right = λ next held.
      let (of, there, same) = Contains-from last_told found next held in
      subst (λ (n : NextRank). (tally : Tally) × (slice_get (last_tallies counts 0 count) n.rank ≡ Some tally) × (least ≤ tally.weight) × IsTold enough tally n) (sym same) (right-of of there);
  all = λ rank tally _ at reached.
      let is = tally-at counts count rank tally at in
      let inside = is.inside in
      let weight : tally.weight ≡ get_or counts rank 0 = ap (λ (t : Tally). t.weight) is.is in
      let next : NextOf = record { rank = rank; count = get_or counts rank 0 } in
      (last_told next, Contains-by last_told found next ((are.exact next).1 (omega arith, refl, omega (arith, weight, reached))), refl);
  laid_out = (0, no-places found);
}
  where
    right-of : (of : NextOf) → Contains found of → (tally : Tally) × (slice_get (last_tallies counts 0 count) of.rank ≡ Some tally) × (least ≤ tally.weight) × IsTold enough tally (last_told of)
    right-of of there =
        let (small, same, enough_of) = (are.exact of).0 there in
        let inside : of.rank < count = elim (cases_lt of.rank count) [
          | inl less ↦ less
          | inr past ↦ absurd (none of.rank small past (omega (arith, same, enough_of, some)))
        ] in
        (last_tally (get_or counts of.rank 0), at-tally counts count of.rank inside, omega (arith, same, enough_of), told-by enough counts of same)

-- ---- ranks that do not follow

written-below : (ranks : Ranks) (count rank : ℕ) (visit : Visit) → All (λ r. r < count) (ranks visit.kind visit.action.state) → IsTrue (follows ranks free rank visit) → rank < count
written-below ranks count rank visit is following =
    All-contains (λ r. r < count) (ranks visit.kind visit.action.state) rank is
    (among-held rank (ranks visit.kind visit.action.state) (follows-writes ranks free rank visit following))

in-visits : (visits : List Visit) (kids : List (List Visit)) → AreSequences visits kids → (kid : List Visit) → Contains kids kid → (visit : Visit) → Contains kid visit → Contains visits visit
in-visits visits [] none kid held visit inside = absurd (Contains-none kid held)
in-visits visits (first ∷ kids) (behind, cut, is, are) kid held visit inside =
    subst (λ (l : List Visit). Contains l visit) (sym cut) (elim (Contains-cases first kids kid held) [
      | inl same ↦ Contains-append_left first behind visit (subst (λ (l : List Visit). Contains l visit) same inside)
      | inr there ↦ Contains-append_right first behind visit (in-visits behind kids are kid there visit inside)
    ])

none-counted : (P : List Visit → Type 0) (kids : List (List Visit)) (n : ℕ) → ((kid : List Visit) → Contains kids kid → P kid → ⊥) → Counts P (all_weighed [] kids) n → n ≡ 0
none-counted P [] n never none = none
none-counted P (kid ∷ kids) n never (inl has) = absurd (never kid (Contains-first kid kids) has.0)
none-counted P (kid ∷ kids) n never (inr lacks) = none-counted P kids n (λ one there. never one (Contains-other kid kids one there)) lacks.1

-- ---- the law

module _ (course : Course) (each : EachStand course) (ranks : Ranks) (aim later : Aim) (sequences : List (List Visit)) (groups : List (List Stand)) (kids : List (List Visit)) (visits : List Visit) (before after : Behind)
    (aim_seen : IsSeen aim) (later_seen : IsSeen later) (added : AreAdded course ranks None sequences before after) (nothing : before.counts ≡ replicate 256 0)
    (groups_are : AreGroups (stands_of ranks aim before.rank sequences) groups) (zip : AllZip (AreVisits course) groups kids) (are : AreSequences visits kids) where
  pairs : AreMatched course ranks before.rank sequences kids
  pairs = matched course ranks before.rank sequences groups kids (subst (λ (l : List Stand). AreGroups l groups) (free-stands ranks aim before.rank sequences aim_seen) groups_are) zip

  follow : (other : ℕ) → other < 256 → Counts (HasOne (follows ranks free other)) (all_weighed [] kids) (get_or after.counts other 0)
  follow other few =
      let (n, counts, is) = added.counted other few in
      let none : get_or before.counts other 0 ≡ 0 = ap (λ (l : List ℕ). get_or l other 0) nothing ∙ zero-counted 256 other in
      let same : n ≡ get_or after.counts other 0 = omega (arith, is, none) in
      subst (Counts (HasOne (follows ranks free other)) (all_weighed [] kids)) same (kids-counted course each ranks before.rank other sequences kids n pairs counts)

  quiet : (kid : List Visit) → Contains kids kid → HasOne (λ one. one.action.more) kid → ⊥
  quiet = kids-quiet course each ranks before.rank sequences kids pairs added.ended

  pub longer-summed : (count : ℕ) → count ≤ 256 → (rank : ℕ) (tally : Tally) → slice_get (last_tallies after.counts 0 count) rank ≡ Some tally
      → AreCounted ranks later [] rank visits kids empty_tally tally
  longer-summed count most rank tally at =
      let is = tally-at after.counts count rank tally at in
      let inside = is.inside in
      let one = quiet-counted ranks rank visits kids (get_or after.counts rank 0) are quiet (follow rank (omega arith)) in
      subst (AreCounted ranks later [] rank visits kids empty_tally) (sym is.is) (free-counted ranks later [] rank visits kids empty_tally (last_tally (get_or after.counts rank 0)) later_seen refl one)

  pub none-past : (count : ℕ) → All (λ visit. All (λ r. r < count) (ranks visit.kind visit.action.state)) visits → (rank : ℕ) → rank < 256 → count ≤ rank → 1 ≤ get_or after.counts rank 0 → ⊥
  none-past count readable rank few past some =
      let none = none-counted (HasOne (follows ranks free rank)) kids (get_or after.counts rank 0) (λ kid held (visit, inside, following).
      let below = written-below ranks count rank visit (All-contains (λ one. All (λ r. r < count) (ranks one.kind one.action.state)) visits visit readable (in-visits visits kids are kid held visit inside)) following in omega arith)
      (follow rank few) in omega arith
