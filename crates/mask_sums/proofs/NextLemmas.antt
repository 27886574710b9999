-- The ranks whose weight is enough, one after another.
use Rattle.std.proofs.Common.{◌≡◌, ℕ, ◌+◌, ◌≤◌, ◌<◌, inl, inr, Some, List, [], ◌∷◌, ◌++◌, length, get_or, refl, sym, ap, ◌∙◌, subst, arith}
use Rattle.std.specs.List.{AllPairs, Contains, slice_get}
use Rattle.std.proofs.lemmas.Bool.{cases_eq}
use Rattle.std.proofs.lemmas.List.Elements.{Contains-push, Contains-push_cases, Contains-append_left, Contains-get_or}
use Rattle.std.proofs.lemmas.List.Quantifiers.{all_pairs_push}
use Rattle.std.proofs.lemmas.Option.{slice_get_within}
use Rattle.mine_model.proofs.ListLemmas.{Contains-none}
use Rattle.stand_sums.specs.declared.next_rank.NextRank.{NextRank}
use Rattle.stand_sums.specs.Sums.{Tally, IsTold, AreLaidOut, AreNext}
use Rattle.mask_sums.specs.Kept.{IsNext}

-- of the ranks before this one
pub record AreFound (least enough : ℕ) (tallies : List Tally) (rank end : ℕ) (found : List NextRank) : Type 0 where
  pub rising : AllPairs (λ low high. low.rank < high.rank) found
  pub below : (next : NextRank) → Contains found next → next.rank < rank
  pub right : (next : NextRank) → Contains found next
      → (tally : Tally) × (slice_get tallies next.rank ≡ Some tally) × (least ≤ tally.weight) × IsTold enough tally next
  pub all : (k : ℕ) (tally : Tally) → 1 ≤ least → k < rank → slice_get tallies k ≡ Some tally → least ≤ tally.weight → (next : NextRank) × Contains found next × (next.rank ≡ k)
  pub laid_out : AreLaidOut 0 found end

pub found-none : (least enough : ℕ) (tallies : List Tally) → AreFound least enough tallies 0 0 []
found-none least enough tallies = record {
  rising = λ i j d less inside. absurd (omega arith);
  below = λ next held. absurd (Contains-none next held);
  right = λ next held. absurd (Contains-none next held);
  all = λ k tally some less. absurd (omega arith);
  laid_out = refl;
}

laid-push : (from : ℕ) (found : List NextRank) (end : ℕ) (next : NextRank) → AreLaidOut from found end → next.first ≡ end → end ≤ next.last → AreLaidOut from (found ++ next ∷ []) next.last
laid-push from [] end next at first more = (first ∙ sym at, (let e : from ≤ next.last = omega arith in e), refl)
laid-push from (one ∷ found) end next (first_is, forward, rest) first more = (first_is, forward, laid-push one.last found end next rest first more)

module _ (least enough : ℕ) (tallies : List Tally) (rank end : ℕ) (found : List NextRank) (are : AreFound least enough tallies rank end found) where
  -- the rank does not reach the least
  pub found-skip : ((tally : Tally) → 1 ≤ least → slice_get tallies rank ≡ Some tally → least ≤ tally.weight → ⊥) → AreFound least enough tallies (rank + 1) end found
  found-skip short = record {
    rising = are.rising;
    below = λ next held. let less = are.below next held in omega arith;
    right = are.right;
    all = λ k tally some less at reached. elim (cases_eq k rank) [
      | inl same ↦ absurd (short tally some (subst (λ (n : ℕ). slice_get tallies n ≡ Some tally) same at) reached)
      | inr other ↦ are.all k tally some (omega arith) at reached
    ];
    laid_out = are.laid_out;
  }

  -- or it does
  pub found-more : (tally : Tally) (next : NextRank) → slice_get tallies rank ≡ Some tally → IsNext least enough rank end tally next
      → AreFound least enough tallies (rank + 1) next.last (found ++ next ∷ [])
  found-more tally next at is =
      let named = is.named in
      record {
        rising = all_pairs_push (λ (low high : NextRank). low.rank < high.rank) found next are.rising
            (λ k d inside. let less = are.below (get_or found k d) (Contains-get_or found k d inside) in omega arith);
        below = λ one held. elim (Contains-push_cases found next one held) [
          | inl there ↦ let less = are.below one there in omega arith
          | inr same ↦ let same_rank : next.rank ≡ one.rank = ap (λ (n : NextRank). n.rank) same in omega arith
        ];
        right = λ one held. elim (Contains-push_cases found next one held) [
          | inl there ↦ are.right one there
          | inr same ↦
              subst
              (λ (n : NextRank). (tally : Tally) × (slice_get tallies n.rank ≡ Some tally) × (least ≤ tally.weight) × IsTold enough tally n)
              same
              (tally, ap (slice_get tallies) named ∙ at, is.reached, is.told)
        ];
        all = λ k one some less there reached. elim (cases_eq k rank) [
          | inl same ↦ (next, Contains-push found next, named ∙ sym same)
          | inr other ↦
              let (old, held, old_rank) = are.all k one some (omega arith) there reached in
              (old, Contains-append_left found (next ∷ []) old held, old_rank)
        ];
        laid_out =
            let first = is.first in
            let stands = is.told.stands in
            laid-push 0 found end next are.laid_out first (omega arith);
      }

  pub found-all : length tallies ≤ rank → AreNext least enough tallies found
  found-all past = record {
    rising = are.rising;
    right = are.right;
    all = λ k tally some at reached. are.all k tally some (let inside = slice_get_within tallies k tally at in omega arith) at reached;
    laid_out = (end, are.laid_out);
  }
