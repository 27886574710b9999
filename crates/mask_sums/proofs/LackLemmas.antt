-- Where a rank is needed that was not yet seen.
use Rattle.std.proofs.Common.{◌≡◌, ℕ, ◌⊎◌, ◌↔◌, inl, inr, Bool, false, cond, true≢false, Some, List, [], ◌∷◌, ◌++◌, arith, refl, sym, ap, subst, ◌∙◌, append_assoc}
use Rattle.std.specs.List.{Contains}
use Rattle.std.proofs.lemmas.Bool.{cases_eq, eq-eqb, ne_eqb}
use Rattle.std.proofs.lemmas.List.Elements.{Contains-append_left, Contains-push, Contains-push_cases}
use Rattle.state_bits.specs.Members.{Has}
use Rattle.state_bits.proofs.NeighbourLemmas.{Has-none}
use Rattle.walk_memo.specs.declared.action.Action.{Action}
use Rattle.stand_sums.specs.Writings.{goes_on}
use Rattle.mask_sums.specs.Kept.{lacks, OpensIn, HasOneMore}

-- ---- with the rank, and with another

module _ (need rank : ℕ) (action : Action) where
  pub goes-same : need ≡ rank → goes_on (lacks (Some need)) rank action ≡ action.more
  goes-same same = ap (λ (b : Bool). cond b action.more action.unseen) (eq-eqb need rank same)

  pub goes-other : (need ≡ rank → ⊥) → goes_on (lacks (Some need)) rank action ≡ action.unseen
  goes-other other = ap (λ (b : Bool). cond b action.more action.unseen) (ne_eqb need rank other)

module _ (mask need : ℕ) (action : Action) (rank : ℕ) where
  -- none does
  pub goes-none : action.more ≡ false → action.unseen ≡ false → Has 0 rank ↔ OpensIn (lacks (Some need)) action mask rank
  goes-none stays unseen = (
    (λ has. absurd (Has-none rank has)),
    (λ (has, on). absurd (elim (cases_eq need rank) [
      | inl same ↦ true≢false (sym on ∙ goes-same need rank action same ∙ stays)
      | inr other ↦ true≢false (sym on ∙ goes-other need rank action other ∙ unseen)
    ])),
  )

-- ---- one more of each

pub no_more : (IsMember : ℕ → Type 0) (list : List ℕ) → ((rank : ℕ) → IsMember rank → ⊥) → HasOneMore IsMember list list
no_more IsMember list none = record {
  members = λ rank few is. absurd (none rank is);
  others = λ rank fails. refl;
}

-- with an empty set none opens
pub no-member : (set rank : ℕ) (IsMember : Type 0) → set ≡ 0 → Has set rank ↔ IsMember → IsMember → ⊥
no-member set rank IsMember none is member = Has-none rank (subst (λ (n : ℕ). Has n rank) none (is.1 member))

-- ---- the members but one

-- of the first so many members of a set those but the rank
pub record AreOthersSoFar (all rank found : ℕ) (done left : List ℕ) : Type 0 where
  pub exact : (q : ℕ) → Has found q ↔ (Contains done q × (q ≡ rank → ⊥))
  pub members : (q : ℕ) → Contains (done ++ left) q ↔ Has all q

pub others-none : (all rank found : ℕ) (left : List ℕ) → found ≡ 0 → ((q : ℕ) → Contains left q ↔ Has all q) → AreOthersSoFar all rank found [] left
others-none all rank found left none are = record {
  exact = λ q. (
    (λ has. absurd (Has-none q (subst (λ (set : ℕ). Has set q) none has))),
    (λ ((i, inside, is), other). absurd (omega arith)),
  );
  members = are;
}

module _ (all rank found after : ℕ) (done left later : List ℕ) (member : ℕ) (so_far : AreOthersSoFar all rank found done left) (next : left ≡ member ∷ later) where
  others-members : (q : ℕ) → Contains ((done ++ member ∷ []) ++ later) q ↔ Has all q
  others-members =
      let same : done ++ left ≡ (done ++ member ∷ []) ++ later = rw next (sym (append_assoc done (member ∷ []) later)) in
      subst (λ (xs : List ℕ). (q : ℕ) → Contains xs q ↔ Has all q) same so_far.members

  -- it is another, and was added
  pub others-more : (member ≡ rank → ⊥) → ((q : ℕ) → Has after q ↔ (Has found q ⊎ (q ≡ member))) → AreOthersSoFar all rank after (done ++ member ∷ []) later
  others-more other step = record {
    exact = λ q. (
      (λ has. elim ((step q).0 has) [
        | inl had ↦ let (there, differs) = (so_far.exact q).0 had in (Contains-append_left done (member ∷ []) q there, differs)
        | inr same ↦ (subst (Contains (done ++ member ∷ [])) (sym same) (Contains-push done member), λ is. other (sym same ∙ is))
      ]),
      (λ (there, differs). (step q).1 (elim (Contains-push_cases done member q there) [
        | inl earlier ↦ inl ((so_far.exact q).1 (earlier, differs))
        | inr same ↦ inr (sym same)
      ])),
    );
    members = others-members;
  }
