-- What a leaf may write, as lists.
use Rattle.std.proofs.Common.{◌≡◌, ℕ, ◌+◌, ◌<◌, ◌≤◌, ◌↔◌, inl, inr, List, [], ◌∷◌, ◌++◌, length, get_or, ap, ◌∙◌, subst, arith}
use Rattle.std.specs.List.{Contains}
use Rattle.std.proofs.lemmas.List.{get_or_default}
use Rattle.std.proofs.lemmas.List.Elements.{Contains-append_left, Contains-append_right, Contains-append_cases, Contains-get_or}
use Rattle.std.proofs.lemmas.List.Quantifiers.{all_pairs_push}
use Rattle.std.proofs.lemmas.Bool.{cases_eq}
use Rattle.mine_model.specs.declared.item.Item.{Item}
use Rattle.mine_model.specs.Ancestry.{AreRising}
use Rattle.mine_model.specs.Hierarchy.{Link, IsAncestor}
use Rattle.mine_model.proofs.ListLemmas.{Contains-cases, Contains-first, Contains-none}

-- of the first so many items of the list, those that stand below w or are w were kept
pub record IsKeptSoFar (links : List (Link Item)) (w : Item) (all out : List Item) (index : ℕ) : Type 0 where
  pub rising : AreRising out
  pub from : (v : Item) → Contains out v → (k : ℕ) × (k < index) × (get_or all k v ≡ v) × IsAncestor links w v
  pub kept : (k : ℕ) (d : Item) → k < index → IsAncestor links w (get_or all k d) → Contains out (get_or all k d)

pub IsKeptSoFar-none : (links : List (Link Item)) (w : Item) (all : List Item) → IsKeptSoFar links w all [] 0
IsKeptSoFar-none links w all = record {
  rising = λ i j d low high. absurd (omega arith);
  from = λ v none. absurd (Contains-none v none);
  kept = λ k d none is. absurd (omega arith);
}

pub IsKeptSoFar-skip : (links : List (Link Item)) (w : Item) (all out : List Item) (index : ℕ) → IsKeptSoFar links w all out index → index < length all
    → ((d : Item) → IsAncestor links w (get_or all index d) → ⊥) → IsKeptSoFar links w all out (index + 1)
IsKeptSoFar-skip links w all out index so_far inside not_below = record {
  rising = so_far.rising;
  from = λ v held. let (k, below, is, up) = so_far.from v held in (k, omega arith, is, up);
  kept = λ k d below is. elim (cases_eq k index) [
    | inl same ↦ absurd (not_below d (rw same at is))
    | inr earlier ↦ so_far.kept k d (omega arith) is
  ];
}

pub IsKeptSoFar-keep : (links : List (Link Item)) (w : Item) (all out : List Item) (index : ℕ) (v : Item) → AreRising all → IsKeptSoFar links w all out index → index < length all
    → get_or all index v ≡ v → IsAncestor links w v → IsKeptSoFar links w all (out ++ v ∷ []) (index + 1)
IsKeptSoFar-keep links w all out index v all_rising so_far inside is up = record {
  rising = all_pairs_push (λ first second. first.0 < second.0) out v so_far.rising (λ i d within.
      let (k, below, found, _) = so_far.from (get_or out i d) (Contains-get_or out i d within) in
      let earlier : get_or all k v ≡ get_or out i d = get_or_default all k v (get_or out i d) (omega arith) ∙ found in
      let order : (get_or all k v).0 < (get_or all index v).0 = all_rising k index v below inside in
      rw (earlier, is) at order);
  from = λ x held. elim (Contains-append_cases out (v ∷ []) x held) [
    | inl earlier ↦ let (k, below, found, above) = so_far.from x earlier in (k, omega arith, found, above)
    | inr last ↦ elim (Contains-cases v [] x last) [
      | inl same ↦ rw same (index, omega arith, is, up)
      | inr none ↦ absurd (Contains-none x none)
    ]
  ];
  kept = λ k d below above. elim (cases_eq k index) [
    | inl same ↦
        let here : get_or all k d ≡ v = ap (λ (n : ℕ). get_or all n d) same ∙ get_or_default all index d v inside ∙ is in
        rw here (Contains-append_right out (v ∷ []) v (Contains-first v []))
    | inr earlier ↦ Contains-append_left out (v ∷ []) (get_or all k d) (so_far.kept k d (omega arith) above)
  ];
}

pub IsKeptSoFar-all : (links : List (Link Item)) (t w : Item) (all out : List Item) (index : ℕ) → IsKeptSoFar links w all out index → length all ≤ index → index ≤ length all
    → ((v : Item) → Contains all v ↔ IsAncestor links v t) → (v : Item) → Contains out v ↔ (IsAncestor links v t × IsAncestor links w v)
IsKeptSoFar-all links t w all out index so_far over within are v = (
  (λ held. let (k, below, found, above) = so_far.from v held in ((are v).0 (k, omega arith, found), above)),
  (λ (up, above).
      let (k, below, found) = (are v).1 up in
      subst (λ (x : Item). Contains out x) found (so_far.kept k v (omega arith) (rw found above))),
)
