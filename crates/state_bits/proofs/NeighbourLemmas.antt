-- The rows of the states of a set, one after another.
use Rattle.std.proofs.Common.{◌≡◌, ℕ, ◌⊎◌, ◌↔◌, inl, inr, List, [], ◌∷◌, ◌++◌, get_or, arith, refl, sym, subst, append_assoc}
use Rattle.std.specs.List.{Contains}
use Rattle.std.proofs.lemmas.List.{append-nil}
use Rattle.std.proofs.lemmas.List.Elements.{Contains-append_left, Contains-append_right, Contains-push, Contains-push_cases}
use Rattle.std.proofs.lemmas.Nat.Bits.{bit_at-zero}
use Rattle.state_bits.specs.Members.{Has}
use Rattle.state_bits.specs.Neighbours.{AreNeighbours}

-- the empty set has no member
pub Has-none : (k : ℕ) → Has 0 k → ⊥
unfolding Has
Has-none k has = let none = bit_at-zero k in omega arith

-- the rows of the first so many states of a set
pub record AreNeighboursSoFar (rows : List ℕ) (all found : ℕ) (done left : List ℕ) : Type 0 where
  pub exact : (q : ℕ) → Has found q ↔ ((k : ℕ) × Has (get_or rows k 0) q × Contains done k)
  pub members : (k : ℕ) → Contains (done ++ left) k ↔ Has all k

pub AreNeighboursSoFar-none : (rows : List ℕ) (members : ℕ) (left : List ℕ) → ((k : ℕ) → Contains left k ↔ Has members k) → AreNeighboursSoFar rows members 0 [] left
AreNeighboursSoFar-none rows members left are = record {
  exact = λ q. ((λ has. absurd (Has-none q has)), (λ h. let (k, before, (i, inside, is)) = h in absurd (omega arith)));
  members = are;
}

pub AreNeighboursSoFar-more : (rows : List ℕ) (members found after : ℕ) (done left later : List ℕ) (state row : ℕ) → AreNeighboursSoFar rows members found done left
    → left ≡ state ∷ later → row ≡ get_or rows state 0 → ((q : ℕ) → Has after q ↔ (Has found q ⊎ Has row q))
    → AreNeighboursSoFar rows members after (done ++ state ∷ []) later
AreNeighboursSoFar-more rows members found after done left later state row so_far next is step =
    let same : done ++ left ≡ (done ++ state ∷ []) ++ later = rw next (sym (append_assoc done (state ∷ []) later)) in
    record {
      exact = λ q. (
        (λ has. elim ((step q).0 has) [
          | inl had ↦ let (k, before, inside) = (so_far.exact q).0 had in (k, before, Contains-append_left done (state ∷ []) k inside)
          | inr new ↦ (state, subst (λ (x : ℕ). Has x q) is new, Contains-push done state)
        ]),
        (λ h. let (k, before, inside) = h in elim (Contains-push_cases done state k inside) [
          | inl earlier ↦ (step q).1 (inl ((so_far.exact q).1 (k, before, earlier)))
          | inr this ↦ (step q).1 (inr (subst (λ (x : ℕ). Has x q) (sym is) (subst (λ (x : ℕ). Has (get_or rows x 0) q) (sym this) before)))
        ]),
      );
      members = subst (λ (xs : List ℕ). (k : ℕ) → Contains xs k ↔ Has members k) same so_far.members;
    }

-- the next state of a walk is a member
pub next_neighbour : {rows : List ℕ} {all found : ℕ} {done left : List ℕ} (state : ℕ) (later : List ℕ) → AreNeighboursSoFar rows all found done left
    → left ≡ state ∷ later → Has all state
next_neighbour {done = done} {left = left} state later so_far next =
    (so_far.members state).0 (Contains-append_right done left state (rw next (0, omega arith, refl)))
