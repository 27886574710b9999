-- Lemmas on counting sequences.
use Rattle.std.proofs.Common.{◌≡◌, ℕ, ◌+◌, inl, inr, List, [], ◌∷◌, sym, ap, ◌∙◌, ◌≤◌, arith, ◌⊎◌, refl}
use Rattle.std.specs.List.{AllByRecursion, Contains}
use Rattle.mine_model.specs.Support.{Sequence, Counts}
use Rattle.mine_model.proofs.ListLemmas.{Contains-first, Contains-other}

-- there is at most one count
pub Counts-unique : {A : Type 0} (Has : List A → Type 0) (sequences : List (Sequence A)) (m n : ℕ)
    → Counts Has sequences m → Counts Has sequences n → m ≡ n
Counts-unique Has [] m n p q = p ∙ sym q
Counts-unique Has (s ∷ sequences) m n (inl p) (inl q) =
    p.1.1 ∙ ap (λ k. s.weight + k) (Counts-unique Has sequences p.1.0 q.1.0 p.1.2 q.1.2) ∙ sym q.1.1
Counts-unique Has (s ∷ sequences) m n (inl p) (inr q) = absurd (q.0 p.0)
Counts-unique Has (s ∷ sequences) m n (inr p) (inl q) = absurd (p.0 q.0)
Counts-unique Has (s ∷ sequences) m n (inr p) (inr q) = Counts-unique Has sequences m n p.1 q.1

-- where something is counted, a sequence has the property, and also what all of them have
pub Counts-some : {A : Type 0} (Has Also : List A → Type 0) (sequences : List (Sequence A)) (n : ℕ)
    → Counts Has sequences n → 1 ≤ n → AllByRecursion (λ s. Also s.items) sequences
    → (items : List A) × Has items × Also items
Counts-some Has Also [] n none some all = absurd (omega arith)
Counts-some Has Also (s ∷ sequences) n (inl p) some all = (s.items, p.0, all.0)
Counts-some Has Also (s ∷ sequences) n (inr p) some all = Counts-some Has Also sequences n p.1 some all.1

pub Counts-one : {A : Type 0} (Has : List A → Type 0) (sequences : List (Sequence A)) (n : ℕ) → Counts Has sequences n → 1 ≤ n → (items : List A) × Has items
Counts-one Has [] n none some = absurd (omega arith)
Counts-one Has (s ∷ sequences) n (inl p) some = (s.items, p.0)
Counts-one Has (s ∷ sequences) n (inr p) some = Counts-one Has sequences n p.1 some

-- what is decided of each sequence is counted
pub Counts-decided : {A : Type 0} (Has : List A → Type 0) (sequences : List (Sequence A))
    → ((s : Sequence A) → Contains sequences s → Has s.items ⊎ (Has s.items → ⊥)) → (n : ℕ) × Counts Has sequences n
Counts-decided Has [] each = (0, refl)
Counts-decided {A} Has (s ∷ sequences) each = go (each s (Contains-first s sequences)) (Counts-decided Has sequences (λ t held. each t (Contains-other s sequences t held)))
  where
    go : Has s.items ⊎ (Has s.items → ⊥) → (n : ℕ) × Counts Has sequences n → (n : ℕ) × Counts Has (s ∷ sequences) n
    go (inl has) (n, counted) = (s.weight + n, inl (has, (n, refl, counted)))
    go (inr hasnt) (n, counted) = (n, inr (hasnt, counted))
