-- The labels of a repetition are those of its copies.
use Rattle.std.proofs.Common.{◌≡◌, ℕ, zero, suc, ◌-◌, ◌<◌, length, max, List, [], ◌∷◌, ◌++◌, refl, sym, ap, ◌∙◌, Option, Some, None, arith, append_assoc}
use Rattle.std.proofs.lemmas.List.{append-nil, length-append}
use Rattle.mine_model.specs.Expression.{unfolded_times}
use Rattle.fst_compile.specs.Shape.{Shape, labels_of, up_to, between, at_least, repeated}

-- the list so many times
unfoldable pub copies_of : {X : Type 0} → ℕ → List X → List X
copies_of zero xs = []
copies_of (suc n) xs = xs ++ copies_of n xs

pub copies_of-nil : {X : Type 0} (n : ℕ) → copies_of {X = X} n [] ≡ []
unfolding copies_of
copies_of-nil zero = refl
copies_of-nil (suc n) = copies_of-nil n

pub copies_of-zero : {X : Type 0} (xs : List X) → copies_of 0 xs ≡ []
unfolding copies_of
copies_of-zero xs = refl

pub copies_of-suc : {X : Type 0} (n : ℕ) (xs : List X) → copies_of (suc n) xs ≡ xs ++ copies_of n xs
unfolding copies_of
copies_of-suc n xs = refl

labels-up_to : (n : ℕ) (shape : Shape) → labels_of (up_to n shape) ≡ copies_of n (labels_of shape)
unfolding copies_of
labels-up_to zero shape = refl
labels-up_to (suc n) shape = ap (λ es. labels_of shape ++ es) (labels-up_to n shape)

labels-between : (n m : ℕ) (shape : Shape) → labels_of (between n m shape) ≡ copies_of m (labels_of shape)
unfolding copies_of
labels-between zero m shape = labels-up_to m shape
labels-between (suc n) zero shape = refl
labels-between (suc n) (suc m) shape = ap (λ es. labels_of shape ++ es) (labels-between n m shape)

labels-at_least : (n : ℕ) (shape : Shape) → labels_of (at_least n shape) ≡ copies_of (max n 1) (labels_of shape)
unfolding copies_of
labels-at_least zero shape = sym (append-nil (labels_of shape))
labels-at_least (suc zero) shape = sym (append-nil (labels_of shape))
labels-at_least (suc (suc n)) shape =
    let p : max (suc n) 1 ≡ suc n = omega arith in
    let q : max (suc (suc n)) 1 ≡ suc (suc n) = omega arith in
    let same : labels_of (at_least (suc n) shape) ≡ copies_of (suc n) (labels_of shape) = labels-at_least (suc n) shape ∙ ap (λ (x : ℕ). copies_of x (labels_of shape)) p in
    ap (λ es. labels_of shape ++ es) same ∙ sym (ap (λ (x : ℕ). copies_of x (labels_of shape)) q)

pub labels-repeated : (shape : Shape) (least : ℕ) (most : Option ℕ) → labels_of (repeated shape least most) ≡ copies_of (unfolded_times least most) (labels_of shape)
labels-repeated shape least (Some most) = labels-between least most shape
labels-repeated shape least None = labels-at_least least shape

-- ---- a loop that appends the list so many times

pub copied_more : {X : Type 0} (before after xs all : List X) (left : ℕ) → 0 < left → after ≡ before ++ xs → before ++ copies_of left xs ≡ all → after ++ copies_of (left - 1) xs ≡ all
copied_more before after xs all left some grown so_far =
    let one_less : left ≡ suc (left - 1) = omega arith in
    rw grown (append_assoc before xs (copies_of (left - 1) xs) ∙ ap (λ ys. before ++ ys) (sym (copies_of-suc (left - 1) xs)) ∙ (rw one_less at so_far))

pub copied_none : {X : Type 0} (before after xs all : List X) (left : ℕ) → after ≡ before ++ xs → length after ≡ length before → before ++ copies_of left xs ≡ all → after ++ copies_of 0 xs ≡ all
copied_none before after [] all left grown same so_far =
    rw (copies_of-zero, append-nil after, grown, append-nil before) (sym (append-nil before) ∙ ap (λ ys. before ++ ys) (sym (copies_of-nil left)) ∙ so_far)
copied_none before after (x ∷ xs) all left grown same so_far =
    absurd (let grown_length = ap length grown in let joined = length-append before (x ∷ xs) in omega arith)
