-- Labels that are kept by front coding.
use Rattle.std.proofs.Common.{◌≡◌, ℕ, zero, suc, ◌+◌, ◌-◌, ◌<◌, ◌≤◌, Some, List, [], ◌∷◌, ◌++◌, length, get_or, take, drop, slice_get, refl, sym, ap, ap₂, ◌∙◌, arith, add-one}
use Rattle.std.proofs.lemmas.List.{take-append-le, drop-append-le, take_all, take_more, nil_from_length, drop-drop, length-append, length-drop, length-take, take-append-drop, get_or-take, get_or_default}
use Rattle.std.proofs.lemmas.List.Sums.{sum_by-cons}
use Rattle.pool_schedule.specs.declared.labels.Code.{Code}
use Rattle.pool_schedule.specs.FrontCoding.{label_by, labels_by, last_by, fresh_in, AreCoded}

fresh_in-cons : (code : Code) (codes : List Code) → fresh_in (code ∷ codes) ≡ code.fresh + fresh_in codes
unfolding fresh_in
fresh_in-cons code codes = sum_by-cons (λ (c : Code). c.fresh) code codes

pub fresh_in-none : fresh_in [] ≡ 0
unfolding fresh_in
fresh_in-none = refl

pub fresh_in-push : (codes : List Code) (code : Code) → fresh_in (codes ++ code ∷ []) ≡ fresh_in codes + code.fresh
fresh_in-push [] code = omega (arith, fresh_in-cons code [], fresh_in-none)
fresh_in-push (first ∷ codes) code =
    omega (arith, fresh_in-cons first codes, fresh_in-cons first (codes ++ code ∷ []), fresh_in-push codes code)

-- what the first codes take, and the next one
pub fresh_in-more : (codes : List Code) (k : ℕ) (code : Code) → k < length codes → code ≡ get_or codes k code
    → fresh_in (take (k + 1) codes) ≡ fresh_in (take k codes) + code.fresh
fresh_in-more codes k code within is =
    ap fresh_in (take_more codes k code within ∙ ap (λ (c : Code). take k codes ++ c ∷ []) (sym is))
    ∙ fresh_in-push (take k codes) code

pub fresh_in-least : (codes : List Code) (k : ℕ) → fresh_in (take k codes) ≤ fresh_in codes
fresh_in-least codes zero = omega (arith, fresh_in-none)
fresh_in-least [] (suc k) = omega arith
fresh_in-least (code ∷ codes) (suc k) =
    omega (arith, fresh_in-cons code (take k codes), fresh_in-cons code codes, fresh_in-least codes k)

pub labels_by-none : (before numbers : List ℕ) → labels_by before [] numbers ≡ []
unfolding labels_by
labels_by-none before numbers = refl

pub last_by-none : (before numbers : List ℕ) → last_by before [] numbers ≡ before
unfolding last_by
last_by-none before numbers = refl

labels_by-cons : (before : List ℕ) (code : Code) (codes : List Code) (numbers : List ℕ)
    → labels_by before (code ∷ codes) numbers ≡ label_by before code numbers ∷ labels_by (label_by before code numbers) codes (drop code.fresh numbers)
unfolding labels_by
labels_by-cons before code codes numbers = refl

last_by-cons : (before : List ℕ) (code : Code) (codes : List Code) (numbers : List ℕ)
    → last_by before (code ∷ codes) numbers ≡ last_by (label_by before code numbers) codes (drop code.fresh numbers)
unfolding last_by
last_by-cons before code codes numbers = refl

pub length-labels_by : (before : List ℕ) (codes : List Code) (numbers : List ℕ) → length (labels_by before codes numbers) ≡ length codes
length-labels_by before [] numbers = ap length (labels_by-none before numbers)
length-labels_by before (code ∷ codes) numbers =
    ap length (labels_by-cons before code codes numbers) ∙ ap suc (length-labels_by (label_by before code numbers) codes (drop code.fresh numbers))

-- Numbers that stand behind those of the codes

all-fresh : (before : List ℕ) (code : Code) (fresh : List ℕ) → code.fresh ≡ length fresh → label_by before code fresh ≡ take code.shared before ++ fresh
all-fresh before code fresh count = ap (λ l. take code.shared before ++ l) (take_all code.fresh fresh (omega arith))

module _ (first : Code) (codes : List Code) (numbers : List ℕ) where
  whole-behind : fresh_in (first ∷ codes) ≡ length numbers → fresh_in codes ≡ length (drop first.fresh numbers)
  whole-behind whole = omega (arith, whole, fresh_in-cons first codes, length-drop first.fresh numbers)

  behind-first : (fresh : List ℕ) → fresh_in (first ∷ codes) ≡ length numbers → drop first.fresh (numbers ++ fresh) ≡ drop first.fresh numbers ++ fresh
  behind-first fresh whole = drop-append-le first.fresh numbers fresh (omega (arith, whole, fresh_in-cons first codes))

first-label : (before : List ℕ) (first : Code) (codes : List Code) (numbers fresh : List ℕ) → fresh_in (first ∷ codes) ≡ length numbers
    → label_by before first (numbers ++ fresh) ≡ label_by before first numbers
first-label before first codes numbers fresh whole =
    ap (λ l. take first.shared before ++ l) (take-append-le first.fresh numbers fresh (omega (arith, whole, fresh_in-cons first codes)))

-- one more code, whose numbers stand behind the others
pub last_by-push : (before : List ℕ) (codes : List Code) (numbers : List ℕ) (code : Code) (fresh : List ℕ) → fresh_in codes ≡ length numbers → code.fresh ≡ length fresh
    → last_by before (codes ++ code ∷ []) (numbers ++ fresh) ≡ take code.shared (last_by before codes numbers) ++ fresh
last_by-push before [] numbers code fresh whole count =
    let none : numbers ≡ [] = nil_from_length numbers (omega (arith, whole, fresh_in-none)) in
    ap (λ n. last_by before (code ∷ []) (n ++ fresh)) none ∙ last_by-cons before code [] fresh
    ∙ last_by-none (label_by before code fresh) (drop code.fresh fresh) ∙ all-fresh before code fresh count
    ∙ ap (λ b. take code.shared b ++ fresh) (sym (last_by-none before numbers))
last_by-push before (first ∷ codes) numbers code fresh whole count =
    last_by-cons before first (codes ++ code ∷ []) (numbers ++ fresh)
    ∙ ap₂ (λ b n. last_by b (codes ++ code ∷ []) n) (first-label before first codes numbers fresh whole) (behind-first first codes numbers fresh whole)
    ∙ last_by-push (label_by before first numbers) codes (drop first.fresh numbers) code fresh (whole-behind first codes numbers whole) count
    ∙ ap (λ b. take code.shared b ++ fresh) (sym (last_by-cons before first codes numbers))

pub labels_by-push : (before : List ℕ) (codes : List Code) (numbers : List ℕ) (code : Code) (fresh : List ℕ) → fresh_in codes ≡ length numbers → code.fresh ≡ length fresh
    → labels_by before (codes ++ code ∷ []) (numbers ++ fresh) ≡ labels_by before codes numbers ++ (take code.shared (last_by before codes numbers) ++ fresh) ∷ []
labels_by-push before [] numbers code fresh whole count =
    let none : numbers ≡ [] = nil_from_length numbers (omega (arith, whole, fresh_in-none)) in
    ap (λ n. labels_by before (code ∷ []) (n ++ fresh)) none ∙ labels_by-cons before code [] fresh
    ∙ ap₂ (λ l ls. l ∷ ls) (all-fresh before code fresh count) (labels_by-none (label_by before code fresh) (drop code.fresh fresh))
    ∙ ap₂ (λ ls b. ls ++ (take code.shared b ++ fresh) ∷ []) (sym (labels_by-none before numbers)) (sym (last_by-none before numbers))
labels_by-push before (first ∷ codes) numbers code fresh whole count =
    labels_by-cons before first (codes ++ code ∷ []) (numbers ++ fresh)
    ∙ ap₂ (λ b n. b ∷ labels_by b (codes ++ code ∷ []) n) (first-label before first codes numbers fresh whole) (behind-first first codes numbers fresh whole)
    ∙ ap (λ ls. label_by before first numbers ∷ ls)
    (labels_by-push (label_by before first numbers) codes (drop first.fresh numbers) code fresh (whole-behind first codes numbers whole) count)
    ∙ ap₂ (λ ls b. ls ++ (take code.shared b ++ fresh) ∷ []) (sym (labels_by-cons before first codes numbers)) (sym (last_by-cons before first codes numbers))

take-first : (code : Code) (codes : List Code) (k : ℕ) → take (suc k + 1) (code ∷ codes) ≡ code ∷ take (k + 1) codes
take-first code codes k = ap (λ n. take n (code ∷ codes)) (add-one (suc k)) ∙ ap (λ n. code ∷ take n codes) (sym (add-one k))

-- the label with the number k is the last of the first k + 1
pub label-at : (before : List ℕ) (codes : List Code) (numbers : List ℕ) (k : ℕ) → k < length codes
    → slice_get (labels_by before codes numbers) k ≡ Some (last_by before (take (k + 1) codes) numbers)
label-at before [] numbers k within = absurd (omega arith)
label-at before (code ∷ codes) numbers zero within =
    ap (λ ls. slice_get ls 0) (labels_by-cons before code codes numbers)
    ∙ ap (λ l. Some l) (sym (last_by-cons before code [] numbers ∙ last_by-none (label_by before code numbers) (drop code.fresh numbers)))
label-at before (code ∷ codes) numbers (suc k) within =
    ap (λ ls. slice_get ls (suc k)) (labels_by-cons before code codes numbers)
    ∙ label-at (label_by before code numbers) codes (drop code.fresh numbers) k (omega arith)
    ∙ ap (λ l. Some l) (sym (ap (λ c. last_by before c numbers) (take-first code codes k) ∙ last_by-cons before code (take (k + 1) codes) numbers))

-- the last of the first k + 1 from that of the first k
pub last_by-more : (before : List ℕ) (codes : List Code) (numbers : List ℕ) (k : ℕ) (code : Code) → k < length codes → code ≡ get_or codes k code
    → last_by before (take (k + 1) codes) numbers ≡ label_by (last_by before (take k codes) numbers) code (drop (fresh_in (take k codes)) numbers)
last_by-more before [] numbers k code within is = absurd (omega arith)
last_by-more before (first ∷ codes) numbers zero code within is =
    last_by-cons before first [] numbers ∙ last_by-none (label_by before first numbers) (drop first.fresh numbers)
    ∙ ap (λ c. label_by before c numbers) (sym is)
    ∙ ap₂ (λ b n. label_by b code (drop n numbers)) (sym (last_by-none before numbers)) (sym fresh_in-none)
last_by-more before (first ∷ codes) numbers (suc k) code within is =
    ap (λ c. last_by before c numbers) (take-first first codes k) ∙ last_by-cons before first (take (k + 1) codes) numbers
    ∙ last_by-more (label_by before first numbers) codes (drop first.fresh numbers) k code (omega arith) is
    ∙ ap₂ (λ b n. label_by b code n) (sym (last_by-cons before first (take k codes) numbers))
    (drop-drop (fresh_in (take k codes)) first.fresh numbers ∙ ap (λ n. drop n numbers) (sym (fresh_in-cons first (take k codes))))

-- the numbers of the next label are there
pub fresh_in-within : (codes : List Code) (numbers label : List ℕ) → AreCoded codes numbers label → (k : ℕ) (code : Code) → k < length codes → code ≡ get_or codes k code
    → fresh_in (take k codes) + code.fresh ≤ length numbers
fresh_in-within codes numbers label are k code within is =
    omega (arith, are.whole, fresh_in-more codes k code within is, fresh_in-least codes (k + 1))

-- one of the first codes is that at its place
pub code_at : (codes now : List Code) (number k : ℕ) (d : Code) → now ≡ codes → number < length codes → k < length (take (number + 1) now)
    → (k < length codes) × (get_or (take (number + 1) now) k d ≡ get_or codes k (get_or (take (number + 1) now) k d))
code_at codes now number k d same inside within =
    let count : length now ≡ length codes = ap length same in
    let below : k < number + 1 = omega (arith, within, length-take (number + 1) now) in
    let there : k < length codes = omega (arith, below, inside) in (
      there,
      get_or-take (number + 1) now k d below ∙ ap (λ xs. get_or xs k d) same ∙ get_or_default codes k d (get_or (take (number + 1) now) k d) there,
    )

-- one more label: its code, and the numbers that it does not share with the last one
module _ (codes : List Code) (numbers last label : List ℕ) (shared : ℕ) (rest : List ℕ) (are : AreCoded codes numbers last)
    (same : take shared last ≡ take shared label) (is : rest ≡ take (length label - shared) (drop shared label)) where
  abbrev pub code_behind : Code
  code_behind = record { shared = shared; fresh = length rest }

  whole_label : take shared last ++ rest ≡ label
  whole_label =
      ap₂ (λ front back. front ++ back) same (is ∙ take_all (length label - shared) (drop shared label) (omega (arith, length-drop shared label)))
      ∙ take-append-drop shared label

  pub coded-push : AreCoded (codes ++ code_behind ∷ []) (numbers ++ rest) (take shared last ++ rest)
  coded-push = record {
    whole = omega (arith, are.whole, fresh_in-push codes code_behind, length-append numbers rest);
    last = last_by-push [] codes numbers code_behind rest are.whole refl ∙ ap (λ l. take shared l ++ rest) are.last;
  }

  pub labels-push : labels_by [] (codes ++ code_behind ∷ []) (numbers ++ rest) ≡ labels_by [] codes numbers ++ label ∷ []
  labels-push = labels_by-push [] codes numbers code_behind rest are.whole refl
      ∙ ap (λ l. labels_by [] codes numbers ++ l ∷ []) (ap (λ l. take shared l ++ rest) are.last ∙ whole_label)
