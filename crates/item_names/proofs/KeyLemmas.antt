-- Lemmas on keys of names.
use Rattle.std.proofs.Common.{rules, pow-add, Fits, w8, ◌≡◌, ℕ, zero, suc, ◌+◌, ◌-◌, ◌*◌, ◌/◌, ◌^◌, ◌≤◌, ◌<◌, min, List, [], ◌∷◌, ◌++◌, take, drop, length, get_or, refl, sym, ap, ◌∙◌, subst, arith}
use Rattle.std.specs.List.{slice_range}
use Rattle.std.proofs.Math.Nat.{div-le_self, div-one, div-div-eq-div-mul}
use Rattle.std.proofs.lemmas.List.{take_all, drop_all, drop-drop, take-append-drop, length-take, length-drop}
use Rattle.mine_model.proofs.ListLemmas.{front_of_both, back_of_both}
use Rattle.std.proofs.Math.Facts.{Fits-lt-pow}
use Rattle.std.specs.Hash.FoldHasher.{initial, write, finish}
use Rattle.item_names.specs.declared.keys.Key.{Key}
use Rattle.item_names.specs.Table.{number_of, key_of, AreBytes}

-- lists of bytes of one length with one number are the same
number_of-one : (xs ys : List ℕ) → length xs ≡ length ys → AreBytes xs → AreBytes ys → number_of xs ≡ number_of ys → xs ≡ ys
number_of-one [] [] long p q same = refl
number_of-one [] (y ∷ ys) long p q same = absurd (omega (arith, long))
number_of-one (x ∷ xs) [] long p q same = absurd (omega (arith, long))
number_of-one (x ∷ xs) (y ∷ ys) long p q same =
    let first : x ≡ y = omega (arith, same, p.0, q.0) in
    let rest : xs ≡ ys = number_of-one xs ys (omega (arith, long)) p.1 q.1 (omega (arith, same, p.0, q.0)) in
    cc (first, rest)

-- the number without the lowest bytes is that of the others
number_of-drop : (k : ℕ) (xs : List ℕ) → AreBytes xs → number_of xs / 2 ^ (8 * k) ≡ number_of (drop k xs)
number_of-drop zero xs bytes = div-one (number_of xs)
number_of-drop (suc k) [] bytes = let e = div-le_self 0 (2 ^ (8 * suc k)) in omega (arith, e)
number_of-drop (suc k) (x ∷ xs) bytes =
    let powers : 2 ^ (8 * suc k) ≡ 2 ^ 8 * 2 ^ (8 * k) = ap (λ n. 2 ^ n) (let e : 8 * suc k ≡ 8 + 8 * k = omega arith in e) ∙ pow-add 2 8 (8 * k) in
    let first : (x + 256 * number_of xs) / 256 ≡ number_of xs = omega (arith, bytes.0) in
    ap (λ d. (x + 256 * number_of xs) / d) powers ∙ sym (div-div-eq-div-mul (x + 256 * number_of xs) (2 ^ 8) (2 ^ (8 * k)))
    ∙ ap (λ n. n / 2 ^ (8 * k)) first ∙ number_of-drop k xs bytes.1

-- Parts of keys

size_of : (name : List ℕ) → (key_of name).size ≡ min (length name) 17
unfolding key_of
size_of name = refl

low_of : (name : List ℕ) → length name ≤ 16 → (key_of name).low ≡ number_of (take 8 name)
unfolding key_of
low_of name short = search rules

high_of : (name : List ℕ) → length name ≤ 16 → (key_of name).high ≡ number_of (drop 8 name)
unfolding key_of
high_of name short = search rules

low_of-long : (name : List ℕ) → 16 < length name → (key_of name).low ≡ finish (write initial name)
unfolding key_of
low_of-long name long = search rules

high_of-long : (name : List ℕ) → 16 < length name → (key_of name).high ≡ 0
unfolding key_of
high_of-long name long = search rules

same_key : (one other : Key) → one.low ≡ other.low → one.high ≡ other.high → one.size ≡ other.size → one ≡ other
same_key one other low high size = λ i. let made : Key = record { low = low i; high = high i; size = size i } in made

both_bytes : (k : ℕ) (name : List ℕ) → AreBytes name → AreBytes (take k name) × AreBytes (drop k name)
both_bytes k name bytes =
    let whole : AreBytes (take k name ++ drop k name) = subst AreBytes (sym (take-append-drop k name)) bytes in
    (front_of_both (λ byte. byte < 256) (take k name) (drop k name) whole, back_of_both (λ byte. byte < 256) (take k name) (drop k name) whole)

-- names of up to 16 bytes with one key are the same
pub same_name : (one other : List ℕ) → AreBytes one → AreBytes other → key_of one ≡ key_of other → (key_of one).size ≤ 16 → one ≡ other
same_name one other p q same short =
    let sizes : (key_of one).size ≡ (key_of other).size = ap (λ (k : Key). k.size) same in
    let first : length one ≤ 16 = omega (arith, size_of one, short) in
    let second : length other ≤ 16 = omega (arith, size_of other, sizes, short) in
    let long : length one ≡ length other = omega (arith, size_of one, size_of other, sizes, first, second) in
    let low : take 8 one ≡ take 8 other =
    number_of-one (take 8 one) (take 8 other) (omega (arith, length-take 8 one, length-take 8 other, long)) (both_bytes 8 one p).0 (both_bytes 8 other q).0
    (sym (low_of one first) ∙ ap (λ (k : Key). k.low) same ∙ low_of other second) in
    let high : drop 8 one ≡ drop 8 other =
    number_of-one (drop 8 one) (drop 8 other) (omega (arith, length-drop 8 one, length-drop 8 other, long)) (both_bytes 8 one p).1 (both_bytes 8 other q).1
    (sym (high_of one first) ∙ ap (λ (k : Key). k.high) same ∙ high_of other second) in
    sym (take-append-drop 8 one) ∙ (λ j. low j ++ high j) ∙ take-append-drop 8 other

-- the number of four to eight bytes, by their first four and their last four
pub number_of-both : (xs : List ℕ) → AreBytes xs → 4 ≤ length xs → length xs ≤ 8
    → number_of (slice_range xs 0 4) + number_of (slice_range xs (length xs - 4) (length xs - 4 + 4)) / 2 ^ (64 - 8 * length xs) * 4294967296 ≡ number_of xs
number_of-both (a ∷ b ∷ c ∷ d ∷ []) bytes least most = omega (arith, bytes.0, bytes.1.0, bytes.1.1.0, bytes.1.1.1.0)
number_of-both (a ∷ b ∷ c ∷ d ∷ e ∷ []) bytes least most = omega (arith, bytes.0, bytes.1.0, bytes.1.1.0, bytes.1.1.1.0, bytes.1.1.1.1.0)
number_of-both (a ∷ b ∷ c ∷ d ∷ e ∷ f ∷ []) bytes least most = omega (arith, bytes.0, bytes.1.0, bytes.1.1.0, bytes.1.1.1.0, bytes.1.1.1.1.0, bytes.1.1.1.1.1.0)
number_of-both (a ∷ b ∷ c ∷ d ∷ e ∷ f ∷ g ∷ []) bytes least most = omega (arith, bytes.0, bytes.1.0, bytes.1.1.0, bytes.1.1.1.0, bytes.1.1.1.1.0, bytes.1.1.1.1.1.0, bytes.1.1.1.1.1.1.0)
number_of-both (a ∷ b ∷ c ∷ d ∷ e ∷ f ∷ g ∷ h ∷ []) bytes least most = omega (arith, bytes.0, bytes.1.0, bytes.1.1.0, bytes.1.1.1.0, bytes.1.1.1.1.0, bytes.1.1.1.1.1.0, bytes.1.1.1.1.1.1.0, bytes.1.1.1.1.1.1.1.0)
number_of-both _ bytes least most = absurd (omega (arith, least, most))

-- what fits a byte is one
pub AreBytes-from : (name : List ℕ) → ((i : ℕ) → Fits w8 (get_or name i 0)) → AreBytes name
AreBytes-from [] each = tt
AreBytes-from (byte ∷ name) each = (Fits-lt-pow {w = w8} (each 0), AreBytes-from name (λ i. each (suc i)))

-- the key of up to 8 bytes
pub key_of-short : (name : List ℕ) (key : Key) → length name ≤ 8 → key.low ≡ number_of name → key.high ≡ 0 → key.size ≡ length name → key ≡ key_of name
key_of-short name key short low high size =
    same_key key (key_of name) (low ∙ ap number_of (sym (take_all 8 name short)) ∙ sym (low_of name (omega (arith, short))))
    (high ∙ ap number_of (sym (drop_all 8 name short)) ∙ sym (high_of name (omega (arith, short))))
    (omega (arith, size, size_of name, short))

-- of 9 to 16, where the last 8 overlap the first
pub key_of-middle : (name : List ℕ) (key : Key) (last : ℕ) → AreBytes name → 8 ≤ length name → length name ≤ 16 → key.low ≡ number_of (slice_range name 0 8)
    → last ≡ number_of (slice_range name (length name - 8) (length name - 8 + 8)) → key.high ≡ last / 2 ^ (128 - 8 * length name) → key.size ≡ length name → key ≡ key_of name
key_of-middle name key last bytes least most low whole high size =
    let tail : List ℕ = drop (length name - 8) name in
    let all : slice_range name (length name - 8) (length name - 8 + 8) ≡ tail = take_all (length name - 8 + 8 - (length name - 8)) tail (omega (arith, length-drop (length name - 8) name)) in
    let shift : 128 - 8 * length name ≡ 8 * (16 - length name) = omega (arith, most) in
    let eight : length name - 8 + (16 - length name) ≡ 8 = omega (arith, least, most) in
    let others : last / 2 ^ (128 - 8 * length name) ≡ number_of (drop 8 name) =
    (λ j. (whole ∙ ap number_of all) j / 2 ^ shift j) ∙ number_of-drop (16 - length name) tail (both_bytes (length name - 8) name bytes).1
    ∙ ap number_of (drop-drop (16 - length name) (length name - 8) name ∙ ap (λ n. drop n name) eight) in
    same_key key (key_of name) (low ∙ sym (low_of name most)) (high ∙ others ∙ sym (high_of name most)) (omega (arith, size, size_of name, most))

-- of more
pub key_of-long : (name : List ℕ) (key : Key) → 16 < length name → key.low ≡ finish (write initial name) → key.high ≡ 0 → key.size ≡ 17 → key ≡ key_of name
key_of-long name key long low high size =
    same_key key (key_of name) (low ∙ sym (low_of-long name long)) (high ∙ sym (high_of-long name long)) (omega (arith, size, size_of name, long))

pub div-le : (n d m : ℕ) → n < m → n / d < m
div-le n d m less = omega (arith, div-le_self n d, less)
