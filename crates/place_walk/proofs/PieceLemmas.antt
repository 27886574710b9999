-- A range of one list behind another.
use Rattle.std.proofs.Common.{◌≡◌, ℕ, zero, suc, ◌+◌, ◌-◌, ◌≤◌, ◌<◌, List, [], ◌∷◌, ◌++◌, length, map, take, drop, refl, sym, ap, ◌∙◌, arith}
use Rattle.std.specs.List.{slice_range}
use Rattle.std.proofs.lemmas.List.{length-map, take-map, drop-map}
use Rattle.place_walk.specs.declared.stand.Stand.{Stand}
use Rattle.place_walk.specs.Codes.{stand_of}

range-head : {X : Type 0} (x : X) (xs : List X) (to : ℕ) → slice_range (x ∷ xs) 0 (suc to) ≡ x ∷ slice_range xs 0 to
range-head x xs to =
    let long : suc to - 0 ≡ suc to = omega arith in
    let less : to ≡ to - 0 = omega arith in
    ap (λ k. take k (x ∷ xs)) long ∙ ap (λ k. x ∷ take k xs) less

range-tail : {X : Type 0} (x : X) (xs : List X) (from to : ℕ) → slice_range (x ∷ xs) (suc from) (suc to) ≡ slice_range xs from to
range-tail x xs from to =
    let same : suc to - suc from ≡ to - from = omega arith in
    ap (λ k. take k (drop from xs)) same

range-none : {X : Type 0} (xs : List X) → slice_range xs 0 0 ≡ []
range-none xs = refl

-- a range of two lists is one of each
range-of-both : {X : Type 0} (xs ys : List X) (from to a b c d : ℕ) → a + c ≡ from → b + d ≡ to → a ≤ length xs → b ≤ length xs → (a < length xs → c ≡ 0) → (b < length xs → d ≡ 0)
    → from ≤ to → slice_range (xs ++ ys) from to ≡ slice_range xs a b ++ slice_range ys c d
range-of-both [] ys from to a b c d start end inside within front back ordered =
    let none : a ≡ 0 = omega arith in
    let all : b ≡ 0 = omega arith in
    let first : c ≡ from = omega arith in
    let last : d ≡ to = omega arith in
    rw (none, all, first, last) refl
range-of-both (x ∷ xs) ys zero zero a b c d start end inside within front back ordered =
    let none : a ≡ 0 = omega arith in
    let all : b ≡ 0 = omega arith in
    let first : c ≡ 0 = omega arith in
    let last : d ≡ 0 = omega arith in
    rw (none, all, first, last) refl
range-of-both (x ∷ xs) ys zero (suc to) a zero c d start end inside within front back ordered =
    let none : d ≡ 0 = back (omega arith) in
    absurd (omega arith)
range-of-both (x ∷ xs) ys zero (suc to) a (suc b) c d start end inside within front back ordered =
    let none : a ≡ 0 = omega arith in
    let first : c ≡ 0 = omega arith in
    rw (none, first)
    (range-head x (xs ++ ys) to
    ∙ ap (λ l. x ∷ l) (range-of-both xs ys 0 to 0 b 0 d refl (omega arith) (omega arith) (omega arith) (λ less. refl) (λ less. back (omega arith)) (omega arith))
    ∙ ap (λ l. l ++ slice_range ys 0 d) (sym (range-head x xs b)))
range-of-both (x ∷ xs) ys (suc from) to zero b c d start end inside within front back ordered =
    let none : c ≡ 0 = front (omega arith) in
    absurd (omega arith)
range-of-both (x ∷ xs) ys (suc from) zero (suc a) b c d start end inside within front back ordered = absurd (omega arith)
range-of-both (x ∷ xs) ys (suc from) (suc to) (suc a) zero c d start end inside within front back ordered =
    let none : d ≡ 0 = back (omega arith) in
    absurd (omega arith)
range-of-both (x ∷ xs) ys (suc from) (suc to) (suc a) (suc b) c d start end inside within front back ordered =
    range-tail x (xs ++ ys) from to
    ∙ range-of-both xs ys from to a b c d (omega arith) (omega arith) (omega arith) (omega arith) (λ less. front (omega arith)) (λ less. back (omega arith)) (omega arith)
    ∙ ap (λ l. l ++ slice_range ys c d) (sym (range-tail x xs a b))

mapped-range : {X Y : Type 0} (f : X → Y) (xs : List X) (a b : ℕ) → map f (slice_range xs a b) ≡ slice_range (map f xs) a b
mapped-range f xs a b = sym (ap (take (b - a)) (drop-map f a xs) ∙ take-map f (b - a) (drop a xs))

-- a range of stands of which some are held as codes
pub coded-range : (codes : List ℕ) (rest : List Stand) (from to a b c d : ℕ) → a + c ≡ from → b + d ≡ to → a ≤ length codes → b ≤ length codes → (a < length codes → c ≡ 0)
    → (b < length codes → d ≡ 0) → from ≤ to
    → map stand_of (slice_range codes a b) ++ slice_range rest c d ≡ slice_range (map stand_of codes ++ rest) from to
coded-range codes rest from to a b c d start end inside within front back ordered =
    let long : length (map stand_of codes) ≡ length codes = length-map codes stand_of in
    ap (λ l. l ++ slice_range rest c d) (mapped-range stand_of codes a b)
    ∙ sym (range-of-both (map stand_of codes) rest from to a b c d start end (omega (arith, long)) (omega (arith, long)) (λ less. front (omega (arith, long))) (λ less. back (omega (arith, long))) ordered)
