-- The number of classes of things that are alike.
use Rattle.std.proofs.Common.{◌≡◌, ◌≢◌, ℕ, zero, suc, ◌≤◌, inl, inr, List, [], ◌∷◌, length, get_or, refl, sym, ap, ◌∙◌, subst, arith}
use Rattle.std.specs.List.{All, AllPairs, AllZip, Contains}
use Rattle.std.proofs.lemmas.List.Elements.{Contains-get_or}
use Rattle.std.proofs.lemmas.List.Kept.{AllPairs-cons}
use Rattle.mine_model.proofs.ListLemmas.{Contains-first, Contains-other, AllPairs-tail, AllPairs-head}
use Rattle.mine_model.proofs.NameLemmas.{distinct_fit}
use Rattle.automaton_model.specs.NamedWork.{IsNumberOfClasses}
use Rattle.automaton_model.proofs.ZipLemmas.{zip-first, zip-second}

module _ {X Y : Type 0} (R : X → Y → Type 0) where
  zip_length : (xs : List X) (ys : List Y) → AllZip R xs ys → length xs ≡ length ys
  zip_length [] [] zip = refl
  zip_length [] (y ∷ ys) zip = absurd zip
  zip_length (x ∷ xs) [] zip = absurd zip
  zip_length (x ∷ xs) (y ∷ ys) zip = ap suc (zip_length xs ys zip.1)

  -- each thing of a list has its own
  zip_with : (xs : List X) → ((x : X) → Contains xs x → (y : Y) × R x y) → (ys : List Y) × AllZip R xs ys
  zip_with [] each = ([], tt)
  zip_with (x ∷ xs) each =
      let (y, is) = each x (Contains-first x xs) in
      let (ys, zip) = zip_with xs (λ z held. each z (Contains-other x xs z held)) in
      (y ∷ ys, (is, zip))

  -- where things that are not alike have others that are not
  module _ (P : X → X → Type 0) (Q : Y → Y → Type 0) (apart : (x other : X) (y also : Y) → R x y → R other also → Q y also → P x other) where
    zip_apart : (xs : List X) (ys : List Y) → AllZip R xs ys → AllPairs (λ first second. P first second → ⊥) xs
        → AllPairs (λ first second. Q first second → ⊥) ys
    zip_apart [] [] zip pairs = λ i j e less inside. absurd (omega (arith, inside))
    zip_apart [] (y ∷ ys) zip pairs = absurd zip
    zip_apart (x ∷ xs) [] zip pairs = absurd zip
    zip_apart (x ∷ xs) (y ∷ ys) zip pairs =
        AllPairs-cons (λ first second. Q first second → ⊥) y ys
        (λ k e below like.
        let (other, held, is) = zip-second R xs ys zip.1 (get_or ys k e) (Contains-get_or ys k e below) in
        AllPairs-head (λ first second. P first second → ⊥) x xs pairs other held (apart x other y (get_or ys k e) zip.0 is like))
        (zip_apart xs ys zip.1 (AllPairs-tail (λ first second. P first second → ⊥) x xs pairs))

-- Where each thing of the one kind shows one of the other, and things that are alike show such, there are as
-- many classes of both.
module _ {X Y : Type 0} (Has : X → Type 0) (AreAlike : X → X → Type 0) (Also : Y → Type 0) (AlsoAlike : Y → Y → Type 0) (Shows : X → Y → Type 0)
    (show : (x : X) → Has x → (y : Y) × Also y × Shows x y) (back : (y : Y) → Also y → (x : X) × Has x × Shows x y)
    (apart : (x other : X) (y also : Y) → Shows x y → Shows other also → AlsoAlike y also → AreAlike x other)
    (alike : (x other : X) (y also : Y) → Shows x y → Shows other also → AreAlike x other → AlsoAlike y also) where
  abbrev Is : X → Y → Type 0
  Is x y = Also y × Shows x y

  pub classes-by : (n : ℕ) → IsNumberOfClasses Has AreAlike n → IsNumberOfClasses Also AlsoAlike n
  classes-by n is =
      let (ys, zip) = zip_with Is is.things (λ x held. let (y, also, shows) = show x (is.has x held) in (y, (also, shows))) in
      record {
        things = ys;
        apart = zip_apart Is AreAlike AlsoAlike (λ x other y also p q like. apart x other y also p.1 q.1 like) is.things ys zip is.apart;
        has = λ y held. (let (x, inside, both) = zip-second Is is.things ys zip y held in both.0);
        all = λ y has.
            (let (x, own, shows) = back y has in
            let (thing, inside, like) = is.all x own in
            let (also, held, both) = zip-first Is is.things ys zip thing inside in
            (also, held, alike thing x also y both.1 shows like));
        counted = is.counted ∙ zip_length Is is.things ys zip;
      }

-- There is one number of classes.
module _ {X : Type 0} (Has : X → Type 0) (AreAlike : X → X → Type 0) (turned : (x y : X) → AreAlike x y → AreAlike y x)
    (through : (x y z : X) → AreAlike x y → AreAlike y z → AreAlike x z) where
  -- of a list, one that is like x
  abbrev Picks : List X → X → X → Type 0
  Picks things x y = Contains things y × AreAlike y x

  classes_le : (m n : ℕ) → IsNumberOfClasses Has AreAlike m → IsNumberOfClasses Has AreAlike n → m ≤ n
  classes_le m n one other =
      let (ys, zip) = zip_with (Picks other.things) one.things (λ x held. let (y, inside, like) = other.all x (one.has x held) in (y, (inside, like))) in
      let different : AllPairs (λ first second. first ≢ second) ys =
      zip_apart (Picks other.things) AreAlike (λ first second. first ≡ second)
      (λ x z y also p q same. through x y z (turned y x p.1) (subst (λ v. AreAlike v z) (sym same) q.1)) one.things ys zip one.apart in
      let inside : All (Contains other.things) ys = λ k e below.
      (let (x, held, is) = zip-second (Picks other.things) one.things ys zip (get_or ys k e) (Contains-get_or ys k e below) in is.0) in
      let fit = distinct_fit ys other.things different inside in
      let long : length one.things ≡ length ys = zip_length (Picks other.things) one.things ys zip in
      omega (arith, fit, long, one.counted, other.counted)

  pub classes-unique : (m n : ℕ) → IsNumberOfClasses Has AreAlike m → IsNumberOfClasses Has AreAlike n → m ≡ n
  classes-unique m n one other = omega (arith, classes_le m n one other, classes_le n m other one)
