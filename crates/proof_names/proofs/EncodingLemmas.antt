-- Names as items: each name has a number of its own, whatever names there are.
use Rattle.std.proofs.Common.{◌≡◌, ℕ, zero, suc, ◌+◌, ◌*◌, ◌≤◌, List, [], ◌∷◌, refl, ap, arith, map}
use Rattle.std.specs.List.{AllByRecursion}
use Rattle.mine_model.specs.declared.item.Item.{Item}
use Rattle.mine_model.specs.Hierarchy.{Link}
use Rattle.mine_model.specs.Names.{link_by}
use Rattle.mine_model.proofs.NumberingLemmas.{Renames}
use Rattle.mine_model.proofs.RenamingLemmas.{renames}

-- n doubled so many times
abbrev doubled : ℕ → ℕ → ℕ
doubled zero n = n
doubled (suc k) n = 2 * doubled k n

doubled-least : (k n : ℕ) → 1 ≤ n → 1 ≤ doubled k n
doubled-least zero n least = least
doubled-least (suc k) n least = let rest = doubled-least k n least in omega (arith, rest)

-- an odd number and how often it was doubled can be told from what came of it
doubled-one : (j k m n : ℕ) → doubled j (2 * m + 1) ≡ doubled k (2 * n + 1) → (j ≡ k) × (m ≡ n)
doubled-one zero zero m n same = (refl, omega (arith, same))
doubled-one zero (suc k) m n same = absurd (omega (arith, same))
doubled-one (suc j) zero m n same = absurd (omega (arith, same))
doubled-one (suc j) (suc k) m n same =
    let rest = doubled-one j k m n (omega (arith, same)) in
    let times = rest.0 in
    (omega (arith, times), rest.1)

-- the number of a name
abbrev code : List ℕ → ℕ
code [] = 0
code (b ∷ name) = doubled b (2 * code name + 1)

code-one : (name other : List ℕ) → code name ≡ code other → name ≡ other
code-one [] [] same = refl
code-one [] (c ∷ other) same = absurd (let least = doubled-least c (2 * code other + 1) (omega arith) in omega (arith, same, least))
code-one (b ∷ name) [] same = absurd (let least = doubled-least b (2 * code name + 1) (omega arith) in omega (arith, same, least))
code-one (b ∷ name) (c ∷ other) same =
    let both = doubled-one b c (code name) (code other) same in
    let first = both.0 in
    let rest = code-one name other both.1 in
    λ i. first i ∷ rest i

abbrev pub item_of : List ℕ → Item
item_of name = record { 0 = code name }

abbrev pub Any : {X : Type 0} → X → Type 0
Any x = Unit {0}

pub all-any : {X : Type 0} (xs : List X) → AllByRecursion Any xs
all-any [] = tt
all-any (x ∷ xs) = (tt, all-any xs)

-- links between names, and the same links between their items
pub encodes : (links : List (Link (List ℕ))) → Renames links (map (link_by item_of) links) Any item_of
encodes links = renames item_of links Any (λ name other p q same. code-one name other (ap (λ (item : Item). item.0) same)) (λ k d below. (tt, tt))
