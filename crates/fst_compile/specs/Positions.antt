-- The positions of a shape, numbered from an offset on in the order of the text.
use Rattle.std.specs.Prelude.{◌≡◌, ℕ, ◌+◌, ◌⊎◌, List, [], ◌∷◌, ◌++◌}
use Rattle.mine_model.specs.declared.item.Item.{Item}
use Rattle.mine_model.specs.Hierarchy.{Link}
use Rattle.mine_model.specs.Generation.{Matches, WritesAt}
use Rattle.fst_compile.specs.Shape.{Shape, ShapeOf, one, nothing, never, both, either, maybe, more}

abbrev pub size : {A : Type 0} → ShapeOf A → ℕ
size (one l captured) = 1
size nothing = 0
size never = 0
size (both a b) = size a + size b
size (either a b) = size a + size b
size (maybe a) = size a
size (more a) = size a

abbrev pub CanBeEmpty : {A : Type 0} → ShapeOf A → Type 0
CanBeEmpty (one l captured) = ⊥
CanBeEmpty nothing = Unit {0}
CanBeEmpty never = ⊥
CanBeEmpty (both a b) = CanBeEmpty a × CanBeEmpty b
CanBeEmpty (either a b) = CanBeEmpty a ⊎ CanBeEmpty b
CanBeEmpty (maybe a) = Unit {0}
CanBeEmpty (more a) = CanBeEmpty a

-- position k may come first
abbrev pub First : {A : Type 0} → ShapeOf A → ℕ → ℕ → Type 0
First (one l captured) o k = k ≡ o
First nothing o k = ⊥
First never o k = ⊥
First (both a b) o k = First a o k ⊎ (CanBeEmpty a × First b (o + size a) k)
First (either a b) o k = First a o k ⊎ First b (o + size a) k
First (maybe a) o k = First a o k
First (more a) o k = First a o k

-- position k may come last
abbrev pub Last : {A : Type 0} → ShapeOf A → ℕ → ℕ → Type 0
Last (one l captured) o k = k ≡ o
Last nothing o k = ⊥
Last never o k = ⊥
Last (both a b) o k = Last b (o + size a) k ⊎ (CanBeEmpty b × Last a o k)
Last (either a b) o k = Last a o k ⊎ Last b (o + size a) k
Last (maybe a) o k = Last a o k
Last (more a) o k = Last a o k

-- position k may follow position j
abbrev pub Follows : {A : Type 0} → ShapeOf A → ℕ → ℕ → ℕ → Type 0
Follows (one l captured) o j k = ⊥
Follows nothing o j k = ⊥
Follows never o j k = ⊥
Follows (both a b) o j k = Follows a o j k ⊎ (Follows b (o + size a) j k ⊎ (Last a o j
    × First b (o + size a) k))
Follows (either a b) o j k = Follows a o j k ⊎ Follows b (o + size a) j k
Follows (maybe a) o j k = Follows a o j k
Follows (more a) o j k = Follows a o j k ⊎ (Last a o j × First a o k)

-- the word leads on from position j to a last position
abbrev pub Chain : (ℕ → Type 0) → (ℕ → ℕ → Type 0) → ℕ → List ℕ → Type 0
Chain Ends Steps j [] = Ends j
Chain Ends Steps j (k ∷ word) = Steps j k × Chain Ends Steps k word

-- the word is one of positions from a first to a last, each following the one before, or empty
abbrev pub Word : Type 0 → (ℕ → Type 0) → (ℕ → Type 0) → (ℕ → ℕ → Type 0) → List ℕ → Type 0
Word Empty Starts Ends Steps [] = Empty
Word Empty Starts Ends Steps (k ∷ word) = Starts k × Chain Ends Steps k word

abbrev pub Accepts : Shape → ℕ → List ℕ → Type 0
Accepts a o word = Word (CanBeEmpty a) (First a o) (Last a o) (Follows a o) word

-- the positions of the word read the input, one item each, and write the output
abbrev pub Spells : (ℕ → Item → List Item → Type 0) → List ℕ → List Item → List Item → Type 0
Spells Reads [] input output = (input ≡ []) × (output ≡ [])
Spells Reads (k ∷ word) input output =
    (t : Item) × (rest : List Item) × (here : List Item) × (there : List Item)
    × (input ≡ t ∷ rest) × (output ≡ here ++ there) × Reads k t here × Spells Reads word rest there

-- each position reads what its leaf reads
abbrev pub IsLabelled : List (Link Item) → (ℕ → Item → List Item → Type 0) → Shape → ℕ → Type 0
IsLabelled links Reads (one l captured) o =
    ((t : Item) (output : List Item) → Reads o t output → Matches links l t
    × WritesAt links l captured t output)
    × ((t : Item) (output : List Item) → Matches links l t → WritesAt links l captured t output
    → Reads o t output)
IsLabelled links Reads nothing o = Unit {0}
IsLabelled links Reads never o = Unit {0}
IsLabelled links Reads (both a b) o = IsLabelled links Reads a o × IsLabelled links Reads b (o + size a)
IsLabelled links Reads (either a b) o = IsLabelled links Reads a o × IsLabelled links Reads b (o + size a)
IsLabelled links Reads (maybe a) o = IsLabelled links Reads a o
IsLabelled links Reads (more a) o = IsLabelled links Reads a o
