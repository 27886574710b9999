-- The answer: the frequent patterns in their order. From the DESQ article; the order is this program's own.
use Rattle.std.specs.Prelude.{◌≡◌, ◌≢◌, ℕ, ◌≤◌, ◌<◌, ◌⊎◌, ◌↔◌, List, [], ◌∷◌, Contains}
use Rattle.std.specs.List.{AllByRecursion}
use Rattle.std.specs.Ordering.{nat_cmp}
use Rattle.std.specs.Cmp.Lexicographic.{slice_cmp}
use Rattle.std.specs.declared.cmp.Ordering.TheVariants.{Less}
use Rattle.mine_model.specs.Hierarchy.{Link}
use Rattle.mine_model.specs.Expression.{Tree}
use Rattle.mine_model.specs.Support.{Sequence, HasSupport}

-- The data of one run: over names in the promise, over the numbers of names inside the program.
pub record Data (A : Type 0) : Type 0 where
  pub links : List (Link A)
  pub sequences : List (Sequence A)
  pub expression : Tree A
  pub threshold : ℕ

-- a pattern with its support, which reaches the threshold
pub record IsFrequent {A : Type 0} (d : Data A) (pattern : List A) (support : ℕ) : Type 0 where
  pub not_empty : pattern ≢ []
  pub exact : HasSupport d.links d.expression d.sequences pattern support
  pub enough : d.threshold ≤ support

-- a row of an answer
pub record NamedRow : Type 0 where
  pub pattern : List (List ℕ)
  pub support : ℕ

-- the names come earlier: item by item in byte order, a proper prefix first
abbrev pub ComeEarlier : List (List ℕ) → List (List ℕ) → Type 0
ComeEarlier names others = slice_cmp (slice_cmp nat_cmp) names others ≡ Less

-- the first row comes before the second: by falling support, then by names
abbrev pub ComesBefore : NamedRow → NamedRow → Type 0
ComesBefore first second = (second.support < first.support)
    ⊎ ((first.support ≡ second.support) × ComeEarlier first.pattern second.pattern)

-- each row comes before all later ones
abbrev pub Rises : List NamedRow → Type 0
Rises [] = Unit {0}
Rises (row ∷ rows) = AllByRecursion (ComesBefore row) rows × Rises rows

-- the rows are exactly the frequent patterns, each once, in order
pub record IsAnswer (d : Data (List ℕ)) (answer : List NamedRow) : Type 0 where
  pub ordered : Rises answer
  pub frequent : (row : NamedRow) → Contains answer row ↔ IsFrequent d row.pattern row.support
