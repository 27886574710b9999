-- The hierarchy of items. From the DESQ article, whose items are arranged in a hierarchy.
use Rattle.std.specs.Prelude.{◌≡◌, ◌≢◌, ℕ, ◌<◌, nat_le, List, [], ◌∷◌, map, filter, length, All, AllPairs, Contains}

-- parent stands directly above child
pub record Link (A : Type 0) : Type 0 where
  pub child : A
  pub parent : A

-- the steps, one link each, lead from an item up to another
abbrev pub IsWalk : {A : Type 0} → List (Link A) → A → List A → A → Type 0
IsWalk links t [] w = t ≡ w
IsWalk links t (up ∷ steps) w = Contains links (record { child = t; parent = up }) × IsWalk links up steps w

-- w is t or stands above t: w is in anc(t), and t is in desc(w)
abbrev pub IsAncestor : {A : Type 0} → List (Link A) → A → A → Type 0
IsAncestor {A} links w t = (steps : List A) × IsWalk links t steps w

-- a walk of one link or more returns to its start
abbrev pub HasCycle : {A : Type 0} → List (Link A) → Type 0
HasCycle {A} links = (t next : A) × (steps : List A) × IsWalk links t (next ∷ steps) t

abbrev pub IsAcyclic : {A : Type 0} → List (Link A) → Type 0
IsAcyclic links = HasCycle links → ⊥

-- a link, and the line of the file that says it, counted from 1
pub record PlacedLink (A : Type 0) : Type 0 where
  pub link : Link A
  pub line : ℕ

-- the links of this line and of the lines before it
abbrev pub links_through : {A : Type 0} → ℕ → List (PlacedLink A) → List (Link A)
links_through line placed = map (λ p. p.link) (filter (λ p. nat_le p.line line) placed)

-- the least line whose links together with those before it have a cycle
abbrev pub IsCycleLine : {A : Type 0} → List (PlacedLink A) → ℕ → Type 0
IsCycleLine placed line =
    HasCycle (links_through line placed) × ((n : ℕ) → n < line → IsAcyclic (links_through n placed))

-- these items have more than n ancestors, summed over the items
abbrev pub HasMoreAncestors : {A : Type 0} → ℕ → List (Link A) → (A → Type 0) → Type 0
HasMoreAncestors {A} n links IsItem = (pairs : List (Link A)) × AllPairs (λ p q. p ≢ q) pairs
    × All (λ p. IsItem p.child × IsAncestor links p.parent p.child) pairs × (n < length pairs)
