-- What a value that is kept under a lock remembers.
use Rattle.std.specs.Prelude.{ℕ, ◌==◌, if◌then◌else◌, List, [], ◌∷◌}

-- one change: the number of the pass that made it, and its entry
abbrev pub Made : Type 0
Made = ℕ × List ℕ

-- the entries of the changes that the pass of this number made, in their order
abbrev pub entries_of : ℕ → List Made → List (List ℕ)
entries_of n [] = []
entries_of n (c ∷ cs) = if c.0 == n then c.1 ∷ entries_of n cs else entries_of n cs

-- a pass: its number, and the entries of its changes
abbrev pub Part : Type 0
Part = ℕ × List (List ℕ)

-- the entries of the first of these passes
abbrev pub entries_made : List Part → List (List ℕ)
entries_made [] = []
entries_made (p ∷ ps) = p.1
