-- How a path is found: which states end where, as bits of a table.
use Rattle.std.specs.Prelude.{◌≡◌, ℕ, ◌+◌, ◌-◌, ◌*◌, ◌≤◌, ◌<◌, ◌↔◌, Bool, true, false, List, length, drop, All, Some}
use Rattle.std.specs.List.{slice_get}
use Rattle.state_bits.specs.Members.{HasBit}
use Rattle.mine_model.specs.declared.item.Item.{Item}
use Rattle.mine_model.specs.Hierarchy.{Link}
use Rattle.mine_model.specs.Limits.{most_length, most_leaves}
use Rattle.mine_model.specs.Numbered.{leaf_of}
use Rattle.mine_model.specs.Generation.{Matches, MayWrite}
use Rattle.fst_compile.specs.declared.edge.Edge.{Edge}
use Rattle.fst_compile.specs.Transducer.{Transducer}
use Rattle.pattern_proof.specs.declared.search.Search.{Search}
use Rattle.pattern_proof.specs.Steps.{IsRun}

-- items that a path reads, and a pattern that it is to write
pub record Question : Type 0 where
  pub links : List (Link Item)
  pub transducer : Transducer
  pub items : List Item
  pub pattern : List Item

abbrev pub question_of : Search → Question
question_of search = record {
  links = search.hierarchy.now.links;
  transducer = search.fst.now;
  items = search.items.now;
  pattern = search.pattern.now;
}

-- the parts of a search fit
pub record IsSearch (search : Search) : Type 0 where
  pub known : All (λ t. t.0 < search.hierarchy.now.items) search.items.now
  pub cut : search.silents + length search.pattern.now ≡ length search.items.now
  pub short : length search.items.now ≤ most_length
  pub few : length search.fst.now.labels ≤ most_leaves

-- how many items are read without an output
abbrev pub silents_of : Question → ℕ
silents_of q = length q.items - length q.pattern

-- so many items may have been read without an output, and so many with one
pub record IsPlace (q : Question) (silent written : ℕ) : Type 0 where
  pub read : silent ≤ silents_of q
  pub wrote : written ≤ length q.pattern

-- from the state on, some path reads the items that are left, and writes what is left of the pattern
abbrev pub CanEnd : Question → ℕ → ℕ → ℕ → Type 0
CanEnd q silent written state = (states : List ℕ)
    × IsRun q.links q.transducer state states (drop (silent + written) q.items) (drop written q.pattern)

-- what the edge writes is the next item of the pattern, or nothing, and then a path goes on
abbrev pub LeadsOn : Question → ℕ → ℕ → Item → Bool → Edge → Type 0
LeadsOn q silent written t false edge =
    IsPlace q (silent + 1) written × CanEnd q (silent + 1) written edge.to.0
LeadsOn q silent written t true edge = (v : Item) × (slice_get q.pattern written ≡ Some v)
    × MayWrite q.links (leaf_of edge.leaf) t v × CanEnd q silent (written + 1) edge.to.0

-- the edge reads the next item, and behind it a path goes on
abbrev pub Passes : Question → ℕ → ℕ → Edge → Type 0
Passes q silent written edge = (t : Item) × (slice_get q.items (silent + written) ≡ Some t)
    × Matches q.links (leaf_of edge.leaf) t × LeadsOn q silent written t edge.captured edge

-- the number of the bit of a state
abbrev pub bit_of : Question → ℕ → ℕ → ℕ → ℕ
bit_of q silent written state =
    (written * (silents_of q + 1) + silent) * (length q.transducer.labels + 1) + state

-- how many bits there are
abbrev pub bits_of : Question → ℕ
bits_of q = (length q.pattern + 1) * (silents_of q + 1) * (length q.transducer.labels + 1)

-- the bits of the states say which of them end there
abbrev pub IsRightAt : Question → List ℕ → ℕ → ℕ → Type 0
IsRightAt q words silent written =
    (state : ℕ) → state ≤ length q.transducer.labels
    → HasBit words (bit_of q silent written state) ↔ CanEnd q silent written state

-- the bit is that of a state that ends
pub record IsOfEnd (q : Question) (bit : ℕ) : Type 0 where
  pub silent : ℕ
  pub written : ℕ
  pub state : ℕ
  pub place : IsPlace q silent written
  pub within : state ≤ length q.transducer.labels
  pub same : bit ≡ bit_of q silent written state
  pub ends : CanEnd q silent written state

-- the bits that are set are those from there on of states that end
abbrev pub EndFrom : Question → ℕ → List ℕ → Type 0
EndFrom q from words = (bit : ℕ) → HasBit words bit ↔ ((from ≤ bit) × IsOfEnd q bit)
