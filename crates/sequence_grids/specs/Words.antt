-- Sets of states as words, and what they were found out of.
use Rattle.std.specs.Prelude.{ℕ, ◌<◌, ◌↔◌, List}
use Rattle.state_bits.specs.Members.{Has, HasBit}
use Rattle.sequence_grids.specs.declared.table.Words.{Words}
use Rattle.sequence_grids.specs.Tables.{ClassSets, TripleSets}

-- of the states below the number the words have those of the set
abbrev pub AreWordsOf : ℕ → ℕ → List ℕ → Type 0
AreWordsOf states set words = (k : ℕ) → k < states → HasBit words k ↔ Has set k

-- the words are those of the class
pub record AreClassWords (states : ℕ) (class : ClassSets) (words : Words) : Type 0 where
  pub silent : AreWordsOf states class.silent words.silent.now
  pub writing : AreWordsOf states class.writes words.writing.now

-- the words are those of the triple
pub record AreTripleWords (states : ℕ) (triple : TripleSets) (words : Words) : Type 0 where
  pub seen : AreWordsOf states triple.seen words.seen.now
  pub more : AreWordsOf states triple.more words.more.now
  pub unseen : AreWordsOf states triple.unseen words.unseen.now
  pub ending : AreWordsOf states triple.ends words.ending.now
