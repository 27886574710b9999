-- What a source says by the bytes of its files. Made input has none, and its count of sequences settles it. A
-- merge reads no hierarchy and no sequences.
use Rattle.std.specs.Prelude.{ℕ, Bool, List, [], ◌∷◌, ◌++◌, codes}
use Rattle.std.specs.Fmt.{decimal}
use Rattle.mine_model.specs.declared.fault.Fault.{Fault}
use Rattle.mine_model.specs.Bytes.{line_feed}
use Rattle.mine_model.specs.Text.{lines_of}
use Rattle.mine_model.specs.Hierarchy.{Link}
use Rattle.mine_model.specs.Support.{Sequence}
use Rattle.mine_model.specs.Refusal.{IsHierarchyRefusal, IsSequencesRefusal, names_of, links_of, sequences_of}
use Rattle.mine_model.specs.Answer.{NamedRow}
use Rattle.mine_model.specs.AnswerText.{text_of}
use Rattle.made_input.specs.Made.{made_names, named_links, named_sequences}
use Rattle.made_input.specs.Summary.{summary_of}
use Rattle.command_line.specs.Words.{Source, read, embed, make, merge}

-- the names of the hierarchy
abbrev pub names_said : Source → List ℕ → List (List ℕ)
names_said (read expression file) bytes = names_of (lines_of bytes)
names_said (embed rule file) bytes = names_of (lines_of bytes)
names_said (make count expression) bytes = made_names
names_said (merge files) bytes = []

-- its links
abbrev pub links_said : Source → List ℕ → List (Link (List ℕ))
links_said (read expression file) bytes = links_of bytes
links_said (embed rule file) bytes = links_of bytes
links_said (make count expression) bytes = named_links
links_said (merge files) bytes = []

-- the sequences
abbrev pub sequences_said : Source → Bool → List ℕ → List (Sequence (List ℕ))
sequences_said (read expression file) weighted bytes = sequences_of weighted bytes
sequences_said (embed rule file) weighted bytes = sequences_of weighted bytes
sequences_said (make count expression) weighted bytes = named_sequences count
sequences_said (merge files) weighted bytes = []

-- the first refusal of the hierarchy file; of made input and of a merge none
abbrev pub RefusesHierarchy : Source → List ℕ → Fault → Type 0
RefusesHierarchy (read expression file) bytes fault = IsHierarchyRefusal bytes fault
RefusesHierarchy (embed rule file) bytes fault = IsHierarchyRefusal bytes fault
RefusesHierarchy (make count expression) bytes fault = ⊥
RefusesHierarchy (merge files) bytes fault = ⊥

-- the first refusal of the sequence file behind these names; of made input and of a merge none
abbrev pub RefusesSequences : Source → Bool → List (List ℕ) → List ℕ → Fault → Type 0
RefusesSequences (read expression file) weighted known bytes fault =
    IsSequencesRefusal weighted known bytes fault
RefusesSequences (embed rule file) weighted known bytes fault = IsSequencesRefusal weighted known bytes fault
RefusesSequences (make count expression) weighted known bytes fault = ⊥
RefusesSequences (merge files) weighted known bytes fault = ⊥

-- what is written of an answer: its text, and of one on made input the summary
abbrev pub output_of : Source → List NamedRow → List ℕ
output_of (read expression file) answer = text_of answer
output_of (embed rule file) answer = text_of answer
output_of (make count expression) answer = summary_of count answer
output_of (merge files) answer = text_of answer

-- what is written of a proof that is good, with so many rows
abbrev pub checked_text : ℕ → List ℕ
checked_text count = codes "checked " ++ decimal count ++ codes " rows" ++ line_feed ∷ []
