-- Which refusal of a file comes first.
use Rattle.std.proofs.Common.{◌≡◌, ◌≢◌, ℕ, ◌≤◌, ◌<◌, Bool, List, [], ◌++◌, length, Option, Some, None, IfSome, inl, inr, ◌⊎◌, sym, ap, ◌∙◌, subst, arith}
use Rattle.mine_model.specs.First.{FirstAmong}
use Rattle.mine_model.specs.Limits.{most_file_bytes}
use Rattle.mine_model.specs.Text.{lines_of}
use Rattle.mine_model.specs.Refusal.{IsSequenceLineRefusal, IsSequencesRefusal}
use Rattle.text_ports.specs.Scanning.{lines_behind}
use Rattle.sequence_reader.specs.declared.block.Block.{Block}
use Rattle.sequence_reader.specs.declared.reading.Reading.{Reading}
use Rattle.sequence_reader.specs.declared.sequence_fault.SequenceFault.{SequenceFault}
use Rattle.sequence_reader.specs.declared.sequence_fault.SequenceFault.TheVariants.{TooLarge, NoMemory}
use Rattle.sequence_reader.specs.Faults.{fault_of_sequences}
use Rattle.sequence_reader.specs.Blocks.{rest_of, text_of, IsAt}
use Rattle.sequence_reader.specs.Taking.{IsTaken}
use Rattle.sequence_reader.proofs.TakingLemmas.{refused_among}

-- the first line that is refused, unless the file is too large
pub line-refused : (told left : Option (List ℕ)) (weighted : Bool) (known lines : List (List ℕ)) (block : Block) (v : Reading) (line fault : SequenceFault)
    → IsAt told left lines block → IsTaken known weighted lines v
    → (line ≢ NoMemory → FirstAmong (IsSequenceLineRefusal weighted known) lines (lines_behind (text_of block)) (fault_of_sequences line)) → fault ≢ NoMemory
    → IfSome told (λ whole. ((most_file_bytes < length whole) × (fault ≡ TooLarge)) ⊎ ((length whole ≤ most_file_bytes) × (fault ≡ line)))
    → IfSome told (λ whole. IsSequencesRefusal weighted known whole (fault_of_sequences fault))
line-refused None left weighted known lines block v line fault at taken refusal no_memory first = tt
line-refused (Some whole) left weighted known lines block v line fault at taken refusal no_memory (inl large) = inl (large.0, ap fault_of_sequences large.1)
line-refused (Some whole) left weighted known lines block v line fault (rest, stays, last, said, size) taken refusal no_memory (inr few) =
    let among = refused_among known weighted lines (lines_behind (text_of block)) (lines_behind (rest_of block ++ rest)) v taken (fault_of_sequences line) (refusal (λ e. no_memory (few.1 ∙ e))) in
    let all : FirstAmong (IsSequenceLineRefusal weighted known) [] (lines_of whole) (fault_of_sequences fault) =
    subst (λ f. FirstAmong (IsSequenceLineRefusal weighted known) [] (lines_of whole) (fault_of_sequences f)) (sym few.1)
    (subst (λ l. FirstAmong (IsSequenceLineRefusal weighted known) [] l (fault_of_sequences line)) (sym said) among) in
    inr ((λ other large. let over = large.0 in let within = few.0 in absurd (omega (arith, over, within))), all)
