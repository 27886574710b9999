use Rattle.std.proofs.Common.{refl, append_assoc}
use Rattle.desq_run.proofs.messages.push_fault.Goals as goal

pub returns-in-BadWeight-clause-text : goal.returns-in-BadWeight-clause-text
returns-in-BadWeight-clause-text c = rw c.in-BadWeight.is c.push_at_place-in-BadWeight.ensures.text

pub returns-in-Cycle-clause-text : goal.returns-in-Cycle-clause-text
returns-in-Cycle-clause-text c = rw c.in-Cycle.is c.push_at_line.ensures.text

pub returns-in-ExprTooLong-clause-text : goal.returns-in-ExprTooLong-clause-text
returns-in-ExprTooLong-clause-text c = rw c.in-ExprTooLong.is c.push_str-in-ExprTooLong.ensures.bytes

pub returns-in-RepeatLimit-clause-text : goal.returns-in-RepeatLimit-clause-text
returns-in-RepeatLimit-clause-text c = rw c.in-RepeatLimit.is c.push_at_column-in-RepeatLimit.ensures.text

pub returns-in-TooDeep-clause-text : goal.returns-in-TooDeep-clause-text
returns-in-TooDeep-clause-text c = rw c.in-TooDeep.is c.push_at_column-in-TooDeep.ensures.text

pub returns-in-TooLarge-clause-text : goal.returns-in-TooLarge-clause-text
returns-in-TooLarge-clause-text c = rw c.in-TooLarge.is c.push_file.ensures.text

pub returns-in-NameTooLong-clause-text : goal.returns-in-NameTooLong-clause-text
returns-in-NameTooLong-clause-text c = rw c.in-NameTooLong.is c.push_at_place-in-NameTooLong.ensures.text

pub returns-in-TooManyAncestors-clause-text : goal.returns-in-TooManyAncestors-clause-text
returns-in-TooManyAncestors-clause-text c = rw c.in-TooManyAncestors.is c.push_str-in-TooManyAncestors.ensures.bytes

pub returns-in-TooManySequences-clause-text : goal.returns-in-TooManySequences-clause-text
returns-in-TooManySequences-clause-text c = rw c.in-TooManySequences.is c.push_at_line-in-TooManySequences.ensures.text

pub returns-in-SequenceTooLong-clause-text : goal.returns-in-SequenceTooLong-clause-text
returns-in-SequenceTooLong-clause-text c = rw c.in-SequenceTooLong.is c.push_at_line-in-SequenceTooLong.ensures.text

pub returns-in-Read-clause-text : goal.returns-in-Read-clause-text
returns-in-Read-clause-text c = rw c.in-Read.is c.push_file-in-Read.ensures.text

pub returns-in-TooManyLeaves-clause-text : goal.returns-in-TooManyLeaves-clause-text
returns-in-TooManyLeaves-clause-text c =
    rw (c.in-TooManyLeaves.is, c.push_str-in-TooManyLeaves-2.ensures.bytes, c.push_number.ensures.bytes, c.push_str-in-TooManyLeaves.ensures.bytes, c.from.ensures)
    (simp append_assoc refl)

pub returns-in-BadProof-clause-text : goal.returns-in-BadProof-clause-text
returns-in-BadProof-clause-text c = rw c.in-BadProof.is c.push_at_line-in-BadProof.ensures.text
