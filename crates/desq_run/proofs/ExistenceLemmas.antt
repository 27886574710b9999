-- An accepted input that is mined has an answer.
use Rattle.std.proofs.Common.{◌≡◌, ℕ, inl, refl, List, []}
use Rattle.mine_model.specs.declared.fault.Fault.{Fault}
use Rattle.mine_model.specs.Expression.{Tree, tree_by}
use Rattle.mine_model.specs.Grammar.{Use}
use Rattle.mine_model.specs.Answer.{NamedRow}
use Rattle.answer_laws.proofs.ExistenceLemmas.{answered}
use Rattle.answer_laws.proofs.AcceptedLemmas.{accepted}
use Rattle.gap_front.specs.Embedding.{tree_of_rule}
use Rattle.command_line.specs.Words.{Source, read, embed, make, merge, merged_in, IsCommand}
use Rattle.desq_run.specs.Sources.{IsSourceRefusal, SaysTree}
use Rattle.desq_run.specs.Ends.{Input, IsAccepted, input_data, IsAnswerTo}
use Rattle.desq_run.specs.Inputs.{IsMinedBy}
use Rattle.desq_run.proofs.SourceLemmas.{named-merged, has-ranges, answer-to}

-- a source that is not refused says a tree
pub says-tree : (source : Source) → IsMinedBy source → ((fault : Fault) → IsSourceRefusal source fault → ⊥) → (tree : Tree (List ℕ)) × SaysTree source tree
says-tree (read expression file) mined none = let (uses, reads) = accepted expression none in (tree_by (λ (u : Use). u.name) uses, (uses, reads, refl))
says-tree (embed rule file) mined none = (tree_of_rule rule, refl)
says-tree (make count expression) mined none = let (uses, reads) = accepted expression none in (tree_by (λ (u : Use). u.name) uses, (uses, reads, refl))
says-tree (merge files) mined none = absurd (mined files refl)

pub accepted-answered : (words : List (List ℕ)) (input : Input) → IsCommand words input.command → merged_in input.command.source ≡ [] → IsAccepted input
    → (answer : List NamedRow) × IsAnswerTo input.command.source input answer
accepted-answered words input said no_files none =
    let mined : IsMinedBy input.command.source = named-merged words input.command said no_files in
    let (tree, says) = says-tree input.command.source mined (λ fault refused. none fault (inl (inl (inl refused)))) in
    let (answer, is) = answered (input_data input tree) said.says.support.2.within.0 in
    (answer, answer-to input.command.source input tree answer refl (has-ranges words input.command said) says is)
