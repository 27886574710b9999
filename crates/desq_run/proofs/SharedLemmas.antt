-- What the runs of all shares of a command find merges to its answer.
use Rattle.std.proofs.Common.{◌≡◌, inl, inr, ℕ, ◌≤◌, Some, List, [], map, length, refl, sym, ap, ◌∙◌, subst, arith}
use Rattle.std.proofs.lemmas.Option.{none-some}
use Rattle.mine_model.specs.declared.fault.Fault.{Fault}
use Rattle.mine_model.specs.Limits.{most_file_bytes}
use Rattle.mine_model.specs.Expression.{Tree, tree_by}
use Rattle.mine_model.specs.Grammar.{Use, ReadsAs}
use Rattle.mine_model.specs.Answer.{NamedRow, IsAnswer, IsFrequent}
use Rattle.mine_model.specs.AnswerText.{text_of}
use Rattle.mine_model.specs.Refusal.{links_of, sequences_of}
use Rattle.patex_grammar.proofs.RefusalLemmas.{ReadsAs-unique}
use Rattle.gap_front.specs.Embedding.{tree_of_rule}
use Rattle.gap_front.specs.Answers.{IsFrequentlyEmbedded}
use Rattle.gap_front.proofs.AnswerLemmas.{same_answers}
use Rattle.command_line.specs.Options.{rows}
use Rattle.command_line.specs.Words.{Source, read, embed, make, merge, mine, check, GivesSource}
use Rattle.command_line.specs.declared.share.Share.{Share}
use Rattle.split_merge.specs.Shares.{IsPart, AreAllParts}
use Rattle.split_merge.specs.Merging.{IsMerge, AreAllNumbers, AreWithinLimits, FileFault, IsMergeRefusal}
use Rattle.split_merge.proofs.ShareLemmas.{one_merge}
use Rattle.split_merge.proofs.RunLemmas.{merge_of_runs}
use Rattle.split_merge.proofs.AcceptLemmas.{runs_accepted}
use Rattle.desq_run.specs.Sources.{SaysTree}
use Rattle.desq_run.specs.Said.{output_of}
use Rattle.desq_run.specs.Parts.{IsPartBy}
use Rattle.desq_run.specs.Inputs.{HasRanges}
use Rattle.desq_run.specs.Merged.{RefusesMerged}
use Rattle.desq_run.specs.Ends.{Input, IsAccepted, input_data, IsAnswerTo, IsPartTo, AreRowsTo, IsTextOf, IsAnswerText}
use Rattle.desq_run.specs.Shared.{with_share, share_of, AreShareRuns, IsMergeRun}
use Rattle.desq_run.proofs.EndLemmas.{no-data, rows-accepted}
use Rattle.desq_run.proofs.SelectedLemmas.{part-of, are-counted}
use Rattle.desq_run.proofs.SourceLemmas.{data_by, has-ranges}
use Rattle.desq_run.proofs.LimitLemmas.{within-limits}

abbrev by_name : Tree Use → Tree (List ℕ)
by_name = tree_by (λ (u : Use). u.name)

-- the part of an expression's answer
read-part : (input : Input) (expression : List ℕ) (share : Share) (answer part : List NamedRow) (tree : Tree Use) → ReadsAs expression tree
    → IsAnswerTo (read expression []) input answer → IsPartTo (read expression []) input share part
    → IsPart (input_data input (by_name tree)) share.index share.of answer part
read-part input expression share answer part tree reads (one, reads_one, is) (other, reads_other, is_part) =
    let same : one ≡ tree = ReadsAs-unique expression one tree reads_one reads in
    let also : other ≡ tree = ReadsAs-unique expression other tree reads_other reads in
    let whole : IsAnswer (input_data input (by_name tree)) answer = subst (λ t. IsAnswer (input_data input (by_name t)) answer) same is in
    part-of (λ row. IsFrequent (input_data input (by_name tree)) row.pattern row.support) (input_data input (by_name tree)) share answer part
    whole.ordered whole.frequent
    (subst (λ t. IsPartBy (λ row. IsFrequent (input_data input (by_name t)) row.pattern row.support) (input_data input (by_name t)) share part) also is_part)

-- a share finds the part of the answer, in the data of each tree that the source says
pub part-at : (source : Source) (input : Input) (share : Share) (answer part : List NamedRow) (tree : Tree (List ℕ)) → SaysTree source tree
    → IsAnswerTo source input answer → IsPartTo source input share part → IsPart (input_data input tree) share.index share.of answer part
part-at (read expression file) input share answer part tree (uses, reads, same) is is_part =
    subst (λ t. IsPart (input_data input t) share.index share.of answer part) (sym same) (read-part input expression share answer part uses reads is is_part)
part-at (make count expression) input share answer part tree (uses, reads, same) is is_part =
    subst (λ t. IsPart (input_data input t) share.index share.of answer part) (sym same) (read-part input expression share answer part uses reads is is_part)
part-at (merge files) input share answer part tree says is is_part = absurd says
part-at (embed rule file) input share answer part tree same is is_part =
    subst (λ t. IsPart (input_data input t) share.index share.of answer part) (sym same)
    (part-of (λ row. IsFrequentlyEmbedded (links_of input.hierarchy) rule (sequences_of input.command.weighted input.sequences) input.command.threshold row.pattern row.support)
    (input_data input (tree_of_rule rule)) share answer part is.ordered is.frequent is_part)

-- what has a part for a share says a tree
says-some : (source : Source) (input : Input) (share : Share) (part : List NamedRow) → IsPartTo source input share part → (tree : Tree (List ℕ)) × SaysTree source tree
says-some (read expression file) input share part (tree, reads, is) = (by_name tree, (tree, reads, refl))
says-some (make count expression) input share part (tree, reads, is) = (by_name tree, (tree, reads, refl))
says-some (embed rule file) input share part is = (tree_of_rule rule, refl)
says-some (merge files) input share part none = absurd none

pub some-part : (source : Source) (input : Input) (share : Share) (answer part : List NamedRow) → IsAnswerTo source input answer → IsPartTo source input share part
    → (tree : Tree (List ℕ)) × SaysTree source tree × IsPart (input_data input tree) share.index share.of answer part
some-part source input share answer part is is_part =
    let (tree, says) = says-some source input share part is_part in
    (tree, says, part-at source input share answer part tree says is is_part)

read-answer : (input : Input) (expression : List ℕ) (answer : List NamedRow) (tree : Tree (List ℕ)) → SaysTree (read expression []) tree
    → IsAnswerTo (read expression []) input answer → IsAnswer (input_data input tree) answer
read-answer input expression answer tree (uses, reads, same) (one, reads_one, is) =
    let also : one ≡ uses = ReadsAs-unique expression one uses reads_one reads in
    subst (λ t. IsAnswer (input_data input t) answer) (ap by_name also ∙ sym same) is

-- the answer of a source is that to its tree
pub answer-from : (source : Source) (input : Input) (answer : List NamedRow) (tree : Tree (List ℕ)) → source ≡ input.command.source → HasRanges source
    → SaysTree source tree → IsAnswerTo source input answer → IsAnswer (input_data input tree) answer
answer-from (read expression file) input answer tree own ranges says is = read-answer input expression answer tree says is
answer-from (make count expression) input answer tree own ranges says is = read-answer input expression answer tree says is
answer-from (merge files) input answer tree own ranges says is = absurd says
answer-from (embed rule file) input answer tree own ranges same is =
    let told = (same_answers rule (links_of input.hierarchy) (sequences_of input.command.weighted input.sequences) input.command.threshold answer
    ranges.0.least ranges.0.some).1 is in
    subst (λ t. IsAnswer (input_data input t) answer) (sym same)
    (subst (λ source. IsAnswer (data_by source input (tree_of_rule rule)) answer) own told)

module _ (input : Input) (of : ℕ) (part : ℕ → List NamedRow) (answer : List NamedRow) (numbers : List ℕ)
    (runs : AreShareRuns input of part) (accepted : IsAccepted input) (is : IsAnswerTo input.command.source input answer) where
  abbrev source : Source
  source = input.command.source

  ranges : HasRanges source
  ranges = let (words, said) = runs.said 1 (omega arith) runs.some in
      has-ranges words (with_share (Some (share_of of 1)) input).command said

  -- a share is of files, and of a threshold from 1 on
  no_made : (count : ℕ) (expression : List ℕ) → input.command.source ≡ make count expression → ⊥
  no_made count expression own =
      let (words, said) = runs.said 1 (omega arith) runs.some in
      let gives : GivesSource (rows words) (make count expression) = subst (GivesSource (rows words)) own said.says.source in
      let (text, given, is_text) = said.says.mode.shared in
      none-some text (sym gives.1.split ∙ given)

  least : 1 ≤ input.command.threshold
  least = let (words, said) = runs.said 1 (omega arith) runs.some in said.says.support.2.within.0

  abbrev tree : Tree (List ℕ)
  tree = (says-some source input (share_of of 1) (part 1) (runs.found 1 (omega arith) runs.some)).0

  says : SaysTree source tree
  says = (says-some source input (share_of of 1) (part 1) (runs.found 1 (omega arith) runs.some)).1

  whole : IsAnswer (input_data input tree) answer
  whole = answer-from source input answer tree refl ranges says is

  parts : AreAllParts (input_data input tree) of answer part
  parts index least most = part-at source input (share_of of index) answer (part index) tree says is (runs.found index least most)

  limits : AreWithinLimits input.command.threshold answer
  limits = within-limits input no_made least accepted tree answer says whole

  pub merge-accepted : (refused : FileFault) → AreAllNumbers of numbers
      → ((index : ℕ) → 1 ≤ index → index ≤ of → length (text_of (part index)) ≤ most_file_bytes)
      → IsMergeRefusal input.command.threshold (map text_of (map part numbers)) refused → ⊥
  merge-accepted refused all few refusal =
      runs_accepted (input_data input tree) answer part numbers of (are-counted (input_data input tree)) whole runs.some parts all limits few refused refusal

  pub merge-bytes : (merged : List NamedRow) → AreAllNumbers of numbers
      → IsMerge input.command.threshold (map text_of (map part numbers)) merged → text_of merged ≡ text_of answer
  merge-bytes merged all is_merge =
      ap text_of (one_merge input.command.threshold (map text_of (map part numbers)) merged answer is_merge
      (merge_of_runs (input_data input tree) answer part numbers of (are-counted (input_data input tree)) whole runs.some parts all limits.outputs))

  -- the run that merges the outputs is accepted, and its text is that of the answer
  pub merge-run : (merging : Input) → AreAllNumbers of numbers
      → ((index : ℕ) → 1 ≤ index → index ≤ of → length (text_of (part index)) ≤ most_file_bytes)
      → IsMergeRun input (map text_of (map part numbers)) merging
      → IsAccepted merging × IsAnswerText merging (text_of answer)
  merge-run merging all few run = (
    rows-accepted merging (λ fault first. elim first [
      | inl mined ↦ no-data merging run.names run.source fault mined
      | inr last ↦ not-refused fault (subst (λ source. RefusesMerged source merging.command.threshold merging.merged fault) run.source last.1)
    ]) (λ file own. (let other : mine ≡ check file = sym run.task ∙ own in cc)),
    subst (λ task. IsTextOf task merging (text_of answer)) (sym run.task) (answer, found, ap (λ source. output_of source answer) (sym run.source)),
  )
    where
      not-refused : (fault : Fault) → RefusesMerged (merge run.names) merging.command.threshold merging.merged fault → ⊥
      not-refused fault (refused, refusal, is) =
          merge-accepted refused all few
          (subst (λ threshold. IsMergeRefusal threshold (map text_of (map part numbers)) refused) run.threshold
          (subst (λ l. IsMergeRefusal merging.command.threshold l refused) run.files_are refusal))

      is_merge : IsMerge input.command.threshold (map text_of (map part numbers)) answer
      is_merge = merge_of_runs (input_data input tree) answer part numbers of (are-counted (input_data input tree)) whole runs.some parts all limits.outputs

      found : AreRowsTo merging.command.share merging.command.source merging answer
      found =
          subst (λ share. AreRowsTo share merging.command.source merging answer) (sym run.share)
          (subst (λ source. IsAnswerTo source merging answer) (sym run.source)
          (subst (λ threshold. IsMerge threshold merging.merged answer) (sym run.threshold)
          (subst (λ l. IsMerge input.command.threshold l answer) (sym run.files_are) is_merge)))
