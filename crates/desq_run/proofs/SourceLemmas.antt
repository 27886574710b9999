-- What a command mines by, as it was read and as the promise has it.
use Rattle.std.proofs.Common.{◌≡◌, ◌↔◌, ℕ, suc, Option, Some, None, List, [], ◌∷◌, length, Contains, refl, sym, ap, ◌∙◌, subst, arith}
use Rattle.mine_model.specs.declared.item.Item.{Item}
use Rattle.mine_model.specs.Expression.{Tree, tree_by, named_in}
use Rattle.mine_model.specs.Grammar.{Use, ReadsAs}
use Rattle.mine_model.specs.Answer.{Data, NamedRow, IsAnswer, IsFrequent}
use Rattle.mine_model.specs.Refusal.{IsUnknown, links_of, sequences_of}
use Rattle.mine_model.proofs.AnswerLemmas.{IsAnswer-unique, Rises-unique}
use Rattle.patex_grammar.proofs.RefusalLemmas.{ReadsAs-unique}
use Rattle.gap_front.proofs.AnswerLemmas.{same_answers, same_rows}
use Rattle.gap_front.specs.Answers.{IsFrequentlyEmbedded}
use Rattle.gap_front.specs.Embedding.{tree_of_rule}
use Rattle.command_line.specs.declared.share.Share.{Share}
use Rattle.patex_parser.specs.Parsing.{use_at, IsParsed}
use Rattle.command_line.specs.Options.{rows}
use Rattle.command_line.specs.Words.{Source, read, embed, make, merge, mine, Command, IsCommand, GivesSource, GivesShare, files_in, merged_in}
use Rattle.desq_run.specs.Ends.{Input, input_data, IsAnswerTo, IsPartTo, AreRowsTo, IsTextOf}
use Rattle.split_merge.specs.Shares.{IsRowOfShare}
use Rattle.split_merge.proofs.ShareLemmas.{one_list, one_merge}
use Rattle.desq_run.specs.Parts.{IsPartBy}
use Rattle.desq_run.proofs.InputLemmas.{AreRowsOf}
use Rattle.made_input.specs.Summary.{IsSummary}
use Rattle.desq_run.specs.Said.{links_said, sequences_said, output_of}
use Rattle.desq_run.specs.Sources.{SaysTree}
use Rattle.desq_run.specs.Inputs.{HasRanges, IsMinedBy, HasShare, IsRead}

-- the data of the input, as a source says them
abbrev pub data_by : Source → Input → Tree (List ℕ) → Data (List ℕ)
data_by source input tree = record {
  links = links_said source input.hierarchy;
  sequences = sequences_said source input.command.weighted input.sequences;
  expression = tree;
  threshold = input.command.threshold;
}

-- the words of a merge name files
pub named-merged : (words : List (List ℕ)) (c : Command) → IsCommand words c → merged_in c.source ≡ [] → IsMinedBy c.source
named-merged words c is none files own =
    let gives : GivesSource (rows words) (merge files) = subst (GivesSource (rows words)) own is.says.source in
    let empty : files ≡ [] = ap merged_in (sym own) ∙ none in
    let none_named : gives.first ∷ files_in (rows words) ≡ [] = sym gives.all ∙ empty in
    cc

-- the numbers of a source that the words say are in their ranges
pub has-ranges : (words : List (List ℕ)) (c : Command) → IsCommand words c → HasRanges c.source
has-ranges words c is = by c.source is.says.source
  where
    by : (source : Source) → GivesSource (rows words) source → HasRanges source
    by (merge files) gives = (
      (let many : length files ≡ suc (length (files_in (rows words))) = ap length gives.all in omega (arith, many)),
      gives.few,
    )
    by (read expression file) gives = tt
    by (embed rule file) (named, away, files, rule_given, alone) = (
      record {
        gap = rule_given.gap.within.1;
        least = rule_given.least.within.0;
        short = rule_given.least.within.1;
        some = rule_given.most.within.0;
        most = rule_given.most.within.1;
      },
      rule_given.order,
    )
    by (make count expression) (named, made, alone) = (made.number.within.0, made.number.within.1)

-- a share that the words say is one of those that there are
pub has-share : (words : List (List ℕ)) (c : Command) → IsCommand words c → HasShare c.share
has-share words c is = by c.share is.says.mode.shared
  where
    by : (share : Option Share) → GivesShare (rows words) share → HasShare share
    by None gives = tt
    by (Some share) (text, given, is_text) = (is_text.index.within.0, is_text.index.within.1)

expression-answer : (input : Input) (expression : List ℕ) (tree : Tree (List ℕ)) (answer : List NamedRow)
    → ((uses : Tree Use) × ReadsAs expression uses × (tree ≡ tree_by (λ (u : Use). u.name) uses)) → IsAnswer (input_data input tree) answer
    → (uses : Tree Use) × ReadsAs expression uses × IsAnswer (input_data input (tree_by (λ (u : Use). u.name) uses)) answer
expression-answer input expression tree answer (uses, reads, same) is =
    (uses, reads, subst (λ t. IsAnswer (input_data input t) answer) same is)

-- the answer to the tree of a source is that of the source
pub answer-to : (source : Source) (input : Input) (tree : Tree (List ℕ)) (answer : List NamedRow) → source ≡ input.command.source → HasRanges source
    → SaysTree source tree → IsAnswer (input_data input tree) answer → IsAnswerTo source input answer
answer-to (read expression file) input tree answer own ranges says is = expression-answer input expression tree answer says is
answer-to (embed rule file) input tree answer own ranges same is =
    let told : IsAnswer (data_by (embed rule file) input tree) answer = subst (λ source. IsAnswer (data_by source input tree) answer) (sym own) is in
    (same_answers rule (links_of input.hierarchy) (sequences_of input.command.weighted input.sequences) input.command.threshold answer
    ranges.0.least ranges.0.some).0 (subst (λ t. IsAnswer (data_by (embed rule file) input t) answer) same told)
answer-to (make count expression) input tree answer own ranges says is = expression-answer input expression tree answer says is
answer-to (merge files) input tree answer own ranges says is = absurd says

expression-part : (input : Input) (expression : List ℕ) (share : Share) (tree : Tree (List ℕ)) (part : List NamedRow)
    → ((uses : Tree Use) × ReadsAs expression uses × (tree ≡ tree_by (λ (u : Use). u.name) uses))
    → IsPartBy (λ row. IsFrequent (input_data input tree) row.pattern row.support) (input_data input tree) share part
    → (uses : Tree Use) × ReadsAs expression uses × IsPartBy (λ row. IsFrequent (input_data input (tree_by (λ (u : Use). u.name) uses)) row.pattern row.support)
    (input_data input (tree_by (λ (u : Use). u.name) uses)) share part
expression-part input expression share tree part (uses, reads, same) is =
    (uses, reads, subst (λ t. IsPartBy (λ row. IsFrequent (input_data input t) row.pattern row.support) (input_data input t) share part) same is)

-- rows with a property are those with another one that is the same
part-alike : (One Other : NamedRow → Type 0) → ((row : NamedRow) → One row ↔ Other row) → (d : Data (List ℕ)) (share : Share) (part : List NamedRow)
    → IsPartBy One d share part → IsPartBy Other d share part
part-alike One Other same d share part is = record {
  order = is.order;
  list = is.list;
  ordered = is.ordered;
  exact = λ row. (
    (λ held. let both = (is.exact row).0 held in ((same row).0 both.0, both.1)),
    (λ both. (is.exact row).1 ((same row).1 both.0, both.1)),
  );
}

-- the part of the answer to the tree of a source is that of the source
part-to : (share : Share) (source : Source) (input : Input) (tree : Tree (List ℕ)) (part : List NamedRow) → source ≡ input.command.source → HasRanges source
    → SaysTree source tree → IsPartBy (λ row. IsFrequent (input_data input tree) row.pattern row.support) (input_data input tree) share part
    → IsPartTo source input share part
part-to share (read expression file) input tree part own ranges says is = expression-part input expression share tree part says is
part-to share (make count expression) input tree part own ranges says is = expression-part input expression share tree part says is
part-to share (merge files) input tree part own ranges says is = absurd says
part-to share (embed rule file) input tree part own ranges same is =
    let told : IsPartBy (λ row. IsFrequent (input_data input (tree_of_rule rule)) row.pattern row.support) (input_data input (tree_of_rule rule)) share part =
    subst (λ t. IsPartBy (λ row. IsFrequent (input_data input t) row.pattern row.support) (input_data input t) share part) same is in
    part-alike (λ row. IsFrequent (input_data input (tree_of_rule rule)) row.pattern row.support)
    (λ row. IsFrequentlyEmbedded (links_of input.hierarchy) rule (sequences_of input.command.weighted input.sequences) input.command.threshold row.pattern row.support)
    (λ row. subst (λ source. IsFrequent (data_by source input (tree_of_rule rule)) row.pattern row.support
    ↔ IsFrequentlyEmbedded (links_of input.hierarchy) rule (sequences_of input.command.weighted input.sequences) input.command.threshold row.pattern row.support) own
    (same_rows rule (links_of input.hierarchy) (sequences_of input.command.weighted input.sequences) input.command.threshold
    ranges.0.least ranges.0.some row.pattern row.support))
    (input_data input (tree_of_rule rule)) share part told

-- so of the rows that a run is to find
pub rows-to : (share : Option Share) (source : Source) (input : Input) (tree : Tree (List ℕ)) (rows : List NamedRow) → source ≡ input.command.source → HasRanges source
    → SaysTree source tree → AreRowsOf share (input_data input tree) rows → AreRowsTo share source input rows
rows-to None source input tree rows own ranges says is = answer-to source input tree rows own ranges says is
rows-to (Some share) source input tree rows own ranges says is = part-to share source input tree rows own ranges says is

expression-unique : (input : Input) (expression : List ℕ) (first second : List NamedRow)
    → ((tree : Tree Use) × ReadsAs expression tree × IsAnswer (input_data input (tree_by (λ (u : Use). u.name) tree)) first)
    → ((tree : Tree Use) × ReadsAs expression tree × IsAnswer (input_data input (tree_by (λ (u : Use). u.name) tree)) second)
    → first ≡ second
expression-unique input expression first second (tree, reads, is) (tree', reads', is') =
    let same : tree' ≡ tree = ReadsAs-unique expression tree' tree reads' reads in
    IsAnswer-unique (input_data input (tree_by (λ (u : Use). u.name) tree)) first second is
    (subst (λ (t : Tree Use). IsAnswer (input_data input (tree_by (λ (u : Use). u.name) t)) second) same is')

pub answer-unique : (source : Source) (input : Input) (first second : List NamedRow) → IsAnswerTo source input first
    → IsAnswerTo source input second → first ≡ second
answer-unique (read expression file) input first second is is' = expression-unique input expression first second is is'
answer-unique (make count expression) input first second is is' = expression-unique input expression first second is is'
answer-unique (merge files) input first second is is' = one_merge input.command.threshold input.merged first second is is'
answer-unique (embed rule file) input first second is is' = Rises-unique first second is.ordered is'.ordered
    (λ row inside. (is'.frequent row).1 ((is.frequent row).0 inside))
    (λ row inside. (is.frequent row).1 ((is'.frequent row).0 inside))

part-unique : (One : NamedRow → Type 0) (d : Data (List ℕ)) (share : Share) (first second : List NamedRow) → IsPartBy One d share first
    → IsPartBy One d share second → first ≡ second
part-unique One d share first second is is' =
    let same : is.order ≡ is'.order = one_list d is.order is'.order is.list is'.list in
    let moved : (row : NamedRow) → Contains first row ↔ (One row × IsRowOfShare is'.order share.index share.of row) =
    subst (λ o. (row : NamedRow) → Contains first row ↔ (One row × IsRowOfShare o share.index share.of row)) same is.exact in
    Rises-unique first second is.ordered is'.ordered
    (λ row inside. (is'.exact row).1 ((moved row).0 inside))
    (λ row inside. (moved row).1 ((is'.exact row).0 inside))

expression-part-unique : (input : Input) (expression : List ℕ) (share : Share) (first second : List NamedRow)
    → IsPartTo (read expression []) input share first → IsPartTo (read expression []) input share second → first ≡ second
expression-part-unique input expression share first second (tree, reads, is) (tree', reads', is') =
    let same : tree' ≡ tree = ReadsAs-unique expression tree' tree reads' reads in
    let by_name : Tree Use → Tree (List ℕ) = tree_by (λ (u : Use). u.name) in
    part-unique (λ row. IsFrequent (input_data input (by_name tree)) row.pattern row.support) (input_data input (by_name tree)) share first second is
    (subst (λ (t : Tree Use). IsPartBy (λ row. IsFrequent (input_data input (by_name t)) row.pattern row.support) (input_data input (by_name t)) share second) same is')

-- a run is to find one list of rows
pub rows-unique : (share : Option Share) (source : Source) (input : Input) (first second : List NamedRow) → AreRowsTo share source input first
    → AreRowsTo share source input second → first ≡ second
rows-unique None source input first second is is' = answer-unique source input first second is is'
rows-unique (Some share) (read expression file) input first second is is' = expression-part-unique input expression share first second is is'
rows-unique (Some share) (make count expression) input first second is is' = expression-part-unique input expression share first second is is'
rows-unique (Some share) (merge files) input first second is is' = absurd is
rows-unique (Some share) (embed rule file) input first second is is' = part-unique _ _ share first second is is'

-- what is written of an answer on made input is its summary
pub summary-forth : (input : Input) (count : ℕ) (expression text : List ℕ) → input.command.source ≡ make count expression
    → input.command.share ≡ None → IsTextOf mine input text → IsSummary count expression input.command.threshold text
summary-forth input count expression text own whole (rows, is, same) =
    let all : IsAnswerTo input.command.source input rows = subst (λ share. AreRowsTo share input.command.source input rows) whole is in
    let here : IsAnswerTo (make count expression) input rows = subst (λ source. IsAnswerTo source input rows) own all in (
      here.0,
      here.1,
      rows,
      subst (λ source. IsAnswer (data_by source input (tree_by (λ (u : Use). u.name) here.0)) rows) own here.2,
      same ∙ ap (λ source. output_of source rows) own,
    )

pub summary-back : (input : Input) (count : ℕ) (expression text : List ℕ) → input.command.source ≡ make count expression
    → input.command.share ≡ None → IsSummary count expression input.command.threshold text → IsTextOf mine input text
summary-back input count expression text own whole (tree, reads, rows, answer, same) =
    let here : IsAnswer (input_data input (tree_by (λ (u : Use). u.name) tree)) rows =
    subst (λ source. IsAnswer (data_by source input (tree_by (λ (u : Use). u.name) tree)) rows) (sym own) answer in (
      rows,
      subst (λ share. AreRowsTo share input.command.source input rows) (sym whole) (subst (λ source. IsAnswerTo source input rows) (sym own) (tree, reads, here)),
      same ∙ ap (λ source. output_of source rows) (sym own),
    )

-- an expression that was parsed is read
pub parsed-read : (expression file : List ℕ) (uses : List Use) (tree : Tree Item) → IsParsed expression tree uses
    → IsRead (read expression file) uses tree
parsed-read expression file uses tree parsed =
    let over_uses : Tree Use = tree_by (use_at uses) tree in
    record {
      says = (over_uses, parsed.reads, refl);
      within = parsed.within;
      used = λ u inside. (over_uses, parsed.reads, subst (λ us. Contains us u) (sym parsed.named) inside);
      unknown = λ known fault. (
        (λ unknown. let (other, reads, is) = unknown in
            subst (λ us. IsUnknown known us fault) (ap named_in (ReadsAs-unique expression other over_uses reads parsed.reads) ∙ parsed.named) is),
        (λ is. (over_uses, parsed.reads, subst (λ us. IsUnknown known us fault) (sym parsed.named) is)),
      );
    }

pub made-read : (count : ℕ) (expression : List ℕ) (uses : List Use) (tree : Tree Item) → IsParsed expression tree uses
    → IsRead (make count expression) uses tree
made-read count expression uses tree parsed =
    let is = parsed-read expression [] uses tree parsed in
    record { says = is.says; within = is.within; used = is.used; unknown = is.unknown }
