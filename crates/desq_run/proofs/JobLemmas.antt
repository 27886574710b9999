-- What the job of a command says of the input.
use Rattle.std.proofs.Common.{◌≡◌, ◌↔◌, ◌<◌, ◌≤◌, ◌∙◌, ℕ, Option, List, ◌++◌, ◌+◌, map, length, Contains, sym, ap, subst, arith, length-append}
use Rattle.std.specs.List.{AllByRecursion}
use Rattle.std.proofs.lemmas.List.Elements.{All-weaker, recursion_from_All}
use Rattle.mine_model.specs.declared.item.Item.{Item}
use Rattle.mine_model.specs.declared.fault.Fault.{Fault}
use Rattle.mine_model.specs.Answer.{Data}
use Rattle.mine_model.specs.Expression.{Tree, tree_by}
use Rattle.mine_model.specs.Hierarchy.{Link, IsAncestor}
use Rattle.mine_model.specs.Names.{name_of, HasName, AreDistinct, AreNamed, sequence_by}
use Rattle.mine_model.specs.Refusal.{names_of, items_of, sequences_of}
use Rattle.mine_model.specs.Text.{lines_of}
use Rattle.mine_model.proofs.ListLemmas.{AllByRecursion-from}
use Rattle.mine_model.proofs.NumberingLemmas.{Renames}
use Rattle.patex_parser.specs.Parsing.{named_tree}
use Rattle.mining_job.specs.Problems.{Problem, data_of}
use Rattle.pattern_proof.specs.ProofLines.{AreFileNames}
use Rattle.pattern_proof.proofs.FieldLemmas.{file-names}
use Rattle.proof_names.specs.Numberings.{IsNumbering}
use Rattle.command_line.specs.Words.{Source, read, Command, IsCommand, IsOfFile}
use Rattle.desq_run.specs.Sources.{SaysTree}
use Rattle.desq_run.specs.Said.{names_said, links_said, sequences_said}
use Rattle.desq_run.specs.Ends.{Input, IsInput, IsRowsRefusal, known_names, input_data, HasSource, AcceptsHierarchy, HoldsData, AcceptsData}
use Rattle.desq_run.specs.Inputs.{IsHierarchySaid, IsJobFor}
use Rattle.desq_run.proofs.EndLemmas.{read_at, hierarchy-accepted, found_at, names_same, data-accepted, nothing-refused}
use Rattle.desq_run.proofs.LinkLemmas.{names-rename, links-among, Contains-both, Contains-front}

module _ (words : List (List ℕ)) (holds : List ℕ → Option (List ℕ)) (c : Command) (said : IsCommand words c) (names : List (List ℕ)) (problem : Problem)
    (job : IsJobFor holds c names problem) where
  pub job-source : HasSource words c
  job-source = (said, job.source)

  pub job-hierarchy : AcceptsHierarchy holds c
  job-hierarchy = hierarchy-accepted words holds c (said, job.source) job.inputs.known job.inputs.before job.inputs.hierarchy

  pub job-data : AcceptsData holds c
  job-data = data-accepted words holds c (said, job.source) job.inputs.known job.inputs.before job.inputs.hierarchy names job.db job.inputs.sequences job.uses job.tree job.read job.known

  pub job-rows : (input : Input) → IsInput words holds input → (fault : Fault) → IsRowsRefusal input fault → ⊥
  job-rows = nothing-refused words holds c (said, job.source) job.inputs.known job.inputs.before job.inputs.hierarchy names job.db job.inputs.sequences job.uses job.tree job.read job.known

  abbrev pub job_tree : Tree (List ℕ)
  job_tree = named_tree job.uses job.tree

  module _ (input : Input) (is : HoldsData holds c input) where
    pub job-says : SaysTree input.command.source job_tree
    job-says = subst (λ (d : Command). SaysTree d.source job_tree) is.same job.read.says

    hierarchy_here : IsHierarchySaid input.command.source input.hierarchy job.inputs.known job.inputs.before
    hierarchy_here = read_at words holds c (said, job.source) job.inputs.known job.inputs.before job.inputs.hierarchy input is

    same_names : (name : List ℕ) → Contains names name ↔ Contains (known_names input) name
    same_names = names_same words holds c (said, job.source) job.inputs.known job.inputs.before job.inputs.hierarchy names job.db job.inputs.sequences input is

    -- of files the names are names of files
    file_names : IsOfFile c → AreFileNames names
    file_names of_file = file-names names job.distinct (lines_of input.hierarchy) input.command.weighted input.sequences (λ name held.
        let source_is : input.command.source ≡ read of_file.expression of_file.file = sym (ap (λ (d : Command). d.source) is.same) ∙ of_file.source in
        let here : Contains (names_of (lines_of input.hierarchy) ++ items_of (sequences_of input.command.weighted input.sequences)) name =
        subst (λ (source : Source). Contains (names_said source input.hierarchy ++ items_of (sequences_said source input.command.weighted input.sequences)) name) source_is
        ((same_names name).0 held) in
        Contains-both (names_of (lines_of input.hierarchy)) (items_of (sequences_of input.command.weighted input.sequences)) name here)

    renames : Renames job.inputs.before.links (links_said input.command.source input.hierarchy) (HasName names) (name_of names)
    renames = subst (λ l. Renames job.inputs.before.links (links_said input.command.source input.hierarchy) (HasName l) (name_of l)) (sym job.inputs.behind)
        (names-rename input.command.source input.hierarchy job.inputs.known job.inputs.added job.inputs.before (subst AreDistinct job.inputs.behind job.distinct) hierarchy_here job.inputs.within)

    few : job.inputs.before.items ≤ length names
    few =
        let items : job.inputs.before.items ≡ length job.inputs.known = hierarchy_here.items in
        let long : length names ≡ length job.inputs.known + length job.inputs.added = ap length job.inputs.behind ∙ length-append job.inputs.known job.inputs.added in
        omega (arith, items, long)

    links_named : AllByRecursion (λ (link : Link Item). HasName names link.child × HasName names link.parent) job.h.links
    links_named =
        subst (AllByRecursion (λ (link : Link Item). HasName names link.child × HasName names link.parent)) (sym job.inputs.links)
        (recursion_from_All (λ (link : Link Item). HasName names link.child × HasName names link.parent) job.inputs.before.links
        (All-weaker (λ (link : Link Item). (link.child.0 < job.inputs.before.items) × (link.parent.0 < job.inputs.before.items))
        (λ (link : Link Item). HasName names link.child × HasName names link.parent)
        (λ link both. (let bound = few in (omega (arith, both.0, bound), omega (arith, both.1, bound)))) job.inputs.before.links job.inputs.within))

    all_named : AreNamed names (data_of problem)
    all_named = subst (AreNamed names) (sym job.job.sets) (record { links = links_named; sequences = job.numbered; expression = job.job.named })

    links_are : problem.hierarchy.links ≡ job.inputs.before.links
    links_are = ap (λ (d : Data Item). d.links) job.job.sets ∙ job.inputs.links

    -- the job is that of the data of the input, by the numbers of the names
    pub job-numbers : IsOfFile c → IsNumbering (input_data input job_tree) (known_names input) names problem
    job-numbers of_file = record {
      files = file_names of_file;
      held = λ name. ((same_names name).1, (same_names name).0);
      named = all_named;
      sequences = ap (λ (d : Data Item). map (sequence_by (name_of names)) d.sequences) job.job.sets
          ∙ (found_at words holds c (said, job.source) job.inputs.known job.inputs.before job.inputs.hierarchy names job.db job.inputs.sequences input is).same;
      expression = ap (λ (d : Data Item). tree_by (name_of names) d.expression) job.job.sets ∙ job.job.same;
      threshold = ap (λ (d : Data Item). d.threshold) job.job.sets ∙ ap (λ (d : Command). d.threshold) is.same;
      above = λ w t w_held t_held. (
        (λ up. renames.forth w t w_held t_held (subst (λ l. IsAncestor l w t) links_are up)),
        (λ up. subst (λ l. IsAncestor l w t) (sym links_are) (renames.back w t w_held t_held up)),
      );
      parents = AllByRecursion-from (λ (link : Link (List ℕ)). Contains names link.parent) (links_said input.command.source input.hierarchy) (λ link held.
          (same_names link.parent).1 (Contains-front (names_said input.command.source input.hierarchy)
          (items_of (sequences_said input.command.source input.command.weighted input.sequences)) link.parent
          (links-among input.command.source input.hierarchy link held).1));
    }
