-- From what was read and found by numbers to the answer by names.
use Rattle.std.proofs.Common.{◌≡◌, ℕ, ◌<◌, ◌≤◌, ◌↔◌, Option, Some, None, List, ◌++◌, map, length, Contains, subst, arith, length-append}
use Rattle.std.specs.List.{AllByRecursion}
use Rattle.std.proofs.lemmas.List.Elements.{All-weaker, recursion_from_All}
use Rattle.mine_model.specs.declared.item.Item.{Item}
use Rattle.mine_model.specs.declared.row.Row.{Row}
use Rattle.mine_model.specs.Hierarchy.{Link}
use Rattle.mine_model.specs.Expression.{Tree, tree_by, named_in}
use Rattle.mine_model.specs.Support.{Sequence}
use Rattle.mine_model.specs.Answer.{Data, NamedRow, Rises, IsAnswer, IsFrequent}
use Rattle.mine_model.specs.Names.{name_of, HasName, AreDistinct, named_row, sequence_by}
use Rattle.mine_model.specs.Ancestry.{Ancestry}
use Rattle.mine_model.specs.declared.mined.Work.{Work}
use Rattle.mine_model.specs.Counted.{HasPairs}
use Rattle.mine_model.specs.Growth.{IsSearchWork}
use Rattle.mine_model.proofs.CountedLemmas.{pairs-forth, search-forth}
use Rattle.mine_model.proofs.NamedAnswer.{named_data, answer-named}
use Rattle.command_line.specs.declared.words.Engine.{Engine}
use Rattle.command_line.specs.declared.share.Share.{Share}
use Rattle.command_line.specs.declared.words.Engine.TheVariants.{Count, Dfs, Pivot, Cand}
use Rattle.mine_model.specs.PartitionWork.{IsPartitionWork, IsBytewiseBefore, IsNamedBefore}
use Rattle.desq_run.specs.Said.{links_said}
use Rattle.desq_run.specs.Ends.{Input, input_data, IsWorkOf}
use Rattle.desq_run.specs.Parts.{IsPartBy, IsShareWork}
use Rattle.desq_run.specs.Inputs.{IsHierarchySaid, IsDatabaseSaid, AreLinksWithin, AreFound}
use Rattle.desq_run.proofs.LinkLemmas.{names-rename}
use Rattle.desq_run.proofs.ShareNameLemmas.{share-names}
use Rattle.desq_run.proofs.PartLemmas.{part-named}
use Rattle.mine_model.proofs.PartitionWorkLemmas.{partition-names}
use Rattle.automaton_model.specs.NamedWork.{IsCandidateSetWork}
use Rattle.automaton_model.proofs.NamedWorkLemmas.{set-work-names}

-- the rows found by numbers, in order, are the answer by names
pub rows-answer : (input : Input) (tree : Tree (List ℕ)) (known added : List (List ℕ)) (h : Ancestry) (db : List (Sequence Item)) (e : Tree Item) (rows : List Row)
    → AreDistinct (known ++ added)
    → IsHierarchySaid input.command.source input.hierarchy known h
    → AreLinksWithin h
    → IsDatabaseSaid input.command.source input.command.weighted input.sequences known (known ++ added) db
    → AllByRecursion (λ (s : Sequence Item). AllByRecursion (HasName (known ++ added)) s.items) db
    → tree_by (name_of (known ++ added)) e ≡ tree
    → AllByRecursion (HasName (known ++ added)) (named_in e)
    → 1 ≤ input.command.threshold
    → ((row : Row) → Contains rows row ↔ IsFrequent (record { links = h.links; sequences = db; expression = e; threshold = input.command.threshold }) row.pattern row.support)
    → Rises (map (named_row (known ++ added)) rows)
    → IsAnswer (input_data input tree) (map (named_row (known ++ added)) rows)
rows-answer input tree known added h db e rows distinct read within is_db numbered same_tree named some frequent rises =
    let names : List (List ℕ) = known ++ added in
    let d : Data Item = record { links = h.links; sequences = db; expression = e; threshold = input.command.threshold } in
    let few : h.items ≤ length names = rw length-append (let items : h.items ≡ length known = read.items in omega (arith, items)) in
    let links_named : AllByRecursion (λ (link : Link Item). HasName names link.child × HasName names link.parent) h.links =
    recursion_from_All (λ (link : Link Item). HasName names link.child × HasName names link.parent) h.links
    (All-weaker (λ (link : Link Item). (link.child.0 < h.items) × (link.parent.0 < h.items)) (λ (link : Link Item). HasName names link.child × HasName names link.parent)
    (λ link both. (omega (arith, both.0, few), omega (arith, both.1, few))) h.links within) in
    let answer : IsAnswer (named_data names (links_said input.command.source input.hierarchy) d) (map (named_row names) rows) =
    answer-named names (links_said input.command.source input.hierarchy) d (names-rename input.command.source input.hierarchy known added h distinct read within)
    (record { links = links_named; sequences = numbered; expression = named }) some rows frequent rises in
    subst (λ (s : List (Sequence (List ℕ))). IsAnswer (record { links = links_said input.command.source input.hierarchy; sequences = s; expression = tree; threshold = input.command.threshold }) (map (named_row names) rows)) is_db.same
    (subst (λ (t : Tree (List ℕ)). IsAnswer (record { links = links_said input.command.source input.hierarchy; sequences = map (sequence_by (name_of names)) db; expression = t; threshold = input.command.threshold }) (map (named_row names) rows)) same_tree answer)

-- the work found by numbers is the work by names
pub work-answer : (input : Input) (tree : Tree (List ℕ)) (known added : List (List ℕ)) (h : Ancestry) (db : List (Sequence Item)) (e : Tree Item) (share : Option Share) (engine : Engine) (work : Work)
    → AreDistinct (known ++ added)
    → IsHierarchySaid input.command.source input.hierarchy known h
    → AreLinksWithin h
    → IsDatabaseSaid input.command.source input.command.weighted input.sequences known (known ++ added) db
    → AllByRecursion (λ (s : Sequence Item). AllByRecursion (HasName (known ++ added)) s.items) db
    → tree_by (name_of (known ++ added)) e ≡ tree
    → AllByRecursion (HasName (known ++ added)) (named_in e) → 1 ≤ input.command.threshold
    → IsWorkOf (IsNamedBefore (known ++ added)) share engine (record { links = h.links; sequences = db; expression = e; threshold = input.command.threshold }) work
    → IsWorkOf IsBytewiseBefore share engine (input_data input tree) work
work-answer input tree known added h db e None Count work distinct read within is_db numbered same_tree named some is =
    let names : List (List ℕ) = known ++ added in
    let d : Data Item = record { links = h.links; sequences = db; expression = e; threshold = input.command.threshold } in
    let pairs = pairs-forth (name_of names) (links_said input.command.source input.hierarchy) d (HasName names) (names-rename input.command.source input.hierarchy known added h distinct read within)
    named numbered db is.pairs.0 numbered is.pairs.1 in
    record {
      nodes = is.nodes;
      parts = is.parts;
      pairs = (
        is.pairs.0,
        subst (λ (s : List (Sequence (List ℕ))). HasPairs (record { links = links_said input.command.source input.hierarchy; sequences = s; expression = tree; threshold = input.command.threshold }) s is.pairs.0) is_db.same
            (subst (λ (t : Tree (List ℕ)). HasPairs (record { links = links_said input.command.source input.hierarchy; sequences = map (sequence_by (name_of names)) db; expression = t; threshold = input.command.threshold }) (map (sequence_by (name_of names)) db) is.pairs.0) same_tree pairs),
        is.pairs.2,
      );
    }
work-answer input tree known added h db e None Dfs work distinct read within is_db numbered same_tree named some is =
    let names : List (List ℕ) = known ++ added in
    let d : Data Item = record { links = h.links; sequences = db; expression = e; threshold = input.command.threshold } in
    let search = search-forth (name_of names) (links_said input.command.source input.hierarchy) d (HasName names) (names-rename input.command.source input.hierarchy known added h distinct read within)
    named numbered some work is in
    subst (λ (s : List (Sequence (List ℕ))). IsSearchWork (record { links = links_said input.command.source input.hierarchy; sequences = s; expression = tree; threshold = input.command.threshold }) work) is_db.same
    (subst (λ (t : Tree (List ℕ)). IsSearchWork (record { links = links_said input.command.source input.hierarchy; sequences = map (sequence_by (name_of names)) db; expression = t; threshold = input.command.threshold }) work) same_tree search)
work-answer input tree known added h db e None Pivot work distinct read within is_db numbered same_tree named some is =
    let names : List (List ℕ) = known ++ added in
    let d : Data Item = record { links = h.links; sequences = db; expression = e; threshold = input.command.threshold } in
    let partition = partition-names (name_of names) (links_said input.command.source input.hierarchy) d (HasName names) (names-rename input.command.source input.hierarchy known added h distinct read within)
    named numbered IsBytewiseBefore some work is in
    subst (λ (s : List (Sequence (List ℕ))). IsPartitionWork IsBytewiseBefore (record { links = links_said input.command.source input.hierarchy; sequences = s; expression = tree; threshold = input.command.threshold }) work) is_db.same
    (subst (λ (t : Tree (List ℕ)). IsPartitionWork IsBytewiseBefore (record { links = links_said input.command.source input.hierarchy; sequences = map (sequence_by (name_of names)) db; expression = t; threshold = input.command.threshold }) work) same_tree partition)
work-answer input tree known added h db e None Cand work distinct read within is_db numbered same_tree named some is =
    let names : List (List ℕ) = known ++ added in
    let d : Data Item = record { links = h.links; sequences = db; expression = e; threshold = input.command.threshold } in
    let sets = set-work-names (name_of names) (links_said input.command.source input.hierarchy) d (HasName names) (names-rename input.command.source input.hierarchy known added h distinct read within)
    named numbered IsBytewiseBefore some work is in
    subst (λ (s : List (Sequence (List ℕ))). IsCandidateSetWork IsBytewiseBefore (record { links = links_said input.command.source input.hierarchy; sequences = s; expression = tree; threshold = input.command.threshold }) work) is_db.same
    (subst (λ (t : Tree (List ℕ)). IsCandidateSetWork IsBytewiseBefore (record { links = links_said input.command.source input.hierarchy; sequences = map (sequence_by (name_of names)) db; expression = t; threshold = input.command.threshold }) work) same_tree sets)
work-answer input tree known added h db e (Some share) engine work distinct read within is_db numbered same_tree named some is =
    let names : List (List ℕ) = known ++ added in
    let d : Data Item = record { links = h.links; sequences = db; expression = e; threshold = input.command.threshold } in
    let shared = share-names (name_of names) (links_said input.command.source input.hierarchy) d (HasName names) (names-rename input.command.source input.hierarchy known added h distinct read within)
    named numbered IsBytewiseBefore some share work is in
    subst (λ (s : List (Sequence (List ℕ))). IsShareWork IsBytewiseBefore (record { links = links_said input.command.source input.hierarchy; sequences = s; expression = tree; threshold = input.command.threshold }) share work) is_db.same
    (subst (λ (t : Tree (List ℕ)). IsShareWork IsBytewiseBefore (record { links = links_said input.command.source input.hierarchy; sequences = map (sequence_by (name_of names)) db; expression = t; threshold = input.command.threshold }) share work) same_tree shared)

-- what the rows found are of the data: the answer, or its part
abbrev pub AreRowsOf : Option Share → Data (List ℕ) → List NamedRow → Type 0
AreRowsOf None d rows = IsAnswer d rows
AreRowsOf (Some share) d rows = IsPartBy (λ row. IsFrequent d row.pattern row.support) d share rows

-- the rows found by numbers, in order, are those by names
pub found-answer : (input : Input) (tree : Tree (List ℕ)) (known added : List (List ℕ)) (h : Ancestry) (db : List (Sequence Item)) (e : Tree Item) (share : Option Share)
    (rows : List Row)
    → AreDistinct (known ++ added)
    → IsHierarchySaid input.command.source input.hierarchy known h
    → AreLinksWithin h
    → IsDatabaseSaid input.command.source input.command.weighted input.sequences known (known ++ added) db
    → AllByRecursion (λ (s : Sequence Item). AllByRecursion (HasName (known ++ added)) s.items) db
    → tree_by (name_of (known ++ added)) e ≡ tree
    → AllByRecursion (HasName (known ++ added)) (named_in e) → 1 ≤ input.command.threshold
    → AreFound (IsNamedBefore (known ++ added)) share (record { links = h.links; sequences = db; expression = e; threshold = input.command.threshold }) rows
    → Rises (map (named_row (known ++ added)) rows)
    → AreRowsOf share (input_data input tree) (map (named_row (known ++ added)) rows)
found-answer input tree known added h db e None rows distinct read within is_db numbered same_tree named some found rises =
    rows-answer input tree known added h db e rows distinct read within is_db numbered same_tree named some found rises
found-answer input tree known added h db e (Some share) rows distinct read within is_db numbered same_tree named some found rises =
    let names : List (List ℕ) = known ++ added in
    let d : Data Item = record { links = h.links; sequences = db; expression = e; threshold = input.command.threshold } in
    let part = part-named names (links_said input.command.source input.hierarchy) d (names-rename input.command.source input.hierarchy known added h distinct read within)
    numbered named some share rows found rises in
    subst (λ (s : List (Sequence (List ℕ))). AreRowsOf (Some share) (record { links = links_said input.command.source input.hierarchy; sequences = s; expression = tree; threshold = input.command.threshold }) (map (named_row names) rows)) is_db.same
    (subst (λ (t : Tree (List ℕ)). AreRowsOf (Some share) (record { links = links_said input.command.source input.hierarchy; sequences = map (sequence_by (name_of names)) db; expression = t; threshold = input.command.threshold }) (map (named_row names) rows)) same_tree part)
