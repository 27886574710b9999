use Rattle.std.proofs.Common.{◌≡◌, arith, ℕ, ◌-◌, ◌<◌, ◌↔◌, List, subst, length, get_or, Some, true, false}
use Rattle.std.specs.List.{slice_get, Contains}
use Rattle.std.specs.Bool.{IsTrue}
use Rattle.std.proofs.Common.{rules}
use Rattle.std.proofs.lemmas.Option.{slice_get-get_or}
use Rattle.mine_model.proofs.ListLemmas.{Contains-none}
use Rattle.mine_model.specs.declared.item.Item.{Item}
use Rattle.mine_model.specs.Ancestry.{Ancestry}
use Rattle.mine_model.specs.Numbered.{leaf_of}
use Rattle.mine_model.specs.Generation.{Matches, MayWrite}
use Rattle.fst_compile.specs.declared.edge.Label.{Label}
use Rattle.fst_compile.specs.Transducer.{Transducer}
use Rattle.sequence_grids.proofs.KindLemmas.{label_at, named_label, silent_reads, silent_writes, captured_silent, captured_writes, held_by_sort, rising_by_sort}
use Rattle.sequence_grids.specs.Grids.{WritesRank}
use Rattle.std.proofs.lemmas.List.Sorted.{IsNonDecreasingBy-from_sort}
use Rattle.sequence_grids.proofs.kinds.read_at.Goals as goal
use Rattle.sequence_grids.proofs.kinds.read_at.Goals.{After-is_captured}

pub outputs-requires-clause-named : goal.outputs-requires-clause-named
outputs-requires-clause-named c =
    let d : Label = record { leaf = c.leaf-leaf.result; captured = false } in
    let inside : c.args.k - 1 < length c.args.job.now.transducer.labels = omega (arith, c.requires.state.0, c.requires.state.1) in
    let same : c.leaf-leaf.result ≡ (get_or c.args.job.now.transducer.labels (c.args.k - 1) d).leaf =
    subst (λ (m : Transducer). c.leaf-leaf.result ≡ (get_or m.labels (c.args.k - 1) d).leaf) c.fst.ensures.transducer (c.leaf-leaf.ensures d) in
    rw (c.hierarchy.ensures.hierarchy, same) (named_label c.args.job.now c.fst.ensures.whole (c.args.k - 1) (get_or c.args.job.now.transducer.labels (c.args.k - 1) d) (slice_get-get_or c.args.job.now.transducer.labels (c.args.k - 1) d inside))

the_label : (c : After-is_captured) → slice_get c.args.job.now.transducer.labels (c.args.k - 1) ≡ Some (record { leaf = c.leaf-leaf.result; captured = c.is_captured.result })
the_label c =
    let inside : c.args.k - 1 < length c.args.job.now.transducer.labels = omega (arith, c.requires.state.0, c.requires.state.1) in
    label_at c.args.job.now.transducer.labels (c.args.k - 1) c.leaf-leaf.result c.is_captured.result inside
    (λ d. subst (λ (m : Transducer). c.leaf-leaf.result ≡ (get_or m.labels (c.args.k - 1) d).leaf) c.fst.ensures.transducer (c.leaf-leaf.ensures d))
    (λ d. subst (λ (m : Transducer). c.is_captured.result ≡ (get_or m.labels (c.args.k - 1) d).captured) c.fst-2.ensures.transducer (c.is_captured.ensures d))

pub returns-then-not-is_captured-clause-silent : goal.returns-then-not-is_captured-clause-silent
returns-then-not-is_captured-clause-silent c =
    let there = the_label (goal.at.returns-then-not-is_captured-clause-silent c).After-is_captured in
    let label : slice_get c.args.job.now.transducer.labels (c.args.k - 1) ≡ Some (record { leaf = c.leaf-leaf.result; captured = false }) = rw c.if-not-is_captured.true at there in
    let matches : IsTrue c.in_ok-matches.matches ↔ Matches c.args.job.now.hierarchy.links (leaf_of c.leaf-leaf.result) c.args.t =
    subst (λ (h : Ancestry). IsTrue c.in_ok-matches.matches ↔ Matches h.links (leaf_of c.leaf-leaf.result) c.args.t) c.hierarchy.ensures.hierarchy c.in_ok-matches.ensures.matches in
    let reads = silent_reads c.args.job.now c.args.bound c.args.t c.args.k c.leaf-leaf.result label in
    ((λ yes. reads.0 (matches.0 yes)), (λ h. matches.1 (reads.1 h)))

pub returns-then-not-is_captured-clause-found : goal.returns-then-not-is_captured-clause-found
returns-then-not-is_captured-clause-found c rank =
    let there = the_label (goal.at.returns-then-not-is_captured-clause-found c).After-is_captured in
    let label : slice_get c.args.job.now.transducer.labels (c.args.k - 1) ≡ Some (record { leaf = c.leaf-leaf.result; captured = false }) = rw c.if-not-is_captured.true at there in (
      (λ held. absurd (Contains-none rank (subst (λ (xs : List ℕ). Contains xs rank) c.clear.ensures.items held))),
      (λ writes. absurd (silent_writes c.args.job.now c.args.bound c.args.t c.args.k c.leaf-leaf.result label rank writes)),
    )

pub returns-clause-silent : goal.returns-clause-silent
returns-clause-silent c =
    let there = the_label (goal.at.returns-clause-silent c).After-is_captured in
    let label : slice_get c.args.job.now.transducer.labels (c.args.k - 1) ≡ Some (record { leaf = c.leaf-leaf.result; captured = true }) = rw c.if-not-is_captured.false at there in
    ((λ yes. absurd (search rules)), (λ reads. absurd (captured_silent c.args.job.now c.args.bound c.args.t c.args.k c.leaf-leaf.result label reads)))

pub returns-clause-found : goal.returns-clause-found
returns-clause-found c =
    let there = the_label (goal.at.returns-clause-found c).After-is_captured in
    let label : slice_get c.args.job.now.transducer.labels (c.args.k - 1) ≡ Some (record { leaf = c.leaf-leaf.result; captured = true }) = rw c.if-not-is_captured.false at there in
    held_by_sort c.push_ranks.new.found.items c.sort_unstable.new.self.items (λ rank. WritesRank c.args.job.now c.args.bound c.args.t c.args.k rank) c.sort_unstable.ensures.permutation
    (captured_writes c.args.job.now c.args.bound c.args.t c.args.k c.leaf-leaf.result label c.outputs.new.out.items c.push_ranks.new.found.items
    (subst (λ (h : Ancestry). (v : Item) → Contains c.outputs.new.out.items v ↔ (Matches h.links (leaf_of c.leaf-leaf.result) c.args.t × MayWrite h.links (leaf_of c.leaf-leaf.result) c.args.t v))
    c.hierarchy.ensures.hierarchy c.in_ok-matches.ensures.outputs)
    (rw (c.as_slice.ensures.value, c.ranks.ensures.ranking) at c.in_ok-push_ranks.ensures.ranks))

pub returns-clause-rising : goal.returns-clause-rising
returns-clause-rising c =
    rising_by_sort c.push_ranks.new.found.items c.sort_unstable.new.self.items c.in_ok-push_ranks.ensures.once c.sort_unstable.ensures.permutation
    (IsNonDecreasingBy-from_sort (λ (n : ℕ). n) c.sort_unstable.new.self.items c.sort_unstable.ensures.sorted)

pub returns-then-not-is_captured-clause-rising : goal.returns-then-not-is_captured-clause-rising
returns-then-not-is_captured-clause-rising c = rw c.clear.ensures.items (λ i j d less within. absurd (omega arith))
