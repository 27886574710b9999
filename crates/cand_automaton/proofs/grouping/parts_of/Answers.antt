use Rattle.std.proofs.Common.{◌≡◌, ◌<◌, ◌≤◌, ◌+◌, ◌++◌, ◌∷◌, ◌∙◌, [], ℕ, List, length, take, get_or, sym, ap, subst, arith, refl}
use Rattle.std.specs.Prelude.{IfSome}
use Rattle.std.specs.List.{AllPairs, AllByRecursion, AllZip}
use Rattle.std.proofs.lemmas.List.{take_all, length-map}
use Rattle.mine_model.specs.declared.item.Item.{Item}
use Rattle.mine_model.specs.Database.{sequence_at}
use Rattle.mine_model.specs.Support.{Sequence}
use Rattle.mining_job.specs.Problems.{Problem, data_of}
use Rattle.mining_job.specs.Parts.{pivot_of}
use Rattle.sequence_grids.specs.Grids.{GridList, items_at}
use Rattle.snapshot_project.specs.Snapshots.{bound_of}
use Rattle.automaton_model.specs.declared.groups.Group.{Group}
use Rattle.automaton_model.specs.Groups.{part_of}
use Rattle.automaton_model.specs.Merges.{IsCodedBy}
use Rattle.cand_automaton.specs.Roots.{IsCodeWithin}
use Rattle.cand_automaton.proofs.LoadLemmas.{part-next}
use Rattle.cand_automaton.proofs.GroupLemmas.{coded-more}
use Rattle.cand_automaton.proofs.SeedLemmas.{seed-at, seed-few, seed-inside}
use Rattle.cand_automaton.proofs.grouping.parts_of.Goals as goal

pub enter-requires-clause-rising : goal.enter-requires-clause-rising
enter-requires-clause-rising c = subst (AllPairs (λ low high. low < high)) (sym c.as_slice-sequences.ensures.value) c.requires.complete.rising

pub enter-requires-clause-within : goal.enter-requires-clause-within
enter-requires-clause-within c =
    subst (λ (p : Problem). AllByRecursion (λ i. i < length p.sequences) c.as_slice-sequences.result.now) (sym c.requires.problem)
    (subst (AllByRecursion (λ i. i < length c.args.job.now.sequences)) (sym c.as_slice-sequences.ensures.value) (seed-inside c.args.job.now c.args.seed.now c.requires.complete))

pub enter-requires-clause-most : goal.enter-requires-clause-most
enter-requires-clause-most c =
    subst (λ (p : Problem). IfSome c.args.seed.now.pivot (λ rank. rank ≤ length p.ranking.order)) (sym c.requires.problem) c.requires.complete.most

pub loop-index-init : goal.loop-index-init
loop-index-init c =
    let problem : c.enter.new.self.part.problem ≡ c.args.job.now = c.enter.ensures.problem ∙ c.requires.problem in
    let bound : c.enter.new.self.part.bound ≡ bound_of (length c.args.job.now.ranking.order) c.args.seed.now.pivot =
    c.in_ok-enter.ensures.bound ∙ ap (λ (p : Problem). bound_of (length p.ranking.order) c.args.seed.now.pivot) c.requires.problem in
    let sequences : c.enter.new.self.part.sequences ≡ c.args.seed.now.sequences.items = c.in_ok-enter.ensures.sequences ∙ c.as_slice-sequences.ensures.value in
    record {
      part = λ i. record { problem = problem i; bound = bound i; sequences = sequences i };
      parts = subst (λ (l : List Group). AllZip (IsCodedBy (data_of c.args.job.now) c.args.job.now.ranking.order (pivot_of c.args.seed.now.pivot)) [] l) (sym c.new-parts.ensures.items) tt;
    }

pub code_at-requires : goal.code_at-requires
code_at-requires c =
    let value = c.as_slice-sequences.ensures.value in
    omega (arith, c.loop-index-test.true, ap length value, ap (λ (p : GridList). length p.sequences) c.loop-index.invariant.part)

pub overflow_cast-index : goal.overflow_cast-index
overflow_cast-index c =
    let value = c.as_slice-sequences.ensures.value in
    let limits = rw c.db-db.ensures.sequences at c.sequences-sequences.ensures.limits in
    let few = seed-few c.args.job.now c.args.seed.now c.requires.complete limits
    (omega (arith, c.sequences-sequences.ensures.count, c.sequences-sequences.ensures.most, ap length c.db-db.ensures.sequences)) in
    omega (arith, few, c.loop-index-test.true, ap length value)

pub weight-count-requires : goal.weight-count-requires
weight-count-requires c =
    let items : List ℕ = c.args.seed.now.sequences.items in
    let value = c.as_slice-sequences.ensures.value in
    let inside : c.loop-index.index < length items = omega (arith, c.loop-index-test.true, ap length value) in
    let at = seed-at c.args.job.now c.args.seed.now c.requires.complete c.loop-index.index inside in
    omega (arith, at, ap (λ (l : List ℕ). get_or l c.loop-index.index 0) value, ap length c.db-db.ensures.sequences)

pub loop-index-preserved : goal.loop-index-preserved
loop-index-preserved c =
    let job = c.args.job.now in
    let seed = c.args.seed.now in
    let d = data_of job in
    let items : List ℕ = seed.sequences.items in
    let index : ℕ = c.loop-index.index in
    let number : ℕ = get_or items index 0 in
    let value = c.as_slice-sequences.ensures.value in
    let inside : index < length items = omega (arith, c.loop-index-test.true, ap length value) in
    let weight : c.weight-count.result ≡ (sequence_at d.sequences number).weight =
    c.weight-count.ensures.weight ∙ ap (λ (l : List (Sequence Item)). (sequence_at l (get_or c.as_slice-sequences.result.now index 0)).weight) c.db-db.ensures.sequences
    ∙ ap (λ (l : List ℕ). (sequence_at d.sequences (get_or l index 0)).weight) value in
    let within = subst (λ (p : GridList). IsCodeWithin p (items_at p index) c.in_ok-automaton.automaton) c.loop-index.invariant.part c.in_ok-automaton.ensures.code in
    let coded = within seed.pivot c.requires.complete.least refl in
    let part : Group = record { automaton = c.in_ok-automaton.automaton; count = c.weight-count.result } in
    record {
      part = c.code_at.ensures.part ∙ c.loop-index.invariant.part;
      parts = subst (λ (l : List Group). AllZip (IsCodedBy d job.ranking.order (pivot_of seed.pivot)) (take (index + 1) (part_of d items)) l) (sym c.in_ok-push.ensures.items)
          (subst (λ (l : List (Sequence Item)). AllZip (IsCodedBy d job.ranking.order (pivot_of seed.pivot)) l (c.loop-index.parts.items ++ part ∷ [])) (sym (part-next d items index number inside refl))
          (coded-more d job.ranking.order (pivot_of seed.pivot) (take index (part_of d items)) c.loop-index.parts.items (sequence_at d.sequences number) part c.loop-index.invariant.parts (coded, weight)));
    }

pub returns : goal.returns
returns c =
    let job = c.args.job.now in
    let d = data_of job in
    let items : List ℕ = c.args.seed.now.sequences.items in
    let value = c.as_slice-sequences.ensures.value in
    let at : ℕ → Sequence Item = λ i. sequence_at d.sequences i in
    let whole : take c.loop-index.index (part_of d items) ≡ part_of d items =
    take_all c.loop-index.index (part_of d items) (omega (arith, c.loop-index-test.false, ap length value, length-map items at)) in
    subst (λ (l : List (Sequence Item)). AllZip (IsCodedBy d job.ranking.order (pivot_of c.args.seed.now.pivot)) l c.loop-index.parts.items) whole c.loop-index.invariant.parts
