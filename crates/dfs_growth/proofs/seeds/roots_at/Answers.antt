use Rattle.std.proofs.Common.{◌≡◌, ℕ, ◌≤◌, ◌<◌, [], ◌∷◌, List, length, sum_by, sym, ap, ◌∙◌, subst, arith}
use Rattle.std.specs.List.{AllByRecursion, AllPairs}
use Rattle.std.proofs.lemmas.List.Elements.{All-push}
use Rattle.mine_model.specs.Database.{sequence_at}
use Rattle.snapshot_project.specs.Terrains.{AreAll}
use Rattle.snapshot_project.proofs.PartLemmas.{rising-few, all-within}
use Rattle.dfs_growth.specs.Nodes.{Prefix, prefix_at}
use Rattle.dfs_growth.specs.Projections.{IsNode}
use Rattle.dfs_growth.specs.declared.state.State.TheVariants.{Projected}
use Rattle.dfs_growth.proofs.NodeLemmas.{problem-at}
use Rattle.dfs_growth.proofs.RootLemmas.{whole-by, whole-root, whole-without}
use Rattle.dfs_growth.proofs.seeds.roots_at.Goals as goal

pub weight-requires : goal.weight-requires
weight-requires c =
    let job = c.args.job.now in
    let part = c.args.part in
    let all : AreAll job part.bound part.sequences = c.requires.part.sequences_are in
    record {
      rising = subst (AllPairs (λ low high. low < high)) (sym c.sequences.ensures) all.rising;
      within = subst (AllByRecursion (λ i. i < length job.sequences)) (sym c.sequences.ensures) (all-within job part.bound part.sequences all);
    }

pub returns-then-weight-threshold-clause-roots : goal.returns-then-weight-threshold-clause-roots
returns-then-weight-threshold-clause-roots c =
    let job = c.args.job.now in
    let part = c.args.part in
    let all : AreAll job part.bound part.sequences = c.requires.part.sequences_are in
    let most : length part.sequences ≤ length job.sequences = rising-few part.sequences (length job.sequences) all.rising (all-within job part.bound part.sequences all) in
    let few : length part.sequences < 9223372036854775808 = omega (arith, most, c.sequences-count.ensures.count, c.sequences-count.ensures.most, ap length c.db.ensures.sequences) in
    let weighs : c.weight.result ≡ sum_by (λ i. (sequence_at job.sequences i).weight) part.sequences =
    c.weight.ensures ∙ ap (sum_by (λ i. (sequence_at job.sequences i).weight)) c.sequences.ensures in
    let light : sum_by (λ i. (sequence_at job.sequences i).weight) part.sequences < job.threshold = omega (arith, weighs, c.if-weight-threshold.true, c.threshold.ensures.threshold) in
    rw c.new.ensures.items (whole-without job c.threshold.ensures.whole c.new.result part c.requires.part few light)

pub invariant_of-push : goal.invariant_of-push
invariant_of-push c =
    let job = c.args.job.now in
    let part = c.args.part in
    let all : AreAll job part.bound part.sequences = c.requires.part.sequences_are in
    let most : length part.sequences ≤ length job.sequences = rising-few part.sequences (length job.sequences) all.rising (all-within job part.bound part.sequences all) in
    let few : length part.sequences < 9223372036854775808 = omega (arith, most, c.sequences-count.ensures.count, c.sequences-count.ensures.most, ap length c.db.ensures.sequences) in
    subst (λ (label : List ℕ). IsNode job label (Projected part c.args.snapshots)) (sym c.in_ok-label.ensures) (
      omega arith,
      record {
        part_by = whole-by job c.threshold.ensures.whole c.new-nodes.result part c.requires.part few;
        projected = c.requires.start job.threshold;
      },
    )

pub returns-clause-problem : goal.returns-clause-problem
returns-clause-problem c =
    let job = c.args.job.now in
    rw (c.in_ok-push.ensures.items, c.new-nodes.ensures.items)
    (All-push (λ (node : Prefix). node.problem ≡ job) [] (prefix_at job c.in_ok-label.label.items) (λ k d inside. absurd (omega (arith, inside))) (problem-at job c.in_ok-label.label.items))

pub returns-clause-roots : goal.returns-clause-roots
returns-clause-roots c =
    let job = c.args.job.now in
    let part = c.args.part in
    let all : AreAll job part.bound part.sequences = c.requires.part.sequences_are in
    let most : length part.sequences ≤ length job.sequences = rising-few part.sequences (length job.sequences) all.rising (all-within job part.bound part.sequences all) in
    let few : length part.sequences < 9223372036854775808 = omega (arith, most, c.sequences-count.ensures.count, c.sequences-count.ensures.most, ap length c.db.ensures.sequences) in
    let weighs : c.weight.result ≡ sum_by (λ i. (sequence_at job.sequences i).weight) part.sequences =
    c.weight.ensures ∙ ap (sum_by (λ i. (sequence_at job.sequences i).weight)) c.sequences.ensures in
    let enough : job.threshold ≤ sum_by (λ i. (sequence_at job.sequences i).weight) part.sequences = omega (arith, weighs, c.if-weight-threshold.false, c.threshold.ensures.threshold) in
    let node : Prefix = prefix_at job c.in_ok-label.label.items in
    rw (c.in_ok-push.ensures.items, c.new-nodes.ensures.items)
    (whole-root job c.threshold.ensures.whole c.new-nodes.result part c.requires.part few node (ap (prefix_at job) c.in_ok-label.ensures) enough)
