use Rattle.std.proofs.Common.{◌≡◌, ◌≤◌, ◌<◌, ◌++◌, List, [], map, length, sum_by, append_assoc, ap, sym, subst, ◌∙◌, arith}
use Rattle.std.proofs.lemmas.List.{append-nil, nil_from_length}
use Rattle.std.specs.Vec.Iter.{into_iter_items}
use Rattle.std.proofs.lemmas.List.Elements.{All-push}
use Rattle.mine_model.specs.Database.{sequence_at}
use Rattle.mining_job.specs.declared.part_seed.PartSeed.{PartSeed}
use Rattle.search_tree.specs.SearchTree.{AreRootsOf}
use Rattle.mining_job.specs.Problems.{data_of}
use Rattle.mining_job.specs.Parts.{pivot_of, IsComplete}
use Rattle.dfs_growth.specs.Nodes.{Prefix, label_at}
use Rattle.dfs_growth.proofs.RootLemmas.{roots-push, roots-pass, next-has, seed-within}
use Rattle.dfs_growth.proofs.seeds.roots.Goals as goal

pub weight-requires-clause-within : goal.weight-requires-clause-within
weight-requires-clause-within c =
    let complete : IsComplete c.args.job.now c.in-Some.seed =
    next-has (IsComplete c.args.job.now) c.seeds.yielded _ _ c.args.seeds.items c.in-Some.seed c.seeds.invariant.seen c.in-Some.ensures.steps.0 c.requires.complete in
    rw c.as_slice-in-seeds.ensures.value (seed-within c.args.job.now c.in-Some.seed complete)

pub weight-requires-clause-rising : goal.weight-requires-clause-rising
weight-requires-clause-rising c =
    let complete : IsComplete c.args.job.now c.in-Some.seed =
    next-has (IsComplete c.args.job.now) c.seeds.yielded _ _ c.args.seeds.items c.in-Some.seed c.seeds.invariant.seen c.in-Some.ensures.steps.0 c.requires.complete in
    rw c.as_slice-in-seeds.ensures.value complete.rising

pub seeds-preserved-in_ok-push : goal.seeds-preserved-in_ok-push
seeds-preserved-in_ok-push c =
    let job = c.args.job.now in
    let steps = c.in-Some.ensures.steps in
    let is = c.seeds.invariant in
    let seed = c.in-Some.seed in
    let complete : IsComplete job seed = next-has (IsComplete job) c.seeds.yielded _ _ c.args.seeds.items seed is.seen steps.0 c.requires.complete in
    let weight = c.weight.ensures ∙ ap (sum_by (λ i. (sequence_at job.sequences i).weight)) c.as_slice-in-seeds.ensures.value in
    let enough : job.threshold ≤ sum_by (λ i. (sequence_at job.sequences i).weight) seed.sequences.items = omega (arith, weight, c.if-weight-threshold.true, c.threshold-threshold.ensures.threshold) in
    let node = c.in_ok-root.ensures in
    record {
      seen = rw append_assoc (ap (λ (xs : List PartSeed). c.seeds.yielded ++ xs) (sym steps.0) ∙ is.seen);
      count = omega (arith, steps.1, is.count, ap length steps.0);
      problem = rw c.in_ok-push.ensures.items (All-push (λ (node : Prefix). node.problem ≡ job) c.seeds.nodes.items c.in_ok-root.field-0 is.problem (ap (λ (p : Prefix). p.problem) node));
      roots = rw c.in_ok-push.ensures.items (roots-push job c.seeds.yielded c.seeds.nodes.items seed c.in_ok-root.field-0 complete enough node is.roots);
    }

pub seeds-preserved : goal.seeds-preserved
seeds-preserved c =
    let job = c.args.job.now in
    let steps = c.in-Some.ensures.steps in
    let is = c.seeds.invariant in
    let seed = c.in-Some.seed in
    let complete : IsComplete job seed = next-has (IsComplete job) c.seeds.yielded _ _ c.args.seeds.items seed is.seen steps.0 c.requires.complete in
    let weight = c.weight.ensures ∙ ap (sum_by (λ i. (sequence_at job.sequences i).weight)) c.as_slice-in-seeds.ensures.value in
    let few : sum_by (λ i. (sequence_at job.sequences i).weight) seed.sequences.items < job.threshold = omega (arith, weight, c.if-weight-threshold.false, c.threshold-threshold.ensures.threshold) in
    record {
      seen = rw append_assoc (ap (λ (xs : List PartSeed). c.seeds.yielded ++ xs) (sym steps.0) ∙ is.seen);
      count = omega (arith, steps.1, is.count, ap length steps.0);
      problem = is.problem;
      roots = roots-pass job c.seeds.yielded c.seeds.nodes.items seed complete few is.roots;
    }

pub returns-clause-roots : goal.returns-clause-roots
returns-clause-roots c =
    let job = c.args.job.now in
    let none : into_iter_items c.seeds.seed-iterator ≡ [] = nil_from_length (into_iter_items c.seeds.seed-iterator) (sym c.seeds.invariant.count ∙ c.in-None.ensures.steps.0) in
    let all : c.seeds.yielded ≡ c.args.seeds.items =
    sym (append-nil c.seeds.yielded) ∙ ap (λ (rest : List PartSeed). c.seeds.yielded ++ rest) (sym none) ∙ c.seeds.invariant.seen in
    subst (λ (seeds : List PartSeed). AreRootsOf (data_of job) job.ranking.order (map (λ (seed : PartSeed). pivot_of seed.pivot) seeds) (map label_at c.seeds.nodes.items))
    all c.seeds.invariant.roots
