use Rattle.std.proofs.Common.{◌∙◌, ◌∷◌, ◌≤◌, List, length, sym, subst, arith}
use Rattle.prefix_counts.specs.Prefixes.{Prefixes}
use Rattle.worker_threads.proofs.DoingLemmas.{first-apart}
use Rattle.counting_passes.specs.Counts.{HaveAllCounted}
use Rattle.counting_passes.proofs.counting.joined.Goals as goal

pub remove-counts-requires : goal.remove-counts-requires
remove-counts-requires c = let (levels, have) = c.requires.shares in omega (arith, have.all, c.requires.some)

pub join_others-requires : goal.join_others-requires
join_others-requires c =
    let (levels, have) = c.requires.shares in
    let shares : List Prefixes = c.args.shares.items in
    let first = c.remove-counts.result in
    let some : 1 ≤ length shares = omega (arith, have.all, c.requires.some) in
    let apart = first-apart shares first some c.remove-counts.ensures.value in (
      levels,
      subst (λ (others : List Prefixes). HaveAllCounted c.args.job.now levels c.args.workers (first ∷ others)) (sym (c.as_slice.ensures.value ∙ c.remove-counts.ensures.items))
          (subst (HaveAllCounted c.args.job.now levels c.args.workers) (sym apart) have),
    )

pub returns : goal.returns
returns c = λ levels have.
    let shares : List Prefixes = c.args.shares.items in
    let first = c.remove-counts.result in
    let some : 1 ≤ length shares = omega (arith, have.all, c.requires.some) in
    let apart = first-apart shares first some c.remove-counts.ensures.value in
    c.in_ok-join_others.ensures levels
    (subst (λ (others : List Prefixes). HaveAllCounted c.args.job.now levels c.args.workers (first ∷ others)) (sym (c.as_slice.ensures.value ∙ c.remove-counts.ensures.items))
    (subst (HaveAllCounted c.args.job.now levels c.args.workers) (sym apart) have))
