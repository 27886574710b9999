use Rattle.std.proofs.Common.{◌≡◌, ◌≤◌, ◌∙◌, ◌+◌, ◌∷◌, ℕ, suc, Bool, List, Some, length, slice_get, refl, sym, ap, subst, arith}
use Rattle.prefix_sieve.specs.Buckets.{flags_of}
use Rattle.sieve_passes.specs.declared.share.Share.{Share}
use Rattle.worker_shares.specs.Shares.{share_of}
use Rattle.sieve_passes.specs.Shares.{AreShares, HaveAll}
use Rattle.sieve_passes.specs.Sums.{HasAll}
use Rattle.sieve_passes.proofs.WorkerLemmas.{apart-from, shares-joined}
use Rattle.sieve_passes.proofs.sums.level_of.Goals as goal

pub join_all-requires : goal.join_all-requires
join_all-requires c = λ k share at.
    let (buckets, are) = c.requires.shares in
    let problem = c.args.job.now in
    let first = c.remove-first.result in
    let others : List Share = c.as_slice.result.now in
    let some : 1 ≤ length c.args.shares.items = omega (arith, are.all, c.requires.some) in
    let apart : first ∷ others ≡ c.args.shares.items = apart-from c.args.shares.items first others some c.remove-first.ensures.value (c.as_slice.ensures.value ∙ c.remove-first.ensures.items) in
    let here : AreShares problem c.args.workers buckets (first ∷ others) = subst (AreShares problem c.args.workers buckets) (sym apart) are in
    (here.each (suc k) share at).long ∙ sym (here.each 0 first refl).long

pub returns-clause-shares : goal.returns-clause-shares
returns-clause-shares c = λ buckets are.
    let problem = c.args.job.now in
    let first = c.remove-first.result in
    let others : List Share = c.remove-first.new.self.items in
    let some : 1 ≤ length c.args.shares.items = omega (arith, are.all, c.requires.some) in
    let apart : first ∷ others ≡ c.args.shares.items = apart-from c.args.shares.items first others some c.remove-first.ensures.value c.remove-first.ensures.items in
    let here : AreShares problem c.args.workers buckets (first ∷ others) = subst (AreShares problem c.args.workers buckets) (sym apart) are in
    let was = here.each 0 first refl in
    subst (AreShares problem c.args.workers buckets) (sym c.in_ok-insert.ensures.items)
    (shares-joined problem c.args.workers buckets first c.join_all.new.first others here (record {
      own = c.join_all.ensures.own problem c.args.workers 0 was.own;
      long = c.join_all.ensures.long ∙ was.long;
    }))

pub returns-clause-level : goal.returns-clause-level
returns-clause-level c = λ levels have.
    let problem = c.args.job.now in
    let (buckets, are) = c.requires.shares in
    let first = c.remove-first.result in
    let others : List Share = c.as_slice.result.now in
    let some : 1 ≤ length c.args.shares.items = omega (arith, are.all, c.requires.some) in
    let apart : first ∷ others ≡ c.args.shares.items = apart-from c.args.shares.items first others some c.remove-first.ensures.value (c.as_slice.ensures.value ∙ c.remove-first.ensures.items) in
    let all : HaveAll problem levels c.args.workers (first ∷ others) = subst (HaveAll problem levels c.args.workers) (sym apart) have in
    let count : c.args.workers ≡ length others + 1 = omega (arith, are.all, ap (λ (ss : List Share). length ss) apart) in (
      c.join_all.new.first.buckets,
      c.in_ok-level.ensures ∙ ap (λ n. flags_of n c.join_all.new.first.buckets) c.threshold.ensures.threshold,
      c.join_all.ensures.joined problem levels c.args.workers count (all 0 first refl) (λ k share at.
          let next : suc k ≡ k + 1 = omega arith in
          subst (λ (w : ℕ). HasAll problem levels (share_of problem.sequences c.args.workers w) share.buckets) next (all (suc k) share at)),
    )
