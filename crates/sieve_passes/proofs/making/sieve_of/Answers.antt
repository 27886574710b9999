use Rattle.std.proofs.Common.{◌∙◌, ◌+◌, Bool, List, length, sym, ap, subst, arith}
use Rattle.std.proofs.lemmas.List.{length_push}
use Rattle.sieve_passes.specs.Sums.{AreLevelsOf}
use Rattle.sieve_passes.proofs.LevelLemmas.{levels-more}
use Rattle.sieve_passes.proofs.making.sieve_of.Goals as goal

pub passed_by_all-requires-after_bounds : goal.passed_by_all-requires-after_bounds
passed_by_all-requires-after_bounds g c κs within = let (buckets, are) = c.requires.shares in (buckets, c.loop.invariant.shares buckets are)

pub level_of-requires-clause-shares : goal.level_of-requires-clause-shares
level_of-requires-clause-shares g c = let (buckets, are) = c.requires.shares in (buckets, c.in_ok-passed.ensures.shares buckets (c.loop.invariant.shares buckets are))

pub loop-preserved : goal.loop-preserved
loop-preserved g c =
    let problem = c.args.job.now in
    let levels : List (List Bool) = c.loop.sieve in
    let level : List Bool = c.in_ok-level.level in
    let (sums, is, has) = c.in_ok-level.ensures.level levels c.in_ok-passed.ensures.all in
    record {
      levels = subst (λ (ls : List (List Bool)). AreLevelsOf problem ls) (sym c.in_ok-push.ensures.ok) (levels-more problem levels level sums c.loop.invariant.levels is has);
      depth = ap (λ (ls : List (List Bool)). length ls) c.in_ok-push.ensures.ok ∙ length_push levels level ∙ ap (λ n. n + 1) c.loop.invariant.depth;
      shares = λ buckets are. c.in_ok-level.ensures.shares buckets (c.in_ok-passed.ensures.shares buckets (c.loop.invariant.shares buckets are));
    }
