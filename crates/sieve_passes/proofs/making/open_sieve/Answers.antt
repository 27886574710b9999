use Rattle.std.proofs.Common.{◌∙◌, ◌++◌, ◌∷◌, [], ◌≡◌, Bool, List, length, replicate, sym, ap, subst}
use Rattle.prefix_sieve.specs.Buckets.{top}
use Rattle.sieve_passes.specs.Sums.{AreLevelsOf}
use Rattle.sieve_passes.proofs.LevelLemmas.{levels-none, levels-more, open-enough}
use Rattle.sieve_passes.proofs.making.open_sieve.Goals as goal

pub returns-clause-levels : goal.returns-clause-levels
returns-clause-levels c =
    let problem = c.args.job.now in
    let level : List Bool = c.in_ok-level.level in
    let only : c.push.new.self ≡ [] ++ level ∷ [] = c.in_ok-push.ensures.ok ∙ ap (λ (ls : List (List Bool)). ls ++ level ∷ []) c.new-sieve.ensures in
    subst (λ (ls : List (List Bool)). AreLevelsOf problem ls) (sym only)
    (levels-more problem [] level (replicate 64 top) (levels-none problem) (c.in_ok-level.ensures problem.threshold) (open-enough problem []))

pub returns-clause-depth : goal.returns-clause-depth
returns-clause-depth c =
    ap (λ (ls : List (List Bool)). length ls) (c.in_ok-push.ensures.ok ∙ ap (λ (ls : List (List Bool)). ls ++ c.in_ok-level.level ∷ []) c.new-sieve.ensures)
