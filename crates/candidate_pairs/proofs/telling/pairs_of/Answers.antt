use Rattle.std.proofs.Common.{◌≡◌, ℕ, List, length, sym, ap, ◌∙◌, subst, arith}
use Rattle.std.specs.List.{sum}
use Rattle.mine_model.specs.Counted.{HasPairs, IsTold, told_of}
use Rattle.mine_model.specs.Ranks.{Ranking}
use Rattle.mining_job.specs.Problems.{data_of}
use Rattle.candidate_pairs.proofs.TellingLemmas.{told-never, told-all}
use Rattle.candidate_pairs.proofs.telling.pairs_of.Goals as goal

pub returns-then-count-eq0 : goal.returns-then-count-eq0
returns-then-count-eq0 g c =
    let problem = c.args.job.now in
    let same : length c.ranks.result.now.order ≡ length problem.ranking.order = ap (λ (r : Ranking). length r.order) c.ranks.ensures.ranking in
    let none : length problem.ranking.order ≡ 0 = omega (arith, same, c.count.ensures.count, c.if-count-eq0.true) in
    told-never problem c.ranks.ensures.whole none problem.sequences

pub returns : goal.returns
returns g c =
    let problem = c.args.job.now in
    let shares : List ℕ = c.in_ok-shares.shares.items in
    subst (IsTold (HasPairs (data_of problem) problem.sequences))
    (sym (c.sum_of_told.ensures ∙ ap (λ (xs : List ℕ). told_of (sum xs)) c.as_slice.ensures.value))
    (told-all problem c.args.workers c.requires shares c.in_ok-shares.ensures)
