use Rattle.std.proofs.lemmas.Result.{IfOk-weaker}
use Rattle.mining_job.specs.Problems.{data_of, items_of}
use Rattle.sequence_grids.specs.Grids.{items_at}
use Rattle.automaton_model.specs.Members.{IsPivotCode}
use Rattle.cand_automaton.specs.Roots.{IsCodeWithin}
use Rattle.cand_automaton.proofs.RootLemmas.{code-alone}
use Rattle.cand_automaton.proofs.building.coded.Goals as goal

pub returns : goal.returns
returns c =
    let problem = c.args.candidates.now.part.problem in
    let part = c.enter.new.self.part in
    IfOk-weaker c.code_at.result (IsCodeWithin part (items_at part 0)) (λ code. IsPivotCode (data_of problem) problem.ranking.order c.args.pivot code (items_of problem c.args.seq))
    (λ code is. code-alone problem part c.args.seq c.args.pivot c.enter.ensures.problem c.in_ok-enter.ensures.bound c.in_ok-enter.ensures.sequences c.requires.least code is)
    c.code_at.ensures.code
