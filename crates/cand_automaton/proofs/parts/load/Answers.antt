use Rattle.std.proofs.Common.{List, sym, subst}
use Rattle.mining_job.specs.Problems.{data_of}
use Rattle.mining_job.specs.Parts.{pivot_of}
use Rattle.sequence_grids.specs.Grids.{items_at}
use Rattle.automaton_model.specs.Automata.{StateValue}
use Rattle.cand_automaton.specs.Loads.{AreLoadsOf}
use Rattle.cand_automaton.proofs.LoadLemmas.{loads-stay, loads-more}
use Rattle.cand_automaton.proofs.parts.load.Goals as goal

pub returns-clause-loads : goal.returns-clause-loads
returns-clause-loads c = λ pivot sequences least bound are.
    let part = c.args.candidates.now.part in
    let d = data_of part.problem in
    let order = part.problem.ranking.order in
    let loads = c.args.room.now.loads in
    let (more, grown) = c.in_ok-root.ensures.grows in
    let later = subst (λ (states : List StateValue). AreLoadsOf d order (pivot_of pivot) sequences states loads) (sym grown)
    (loads-stay d order (pivot_of pivot) sequences c.args.room.now.registry more loads c.requires.registry are) in
    loads-more d order (pivot_of pivot) sequences (record { items = items_at part c.args.index; weight = c.args.weight }) c.root_of.new.registry c.in_ok-root.root loads c.add.new.self
    later (c.in_ok-root.ensures.root pivot least bound) c.in_ok-add.ensures
