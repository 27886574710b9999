use Rattle.std.proofs.lemmas.Result.{IfOk-weaker}
use Rattle.sequence_grids.specs.Grids.{items_at}
use Rattle.automaton_model.specs.Automata.{Accepts}
use Rattle.automaton_model.specs.Codes.{IsCodeOf}
use Rattle.cand_automaton.specs.Roots.{IsCodeWithin}
use Rattle.cand_automaton.proofs.RootLemmas.{code-within}
use Rattle.cand_automaton.proofs.building.code_at.Goals as goal

pub returns-clause-code : goal.returns-clause-code
returns-clause-code c =
    let part = c.args.candidates.now.part in
    IfOk-weaker c.code_from.result (IsCodeOf (Accepts c.root_of.new.registry c.in_ok-root.root)) (IsCodeWithin part (items_at part c.args.index))
    (λ code is. code-within part (items_at part c.args.index) c.root_of.new.registry c.in_ok-root.root code c.in_ok-root.ensures.root is) c.code_from.ensures
