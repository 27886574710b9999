use Rattle.std.proofs.Common.{Bool, Result, Ok, ap}
use Rattle.mine_model.specs.declared.memory.NoMemory.{NoMemory}
use Rattle.cand_automaton.proofs.alone.whole_of.Goals as goal

pub returns-else-branch-clause-free : goal.returns-else-branch-clause-free
returns-else-branch-clause-free c = λ none. c.in_ok-is_whole.ensures.free (ap {B = Result Bool NoMemory} (λ (b : Bool). Ok b) c.if-branch.false)
