use Rattle.std.proofs.Common.{◌≡◌, ℕ, false, Some}
use Rattle.std.proofs.lemmas.Result.{IfOk-weaker}
use Rattle.candidate_states.specs.Roots.{IsRootOf}
use Rattle.candidate_states.specs.Kept.{state_in}
use Rattle.candidate_states.proofs.StateLemmas.{root-right}
use Rattle.candidate_states.proofs.root.root_state.Goals as goal

pub make_state-requires-clause-targets : goal.make_state-requires-clause-targets
make_state-requires-clause-targets c = c.in_ok-make_all.ensures.targets 0 c.requires.root

pub returns-clause-root : goal.returns-clause-root
returns-clause-root c =
    IfOk-weaker c.make_state.result (λ (n : ℕ). state_in c.make_state.new.made.items 0 false ≡ Some n) (λ (n : ℕ). IsRootOf c.args.graph.now.nodes c.make_state.new.registry n)
    (λ n is. root-right c.args.graph.now.nodes c.make_state.new.registry n (c.make_state.ensures.states 0 false n is)) c.make_state.ensures.made
