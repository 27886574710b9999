use Rattle.std.proofs.Common.{refl, ap, ◌∙◌, ◌++◌}
use Rattle.search_engine.specs.Choices.{choices_from, choices_of}
use Rattle.search_engine.proofs.ChoiceLemmas.{choices_from-next, choices_from-made}
use Rattle.search_engine.proofs.choices.choices.Goals as goal

pub loop-init : goal.loop-init
loop-init c = ap (λ l. l ++ choices_from 4096 c.args.seed) c.in_ok-choices.ensures.items

pub loop-preserved : goal.loop-preserved
loop-preserved c =
    choices_from-next c.loop.counter 4096 c.loop.state c.next_state-state.result _ c.loop.choices.items c.push.new.self.items c.loop-test.true c.next_state-state.ensures refl c.in_ok-push.ensures.items
    ∙ c.loop.invariant

pub returns : goal.returns
returns c = choices_from-made c.loop.counter 4096 c.loop.state c.loop.choices.items (choices_of c.args.seed) c.loop-test.false c.loop.invariant
