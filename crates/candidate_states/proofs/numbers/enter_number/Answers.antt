use Rattle.std.proofs.Common.{◌≡◌, ◌⊎◌, ◌∙◌, get_or, subst}
use Rattle.std.proofs.lemmas.List.{get_or_default}
use Rattle.candidate_states.specs.declared.numbers.Numbers.{Numbers}
use Rattle.candidate_states.specs.declared.stages.Stage.{Stage}
use Rattle.candidate_states.specs.Stages.{unnumbered, number_by}
use Rattle.candidate_states.proofs.LinkLemmas.{number-entered}
use Rattle.candidate_states.proofs.numbers.enter_number.Goals as goal

pub returns : goal.returns
returns c =
    let items = c.args.numbers.now.items in
    let at : c.index.result.now ≡ get_or items c.args.node unnumbered = c.index.ensures ∙ get_or_default items c.args.node c.index.result.now unnumbered c.requires in
    number-entered items c.args.node c.args.stage c.args.number c.with_number.result c.requires c.with_number.ensures.here
    (subst (λ (n : Numbers). (other : Stage) → (other ≡ c.args.stage) ⊎ (number_by c.with_number.result other ≡ number_by n other)) at c.with_number.ensures.others)
