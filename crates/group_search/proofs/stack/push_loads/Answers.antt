use Rattle.std.proofs.Common.{ℕ, ◌+◌, List, [], ◌∷◌, ◌++◌, take, get_or, sym, ap, ◌∙◌, subst, arith, append_assoc}
use Rattle.std.proofs.lemmas.List.{append-nil}
use Rattle.group_search.specs.declared.loads.LoadedState.{LoadedState}
use Rattle.group_search.specs.declared.step.Step.{Step}
use Rattle.group_search.specs.Steps.{AreAddedUp}
use Rattle.group_search.proofs.RunLemmas.{no_step}
use Rattle.group_search.proofs.AddedLemmas.{later_of, load_by, load_with, take-next, added-first, added-fits, added-same, added-new}
use Rattle.group_search.proofs.stack.push_loads.Goals.{then-step-last, else-step-last+in_ok-push}
use Rattle.group_search.proofs.stack.push_loads.Goals as goal

pub steps-init : goal.steps-init
steps-init c = ([], sym (append-nil c.args.loads.now.items), added-first c.args.run.now c.in-len1-up.len_at_least)

pub overflow_add-last : goal.overflow_add-last
overflow_add-last c =
    let fits = added-fits c.args.run.now c.steps.step-index c.steps.invariant.0 c.steps.last c.steps-test.true c.requires c.steps.invariant.2 in
    omega (arith, fits)

pub steps-preserved : goal.steps-preserved
steps-preserved c =
    let run : List Step = c.args.run.now in
    let i : ℕ = c.steps.step-index in
    let step : Step = get_or (later_of c.args.run.now) c.steps.step-index no_step in
    let more : List LoadedState = c.steps.invariant.0 in
    let last : LoadedState = c.steps.last in
    elim c.if-step-last.branch [
      | then-step-last w ↦ (
        more,
        ap (λ v. v.items) w.loads-is ∙ c.steps.invariant.1,
        subst (λ (l : LoadedState). AreAddedUp (take (i + 1 + 1) run) (more ++ l ∷ [])) (sym w.last-is)
            (subst (λ (l : List Step). AreAddedUp l (more ++ load_with last step ∷ [])) (take-next run i c.steps-test.true)
            (added-same (take (i + 1) run) more last step w.if-step-last.true c.steps.invariant.2)),
      )
      | else-step-last+in_ok-push w ↦ (
        more ++ last ∷ [],
        ap (λ v. v.items) w.loads-is ∙ w.in_ok-push.ensures.items ∙ ap (λ (l : List LoadedState). l ++ last ∷ []) c.steps.invariant.1 ∙ append_assoc c.args.loads.now.items more (last ∷ []),
        subst (λ (l : LoadedState). AreAddedUp (take (i + 1 + 1) run) ((more ++ last ∷ []) ++ l ∷ [])) (sym w.last-is)
            (subst (λ (l : List Step). AreAddedUp l ((more ++ last ∷ []) ++ load_by step ∷ [])) (take-next run i c.steps-test.true)
            (added-new (take (i + 1) run) (more ++ last ∷ []) step c.steps.invariant.2)),
      )
    ]
