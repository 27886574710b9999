use Rattle.std.proofs.Common.{◌≡◌, Some, None, set, sym, ap, ◌∙◌, ◌++◌, ◌∷◌, [], ℕ, List, subst}
use Rattle.std.proofs.lemmas.List.{append-nil}
use Rattle.std.specs.Option.{option_to_list}
use Rattle.std.proofs.lemmas.Option.{get_or_from_slice_get}
use Rattle.pool_schedule.specs.Machine.{PostsNode}
use Rattle.pool_schedule.specs.declared.machine.Machine.{Machine}
use Rattle.pool_schedule.specs.declared.worker.Worker.{Worker}
use Rattle.pool_schedule.proofs.StepLemmas.{at-now}
use Rattle.pool_schedule.proofs.stepping.post.Goals as goal
use Rattle.pool_schedule.proofs.stepping.post.Goals.{in-Some-row+in_ok-push-2, in_default-row}

pub returns-after-row-2 : goal.returns-after-row-2
returns-after-row-2 g c =
    elim c.match-row-2.branch [
      | in-Some-row+in_ok-push-2 w ↦ subst (λ (m : Machine g.row.N.Denot). PostsNode c.args.w c.args.machine.now m) (sym w.machine-is) (record {
        worker = c.index_mut.result.now;
        pending = c.in-Some.pending;
        at = at-now c.args.machine.now.workers.items c.args.w c.requires.0 c.index_mut.result.now c.requires.1 c.index_mut.ensures.value;
        is = sym c.take.ensures.value ∙ c.in-Some.is;
        workers = ap (λ p. set c.args.machine.now.workers.items c.args.w (record { deque = c.index_mut.result.now.deque; stack = c.index_mut.result.now.stack; pending = p })) c.take.ensures.after;
        labels = c.in_ok-push.ensures.pushed ∙ ap (λ (l : List ℕ). c.args.machine.now.posted.labels ++ l ∷ []) c.numbers.ensures;
        rows = w.in_ok-push-2.ensures.items ∙ ap (λ r. c.args.machine.now.posted.rows.items ++ option_to_list r) (sym w.in-Some-row.is);
      })
      | in_default-row w ↦ subst (λ (m : Machine g.row.N.Denot). PostsNode c.args.w c.args.machine.now m) (sym w.machine-is) (record {
        worker = c.index_mut.result.now;
        pending = c.in-Some.pending;
        at = at-now c.args.machine.now.workers.items c.args.w c.requires.0 c.index_mut.result.now c.requires.1 c.index_mut.ensures.value;
        is = sym c.take.ensures.value ∙ c.in-Some.is;
        workers = ap (λ p. set c.args.machine.now.workers.items c.args.w (record { deque = c.index_mut.result.now.deque; stack = c.index_mut.result.now.stack; pending = p })) c.take.ensures.after;
        labels = c.in_ok-push.ensures.pushed ∙ ap (λ (l : List ℕ). c.args.machine.now.posted.labels ++ l ∷ []) c.numbers.ensures;
        rows = sym (append-nil c.args.machine.now.posted.rows.items) ∙ ap (λ r. c.args.machine.now.posted.rows.items ++ option_to_list r) (sym w.in_default-row.is);
      })
    ]

pub returns-in_default : goal.returns-in_default
returns-in_default g c =
    let same : c.index_mut.result.now ≡ c.requires.0 = c.index_mut.ensures.value ∙ get_or_from_slice_get c.args.machine.now.workers.items c.args.w c.requires.0 c.index_mut.result.now c.requires.1 in
    let none : c.requires.0.pending ≡ None = ap (λ (x : Worker g.row.N.Denot). x.pending) (sym same) ∙ sym c.take.ensures.value ∙ c.in_default.is in
    let some : c.requires.0.pending ≡ Some c.requires.2.0 = c.requires.2.1 in
    absurd (cc)
