use Rattle.std.proofs.Common.{◌≡◌, ◌↔◌, Bool, refl}
use Rattle.std.specs.Prelude.{IsTrue}
use denote.Enum.Bare.{sameb}
use Rattle.pool_schedule.specs.contracts.worker.Stage.{the_type}
use Rattle.pool_schedule.specs.declared.worker.Stage.{Stage}
use Rattle.pool_schedule.specs.declared.worker.Stage.TheVariants.{Pending, Busy, Free}
use Rattle.pool_schedule.proofs.StageLemmas.{read-at, is-at}
use Rattle.pool_schedule.proofs.machine.Machine.is_at.Goals as goal

same-iff : (s t : Stage) (r : Bool) → r ≡ sameb the_type s t → IsTrue r ↔ (s ≡ t)
same-iff Pending Pending r is = ((λ _. refl), (λ _. is))
same-iff Pending Busy r is = ((λ p. absurd (cc)), (λ e. absurd (cc)))
same-iff Pending Free r is = ((λ p. absurd (cc)), (λ e. absurd (cc)))
same-iff Busy Pending r is = ((λ p. absurd (cc)), (λ e. absurd (cc)))
same-iff Busy Busy r is = ((λ _. refl), (λ _. is))
same-iff Busy Free r is = ((λ p. absurd (cc)), (λ e. absurd (cc)))
same-iff Free Pending r is = ((λ p. absurd (cc)), (λ e. absurd (cc)))
same-iff Free Busy r is = ((λ p. absurd (cc)), (λ e. absurd (cc)))
same-iff Free Free r is = ((λ _. refl), (λ _. is))

pub returns : goal.returns
returns g c =
    let iff = is-at c.args.self.now.workers.items c.args.w c.in-Some.worker.now c.stage.result c.args.stage
    (read-at c.args.self.now.workers.items c.deref.result.now c.args.w c.in-Some.worker.now c.deref.ensures.value c.in-Some.ensures.lookup.0 c.in-Some.ensures.lookup.1)
    c.stage.ensures in
    let eq = same-iff c.stage.result c.args.stage c.eq.result c.eq.ensures in
    ((λ t. iff.0 (eq.0 t)), (λ there. eq.1 (iff.1 there)))
