use Rattle.std.proofs.Common.{sym, subst}
use Rattle.std.specs.Prelude.{All}
use Rattle.pool_schedule.specs.Worker.{HasNothing}
use Rattle.pool_schedule.proofs.StageLemmas.{quiet-iff}
use Rattle.pool_schedule.proofs.machine.Machine.quiet.Goals as goal

pub returns : goal.returns
returns g c label kids = (
  (λ idle. (quiet-iff label kids c.args.self.now).0 (subst (All HasNothing) c.as_slice.ensures.value (c.are_idle.ensures.0 idle))),
  (λ quiet. c.are_idle.ensures.1 (subst (All HasNothing) (sym c.as_slice.ensures.value) ((quiet-iff label kids c.args.self.now).1 quiet))),
)
