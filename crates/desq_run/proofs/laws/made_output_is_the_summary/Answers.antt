use Rattle.std.proofs.Common.{sym, subst}
use Rattle.command_line.specs.Words.{Task}
use Rattle.desq_run.specs.Ends.{IsTextOf}
use Rattle.desq_run.proofs.SourceLemmas.{summary-forth, summary-back}
use Rattle.desq_run.proofs.laws.made_output_is_the_summary.Goals as goal

pub returns : goal.returns
returns c input count expression text own whole mining = (
  (λ is. summary-forth input count expression text own whole (subst (λ (task : Task). IsTextOf task input text) mining is)),
  (λ is. subst (λ (task : Task). IsTextOf task input text) (sym mining) (summary-back input count expression text own whole is)),
)
