use Rattle.desq_run.proofs.CheckedLemmas.{passes-check, not-refused}
use Rattle.desq_run.proofs.laws.a_written_proof_passes_its_check.Goals as goal

pub returns : goal.returns
returns c = record {
  good = λ words input checking text said task accepted is run. passes-check words input checking text said task accepted is run;
  accepted = λ words input checking text said task accepted is run few. not-refused words input checking text said task accepted is run few;
}
