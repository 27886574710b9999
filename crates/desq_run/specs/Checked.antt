-- The run that checks what another run wrote as a proof.
use Rattle.std.specs.Prelude.{◌≡◌, ℕ, List}
use Rattle.command_line.specs.Words.{check}
use Rattle.desq_run.specs.Ends.{Input}

-- The run checks a file that holds these bytes, over the data of the other run. Its words may differ from
-- those of the other run in what does not touch the data.
pub record IsCheckRun (input : Input) (proof : List ℕ) (checking : Input) : Type 0 where
  pub file : List ℕ
  pub task : checking.command.task ≡ check file
  pub source : checking.command.source ≡ input.command.source
  pub weighted : checking.command.weighted ≡ input.command.weighted
  pub threshold : checking.command.threshold ≡ input.command.threshold
  pub hierarchy : checking.hierarchy ≡ input.hierarchy
  pub sequences : checking.sequences ≡ input.sequences
  pub bytes : checking.proof ≡ proof
