use Rattle.std.proofs.Common.{subst, ap, ◌∙◌}
use Rattle.command_line.specs.Words.{Task}
use Rattle.proof_names.proofs.SoundRowLemmas.{good-sound}
use Rattle.desq_run.specs.Said.{checked_text}
use Rattle.desq_run.specs.Ends.{IsTextOf, input_data, known_names}
use Rattle.mine_model.specs.Text.{lines_of}
use Rattle.desq_run.proofs.laws.a_checked_proof_shows_its_rows.Goals as goal

pub returns : goal.returns
returns c input file text task is =
    let (count, (tree, says, good), written) = subst (λ (t : Task). IsTextOf t input text) task is in (
      tree,
      says,
      good.rows,
      good.said,
      written ∙ ap checked_text good.counted,
      (λ row held. (let shown = good-sound (input_data input tree) (known_names input) (lines_of input.proof) count good row held in (shown.0, shown.2))),
    )
