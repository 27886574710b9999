use Rattle.clap.specs.Words.{found_of, rows_of}
use Rattle.command_line.proofs.ShareTexts.{given-text}
use Rattle.command_line.proofs.words.given_share.Goals as goal

pub returns-in_err-read_share-in-Some : goal.returns-in_err-read_share-in-Some
returns-in_err-read_share-in-Some c =
    rw c.from_residual.ensures
    (given-text (rows_of (found_of c.args.matches.now)) c.in-Some.text.now c.in-Some.ensures c.in_err-read_share-in-Some.ensures)
