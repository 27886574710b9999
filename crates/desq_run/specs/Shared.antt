-- The runs of all shares of one command, and the run that merges their outputs.
use Rattle.std.specs.Prelude.{◌≡◌, ℕ, ◌≤◌, Option, Some, None, List}
use Rattle.mine_model.specs.Answer.{NamedRow}
use Rattle.command_line.specs.Words.{merge, mine, IsCommand}
use Rattle.command_line.specs.declared.share.Share.{Share}
use Rattle.desq_run.specs.Ends.{Input, IsPartTo}

-- the same input, where this share is asked for
abbrev pub with_share : Option Share → Input → Input
with_share share input = record input { command = record input.command { share = share } }

-- one of so many shares
abbrev pub share_of : ℕ → ℕ → Share
share_of of index = record { index = index; of = of }

-- for each share there are words that ask for it, of this command else, and its run finds these rows
pub record AreShareRuns (input : Input) (of : ℕ) (part : ℕ → List NamedRow) : Type 0 where
  pub some : 1 ≤ of
  pub said : (index : ℕ) → 1 ≤ index → index ≤ of → (words : List (List ℕ))
      × IsCommand words (with_share (Some (share_of of index)) input).command
  pub found : (index : ℕ) → 1 ≤ index → index ≤ of
      → IsPartTo input.command.source input (share_of of index) (part index)

-- the run merges these files, with the threshold of the other run
pub record IsMergeRun (input : Input) (files : List (List ℕ)) (merging : Input) : Type 0 where
  pub names : List (List ℕ)
  pub source : merging.command.source ≡ merge names
  pub task : merging.command.task ≡ mine
  pub share : merging.command.share ≡ None
  pub threshold : merging.command.threshold ≡ input.command.threshold
  pub files_are : merging.merged ≡ files
