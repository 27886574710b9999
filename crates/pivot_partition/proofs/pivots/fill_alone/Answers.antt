use Rattle.std.proofs.Common.{◌<◌, ◌↔◌, ℕ, OnOk, length, sym, subst}
use Rattle.std.specs.List.{Contains}
use Rattle.mining_job.specs.Problems.{Problem, items_of}
use Rattle.pivot_partition.specs.Pivots.{IsPivotOf}
use Rattle.pivot_partition.proofs.pivots.fill_alone.Goals as goal

pub fill-filled-requires : goal.fill-filled-requires
fill-filled-requires c = subst (λ (p : Problem). c.args.sequence < length p.sequences) (sym c.in_ok-pivots.ensures) c.requires

pub returns-clause-exact : goal.returns-clause-exact
returns-clause-exact c = subst (λ (p : Problem). OnOk c.fill-filled.result ((rank : ℕ) → Contains c.fill-filled.new.found.items rank ↔ IsPivotOf p (items_of p c.args.sequence) rank)) c.in_ok-pivots.ensures c.fill-filled.ensures.exact
