use Rattle.snapshot_project.proofs.OpenLaws.{held-open}
use Rattle.snapshot_project.proofs.laws.kept_snapshots_are_open.Goals as goal

pub returns : goal.returns
returns c = held-open
