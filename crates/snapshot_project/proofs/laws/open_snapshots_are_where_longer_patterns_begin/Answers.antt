use Rattle.snapshot_project.proofs.OpenLaws.{open-longer}
use Rattle.snapshot_project.proofs.laws.open_snapshots_are_where_longer_patterns_begin.Goals as goal

pub returns : goal.returns
returns c = open-longer
