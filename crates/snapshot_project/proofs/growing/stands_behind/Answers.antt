use Rattle.place_records.specs.Ranks.{ranks_of}
use Rattle.snapshot_project.proofs.RoomLemmas.{files-full}
use Rattle.snapshot_project.proofs.WalkedLemmas.{ready-groups}
use Rattle.snapshot_project.proofs.growing.stands_behind.Goals as goal

pub finish-requires : goal.finish-requires
finish-requires g c =
    let (groups, are) = ready-groups c.args.over.now c.args.aim c.args.stands.now c.args.tables.now.files.room c.requires.ready in
    let (sequences, visited, places) = c.requires.places groups are in
    record { full = rw (c.in_ok-file_stands.ensures.filed groups sequences are visited) (files-full (ranks_of c.args.over.now.records.table) c.args.aim sequences c.args.found.now places) }
