-- A node may cross threads: what it refers to may be shared by them, and what it owns may cross.
use denote.RattleType.{RattleType}
use denote.Param.Send.{IsSend, IsSync, sendable}
use denote.Param.SendFields.{variants_sync, declared_sync, declared_send}
use denote.Ref.{NamedLft}
use denote.Hole.FixSend.{Syncs, fix_sync}
use Rattle.std.proofs.Crossing.{crosses}
use Rattle.fst_compile.specs.contracts.fst.Fst.TheInside as FstInside
use Rattle.mine_model.specs.contracts.expression.Expr as Expr
use Rattle.mine_model.specs.contracts.expression.Expr.TheKnot as Knot
use Rattle.fst_compile.specs.contracts.fst.Fst as Fst
use Rattle.mining_job.specs.contracts.job.Job as Job
use Rattle.mining_job.specs.contracts.part_seed.PartSeed as Seed
use Rattle.snapshot_project.specs.contracts.part.Part as Part
use Rattle.snapshot_project.specs.contracts.snapshots.Snapshots as Snapshots
use Rattle.snapshot_project.specs.contracts.part.Part.TheInside as PartInside
use Rattle.snapshot_project.specs.contracts.part.Ground as Ground
use Rattle.snapshot_project.specs.contracts.terrain.AnyTerrain as AnyTerrain
use Rattle.snapshot_project.specs.contracts.room.Room as Room
use Rattle.snapshot_project.specs.contracts.room.Room.TheInside as RoomInside
use Rattle.sequence_grids.specs.contracts.alphabet.Alphabet as Alphabet
use Rattle.sequence_grids.specs.contracts.columns.Columns as Columns
use Rattle.sequence_grids.specs.contracts.kinds.Kinds as Kinds
use Rattle.sequence_grids.specs.contracts.tables.Tables as Tables
use Rattle.mask_sums.specs.contracts.sums.MaskedSums as MaskedSums
use Rattle.level_ahead.specs.contracts.ahead.Ahead as Ahead
use Rattle.dfs_growth.specs.contracts.node.Node as Node

-- an expression reaches itself, so it is shown layer by layer
layer-sync : (h : RattleType) → IsSync h → IsSync (Knot.layer-Expr h h h h h h)
layer-sync h own = variants_sync (Knot.type-Expr h h h h h h) (search (sendable, crosses) depth 40 fits 20000)

hole-sync : IsSync Expr.the_hole
hole-sync = fix_sync Expr.the_ring (Expr.by_members (Syncs Expr.the_ring) (record { sync = λ h all. layer-sync (h Expr.the_member) (all Expr.the_member) })) Expr.the_member

expr-sync : IsSync Expr.the_row
expr-sync = let hole = hole-sync in variants_sync Expr.enum (search (sendable, crosses) depth 40 fits 20000)

fst-sync : IsSync Fst.the_row
fst-sync = let i : IsSync FstInside.the_row = declared_sync FstInside.the_type (let e = expr-sync in search (sendable, crosses) depth 40 fits 20000) in search sendable

job-sync : IsSync Job.the_row
job-sync = let f = fst-sync in search (sendable, crosses) depth 40 fits 20000

columns-send : IsSend Columns.the_row
columns-send = search (sendable, crosses) depth 40 fits 20000

columns-sync : IsSync Columns.the_row
columns-sync = search (sendable, crosses) depth 40 fits 20000

kinds-send : IsSend Kinds.the_row
kinds-send = let c = columns-send in search (sendable, crosses) depth 40 fits 20000

kinds-sync : IsSync Kinds.the_row
kinds-sync = let c = columns-sync in search (sendable, crosses) depth 40 fits 20000

tables-send : IsSend Tables.the_row
tables-send = search (sendable, crosses) depth 40 fits 20000

tables-sync : IsSync Tables.the_row
tables-sync = search (sendable, crosses) depth 40 fits 20000

alphabet-send : IsSend Alphabet.the_row
alphabet-send = let k = kinds-send in let t = tables-send in search (sendable, crosses) depth 40 fits 20000

alphabet-sync : IsSync Alphabet.the_row
alphabet-sync = let k = kinds-sync in let t = tables-sync in search (sendable, crosses) depth 40 fits 20000

seed-send : IsSend Seed.the_row
seed-send = search (sendable, crosses) depth 40 fits 20000

snapshots-send : IsSend Snapshots.the_row
snapshots-send = search (sendable, crosses) depth 40 fits 20000

terrain-send : IsSend AnyTerrain.the_row
terrain-send = search (sendable, crosses) depth 40 fits 20000

terrain-sync : IsSync AnyTerrain.the_row
terrain-sync = search (sendable, crosses) depth 40 fits 20000

ground-send : (l : NamedLft) → IsSend (Ground.the_row l)
ground-send l = let j = job-sync in let t = terrain-send in search (sendable, crosses) depth 40 fits 20000

ground-sync : (l : NamedLft) → IsSync (Ground.the_row l)
ground-sync l = let j = job-sync in let t = terrain-sync in search (sendable, crosses) depth 40 fits 20000

part-send : (l : NamedLft) → IsSend (Part.the_row l)
part-send l = let i : IsSend (PartInside.the_row l) = declared_send (PartInside.the_type l) (let g = ground-send l in let h = ground-sync l in search (sendable, crosses) depth 40 fits 20000) in search sendable

part-sync : (l : NamedLft) → IsSync (Part.the_row l)
part-sync l = let i : IsSync (PartInside.the_row l) = declared_sync (PartInside.the_type l) (let g = ground-send l in let h = ground-sync l in search (sendable, crosses) depth 40 fits 20000) in search sendable

pub node-send : (l : NamedLft) → IsSend (Node.the_row l)
node-send l = let j = job-sync in let a = alphabet-send in let b = alphabet-sync in let s = seed-send in let n = snapshots-send in let p = part-send l in let q = part-sync l in search (sendable, crosses) depth 40 fits 20000

sums-send : IsSend MaskedSums.the_row
sums-send = search (sendable, crosses) depth 40 fits 20000

ahead-send : IsSend Ahead.the_row
ahead-send = search (sendable, crosses) depth 40 fits 20000

-- and so may the room of a worker
pub room-send : (l : NamedLft) → IsSend (Room.the_row l)
room-send l = let i : IsSend (RoomInside.the_row l) = declared_send (RoomInside.the_type l) (let g = ground-send l in let h = ground-sync l in let s = sums-send in let a = ahead-send in search (sendable, crosses) depth 40 fits 20000) in search sendable
