-- A share may cross threads: what it refers to may be shared by them, and what it owns may cross.
use denote.RattleType.{RattleType}
use denote.Param.Send.{IsSend, IsSync, sendable}
use denote.Param.SendFields.{variants_sync, variants_send, declared_sync, declared_send}
use denote.Ref.{NamedLft}
use denote.Hole.FixSend.{Syncs, fix_sync}
use Rattle.std.proofs.Crossing.{crosses}
use Rattle.fst_compile.specs.contracts.fst.Fst.TheInside as FstInside
use Rattle.mine_model.specs.contracts.expression.Expr as Expr
use Rattle.mine_model.specs.contracts.expression.Expr.TheKnot as Knot
use Rattle.fst_compile.specs.contracts.fst.Fst as Fst
use Rattle.mining_job.specs.contracts.job.Job as Job
use Rattle.candidate_graph.specs.contracts.graph.Graph as Graph
use Rattle.candidate_graph.specs.contracts.nodes.Nodes as Nodes
use Rattle.walk_memo.specs.contracts.memo.Memo as Memo
use Rattle.place_records.specs.contracts.part_records.Records as Records
use Rattle.sequence_candidates.specs.contracts.terrain.Terrain as Terrain
use Rattle.sequence_candidates.specs.contracts.terrain.AnyTerrain as AnyTerrain
use Rattle.sequence_candidates.specs.contracts.candidates.Candidates as Candidates
use Rattle.sequence_candidates.specs.contracts.candidates.Candidates.TheInside as CandidatesInside
use Rattle.sieve_passes.specs.contracts.branches.PartBranches as PartBranches
use Rattle.sieve_passes.specs.contracts.branches.PartBranches.TheInside as BranchesInside
use Rattle.sieve_passes.specs.contracts.share.Share as Share

-- an expression reaches itself, so it is shown layer by layer
layer-sync : (h : RattleType) → IsSync h → IsSync (Knot.layer-Expr h h h h h h)
layer-sync h own = variants_sync (Knot.type-Expr h h h h h h) (search (sendable, crosses) depth 40 fits 20000)

hole-sync : IsSync Expr.the_hole
hole-sync = fix_sync Expr.the_ring (Expr.by_members (Syncs Expr.the_ring) (record { sync = λ h all. layer-sync (h Expr.the_member) (all Expr.the_member) })) Expr.the_member

expr-sync : IsSync Expr.the_row
expr-sync = let hole = hole-sync in variants_sync Expr.enum (search (sendable, crosses) depth 40 fits 20000)

fst-sync : IsSync Fst.the_row
fst-sync = let i : IsSync FstInside.the_row = declared_sync FstInside.the_type (let e = expr-sync in search (sendable, crosses) depth 40 fits 20000) in search sendable

job-sync : IsSync Job.the_row
job-sync = let f = fst-sync in search (sendable, crosses) depth 40 fits 20000

memo-send : (width : RattleType) → IsSend (Memo.the_row width)
memo-send width = search (sendable, crosses) depth 40 fits 20000

records-send : (width : RattleType) → IsSend (Records.the_row width)
records-send width = search (sendable, crosses) depth 40 fits 20000

terrain-send : (width : RattleType) → IsSend (Terrain.the_row width)
terrain-send width = let m = memo-send width in let r = records-send width in search (sendable, crosses) depth 40 fits 20000

any-terrain-send : IsSend AnyTerrain.the_row
any-terrain-send = variants_send AnyTerrain.enum (search (sendable, crosses, terrain-send) depth 40 fits 20000)

nodes-send : IsSend Nodes.the_row
nodes-send = search (sendable, crosses) depth 40 fits 20000

graph-send : IsSend Graph.the_row
graph-send = let n = nodes-send in search (sendable, crosses) depth 40 fits 20000

candidates-send : (l : NamedLft) → IsSend (Candidates.the_row l)
candidates-send l = let i : IsSend (CandidatesInside.the_row l) = declared_send (CandidatesInside.the_type l) (let j = job-sync in let t = any-terrain-send in let g = graph-send in search (sendable, crosses) depth 40 fits 20000) in search sendable

branches-send : (l : NamedLft) → IsSend (PartBranches.the_row l)
branches-send l = let i : IsSend (BranchesInside.the_row l) = declared_send (BranchesInside.the_type l) (let c = candidates-send l in search (sendable, crosses) depth 40 fits 20000) in search sendable

pub share-send : (l : NamedLft) → IsSend (Share.the_row l)
share-send l = let b = branches-send l in search (sendable, crosses) depth 40 fits 20000
