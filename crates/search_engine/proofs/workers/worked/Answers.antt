use Rattle.std.proofs.Common.{rules}
use Rattle.worker_threads.proofs.DoingLemmas.{done-weaker}
use Rattle.search_engine.specs.Crews.{IsDone}
use Rattle.search_engine.proofs.RunLemmas.{given-manned, runs-made}
use Rattle.search_engine.proofs.workers.worked.Goals as goal

pub done_by_each-requires-after_bounds : goal.done_by_each-requires-after_bounds
done_by_each-requires-after_bounds g c κs within =
    let all = given-manned c.args.crew.now.job.now c.args.crew.now.board.now c.args.seats.items c.args.passes.items c.in_ok-workers.workers.items c.in_ok-workers.ensures c.requires.manned in
    search rules

pub returns : goal.returns
returns g c =
    let kids = g.S.Grow.kids_of c.args.crew.now.search.now in
    let board = c.args.crew.now.board.now in
    let workers = c.in_ok-workers.workers.items in
    let dones = c.in_ok-done.done.items in
    runs-made kids board c.args.seats.items c.in_ok-back.back.0.items c.args.passes.items c.in_ok-back.back.1.items workers dones
    c.in_ok-workers.ensures (done-weaker _ (IsDone kids board) (λ worker done call. call) workers dones c.in_ok-done.ensures) c.in_ok-back.ensures
