use Rattle.std.proofs.Common.{◌≡◌, ℕ, Option, Some, None, List, [], ◌∷◌, ◌++◌, map, refl, sym, ◌∙◌, subst}
use Rattle.std.proofs.lemmas.List.Elements.{All-nil, All-same}
use Rattle.mine_model.specs.Labels.{SameLabels}
use Rattle.node_pool.specs.Pool.{seat_ground}
use Rattle.search_engine.specs.Seats.{IsNext, HasNext}
use Rattle.search_engine.specs.Shifts.{IsUnderWay}
use Rattle.search_engine.proofs.BalanceLemmas.{way-begins, way-next, way-posted, way-put, way-ends}
use Rattle.search_engine.proofs.working.grow_all.Goals as goal

pub nodes-init : goal.nodes-init
nodes-init g c =
    let kids = g.S.Grow.kids_of c.args.crew.now.search.now in
    let label_of = g.T.Task.label_of in
    let Belongs = λ (t : g.row.T.Denot). g.T.Task.ground_of t ≡ c.args.crew.now.job.now in
    let none = c.new-overflow.ensures.items in
    record {
      same = (refl, refl, refl);
      pass_is = c.requires.manned.pass_is;
      number_is = refl;
      way = subst (λ (l : List g.row.T.Denot). IsUnderWay kids c.args.worker.now.seat c.args.worker.now.seat c.args.worker.now.pass c.args.worker.now.pass (map label_of l)) (sym none)
          (way-begins label_of g.T.Task.ground_of kids c.args.worker.now.seat c.args.worker.now.pass);
      own = All-same Belongs c.new-overflow.result.items [] none (All-nil Belongs);
      room_is = c.in_ok-room.ensures;
    }

pub nodes-preserved : goal.nodes-preserved
nodes-preserved g c =
    let is = c.nodes.invariant in
    let kids = g.S.Grow.kids_of c.args.crew.now.search.now in
    let label_of = g.T.Task.label_of in
    let ground_of = g.T.Task.ground_of in
    let home = c.args.crew.now.job.now in
    let node = c.in-Some-2.node in
    let overflow = c.nodes.overflow.items in
    let rest = c.next_task.new.overflow.items in
    let seat = c.nodes.worker.seat in
    let later = c.next_task.new.seat in
    let came = c.in_ok-node.ensures in
    let grown = c.in_ok-kids.ensures in
    let done = c.in_ok-put_all.ensures in
    let next : IsNext label_of ground_of node seat later overflow rest = subst (λ (o : Option g.row.T.Denot). HasNext label_of ground_of o seat later overflow rest) c.in-Some-2.is came.next in
    let way : IsUnderWay kids c.args.worker.now.seat later c.args.worker.now.pass c.nodes.worker.pass (label_of node ∷ map label_of rest) =
    way-next label_of ground_of kids c.args.worker.now.seat c.args.worker.now.pass seat c.nodes.worker.pass overflow rest node later is.way came.given next in
    let posted : IsUnderWay kids c.args.worker.now.seat later c.args.worker.now.pass c.grow.new.pass (map label_of rest ++ kids (label_of node)) =
    way-posted label_of ground_of kids c.args.worker.now.seat c.args.worker.now.pass later c.nodes.worker.pass (label_of node) (map label_of rest) c.grow.new.pass way grown.posted in
    let seat_is : seat_ground seat ≡ Some home = is.same.2 ∙ c.requires.manned.seat_is in
    let later_is : seat_ground later ≡ Some home = came.same.2 ∙ seat_is in
    let are : SameLabels (kids (label_of node)) (done.put.0 ++ done.put.1) = subst (λ (l : List (List ℕ)). SameLabels l (done.put.0 ++ done.put.1)) grown.kids done.put.4 in
    record {
      same = (done.seat.0 ∙ came.same.0 ∙ is.same.0, done.seat.1 ∙ came.same.1 ∙ is.same.1, done.seat.2 ∙ came.same.2 ∙ is.same.2);
      pass_is = grown.pass.0;
      number_is = grown.pass.1 ∙ is.number_is;
      way = way-put label_of ground_of kids c.args.worker.now.seat c.args.worker.now.pass later c.grow.new.pass rest c.put_all.new.overflow.items (kids (label_of node)) done.put.0 done.put.1 c.put_all.new.seat posted done.put.2 done.got done.put.3 are;
      own = done.overflow home later_is (next.own home seat_is is.own).1;
      room_is = grown.room;
    }

pub returns-in_default-clause-run : goal.returns-in_default-clause-run
returns-in_default-clause-run g c =
    let is = c.nodes.invariant in
    let kids = g.S.Grow.kids_of c.args.crew.now.search.now in
    let label_of = g.T.Task.label_of in
    let ground_of = g.T.Task.ground_of in
    let seat = c.nodes.worker.seat in
    let later = c.next_task.new.seat in
    let came = c.in_ok-node.ensures in
    let none : HasNext label_of ground_of None seat later c.nodes.overflow.items c.next_task.new.overflow.items =
    subst (λ (o : Option g.row.T.Denot). HasNext label_of ground_of o seat later c.nodes.overflow.items c.next_task.new.overflow.items) c.in_default.is came.next in
    let way : IsUnderWay kids c.args.worker.now.seat seat c.args.worker.now.pass c.nodes.worker.pass [] =
    subst (λ (l : List g.row.T.Denot). IsUnderWay kids c.args.worker.now.seat seat c.args.worker.now.pass c.nodes.worker.pass (map label_of l)) none.0 is.way in
    way-ends label_of ground_of kids c.args.worker.now.seat c.args.worker.now.pass seat c.nodes.worker.pass later way came.given none.2.0
