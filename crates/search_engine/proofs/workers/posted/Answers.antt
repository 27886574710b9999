use Rattle.std.proofs.Common.{◌≡◌, ◌≤◌, [], ◌∷◌, ◌++◌, List, length, map, subst, ap, ◌∙◌, sum_by, arith}
use Rattle.std.proofs.lemmas.List.Elements.{All-append}
use Rattle.turn_lock.specs.Passes.{made}
use Rattle.result_board.specs.Board.{labels_of}
use Rattle.search_engine.specs.Workers.{BoardPass}
use Rattle.search_engine.specs.Shifts.{PostedFrom}
use Rattle.search_engine.proofs.RunLemmas.{manned-all, all-passes, passes-back, runs-adds, runs-pool, runs-passes, runs-homes, runs-long, left-own, history-labels, whole-cover}
use Rattle.search_engine.proofs.workers.posted.Goals as goal

pub worked-requires-clause-manned : goal.worked-requires-clause-manned
worked-requires-clause-manned g c κs within =
    let seats = c.in_ok-seats.seats.items in
    let passes = c.in_ok-board.passes.items in
    let many : length passes ≡ length seats = omega (arith, c.in_ok-board.ensures.count, c.in_ok-board.passes.ok.0, c.in_ok-seats.ensures.count, c.in_ok-seats.seats.ok.0) in
    manned-all c.args.job.now c.in_ok-board.board seats passes many c.in_ok-seats.ensures.opened.homes (all-passes c.in_ok-board.board passes c.in_ok-board.own c.in_ok-board.ensures.locked.all).0

pub finish-requires-after_bounds : goal.finish-requires-after_bounds
finish-requires-after_bounds g c κs within =
    runs-pool (g.S.Grow.kids_of c.args.search.now) c.in_ok-board.board c.in_ok-seats.seats.items c.in_ok-seats-2.seats.items c.in_ok-board.passes.items c.in_ok-seats-2.passes.items
    c.in_ok-seats-2.ensures c.in_ok-seats.ensures.opened.whole

pub grow_rest-requires-clause-pass : goal.grow_rest-requires-clause-pass
grow_rest-requires-clause-pass g c κs within = (all-passes c.in_ok-board.board c.in_ok-board.passes.items c.in_ok-board.own c.in_ok-board.ensures.locked.all).1

pub grow_rest-requires-clause-own : goal.grow_rest-requires-clause-own
grow_rest-requires-clause-own g c κs within =
    let kids = g.S.Grow.kids_of c.args.search.now in
    let seats = c.in_ok-seats.seats.items in
    let later = c.in_ok-seats-2.seats.items in
    let runs = c.in_ok-seats-2.ensures in
    let homes = runs-homes kids c.in_ok-board.board c.args.job.now seats later c.in_ok-board.passes.items c.in_ok-seats-2.passes.items runs c.in_ok-seats.ensures.opened.homes in
    let some : 1 ≤ length later = omega (arith, (runs-long kids c.in_ok-board.board seats later c.in_ok-board.passes.items c.in_ok-seats-2.passes.items runs).1, c.in_ok-seats.ensures.count, c.in_ok-seats.seats.ok.0, c.requires.some) in
    rw c.in_ok-append.ensures.items (All-append (λ task. g.T.Task.ground_of task ≡ c.args.job.now) c.in_ok-seats.rest.items c.in_ok-left.left.items c.in_ok-seats.ensures.opened.own
    (left-own g.T.Task.ground_of c.args.job.now later c.in_ok-left.left.items some homes c.in_ok-left.ensures.ground))

pub close-requires-after_bounds : goal.close-requires-after_bounds
close-requires-after_bounds g c κs =
    let kids = g.S.Grow.kids_of c.args.search.now in
    let runs = c.in_ok-seats-2.ensures in
    let passes = c.in_ok-board.passes.items in
    let after = c.in_ok-seats-2.passes.items in
    rw c.in_ok-push.ensures.items (passes-back c.in_ok-board.board passes after c.in_ok-board.own c.grow_rest.new.pass c.in_ok-board.ensures.locked.all
    (runs-long kids c.in_ok-board.board c.in_ok-seats.seats.items c.in_ok-seats-2.seats.items passes after runs).0
    (runs-passes kids c.in_ok-board.board c.in_ok-seats.seats.items c.in_ok-seats-2.seats.items passes after runs) c.in_ok-grow_rest.ensures.pass.0)

pub returns-clause-cover : goal.returns-clause-cover
returns-clause-cover g c =
    let kids = g.S.Grow.kids_of c.args.search.now in
    let label = g.T.Task.label_of in
    let seats = c.in_ok-seats.seats.items in
    let later = c.in_ok-seats-2.seats.items in
    let rest = c.in_ok-seats.rest.items in
    let left = c.in_ok-left.left.items in
    let passes = c.in_ok-board.passes.items in
    let after = c.in_ok-seats-2.passes.items in
    let mine = c.grow_rest.new.pass in
    let adds = runs-adds kids c.in_ok-board.board seats later passes after c.in_ok-seats-2.ensures in
    let (posted, more, below) = c.in_ok-grow_rest.ensures.posted in
    let whole : List BoardPass = after ++ mine ∷ [] in
    whole-cover label g.T.Task.ground_of c.args.job.now kids (map label c.args.roots.items) seats later rest left passes after c.in_ok-board.own mine
    c.in_ok-seats.ensures.opened c.in_ok-board.ensures.locked.fresh adds c.in_ok-left.ensures.balance posted more
    (subst (λ l. PostedFrom kids (map label l) posted []) c.in_ok-append.ensures.items below)
    (labels_of c.close.result.posted) (history-labels c.close.result.posted whole (λ f. c.close.ensures.counts f ∙ ap (λ (l : List BoardPass). sum_by (λ p. sum_by f (made p)) l) c.in_ok-push.ensures.items))
