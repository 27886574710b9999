use Rattle.std.proofs.Common.{◌≡◌, [], arith}
use Rattle.std.proofs.lemmas.Result.{IfOk-weaker}
use Rattle.search_engine.proofs.SeatLemmas.{empty-list, next-of_stack, next-of_seat}
use Rattle.search_engine.proofs.seats.next_task.Goals as goal

pub returns-in-Some-clause-next : goal.returns-in-Some-clause-next
returns-in-Some-clause-next g c = next-of_stack g.T.Task.label_of g.T.Task.ground_of c.in-Some.task c.args.seat.now c.args.overflow.now.items c.pop.new.self.items c.in-Some.ensures.items

pub returns-in-None-clause-next : goal.returns-in-None-clause-next
returns-in-None-clause-next g c =
    let none : c.args.overflow.now.items ≡ [] = empty-list c.args.overflow.now.items (omega (arith, c.in-None.ensures.cases, c.args.overflow.now.ok.0)) in
    let still : c.pop.new.self.items ≡ [] = empty-list c.pop.new.self.items (omega (arith, c.in-None.ensures.cases, c.pop.new.self.ok.0)) in
    IfOk-weaker c.fetched.result _ _ (λ next. next-of_seat g.T.Task.label_of g.T.Task.ground_of next c.args.seat.now c.fetched.new.seat c.args.overflow.now.items c.pop.new.self.items none still) c.fetched.ensures.found
