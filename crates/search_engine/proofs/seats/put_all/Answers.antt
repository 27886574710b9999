use Rattle.std.proofs.Common.{rules, ◌≡◌, Some, List, [], ◌∷◌, ◌++◌, length, refl, sym, ap, ◌∙◌, append_assoc, arith}
use Rattle.std.specs.Vec.Iter.{into_iter_items}
use Rattle.std.proofs.lemmas.Option.{same_Some}
use Rattle.std.proofs.lemmas.List.Elements.{All-push, All-same}
use Rattle.node_pool.specs.Pool.{seat_ground}
use Rattle.search_engine.proofs.SeatLemmas.{All-next, put-none, put-more, put-kept}
use Rattle.search_engine.proofs.seats.put_all.Goals as goal

pub tasks-init : goal.tasks-init
tasks-init g c = record {
  seen = search rules;
  count = search rules;
  same = search rules;
  got = refl;
  are = put-none g.T.Task.label_of c.args.seat.now c.args.overflow.now.items;
  own = λ home is are. are;
}

pub tasks-preserved-in-Continue-1 : goal.tasks-preserved-in-Continue-1
tasks-preserved-in-Continue-1 g c =
    let is = c.tasks.invariant in
    let steps = c.in-Some.ensures.steps in
    let done = c.tasks.yielded in
    let task = c.in-Some.task in
    let overflow = c.tasks.overflow.items in
    let same = c.put.ensures.same in
    let all : done ++ task ∷ into_iter_items c.next.new.self ≡ c.args.tasks.items = ap (λ (l : List g.row.T.Denot). done ++ l) (sym steps.0) ∙ is.seen in
    let longer : c.push.new.self.items ≡ overflow ++ task ∷ [] = c.in_ok-push.ensures.items ∙ ap (λ (t : g.row.T.Denot). overflow ++ t ∷ []) c.in-Err.ensures.refused in
    record {
      seen = rw append_assoc all;
      count = omega (arith, steps.1, is.count, ap length steps.0);
      same = (same.0 ∙ is.same.0, same.1 ∙ is.same.1, same.2 ∙ is.same.2);
      got = c.put.ensures.got.0 ∙ is.got;
      are = put-kept g.T.Task.label_of c.args.seat.now c.tasks.seat c.put.new.self done c.args.overflow.now.items overflow task is.are c.in-Err.ensures.unchanged.0 c.push.new.self.items longer;
      own = λ home is_home are.
          let Belongs = λ (t : g.row.T.Denot). g.T.Task.ground_of t ≡ home in
          let belongs : g.T.Task.ground_of task ≡ home = same_Some (g.T.Task.ground_of task) home (sym (All-next (λ (t : g.row.T.Denot). seat_ground c.args.seat.now ≡ Some (g.T.Task.ground_of t)) c.args.tasks.items done (into_iter_items c.next.new.self) task all c.requires.tasks) ∙ is_home) in
          All-same Belongs c.push.new.self.items (overflow ++ task ∷ []) longer (All-push Belongs overflow task (is.own home is_home are) belongs);
    }

pub tasks-preserved : goal.tasks-preserved
tasks-preserved g c =
    let is = c.tasks.invariant in
    let steps = c.in-Some.ensures.steps in
    let done = c.tasks.yielded in
    let same = c.put.ensures.same in
    record {
      seen = rw append_assoc (ap (λ (l : List g.row.T.Denot). done ++ l) (sym steps.0) ∙ is.seen);
      count = omega (arith, steps.1, is.count, ap length steps.0);
      same = (same.0 ∙ is.same.0, same.1 ∙ is.same.1, same.2 ∙ is.same.2);
      got = c.put.ensures.got.0 ∙ is.got;
      are = put-more g.T.Task.label_of c.args.seat.now c.tasks.seat c.put.new.self done c.args.overflow.now.items c.tasks.overflow.items c.in-Some.task is.are c.in_default.ensures.given;
      own = is.own;
    }
