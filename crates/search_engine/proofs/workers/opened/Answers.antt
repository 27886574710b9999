use Rattle.std.proofs.Common.{◌≡◌, ◌≤◌, [], ◌++◌, Some, length, map, sym, ap, subst, ◌∙◌, arith}
use Rattle.std.proofs.lemmas.List.Elements.{All-nil, All-same, All-get_or}
use Rattle.node_pool.specs.Pool.{seat_ground}
use Rattle.search_engine.proofs.CrewLemmas.{opened-made}
use Rattle.search_engine.proofs.workers.opened.Goals as goal

pub returns-clause-opened : goal.returns-clause-opened
returns-clause-opened g c =
    let start = c.in_ok-seats.ensures in
    let all = c.in_ok-put_all.ensures in
    let (put, kept, more, kept_is, roots_are) = all.put in
    let seats = c.in_ok-seats.seats.items in
    let some : 1 ≤ length seats = omega (arith, start.count, c.in_ok-seats.seats.ok.0, c.requires.some) in
    rw (c.in_ok-insert.ensures.items, c.remove-first.ensures.items) (opened-made g.T.Task.label_of g.T.Task.ground_of c.args.home.now (map g.T.Task.label_of c.args.roots.items)
    seats c.remove-first.result c.put_all.new.seat c.put_all.new.overflow.items put kept some start.pool start.fresh start.ground
    c.remove-first.ensures.value all.seat all.got more (kept_is ∙ ap (λ l. map g.T.Task.label_of l ++ kept) c.new-rest.ensures.items) roots_are
    (all.overflow c.args.home.now
    (subst (λ s. seat_ground s ≡ Some c.args.home.now) (sym c.remove-first.ensures.value)
    (All-get_or (λ s. seat_ground s ≡ Some c.args.home.now) seats 0 c.remove-first.result some start.ground))
    (All-same (λ task. g.T.Task.ground_of task ≡ c.args.home.now) c.new-rest.result.items [] c.new-rest.ensures.items (All-nil (λ task. g.T.Task.ground_of task ≡ c.args.home.now)))))
