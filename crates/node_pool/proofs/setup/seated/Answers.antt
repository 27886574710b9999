use Rattle.std.proofs.Common.{◌≡◌, length, map, arith, ◌∙◌}
use Rattle.crossbeam_deque.specs.Handles.{worker_deque}
use Rattle.node_pool.proofs.Seating.{seating_popped, seating_top, seating_next, seating_ends, seat_owner, seat_ways}
use Rattle.node_pool.proofs.setup.seated.Goals as goal

pub seat-seat-requires-clause-few : goal.seat-seat-requires-clause-few
seat-seat-requires-clause-few g c =
    let number : c.len.result ≡ length c.pop.new.self.items = omega (arith, c.len.ensures, c.pop.new.self.ok.0) in
    let last = seating_top g.known_ground (map worker_deque c.args.owners.items) c.seats.owners.items c.pop.new.self.items c.in-Some.owner c.seats.rows.items c.pop-in-Some.new.self.items c.in-Some-pop.ways c.seats.seats.items
    (length c.args.owners.items) c.len.result c.in-Some.ensures.items c.in-Some-pop.ensures.items number c.seats.invariant in
    omega (arith, last.size, last.few)

pub seat-seat-requires-clause-own : goal.seat-seat-requires-clause-own
seat-seat-requires-clause-own g c = λ _ _.
    let number : c.len.result ≡ length c.pop.new.self.items = omega (arith, c.len.ensures, c.pop.new.self.ok.0) in
    let last = seating_top g.known_ground (map worker_deque c.args.owners.items) c.seats.owners.items c.pop.new.self.items c.in-Some.owner c.seats.rows.items c.pop-in-Some.new.self.items c.in-Some-pop.ways c.seats.seats.items
    (length c.args.owners.items) c.len.result c.in-Some.ensures.items c.in-Some-pop.ensures.items number c.seats.invariant in
    last.own

pub seat-seat-requires-clause-owner : goal.seat-seat-requires-clause-owner
seat-seat-requires-clause-owner g c = λ _ _.
    let number : c.len.result ≡ length c.pop.new.self.items = omega (arith, c.len.ensures, c.pop.new.self.ok.0) in
    let last = seating_top g.known_ground (map worker_deque c.args.owners.items) c.seats.owners.items c.pop.new.self.items c.in-Some.owner c.seats.rows.items c.pop-in-Some.new.self.items c.in-Some-pop.ways c.seats.seats.items
    (length c.args.owners.items) c.len.result c.in-Some.ensures.items c.in-Some-pop.ensures.items number c.seats.invariant in
    seat_owner _ _ _ _ _ _ last

pub seat-seat-requires-clause-ways : goal.seat-seat-requires-clause-ways
seat-seat-requires-clause-ways g c = λ _ _.
    let number : c.len.result ≡ length c.pop.new.self.items = omega (arith, c.len.ensures, c.pop.new.self.ok.0) in
    let last = seating_top g.known_ground (map worker_deque c.args.owners.items) c.seats.owners.items c.pop.new.self.items c.in-Some.owner c.seats.rows.items c.pop-in-Some.new.self.items c.in-Some-pop.ways c.seats.seats.items
    (length c.args.owners.items) c.len.result c.in-Some.ensures.items c.in-Some-pop.ensures.items number c.seats.invariant in
    seat_ways _ _ _ _ _ _ last

pub seats-preserved : goal.seats-preserved
seats-preserved g c =
    let number : c.len.result ≡ length c.pop.new.self.items = omega (arith, c.len.ensures, c.pop.new.self.ok.0) in
    let old = seating_popped g.known_ground (length c.args.owners.items) (map worker_deque c.args.owners.items) c.seats.owners.items c.pop.new.self.items c.in-Some.owner c.seats.rows.items c.pop-in-Some.new.self.items c.in-Some-pop.ways c.seats.seats.items
    c.in-Some.ensures.items c.in-Some-pop.ensures.items c.seats.invariant in
    seating_next g.known_ground (length c.args.owners.items) (map worker_deque c.args.owners.items) c.pop.new.self.items c.in-Some.owner c.pop-in-Some.new.self.items c.in-Some-pop.ways c.seats.seats.items c.seat-seat.result c.push.new.self.items
    c.in_ok-push.ensures.items old (c.seat-seat.ensures.place.0 ∙ number) c.seat-seat.ensures.place.1 c.seat-seat.ensures.place.2 c.seat-seat.ensures.fresh

pub returns-clause-seats : goal.returns-clause-seats
returns-clause-seats g c = rw c.reverse.ensures.items (seating_ends g.known_ground (length c.args.owners.items) (map worker_deque c.args.owners.items) c.seats.owners.items c.seats.rows.items c.seats.seats.items
    (omega (arith, c.in_default.ensures.cases, c.seats.owners.ok.0)) c.seats.invariant).1
