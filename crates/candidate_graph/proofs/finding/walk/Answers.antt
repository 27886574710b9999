use Rattle.std.proofs.Common.{ℕ, List, [], ◌∷◌, drop, subst}
use Rattle.place_walk.specs.declared.stand.Stand.{Stand}
use Rattle.place_walk.specs.Courses.{Course, course_of}
use Rattle.place_walk.specs.Groups.{AreGroups, AreWalked}
use Rattle.candidate_graph.proofs.PointLemmas.{one-group, walked-one}
use Rattle.candidate_graph.proofs.finding.walk.Goals as goal

pub returns-clause-visits : goal.returns-clause-visits
returns-clause-visits g c =
    let stands : List Stand = c.args.stands.now in
    let course : Course = course_of c.args.memo.now c.args.places.now in
    let next : ℕ = c.in_ok-walk_some.field-0 in
    walked-one course stands next c.walk_some.new.visits c.in_ok-walk_some.ensures.forward c.requires.some
    (subst (λ (l : List Stand). (groups : List (List Stand)) → AreGroups l groups → AreWalked course groups (drop next l) c.walk_some.new.visits) c.of.ensures c.in_ok-walk_some.ensures.walked
    (stands ∷ []) (one-group stands c.requires.some c.requires.stands.marked))
