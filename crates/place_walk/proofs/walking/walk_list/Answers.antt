use Rattle.std.proofs.Common.{◌-◌, ◌<◌, ◌≤◌, ℕ, List, length, drop, refl, ◌∙◌, subst, arith, rules}
use Rattle.std.specs.List.{All, AllPairs, slice_range}
use Rattle.std.proofs.lemmas.List.Elements.{All-take, All-drop}
use Rattle.place_walk.specs.declared.stand.Stand.{Stand}
use Rattle.place_walk.specs.Courses.{Course, course_of}
use Rattle.place_walk.specs.Visits.{AreVisits}
use Rattle.place_walk.proofs.StandLemmas.{same-course}
use Rattle.place_walk.proofs.GroupLemmas.{walked-none, walked-more, pairs-within}
use Rattle.place_walk.proofs.walking.walk_list.Goals as goal

pub groups-init : goal.groups-init
groups-init g c = record {
  rows = refl;
  moves = refl;
  forward = omega arith;
  within = (let start = c.requires.from in omega arith);
  begun = λ same. rw c.clear.ensures.items refl;
  walked = λ groups are. rw c.clear.ensures.items (walked-none (course_of c.args.memo.now c.args.places.now) groups (drop c.args.from c.args.stands.now) are);
}

pub walk_group-requires : goal.walk_group-requires
walk_group-requires g c =
    let width = c.requires.width in
    let few = c.requires.few in
    let moves : All (λ entry. entry.of < length c.groups.memo.moves) c.args.places.now = rw c.groups.invariant.moves c.requires.moves in
    let group : List Stand = slice_range c.args.stands.now c.groups.next c.group_end-end.result in
    let left : List Stand = drop c.groups.next c.args.stands.now in
    let many : ℕ = c.group_end-end.result - c.groups.next in
    let states : All (λ stand. stand.state < length c.groups.memo.rows) group =
    rw c.groups.invariant.rows
    (All-take (λ (s : Stand). s.state < length c.args.memo.now.rows) many left (All-drop (λ (s : Stand). s.state < length c.args.memo.now.rows) c.groups.next c.args.stands.now c.requires.states)) in
    let places : All (λ stand. stand.place < length c.args.places.now) group =
    All-take (λ (s : Stand). s.place < length c.args.places.now) many left (All-drop (λ (s : Stand). s.place < length c.args.places.now) c.groups.next c.args.stands.now c.requires.places) in
    let rising : AllPairs (λ one other. one.place ≤ other.place) group =
    pairs-within (λ (one : Stand) (other : Stand). one.place ≤ other.place) c.args.stands.now c.groups.next c.group_end-end.result c.requires.rising c.group_end-end.ensures.within in
    search rules

pub groups-preserved : goal.groups-preserved
groups-preserved g c =
    let some = c.group_end-end.ensures.some in
    let within = c.group_end-end.ensures.within in
    let forward = c.groups.invariant.forward in
    let (here, cut, are) = c.in_ok-walk_group.ensures.visits in
    let of_group : AreVisits (course_of c.groups.memo c.args.places.now) (slice_range c.args.stands.now c.groups.next c.group_end-end.result) here =
    subst (λ (group : List Stand). AreVisits (course_of c.groups.memo c.args.places.now) group here) c.piece.ensures are in
    let same = same-course c.groups.memo c.args.memo.now c.args.places.now c.groups.invariant.rows c.groups.invariant.moves in
    record {
      rows = c.walk_group.ensures.rows ∙ c.groups.invariant.rows;
      moves = c.walk_group.ensures.moves ∙ c.groups.invariant.moves;
      forward = omega arith;
      within = within;
      begun = λ back. absurd (omega arith);
      walked = λ groups groups_are.
          rw cut
          (walked-more (course_of c.args.memo.now c.args.places.now) groups c.args.stands.now c.groups.next c.group_end-end.result c.groups.visits.items here
          (c.groups.invariant.walked groups groups_are) c.group_end-end.ensures
          (subst (λ (course : Course). AreVisits course (slice_range c.args.stands.now c.groups.next c.group_end-end.result) here) same of_group));
    }
