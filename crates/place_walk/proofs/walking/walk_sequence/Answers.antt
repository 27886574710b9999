use Rattle.std.proofs.Common.{◌≡◌, ◌<◌, ◌≤◌, List, [], ◌++◌, length, refl, sym, ap, ◌∙◌, subst, arith, rules, append_assoc}
use Rattle.std.specs.List.{All, slice_index}
use Rattle.std.proofs.lemmas.List.{append-nil}
use Rattle.std.proofs.lemmas.Option.{get_or_from_slice_get, slice_get_within}
use Rattle.place_walk.specs.declared.visit.Visit.{Visit}
use Rattle.place_walk.specs.Courses.{Course, course_of}
use Rattle.place_walk.specs.Ways.{IsStepOver}
use Rattle.place_walk.proofs.StandLemmas.{same-course}
use Rattle.place_walk.proofs.WayLemmas.{next-forward, way-first, way-more, way-all}
use Rattle.place_walk.proofs.walking.walk_sequence.Given.{Over}
use Rattle.place_walk.proofs.walking.walk_sequence.Goals as goal
use Rattle.place_walk.proofs.walking.walk_sequence.Goals.{In-Some}

forward : (g : Over) (c : In-Some g) → c.places.place ≤ c.in-Some.at
forward g c =
    let (here, cut, way) = c.places.invariant.found in
    next-forward c.args.group.now c.places.taken c.places.place c.len-end.result (slice_index c.places.memo.sets c.places.set) c.in-Some.at c.in-Some.ensures.some
    (λ stand there. way.behind c.places.taken stand (omega arith) there)

pub places-init : goal.places-init
places-init g c = record {
  rows = refl;
  moves = refl;
  inside = omega arith;
  taken = omega arith;
  number = slice_get_within c.args.memo.now.sets c.empty-set.result 0 c.empty-set.ensures.is;
  found = (
    [],
    sym (append-nil c.args.visits.now.items),
    way-first (course_of c.args.memo.now c.args.places.now) c.args.group.now c.requires.rising (slice_index c.args.memo.now.sets c.empty-set.result)
        (get_or_from_slice_get c.args.memo.now.sets c.empty-set.result 0 0 c.empty-set.ensures.is),
  );
}

pub join-requires : goal.join-requires
join-requires g c =
    let width = c.requires.width in
    let taken = c.places.invariant.taken in
    let number = c.places.invariant.number in
    let states : All (λ stand. stand.state < length c.places.memo.rows) c.args.group.now = rw c.places.invariant.rows c.requires.states in
    search rules

pub step-requires : goal.step-requires
step-requires g c =
    let width = c.requires.width in
    let few = c.requires.few in
    let place : c.in-Some.at < length c.args.places.now = omega (arith, c.in-Some.ensures.some.within, c.len-end.ensures) in
    let same : c.join.new.memo.moves ≡ c.args.memo.now.moves = c.join.ensures.moves ∙ c.places.invariant.moves in
    let moves : All (λ entry. entry.of < length c.join.new.memo.moves) c.args.places.now = rw same c.requires.moves in
    let number = c.in_ok-joined.ensures.number in
    search rules

pub places-smaller : goal.places-smaller
places-smaller g c =
    let low = forward g (goal.at.places-smaller g c).In-Some in
    omega (arith, low, c.in-Some.ensures.some.within)

pub places-preserved : goal.places-preserved
places-preserved g c =
    let some : In-Some g = (goal.at.places-preserved g c).In-Some in
    let (here, cut, way) = c.places.invariant.found in
    let (more, written, over) = c.in_ok-set.ensures.visits in
    let first : Course = course_of c.args.memo.now c.args.places.now in
    let rows : c.join.new.memo.rows ≡ c.args.memo.now.rows = c.join.ensures.rows ∙ c.places.invariant.rows in
    let moves : c.join.new.memo.moves ≡ c.args.memo.now.moves = c.join.ensures.moves ∙ c.places.invariant.moves in
    let steps : IsStepOver first c.in-Some.at (slice_index c.join.new.memo.sets c.in_ok-joined.joined.set) (slice_index c.step.new.memo.sets c.in_ok-set.set) more =
    subst (λ (course : Course). IsStepOver course c.in-Some.at (slice_index c.join.new.memo.sets c.in_ok-joined.joined.set) (slice_index c.step.new.memo.sets c.in_ok-set.set) more)
    (same-course c.join.new.memo c.args.memo.now c.args.places.now rows moves) over in
    record {
      rows = c.step.ensures.rows ∙ rows;
      moves = c.step.ensures.moves ∙ moves;
      inside = omega (arith, c.in-Some.ensures.some.within);
      taken = c.in_ok-joined.ensures.taken.within;
      number = c.in_ok-set.ensures.number;
      found = (
        here ++ more,
        written ∙ ap (λ (vs : List Visit). vs ++ more) cut ∙ append_assoc c.args.visits.now.items here more,
        way-more first c.args.group.now c.requires.rising c.places.taken c.places.place (slice_index c.places.memo.sets c.places.set) here way c.len-end.result c.in-Some.at
            c.in-Some.ensures.some (forward g some) c.in_ok-joined.joined.taken c.in_ok-joined.ensures.taken (slice_index c.join.new.memo.sets c.in_ok-joined.joined.set)
            c.in_ok-joined.ensures.states (slice_index c.step.new.memo.sets c.in_ok-set.set) more steps,
      );
    }

pub returns-clause-visits : goal.returns-clause-visits
returns-clause-visits g c =
    let (here, cut, way) = c.places.invariant.found in (
      here,
      cut,
      way-all (course_of c.args.memo.now c.args.places.now) c.args.group.now c.requires.rising c.places.taken c.places.place (slice_index c.places.memo.sets c.places.set) here way
          c.len-end.result c.len-end.ensures c.in_default.ensures.none,
    )
