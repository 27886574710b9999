use Rattle.std.proofs.Common.{◌≡◌, ◌<◌, ◌≤◌, ◌∙◌, ◌⊎◌, inl, inr, ℕ, ◌+◌, true≢false, Some, Option, IfSome, IfNone, List, ◌++◌, length, get_or, refl, sym, ap, subst, arith, rules}
use Rattle.std.specs.List.{All, slice_index}
use Rattle.std.proofs.lemmas.Option.{get_or_from_slice_get}
use Rattle.std.proofs.lemmas.List.Elements.{Contains-get_or, Contains-append_right}
use Rattle.walk_memo.specs.Memos.{IsJoined}
use Rattle.walk_memo.specs.Steps.{IsJoin}
use Rattle.walk_places.specs.declared.places.Record.{Record}
use Rattle.place_walk.specs.declared.visit.Visit.{Visit}
use Rattle.place_walk.specs.Courses.{Course, course_of}
use Rattle.place_walk.specs.Ways.{IsStepOver, IsOnWay, with_first}
use Rattle.place_walk.proofs.JoinLemmas.{numbered-set, joined-within, joined-set}
use Rattle.place_walk.proofs.StandLemmas.{same-course}
use Rattle.stand_sums.specs.Sequences.{HasOne}
use Rattle.level_ahead.specs.Behind.{goes_further}
use Rattle.level_ahead.specs.Following.{HasEnded}
use Rattle.level_ahead.proofs.FollowLemmas.{alone, ended-both, ended-marked, way-begins, way-goes, way-ends, way-held}
use Rattle.level_ahead.proofs.following.follow_behind.Given.{Over}
use Rattle.level_ahead.proofs.following.follow_behind.Goals.{In_ok-start, Then-place-end}
use Rattle.level_ahead.proofs.following.follow_behind.Goals.{then-places-test+else-place-end, else-places-test}
use Rattle.level_ahead.proofs.following.follow_behind.Goals as goal

module _ (g : Over) (c : In_ok-start g) where
  abbrev course : Course
  course = course_of c.args.memo.now c.args.places.now

  abbrev start : ℕ
  start = slice_index c.join.new.self.sets c.in_ok-start.start

  joined : IsJoined c.join.new.self 0 c.from.result c.in_ok-start.start
  joined = c.in_ok-start.ensures.joined 0 c.empty.ensures.is

  same : course_of c.join.new.self c.args.places.now ≡ course
  same = same-course c.join.new.self c.args.memo.now c.args.places.now c.join.ensures.memo.rows c.join.ensures.memo.moves

  first : (now : ℕ) (more : List Visit) → IsStepOver (course_of c.join.new.self c.args.places.now) c.args.visit.place start now more
      → IsOnWay course (alone c.args.visit) 1 (c.args.visit.place + 1) now more
  first now more over =
      way-begins course c.args.visit c.requires.place 0 start refl
      (subst (λ (s : ℕ). IsJoin 0 s start) c.from.ensures (joined-set c.join.new.self 0 c.from.result c.in_ok-start.start joined)) now more
      (subst (λ (k : Course). IsStepOver k c.args.visit.place start now more) same over)

pub read_place-requires : goal.read_place-requires
read_place-requires g c =
    let there : In_ok-start g = (goal.at.read_place-requires g c).In_ok-start in
    let width = c.requires.width in
    let place = c.requires.place in
    let kept = c.requires.kept in
    let few_ranks = c.requires.few_ranks in
    let moves : All (λ (e : Record). e.of < length c.join.new.self.moves) c.args.places.now = rw c.join.ensures.memo.moves c.requires.moves in
    let number : c.in_ok-start.start < length c.join.new.self.sets = joined-within c.join.new.self 0 c.from.result c.in_ok-start.start (joined g there) in
    let asked : (after : ℕ) (more : List Visit) → IsStepOver (course_of c.join.new.self c.args.places.now) c.args.visit.place (start g there) after more
    → All (λ (v : Visit). g.T.Outputs.CanAsk c.args.table.now v.kind v.action.state) more = λ after more over k d inside.
    c.requires.asked (get_or more k d) (way-held (course g there) c.args.visit (c.args.visit.place + 1) after more (first g there after more over) (get_or more k d) (Contains-get_or more k d inside)) in
    search rules

pub returns-in-None-clause-none : goal.returns-in-None-clause-none
returns-in-None-clause-none g c =
    let there : In_ok-start g = (goal.at.returns-in-None-clause-none g c).In_ok-start in
    let (after, more, over, (one, held, goes)) =
    subst (λ (o : Option ℕ). IfNone o ((after : ℕ) × (more : List Visit) × IsStepOver (course_of c.join.new.self c.args.places.now) c.args.visit.place (start g there) after more
    × HasOne (goes_further (g.T.Outputs.ranks c.args.table.now) c.args.lacking) more)) c.in-None.is c.in_ok-next.ensures.none in
    (one, way-held (course g there) c.args.visit (c.args.visit.place + 1) after more (first g there after more over) one held, goes)

pub places-init : goal.places-init
places-init g c =
    let there : In_ok-start g = (goal.at.places-init g c).In_ok-start in
    let (more, over, ended) =
    subst (λ (o : Option ℕ). IfSome o (λ next. (more : List Visit)
    × IsStepOver (course_of c.join.new.self c.args.places.now) c.args.visit.place (start g there) (slice_index c.read_place.new.memo.sets next) more
    × HasEnded (g.T.Outputs.ranks c.args.table.now) c.args.lacking more c.new-ranks.result c.read_place.new.ranks)) c.in-Some.is c.in_ok-next.ensures.some in
    record {
      rows = c.in_ok-next.ensures.rows ∙ c.join.ensures.memo.rows;
      moves = c.in_ok-next.ensures.moves ∙ c.join.ensures.memo.moves;
      inside = let inside = c.requires.place in omega (arith, inside, c.len-end.ensures);
      number = subst (λ (o : Option ℕ). IfSome o (λ next. next < length c.read_place.new.memo.sets)) c.in-Some.is c.in_ok-next.ensures.number;
      found = (
        more,
        first g there (slice_index c.read_place.new.memo.sets c.in-Some.next) more over,
        subst (λ (s : ℕ). HasEnded (g.T.Outputs.ranks c.args.table.now) c.args.lacking more s c.read_place.new.ranks) c.new-ranks.ensures ended,
      );
    }

module _ (g : Over) (c : Then-place-end g) where
  abbrev over-places : Course
  over-places = course_of c.args.memo.now c.args.places.now

  abbrev set-at : ℕ
  set-at = slice_index c.places.memo.sets c.places.set

  same-there : course_of c.places.memo c.args.places.now ≡ over-places
  same-there = same-course c.places.memo c.args.memo.now c.args.places.now c.places.invariant.rows c.places.invariant.moves

  some : set-at ≡ 0 → ⊥
  some none = true≢false (sym (c.is_empty.ensures.1 (numbered-set c.places.memo.sets c.places.set c.places.invariant.number ∙ ap Some none)) ∙ c.places-test.true)

  next : (now : ℕ) (more : List Visit) → IsStepOver (course_of c.places.memo c.args.places.now) c.places.place set-at now more
      → IsOnWay over-places (alone c.args.visit) 1 (c.places.place + 1) now (c.places.invariant.found.0 ++ more)
  next now more over =
      way-goes over-places c.args.visit c.places.place set-at c.places.invariant.found.0 c.places.invariant.found.1 some
      (omega (arith, c.if-place-end.true, c.len-end.ensures)) now more
      (subst (λ (k : Course). IsStepOver k c.places.place set-at now more) same-there over)

pub read_place-requires-in-places : goal.read_place-requires-in-places
read_place-requires-in-places g c =
    let there : Then-place-end g = (goal.at.read_place-requires-in-places g c).Then-place-end in
    let width = c.requires.width in
    let place : c.places.place < length c.args.places.now = omega (arith, c.if-place-end.true, c.len-end.ensures) in
    let kept = c.requires.kept in
    let few_ranks = c.requires.few_ranks in
    let moves : All (λ (e : Record). e.of < length c.places.memo.moves) c.args.places.now = rw c.places.invariant.moves c.requires.moves in
    let number : c.places.set < length c.places.memo.sets = c.places.invariant.number in
    let asked : (after : ℕ) (more : List Visit) → IsStepOver (course_of c.places.memo c.args.places.now) c.places.place (set-at g there) after more
    → All (λ (v : Visit). g.T.Outputs.CanAsk c.args.table.now v.kind v.action.state) more = λ after more over k d inside.
    c.requires.asked (get_or more k d) (way-held (over-places g there) c.args.visit (c.places.place + 1) after (c.places.invariant.found.0 ++ more) (next g there after more over) (get_or more k d)
    (Contains-append_right c.places.invariant.found.0 more (get_or more k d) (Contains-get_or more k d inside))) in
    search rules

pub returns-in-None-2-clause-none : goal.returns-in-None-2-clause-none
returns-in-None-2-clause-none g c =
    let there : Then-place-end g = (goal.at.returns-in-None-2-clause-none g c).Then-place-end in
    let (after, more, over, (one, held, goes)) =
    subst (λ (o : Option ℕ). IfNone o ((after : ℕ) × (more : List Visit) × IsStepOver (course_of c.places.memo c.args.places.now) c.places.place (set-at g there) after more
    × HasOne (goes_further (g.T.Outputs.ranks c.args.table.now) c.args.lacking) more)) c.in-None-2.is c.in_ok-next-2.ensures.none in (
      one,
      way-held (over-places g there) c.args.visit (c.places.place + 1) after (c.places.invariant.found.0 ++ more) (next g there after more over) one
          (Contains-append_right c.places.invariant.found.0 more one held),
      goes,
    )

pub places-preserved : goal.places-preserved
places-preserved g c =
    let there : Then-place-end g = (goal.at.places-preserved g c).Then-place-end in
    let (more, over, ended) =
    subst (λ (o : Option ℕ). IfSome o (λ next. (more : List Visit)
    × IsStepOver (course_of c.places.memo c.args.places.now) c.places.place (set-at g there) (slice_index c.read_place-in-places.new.memo.sets next) more
    × HasEnded (g.T.Outputs.ranks c.args.table.now) c.args.lacking more c.places.ranks c.read_place-in-places.new.ranks)) c.in-Some-2.is c.in_ok-next-2.ensures.some in
    record {
      rows = c.in_ok-next-2.ensures.rows ∙ c.places.invariant.rows;
      moves = c.in_ok-next-2.ensures.moves ∙ c.places.invariant.moves;
      inside = omega (arith, c.if-place-end.true);
      number = subst (λ (o : Option ℕ). IfSome o (λ next. next < length c.read_place-in-places.new.memo.sets)) c.in-Some-2.is c.in_ok-next-2.ensures.number;
      found = (
        c.places.invariant.found.0 ++ more,
        next g there (slice_index c.read_place-in-places.new.memo.sets c.in-Some-2.next) more over,
        ended-both (g.T.Outputs.ranks c.args.table.now) c.args.lacking c.places.invariant.found.0 more 0 c.places.ranks c.read_place-in-places.new.ranks c.places.invariant.found.2 ended,
      );
    }

pub returns-clause-some : goal.returns-clause-some
returns-clause-some g c =
    let course_is : Course = course_of c.args.memo.now c.args.places.now in
    let set : ℕ = slice_index c.places.memo.sets c.places.set in
    let (here, way, ended) = c.places.invariant.found in
    let stops : (length course_is.places ≤ c.places.place) ⊎ (set ≡ 0) = elim c.places-test.branch [
      | then-places-test+else-place-end w ↦ inl (omega (arith, w.if-place-end.false, c.len-end.ensures))
      | else-places-test w ↦ inr (get_or_from_slice_get c.places.memo.sets c.places.set 0 0 (c.is_empty.ensures.0 w.places-test.false))
    ] in
    (with_first here, way-ends course_is c.args.visit c.places.place set here way stops, ended-marked (g.T.Outputs.ranks c.args.table.now) c.args.lacking here 0 c.places.ranks ended)
