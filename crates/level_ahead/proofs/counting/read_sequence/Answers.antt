use Rattle.std.proofs.Common.{◌≡◌, ◌∙◌, ◌<◌, ◌≤◌, ℕ, true, false, true≢false, Some, List, length, get_or, inl, inr, sym, subst, refl, arith}
use Rattle.std.specs.List.{slice_get}
use Rattle.std.proofs.lemmas.Bool.{cases_eq, eq-eqb}
use Rattle.std.proofs.lemmas.Option.{slice_get_within}
use Rattle.place_walk.specs.declared.visit.Visit.{Visit}
use Rattle.place_walk.specs.Courses.{Course, course_of}
use Rattle.place_walk.proofs.StandLemmas.{same-course}
use Rattle.stand_sums.specs.Kept.{IsSequenceEnd}
use Rattle.stand_sums.proofs.PartLemmas.{blank}
use Rattle.mask_sums.proofs.RunLemmas.{mark-at, not-true, not-false}
use Rattle.level_ahead.proofs.AddLemmas.{IsVisitRead, read-start, read-more}
use Rattle.level_ahead.proofs.counting.read_sequence.Goals.{then-end-from, else-end-from}
use Rattle.level_ahead.proofs.counting.read_sequence.Goals as goal

pub visits-init : goal.visits-init
visits-init g c =
    let some = c.requires.some in
    record {
      rows = refl;
      moves = refl;
      sets = c.forget.ensures.room;
      forward = omega arith;
      within = omega arith;
      here = λ k visit past before at. absurd (omega arith);
      read = read-start (course_of c.args.memo.now c.args.places.now) (g.T.Outputs.ranks c.args.table.now) c.args.lacking c.args.asked.now c.args.visits.now c.args.from c.forget.new.self c.forget.ensures.none;
    }

pub visits-preserved : goal.visits-preserved
visits-preserved g c =
    let course : Course = course_of c.args.memo.now c.args.places.now in
    let ranks = g.T.Outputs.ranks c.args.table.now in
    let asked : ℕ = c.args.asked.now in
    let visits : List Visit = c.args.visits.now in
    let from : ℕ = c.args.from in
    let end : ℕ = c.visits.end in
    let forward : from ≤ end = c.visits.invariant.forward in
    let inside : end < length visits = c.visits-test.true in
    let same : course_of c.visits.memo c.args.places.now ≡ course = same-course c.visits.memo c.args.memo.now c.args.places.now c.visits.invariant.rows c.visits.invariant.moves in
    let quiet : c.in_ok-read_visit.field-0 ≡ true = c.if-not-branch.false in
    let step : IsVisitRead course ranks c.args.lacking asked (get_or visits end blank) c.visits.gathered c.read_visit.new.gathered =
    subst (λ (k : Course). IsVisitRead k ranks c.args.lacking asked (get_or visits end blank) c.visits.gathered c.read_visit.new.gathered) same (record {
      touched = λ rank has. c.in_ok-read_visit.ensures.touched rank has;
      met = λ rank other asks. c.in_ok-read_visit.ensures.gathered quiet rank other asks;
      ended = λ rank asks goes. c.in_ok-read_visit.ensures.ended quiet rank asks goes;
    }) in
    record {
      rows = c.in_ok-read_visit.ensures.rows ∙ c.visits.invariant.rows;
      moves = c.in_ok-read_visit.ensures.moves ∙ c.visits.invariant.moves;
      sets = c.in_ok-read_visit.ensures.sets ∙ c.visits.invariant.sets;
      forward = omega arith;
      within = omega arith;
      here = λ k visit past before at. elim (cases_eq k end) [
        | inl same_place ↦
            let at' : slice_get visits end ≡ Some visit = subst (λ (n : ℕ). slice_get visits n ≡ Some visit) same_place at in
            elim c.if-end-from.branch [
              | then-end-from w ↦ let start : end ≡ from = w.if-end-from.true in absurd (omega arith)
              | else-end-from w ↦ mark-at visits end visit blank false at' (not-true (get_or visits end blank).first (sym w.value-is ∙ c.if-not-visits-end.true))
            ]
        | inr other ↦ c.visits.invariant.here k visit past (omega arith) at
      ];
      read = read-more course ranks c.args.lacking asked visits from end blank c.visits.gathered c.read_visit.new.gathered forward inside c.visits.invariant.read step;
    }

pub returns-else-not-visits-end-clause-read : goal.returns-else-not-visits-end-clause-read
returns-else-not-visits-end-clause-read g c =
    let visits : List Visit = c.args.visits.now in
    let from : ℕ = c.args.from in
    let end : ℕ = c.visits.end in
    let forward : from ≤ end = c.visits.invariant.forward in
    let ends_there : IsSequenceEnd visits from end = elim c.if-end-from.branch [
      | then-end-from w ↦ absurd (true≢false (sym (eq-eqb end from w.if-end-from.true) ∙ sym w.value-is ∙ c.if-not-visits-end.false))
      | else-end-from w ↦ record {
        some = let other = w.if-end-from.false in omega arith;
        within = c.visits.invariant.within;
        here = c.visits.invariant.here;
        next = λ visit at. mark-at visits end visit blank true at (not-false (get_or visits end blank).first (sym w.value-is ∙ c.if-not-visits-end.false));
      }
    ] in
    record { end_is = ends_there; touched = c.visits.invariant.read.touched; met = c.visits.invariant.read.met; ended = c.visits.invariant.read.ended }

pub returns-after-visits-clause-read : goal.returns-after-visits-clause-read
returns-after-visits-clause-read g c =
    let visits : List Visit = c.args.visits.now in
    let from : ℕ = c.args.from in
    let end : ℕ = c.visits.end in
    let some = c.requires.some in
    let ends_there : IsSequenceEnd visits from end = record {
      some = let past = c.visits-test.false in omega arith;
      within = c.visits.invariant.within;
      here = c.visits.invariant.here;
      next = λ visit at. let past = c.visits-test.false in let before = slice_get_within visits end visit at in absurd (omega arith);
    } in
    record { end_is = ends_there; touched = c.visits.invariant.read.touched; met = c.visits.invariant.read.met; ended = c.visits.invariant.read.ended }
