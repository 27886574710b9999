use Rattle.std.proofs.Common.{◌≡◌, ◌∙◌, ℕ, List, subst}
use Rattle.place_walk.specs.declared.visit.Visit.{Visit}
use Rattle.place_walk.specs.Courses.{Course, course_of}
use Rattle.place_walk.proofs.StandLemmas.{same-course}
use Rattle.level_ahead.specs.Kept.{IsReadTo, IsReadOrNone}
use Rattle.level_ahead.proofs.AddLemmas.{added-more, added-all}
use Rattle.level_ahead.proofs.counting.count_all.Goals as goal

pub sequences-preserved : goal.sequences-preserved
sequences-preserved g c =
    let course : Course = course_of c.args.memo.now c.args.places.now in
    let here : Course = course_of c.sequences.memo c.args.places.now in
    let ranks = g.T.Outputs.ranks c.args.table.now in
    let asked : ℕ = c.args.asked.now in
    let visits : List Visit = c.args.visits.now in
    let from : ℕ = c.sequences.from in
    let end : ℕ = c.in-Some.end in
    let same : here ≡ course = same-course c.sequences.memo c.args.memo.now c.args.places.now c.sequences.invariant.rows c.sequences.invariant.moves in
    let read : IsReadTo course ranks c.args.lacking asked visits from c.read_sequence.new.gathered end =
    subst (λ (k : Course). IsReadTo k ranks c.args.lacking asked visits from c.read_sequence.new.gathered end) same
    (subst (IsReadOrNone here ranks c.args.lacking asked visits from c.read_sequence.new.gathered) c.in-Some.is c.in_ok-end.ensures.read) in
    record {
      rows = c.in_ok-end.ensures.rows ∙ c.sequences.invariant.rows;
      moves = c.in_ok-end.ensures.moves ∙ c.sequences.invariant.moves;
      sets = c.in_ok-end.ensures.sets ∙ c.sequences.invariant.sets;
      room = c.in_ok-count_sequence-in-Some.ensures.room ∙ c.sequences.invariant.room;
      added = λ sequences are.
          added-more course ranks c.args.lacking asked visits from end sequences c.read_sequence.new.gathered c.args.counts.now c.sequences.counts c.count_sequence.new.counts (c.sequences.invariant.added sequences are) read
          c.in_ok-count_sequence-in-Some.ensures.counted;
    }

pub returns-clause-counted : goal.returns-clause-counted
returns-clause-counted g c quiet sequences are rank asks =
    added-all (course_of c.args.memo.now c.args.places.now) (g.T.Outputs.ranks c.args.table.now) c.args.lacking c.args.asked.now c.args.visits.now c.sequences.from sequences c.args.counts.now c.sequences.counts
    (c.sequences.invariant.added sequences are) c.sequences-test.false rank asks
