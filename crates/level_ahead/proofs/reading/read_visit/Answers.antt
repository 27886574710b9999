use Rattle.std.proofs.Common.{ℕ, ◌↔◌, inl, inr, true, IsTrue, Option, IfSome, IfNone, List, [], ◌∷◌, subst}
use Rattle.state_bits.specs.Members.{Has}
use Rattle.state_bits.proofs.NeighbourLemmas.{Has-none}
use Rattle.place_walk.specs.declared.visit.Visit.{Visit}
use Rattle.place_walk.specs.Courses.{course_of}
use Rattle.place_walk.specs.Visits.{AreVisits}
use Rattle.stand_sums.specs.Writings.{follows}
use Rattle.stand_sums.specs.Files.{stand_at}
use Rattle.mask_sums.specs.Kept.{lacks}
use Rattle.level_ahead.specs.Behind.{IsBehind, FollowsBehind, goes_further}
use Rattle.level_ahead.specs.Following.{HasEnded}
use Rattle.level_ahead.specs.Kept.{HasGathered}
use Rattle.level_ahead.proofs.BehindLemmas.{behind-one}
use Rattle.level_ahead.proofs.NeedLemmas.{going}
use Rattle.level_ahead.proofs.ReadLemmas.{either-none, either-by, closed-behind, wanted-opens, opens-wanted, quiet-there, follows-there}
use Rattle.stand_sums.specs.Sequences.{HasOne}
use Rattle.stand_sums.specs.Writings.{Ranks}
use Rattle.level_ahead.proofs.reading.read_visit.Given.{Over}
use Rattle.level_ahead.proofs.reading.read_visit.Goals as goal
use Rattle.level_ahead.proofs.reading.read_visit.Goals.{In-Some-2}

pub returns-in-None-clause-gathered : goal.returns-in-None-clause-gathered
returns-in-None-clause-gathered g c ended rank other asks =
    let course = course_of c.args.memo.now c.args.places.now in
    let ranks = g.T.Outputs.ranks c.args.table.now in
    let visit : Visit = c.args.visit in
    let mask : ℕ = c.mask.result.now in
    let asked : ℕ = c.args.asked.now in
    let wanted : ℕ = c.intersect_with.new.self in
    either-none (HasGathered c.args.gathered.now rank other) (FollowsBehind course ranks c.args.lacking rank other (visit ∷ []))
    (closed-behind course ranks c.args.lacking rank (follows ranks (lacks c.args.lacking) other) visit (λ opening. c.in-None.ensures.none rank (opens-wanted course ranks c.args.lacking visit mask asked wanted c.mask.ensures (going c.args.lacking c.args.visit asked c.goes_with_others.result c.if-not-goes_with_others.false c.goes_with_others.ensures c.requires.apart) c.intersect_with.ensures rank asks opening)))

pub returns-in-None-clause-ended : goal.returns-in-None-clause-ended
returns-in-None-clause-ended g c ended rank asks =
    let course = course_of c.args.memo.now c.args.places.now in
    let ranks = g.T.Outputs.ranks c.args.table.now in
    let visit : Visit = c.args.visit in
    let mask : ℕ = c.mask.result.now in
    let asked : ℕ = c.args.asked.now in
    let wanted : ℕ = c.intersect_with.new.self in
    closed-behind course ranks c.args.lacking rank (goes_further ranks c.args.lacking) visit (λ opening. c.in-None.ensures.none rank (opens-wanted course ranks c.args.lacking visit mask asked wanted c.mask.ensures (going c.args.lacking c.args.visit asked c.goes_with_others.result c.if-not-goes_with_others.false c.goes_with_others.ensures c.requires.apart) c.intersect_with.ensures rank asks opening))

module _ (g : Over) (c : In-Some-2 g) where
  -- what was found on the way behind the visit
  found : (room : List Visit) × AreVisits (course_of c.args.memo.now c.args.places.now) (stand_at true c.args.visit ∷ []) room
      × HasEnded (g.T.Outputs.ranks c.args.table.now) c.args.lacking room 0 c.in-Some-2.next
  found =
      subst (λ (o : Option ℕ). IfSome o (λ set. (room : List Visit) × AreVisits (course_of c.args.memo.now c.args.places.now) (stand_at true c.args.visit ∷ []) room
      × HasEnded (g.T.Outputs.ranks c.args.table.now) c.args.lacking room 0 set)) c.in-Some-2.is c.in_ok-next.ensures.some

pub returns-in-Some-2-clause-gathered : goal.returns-in-Some-2-clause-gathered
returns-in-Some-2-clause-gathered g c ended rank other asks =
    let course = course_of c.args.memo.now c.args.places.now in
    let ranks : Ranks = g.T.Outputs.ranks c.args.table.now in
    let visit : Visit = c.args.visit in
    let mask : ℕ = c.mask.result.now in
    let asked : ℕ = c.args.asked.now in
    let wanted : ℕ = c.intersect_with.new.self in
    let next : ℕ = c.in-Some-2.next in
    let (room, are, is) = found g (goal.at.returns-in-Some-2-clause-gathered g c).In-Some-2 in
    let set : (one : ℕ) → Has next one ↔ HasOne (follows ranks (lacks c.args.lacking) one) room = λ one. (
      (λ has. elim ((is.added one).0 has) [ inl none ↦ absurd (Has-none one none) | inr there ↦ there ]),
      (λ there. (is.added one).1 (inr there)),
    ) in
    either-by (HasGathered c.gather.new.self rank other) (HasGathered c.args.gathered.now rank other) (Has wanted rank × Has next other) (FollowsBehind course ranks c.args.lacking rank other (visit ∷ []))
    (c.gather.ensures.gathered rank other) (follows-there course ranks c.args.lacking visit mask asked wanted c.mask.ensures (going c.args.lacking c.args.visit asked c.goes_with_others.result c.if-not-goes_with_others.false c.goes_with_others.ensures c.requires.apart) c.intersect_with.ensures room are next set rank other asks)

pub returns-in-Some-2-clause-ended : goal.returns-in-Some-2-clause-ended
returns-in-Some-2-clause-ended g c ended rank asks =
    let course = course_of c.args.memo.now c.args.places.now in
    let ranks : Ranks = g.T.Outputs.ranks c.args.table.now in
    let visit : Visit = c.args.visit in
    let mask : ℕ = c.mask.result.now in
    let asked : ℕ = c.args.asked.now in
    let wanted : ℕ = c.intersect_with.new.self in
    let (room, are, is) = found g (goal.at.returns-in-Some-2-clause-ended g c).In-Some-2 in
    quiet-there course ranks c.args.lacking visit mask asked wanted c.mask.ensures (going c.args.lacking c.args.visit asked c.goes_with_others.result c.if-not-goes_with_others.false c.goes_with_others.ensures c.requires.apart) c.intersect_with.ensures room are is.ended rank

pub returns-in-None-2-clause-goes : goal.returns-in-None-2-clause-goes
returns-in-None-2-clause-goes g c stays =
    let course = course_of c.args.memo.now c.args.places.now in
    let ranks : Ranks = g.T.Outputs.ranks c.args.table.now in
    let lack : Option ℕ = c.args.lacking in
    let visit : Visit = c.args.visit in
    let mask : ℕ = c.mask.result.now in
    let asked : ℕ = c.args.asked.now in
    let wanted : ℕ = c.intersect_with.new.self in
    let (next, behind, goes) =
    subst (λ (o : Option ℕ). IfNone o ((next : Visit) × IsBehind course visit next × IsTrue (goes_further ranks lack next))) c.in-None-2.is c.in_ok-next.ensures.none in
    let rank : ℕ = c.in-Some.first in
    let has : Has wanted rank = subst (λ (o : Option ℕ). IfSome o (Has wanted)) c.in-Some.is c.first_of.ensures.some in
    let (asks, opening) =
    wanted-opens course ranks lack visit mask asked wanted c.mask.ensures (going lack c.args.visit asked c.goes_with_others.result c.if-not-goes_with_others.false c.goes_with_others.ensures c.requires.apart) c.intersect_with.ensures rank has in
    (rank, asks, behind-one course ranks lack rank (goes_further ranks lack) visit opening (record { next = next; behind = behind; passes = goes }))
