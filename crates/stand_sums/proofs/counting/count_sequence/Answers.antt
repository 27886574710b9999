use Rattle.std.proofs.Common.{◌∙◌, ℕ, Some, List, get_or, length, take, sym, ap, subst, arith, rules, refl}
use Rattle.std.proofs.lemmas.List.{take_all}
use Rattle.place_walk.specs.declared.visit.Visit.{Visit}
use Rattle.stand_sums.specs.declared.sum.Sum.{Sum}
use Rattle.stand_sums.specs.Writings.{IsReadable}
use Rattle.stand_sums.specs.Kept.{behind_visits}
use Rattle.stand_sums.proofs.PartLemmas.{visits-more, blank}
use Rattle.stand_sums.proofs.counting.count_sequence.Goals as goal

pub loop-visit-init : goal.loop-visit-init
loop-visit-init g c = record {
  room = refl;
  sums = c.requires.sums;
  counted = λ rank before at. at;
}

pub count_visit-requires-clause-readable : goal.count_visit-requires-clause-readable
count_visit-requires-clause-readable g c =
    let ranks = g.T.Outputs.ranks c.args.table.now in
    let can = g.T.Outputs.CanAsk c.args.table.now in
    let one : IsReadable ranks can (length c.args.sums.now) (get_or c.args.visits.now c.loop-visit.visit-index blank) =
    c.requires.readable c.loop-visit.visit-index blank c.loop-visit-test.true in
    subst (λ (n : ℕ). IsReadable ranks can n (get_or c.args.visits.now c.loop-visit.visit-index blank)) (sym c.loop-visit.invariant.room) one

pub loop-visit-preserved : goal.loop-visit-preserved
loop-visit-preserved g c =
    let ranks = g.T.Outputs.ranks c.args.table.now in
    record {
      room = search rules;
      sums = search rules;
      counted = λ rank before at.
          let done : Sum = behind_visits ranks c.args.aim c.args.counted rank before (take c.loop-visit.visit-index c.args.visits.now) in
          c.in_ok-count_visit.ensures.counted rank done (c.loop-visit.invariant.counted rank before at)
          ∙ ap Some (sym (visits-more ranks c.args.aim c.args.counted rank before c.args.visits.now c.loop-visit.visit-index blank c.loop-visit-test.true));
    }

pub returns-clause-counted : goal.returns-clause-counted
returns-clause-counted g c rank before at =
    let ranks = g.T.Outputs.ranks c.args.table.now in
    c.loop-visit.invariant.counted rank before at
    ∙ ap (λ (visits : List Visit). Some (behind_visits ranks c.args.aim c.args.counted rank before visits)) (take_all c.loop-visit.visit-index c.args.visits.now (omega arith))
