use Rattle.std.proofs.Common.{◌≡◌, ◌∙◌, ℕ, Bool, true, false, true≢false, ◌&&◌, IsTrue, Some, List, [], ◌∷◌, map, take, get_or, sym, subst, arith}
use Rattle.std.proofs.lemmas.Bool.{false_from_ne_true, and_from, or_left, or_right, and_left, and_right}
use Rattle.std.proofs.lemmas.List.{take_all}
use Rattle.std.proofs.lemmas.List.Elements.{Contains-get_or}
use Rattle.mine_model.proofs.ListLemmas.{Contains-by}
use Rattle.walk_memo.specs.declared.action.Action.{Action}
use Rattle.place_walk.specs.declared.visit.Visit.{Visit}
use Rattle.place_walk.specs.Ways.{visit_of}
use Rattle.stand_sums.specs.Writings.{writes}
use Rattle.level_ahead.specs.Following.{HasEnded}
use Rattle.level_ahead.proofs.FollowLemmas.{idle, ended-none, ended-both, needed-stops, needed-passes, mapped-more}
use Rattle.level_ahead.proofs.NeedLemmas.{writes-has}
use Rattle.level_ahead.proofs.following.add_needed.Goals.{then-has+else-action-2+then-action-3, then-has+else-action-2+else-action-3, else-has}
use Rattle.level_ahead.proofs.following.add_needed.Goals as goal

pub returns-then-action-clause-goes : goal.returns-then-action-clause-goes
returns-then-action-clause-goes g c stays place =
    let ranks = g.T.Outputs.ranks c.args.table.now in
    let actions : List Action = c.args.actions.now in
    let k : ℕ = c.loop-action.action-index in
    let one : Visit = visit_of place c.args.kind (get_or actions k idle) in (
      one,
      Contains-by (visit_of place c.args.kind) actions (get_or actions k idle) (Contains-get_or actions k idle c.loop-action-test.true),
      or_left one.action.unseen (writes ranks c.args.need one && one.action.more) c.if-action.true,
    )

pub returns-then-action-2-clause-goes : goal.returns-then-action-2-clause-goes
returns-then-action-2-clause-goes g c stays place =
    let ranks = g.T.Outputs.ranks c.args.table.now in
    let actions : List Action = c.args.actions.now in
    let k : ℕ = c.loop-action.action-index in
    let one : Visit = visit_of place c.args.kind (get_or actions k idle) in
    let written : IsTrue (writes ranks c.args.need one) = (writes-has ranks one c.mask.result.now c.mask.ensures c.args.need).0 (c.has.ensures.0 c.if-has.true) in (
      one,
      Contains-by (visit_of place c.args.kind) actions (get_or actions k idle) (Contains-get_or actions k idle c.loop-action-test.true),
      or_right one.action.unseen (writes ranks c.args.need one && one.action.more) (and_from (writes ranks c.args.need one) one.action.more written c.if-action-2.true),
    )

pub loop-action-init : goal.loop-action-init
loop-action-init g c = record {
  ended = λ place. ended-none (g.T.Outputs.ranks c.args.table.now) (Some c.args.need) c.args.ranks.now;
}

pub loop-action-preserved : goal.loop-action-preserved
loop-action-preserved g c =
    let ranks = g.T.Outputs.ranks c.args.table.now in
    let need : ℕ = c.args.need in
    let actions : List Action = c.args.actions.now in
    let k : ℕ = c.loop-action.action-index in
    let inside = c.loop-action-test.true in
    record {
      ended = λ place.
          let one : Visit = visit_of place c.args.kind (get_or actions k idle) in
          let before : List Visit = map (visit_of place c.args.kind) (take k actions) in
          let has = writes-has ranks one c.mask.result.now c.mask.ensures need in
          let unseen : one.action.unseen ≡ false = c.if-action.false in
          subst (λ (vs : List Visit). HasEnded ranks (Some need) vs c.args.ranks.now c.if-has.ranks) (sym (mapped-more ranks place c.args.kind actions k idle inside))
          (ended-both ranks (Some need) before (one ∷ []) c.args.ranks.now c.loop-action.ranks c.if-has.ranks (c.loop-action.invariant.ended place)
          (elim c.if-has.branch [
            | then-has+else-action-2+then-action-3 w ↦
                let quiet : (writes ranks need one && one.action.more) ≡ false = and_right (writes ranks need one) one.action.more w.if-action-2.false in
                rw w.ranks-is
                (needed-stops ranks need one unseen quiet (has.0 (c.has.ensures.0 w.if-has.true)) w.if-action-3.true c.loop-action.ranks w.add.new.self w.add.ensures)
            | then-has+else-action-2+else-action-3 w ↦
                let quiet : (writes ranks need one && one.action.more) ≡ false = and_right (writes ranks need one) one.action.more w.if-action-2.false in
                rw w.ranks-is (needed-passes ranks need one unseen quiet (λ written. w.if-action-3.false) c.loop-action.ranks)
            | else-has w ↦
                let not_written : IsTrue (writes ranks need one) → ⊥ = λ written. true≢false (sym (c.has.ensures.1 (has.1 written)) ∙ w.if-has.false) in
                let quiet : (writes ranks need one && one.action.more) ≡ false = and_left (writes ranks need one) one.action.more (false_from_ne_true (writes ranks need one) not_written) in
                rw w.ranks-is (needed-passes ranks need one unseen quiet (λ written. absurd (not_written written)) c.loop-action.ranks)
          ]));
    }

pub returns-clause-ended : goal.returns-clause-ended
returns-clause-ended g c _ place =
    let ranks = g.T.Outputs.ranks c.args.table.now in
    let actions : List Action = c.args.actions.now in
    subst (λ (l : List Action). HasEnded ranks (Some c.args.need) (map (visit_of place c.args.kind) l) c.args.ranks.now c.loop-action.ranks)
    (take_all c.loop-action.action-index actions (let past = c.loop-action-test.false in omega arith)) (c.loop-action.invariant.ended place)
