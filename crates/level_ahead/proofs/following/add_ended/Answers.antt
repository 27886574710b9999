use Rattle.std.proofs.Common.{ℕ, None, List, [], ◌∷◌, map, take, get_or, sym, subst, arith}
use Rattle.std.proofs.lemmas.List.{take_all}
use Rattle.std.proofs.lemmas.List.Elements.{Contains-get_or}
use Rattle.mine_model.proofs.ListLemmas.{Contains-by}
use Rattle.walk_memo.specs.declared.action.Action.{Action}
use Rattle.place_walk.specs.declared.visit.Visit.{Visit}
use Rattle.place_walk.specs.Ways.{visit_of}
use Rattle.level_ahead.specs.Following.{HasEnded}
use Rattle.level_ahead.proofs.FollowLemmas.{idle, ended-none, ended-both, one-stops, one-passes, mapped-more}
use Rattle.level_ahead.proofs.following.add_ended.Goals.{then-action-2, else-action-2}
use Rattle.level_ahead.proofs.following.add_ended.Goals as goal

pub returns-then-action-clause-goes : goal.returns-then-action-clause-goes
returns-then-action-clause-goes g c stays place =
    let actions : List Action = c.args.actions.now in
    let k : ℕ = c.loop-action.action-index in
    let one : Action = get_or actions k idle in
    (visit_of place c.args.kind one, Contains-by (visit_of place c.args.kind) actions one (Contains-get_or actions k idle c.loop-action-test.true), c.if-action.true)

pub loop-action-init : goal.loop-action-init
loop-action-init g c = record {
  ended = λ place. ended-none (g.T.Outputs.ranks c.args.table.now) None c.args.ranks.now;
}

pub loop-action-preserved : goal.loop-action-preserved
loop-action-preserved g c =
    let ranks = g.T.Outputs.ranks c.args.table.now in
    let actions : List Action = c.args.actions.now in
    let k : ℕ = c.loop-action.action-index in
    let inside = c.loop-action-test.true in
    record {
      ended = λ place.
          let one : Visit = visit_of place c.args.kind (get_or actions k idle) in
          let before : List Visit = map (visit_of place c.args.kind) (take k actions) in
          subst (λ (vs : List Visit). HasEnded ranks None vs c.args.ranks.now c.if-action-2.ranks) (sym (mapped-more ranks place c.args.kind actions k idle inside))
          (ended-both ranks None before (one ∷ []) c.args.ranks.now c.loop-action.ranks c.if-action-2.ranks (c.loop-action.invariant.ended place)
          (elim c.if-action-2.branch [
            | then-action-2 w ↦
                rw w.ranks-is
                (one-stops ranks one c.if-action.false w.if-action-2.true c.loop-action.ranks w.union_with.new.self w.mask.result.now w.mask.ensures w.union_with.ensures)
            | else-action-2 w ↦ rw w.ranks-is (one-passes ranks one c.if-action.false w.if-action-2.false c.loop-action.ranks)
          ]));
    }

pub returns-clause-ended : goal.returns-clause-ended
returns-clause-ended g c _ place =
    let ranks = g.T.Outputs.ranks c.args.table.now in
    let actions : List Action = c.args.actions.now in
    subst (λ (l : List Action). HasEnded ranks None (map (visit_of place c.args.kind) l) c.args.ranks.now c.loop-action.ranks)
    (take_all c.loop-action.action-index actions (let past = c.loop-action-test.false in omega arith)) (c.loop-action.invariant.ended place)
