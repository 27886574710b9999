use Rattle.std.proofs.Common.{◌≡◌, ◌<◌, ◌≤◌, ℕ, ◌+◌, Some, List, map, length, get_or, refl, sym, subst, rules}
use Rattle.std.specs.List.{Contains, slice_get, slice_index, slice_range}
use Rattle.std.proofs.lemmas.Option.{slice_get_within, get_or_from_slice_get}
use Rattle.std.proofs.lemmas.List.Elements.{All-contains, Contains-get_or}
use Rattle.mine_model.proofs.ElementLemmas.{get-held, get-some}
use Rattle.mine_model.proofs.ListLemmas.{Contains-by}
use Rattle.walk_memo.specs.declared.action.Action.{Action}
use Rattle.walk_memo.specs.Moves.{MoveSets}
use Rattle.walk_memo.specs.Steps.{IsAfter, AreActions}
use Rattle.walk_memo.specs.Memos.{IsStep}
use Rattle.walk_places.specs.declared.places.Record.{Record}
use Rattle.place_walk.specs.declared.visit.Visit.{Visit}
use Rattle.place_walk.specs.Courses.{course_of}
use Rattle.place_walk.specs.Ways.{IsStepOver, visit_of}
use Rattle.place_walk.proofs.JoinLemmas.{numbered-set}
use Rattle.stand_sums.specs.Sequences.{HasOne}
use Rattle.level_ahead.specs.Behind.{goes_further}
use Rattle.level_ahead.specs.Following.{HasEnded}
use Rattle.level_ahead.proofs.following.read_place.Given.{Over}
use Rattle.level_ahead.proofs.following.read_place.Goals as goal
use Rattle.level_ahead.proofs.following.read_place.Goals.{In_ok-step}

module _ (g : Over) (c : In_ok-step g) where
  found : (move : MoveSets) × (slice_get c.args.memo.now.moves c.get-entry.result.of ≡ Some move)
  found =
      get-some c.args.memo.now.moves c.get-entry.result.of
      (All-contains (λ (e : Record). e.of < length c.args.memo.now.moves) c.args.places.now c.get-entry.result c.requires.moves (get-held c.args.places.now c.args.place c.get-entry.result c.get-entry.ensures))

  is : IsStep c.step.new.self found.0 (slice_index c.args.memo.now.sets c.args.set) c.in_ok-step.step
  is = c.in_ok-step.ensures.step (slice_index c.args.memo.now.sets c.args.set) found.0 (numbered-set c.args.memo.now.sets c.args.set c.requires.set) found.1

  abbrev actions : List Action
  actions = slice_range c.step.new.self.actions c.in_ok-step.step.first c.in_ok-step.step.last

  abbrev visits : List Visit
  visits = map (visit_of (c.args.place + 1) c.get-entry.result.kind) actions

  -- the step over the place
  over : IsStepOver (course_of c.args.memo.now c.args.places.now) c.args.place (slice_index c.args.memo.now.sets c.args.set) (slice_index c.step.new.self.sets c.in_ok-step.step.next) visits
  over =
      let step = is in
      let move : MoveSets = found.0 in
      let before : ℕ = slice_index c.args.memo.now.sets c.args.set in
      let after : slice_index c.step.new.self.sets c.in_ok-step.step.next ≡ step.after = get_or_from_slice_get c.step.new.self.sets c.in_ok-step.step.next step.after 0 step.numbered in
      let rows : c.step.new.self.rows ≡ c.args.memo.now.rows = c.step.ensures.memo.rows in
      record {
        entry = c.get-entry.result;
        move = move;
        holds = record { entry_is = c.get-entry.ensures; move_is = found.1 };
        next = subst (λ (a : ℕ). IsAfter c.args.memo.now.rows move before a) (sym after) (subst (λ (r : List ℕ). IsAfter r move before step.after) rows step.next);
        actions = actions;
        written = refl;
        exact = subst (λ (r : List ℕ). AreActions r move before actions) rows step.actions;
      }

pub step-requires : goal.step-requires
step-requires g c =
    let below : c.get-entry.result.of < length c.args.memo.now.moves =
    All-contains (λ (e : Record). e.of < length c.args.memo.now.moves) c.args.places.now c.get-entry.result c.requires.moves (get-held c.args.places.now c.args.place c.get-entry.result c.get-entry.ensures) in
    let width = c.requires.width in
    let number = c.requires.set in
    search rules

pub actions-requires : goal.actions-requires
actions-requires g c =
    let step = is g (goal.at.actions-requires g c).In_ok-step in
    let ordered : c.in_ok-step.step.first ≤ c.in_ok-step.step.last = step.ordered in
    let within : c.in_ok-step.step.last ≤ length c.step.new.self.actions = step.within in
    search rules

pub add_following-requires-clause-asked : goal.add_following-requires-clause-asked
add_following-requires-clause-asked g c k d inside =
    let there : In_ok-step g = (goal.at.add_following-requires-clause-asked g c).In_ok-step in
    let list : List Action = c.actions.result.now in
    let one : Action = get_or list k d in
    let held : Contains (actions g there) one = subst (λ (l : List Action). Contains l one) c.actions.ensures (Contains-get_or list k d inside) in
    All-contains (λ (v : Visit). g.T.Outputs.CanAsk c.args.table.now v.kind v.action.state) (visits g there) (visit_of (c.args.place + 1) c.get-entry.result.kind one)
    (c.requires.asked (slice_index c.step.new.self.sets c.in_ok-step.step.next) (visits g there) (over g there))
    (Contains-by (visit_of (c.args.place + 1) c.get-entry.result.kind) (actions g there) one held)

pub returns-then-add_following-clause-number : goal.returns-then-add_following-clause-number
returns-then-add_following-clause-number g c =
    let step = is g (goal.at.returns-then-add_following-clause-number g c).In_ok-step in
    slice_get_within c.step.new.self.sets c.in_ok-step.step.next step.after step.numbered

pub returns-then-add_following-clause-some : goal.returns-then-add_following-clause-some
returns-then-add_following-clause-some g c =
    let there : In_ok-step g = (goal.at.returns-then-add_following-clause-some g c).In_ok-step in (
      visits g there,
      over g there,
      subst (λ (l : List Action). HasEnded (g.T.Outputs.ranks c.args.table.now) c.args.lacking (map (visit_of (c.args.place + 1) c.get-entry.result.kind) l) c.args.ranks.now c.add_following.new.ranks)
          c.actions.ensures (c.add_following.ensures.ended c.if-add_following.true (c.args.place + 1)),
    )

pub returns-else-add_following-clause-none : goal.returns-else-add_following-clause-none
returns-else-add_following-clause-none g c =
    let there : In_ok-step g = (goal.at.returns-else-add_following-clause-none g c).In_ok-step in (
      slice_index c.step.new.self.sets c.in_ok-step.step.next,
      visits g there,
      over g there,
      subst (λ (l : List Action). HasOne (goes_further (g.T.Outputs.ranks c.args.table.now) c.args.lacking) (map (visit_of (c.args.place + 1) c.get-entry.result.kind) l)) c.actions.ensures
          (c.add_following.ensures.goes c.if-add_following.false (c.args.place + 1)),
    )
