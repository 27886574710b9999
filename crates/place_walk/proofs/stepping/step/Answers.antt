use Rattle.std.proofs.Common.{◌≡◌, ◌+◌, ◌<◌, ◌≤◌, ℕ, Some, List, map, length, refl, sym, subst, rules}
use Rattle.std.specs.List.{slice_get, slice_index, slice_range}
use Rattle.std.proofs.lemmas.Option.{slice_get_within, get_or_from_slice_get}
use Rattle.std.proofs.lemmas.List.Elements.{All-contains}
use Rattle.mine_model.proofs.ElementLemmas.{get-held, get-some}
use Rattle.walk_memo.specs.declared.action.Action.{Action}
use Rattle.walk_memo.specs.Moves.{MoveSets}
use Rattle.walk_memo.specs.Steps.{IsAfter, AreActions}
use Rattle.walk_memo.specs.Memos.{IsStep}
use Rattle.walk_places.specs.declared.places.Record.{Record}
use Rattle.place_walk.specs.Ways.{visit_of}
use Rattle.place_walk.proofs.JoinLemmas.{numbered-set}
use Rattle.place_walk.proofs.stepping.step.Given.{Over}
use Rattle.place_walk.proofs.stepping.step.Goals as goal
use Rattle.place_walk.proofs.stepping.step.Goals.{After-get-entry, In_ok-step}

inside : (g : Over) (c : After-get-entry g) → c.get-entry.result.of < length c.args.memo.now.moves
inside g c =
    All-contains (λ (e : Record). e.of < length c.args.memo.now.moves) c.args.places.now c.get-entry.result c.requires.moves (get-held c.args.places.now c.args.place c.get-entry.result c.get-entry.ensures)

module _ (g : Over) (c : In_ok-step g) where
  found : (move : MoveSets) × (slice_get c.args.memo.now.moves c.get-entry.result.of ≡ Some move)
  found =
      get-some c.args.memo.now.moves c.get-entry.result.of
      (All-contains (λ (e : Record). e.of < length c.args.memo.now.moves) c.args.places.now c.get-entry.result c.requires.moves (get-held c.args.places.now c.args.place c.get-entry.result c.get-entry.ensures))

  is : IsStep c.step.new.self found.0 (slice_index c.args.memo.now.sets c.args.set) c.in_ok-step.step
  is = c.in_ok-step.ensures.step (slice_index c.args.memo.now.sets c.args.set) found.0 (numbered-set c.args.memo.now.sets c.args.set c.requires.set) found.1

pub step-requires : goal.step-requires
step-requires g c =
    let below = inside g (goal.at.step-requires g c).After-get-entry in
    let width = c.requires.width in
    let number = c.requires.set in
    search rules

pub actions-requires : goal.actions-requires
actions-requires g c =
    let step = is g (goal.at.actions-requires g c).In_ok-step in
    let ordered : c.in_ok-step.step.first ≤ c.in_ok-step.step.last = step.ordered in
    let within : c.in_ok-step.step.last ≤ length c.step.new.self.actions = step.within in
    search rules

pub returns-clause-number : goal.returns-clause-number
returns-clause-number g c =
    let step = is g (goal.at.returns-clause-number g c).In_ok-step in
    slice_get_within c.step.new.self.sets c.in_ok-step.step.next step.after step.numbered

pub returns-clause-visits : goal.returns-clause-visits
returns-clause-visits g c =
    let there = (goal.at.returns-clause-visits g c).In_ok-step in
    let step = is g there in
    let move : MoveSets = (found g there).0 in
    let before : ℕ = slice_index c.args.memo.now.sets c.args.set in
    let after : slice_index c.step.new.self.sets c.in_ok-step.step.next ≡ step.after = get_or_from_slice_get c.step.new.self.sets c.in_ok-step.step.next step.after 0 step.numbered in
    let rows : c.step.new.self.rows ≡ c.args.memo.now.rows = c.step.ensures.memo.rows in
    let actions : List Action = slice_range c.step.new.self.actions c.in_ok-step.step.first c.in_ok-step.step.last in (
      map (visit_of (c.args.place + 1) c.get-entry.result.kind) actions,
      rw (← c.actions.ensures) c.in_ok-push_visits.ensures,
      record {
        entry = c.get-entry.result;
        move = move;
        holds = record { entry_is = c.get-entry.ensures; move_is = (found g there).1 };
        next = subst (λ (a : ℕ). IsAfter c.args.memo.now.rows move before a) (sym after) (subst (λ (r : List ℕ). IsAfter r move before step.after) rows step.next);
        actions = actions;
        written = refl;
        exact = subst (λ (r : List ℕ). AreActions r move before actions) rows step.actions;
      },
    )
