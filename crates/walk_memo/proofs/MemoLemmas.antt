-- Memos while they grow.
use Rattle.std.proofs.Common.{◌≡◌, ℕ, zero, suc, ◌+◌, ◌*◌, ◌<◌, ◌≤◌, ◌⊎◌, ◌↔◌, inl, inr, Bool, true, false, Some, List, [], ◌∷◌, ◌++◌, map, take, length, slice_get, arith, refl, sym, ap, ◌∙◌, subst, ◌&&◌, eq-eqb, ◌≢◌}
use Rattle.std.specs.Bool.{◌==◌, Decides}
use Rattle.std.specs.List.{list_any, slice_range, IsDistinct, AllPairs}
use Rattle.std.proofs.lemmas.List.{append-nil, length-append}
use Rattle.std.proofs.lemmas.Bool.{cases_Bool, and_parts, eqb-true}
use Rattle.std.proofs.lemmas.Option.{slice_get_within, same_Some}
use Rattle.indexmap.specs.IndexSet.{insert_key}
use Rattle.std.proofs.lemmas.Map.Made.{AllPairs-from_IsDistinct}
use Rattle.mine_model.proofs.ListLemmas.{slice_range-append, apart_by_image}
use Rattle.mine_model.proofs.ElementLemmas.{get-left, get_snoc}
use Rattle.state_bits.specs.Members.{Has}
use Rattle.state_bits.specs.Neighbours.{AreNeighbours}
use Rattle.state_bits.proofs.NeighbourLemmas.{Has-none}
use Rattle.walk_memo.specs.declared.action.Action.{Action}
use Rattle.walk_memo.specs.declared.cells.Cells.{Cells}
use Rattle.walk_memo.specs.declared.movement.Move.{Move}
use Rattle.walk_memo.specs.declared.step.Step.{Step}
use Rattle.walk_memo.specs.Moves.{MoveSets, move_sets}
use Rattle.walk_memo.specs.Cells.{HasCell}
use Rattle.walk_memo.specs.Steps.{IsAfter, AreWritten}
use Rattle.walk_memo.specs.Memos.{MemoValue, IsStep, IsJoined, Keeps, most_sets}
use Rattle.walk_memo.specs.Kept.{IsMemo, IsStepAt, IsJoinAt, AreSets, AreRows}

abbrev pub move_eq : {W : ℕ} → Move W → Move W → Bool
move_eq a b = a.silent == b.silent && (a.writes == b.writes && (a.more == b.more && (a.unseen == b.unseen && a.ends == b.ends)))

pub same_move : {W : ℕ} (a b : Move W) → move_eq a b ≡ true → move_sets a ≡ move_sets b
same_move a b same =
    let first = and_parts _ _ same in
    let second = and_parts _ _ first.1 in
    let third = and_parts _ _ second.1 in
    let fourth = and_parts _ _ third.1 in
    let silent : a.silent ≡ b.silent = eqb-true _ _ first.0 in
    let writes : a.writes ≡ b.writes = eqb-true _ _ second.0 in
    let more : a.more ≡ b.more = eqb-true _ _ third.0 in
    let unseen : a.unseen ≡ b.unseen = eqb-true _ _ fourth.0 in
    let ends : a.ends ≡ b.ends = eqb-true _ _ fourth.1 in
    rw (silent, writes, more, unseen, ends) refl

-- ---- sets

-- a set that stands nowhere among those of a memo is not the empty one
not_empty : (sets : List ℕ) (set : ℕ) → slice_get sets 0 ≡ Some 0 → list_any (λ b. set == b) sets ≡ false → set ≡ 0 → ⊥
not_empty [] set first none is = absurd (cc)
not_empty (x ∷ xs) set first none is =
    let x_is : x ≡ 0 = cc in
    let never : true ≡ false = rw (is, x_is) at none in
    absurd (cc)

-- after a set of states that have rows was inserted
pub sets-insert : (rows sets after : List ℕ) (set : ℕ) → AreSets rows sets → after ≡ insert_key (λ a b. a == b) sets set → ((q : ℕ) → Has set q → q < length rows)
    → AreSets rows after × ((more : List ℕ) × (after ≡ sets ++ more))
sets-insert rows sets after set are inserts within = elim (cases_Bool (list_any (λ b. set == b) sets)) [
  | inl there ↦
      let same : after ≡ sets = rw (inserts, there) refl in
      (subst (AreSets rows) (sym same) are, ([], same ∙ sym (append-nil sets)))
  | inr new ↦
      let grown : after ≡ sets ++ set ∷ [] = rw (inserts, new) refl in (
        record {
          empty = rw grown (get-left sets (set ∷ []) 0 0 are.empty);
          once = λ number zero_there. elim (get_snoc sets set number 0 (rw grown at zero_there)) [
            | inl old ↦ are.once number old
            | inr (last, is) ↦ absurd (not_empty sets set are.empty new is)
          ];
          within = λ number one q there has. elim (get_snoc sets set number one (rw grown at there)) [
            | inl old ↦ are.within number one q old has
            | inr (last, is) ↦ within q (subst (λ (s : ℕ). Has s q) (sym is) has)
          ];
        },
        (set ∷ [], grown),
      )
]

-- ---- what was kept stays right while a memo grows

module _ (before after : MemoValue) (rows : after.rows ≡ before.rows) (moves : after.moves ≡ before.moves) (keeps : Keeps before after) where
  pub get-kept : (number set : ℕ) → slice_get before.sets number ≡ Some set → slice_get after.sets number ≡ Some set
  get-kept number set is = let (more, grown) = keeps.sets in rw grown (get-left before.sets more number set is)

  pub IsStep-kept : (move : MoveSets) (set : ℕ) (step : Step) → IsStep before move set step → IsStep after move set step
  IsStep-kept move set step is =
      let (more, grown) = keeps.actions in
      let range : slice_range after.actions step.first step.last ≡ slice_range before.actions step.first step.last =
      rw grown (slice_range-append before.actions more step.first step.last is.ordered is.within) in
      record {
        after = is.after;
        numbered = get-kept step.next is.after is.numbered;
        next = subst (λ (rs : List ℕ). IsAfter rs move set is.after) (sym rows) is.next;
        ordered = is.ordered;
        within = omega (arith, is.within, ap length grown, length-append before.actions more);
        actions = rw (rows, range) is.actions;
      }

  pub IsJoined-kept : (set state joined : ℕ) → IsJoined before set state joined → IsJoined after set state joined
  IsJoined-kept set state joined is = record { joined = is.joined; numbered = get-kept joined is.joined is.numbered; join = is.join }

  pub IsMemo-grow : (width : ℕ) (steps : Cells Step) (joins : Cells ℕ) (most : ℕ) → IsMemo width before steps joins most → AreSets before.rows after.sets
      → IsMemo width after steps joins most
  IsMemo-grow width steps joins most is sets = record {
    narrow = is.narrow;
    rows_are = subst (AreRows width) (sym rows) is.rows_are;
    sets_are = subst (λ (rs : List ℕ). AreSets rs after.sets) (sym rows) sets;
    move_columns = is.move_columns ∙ ap length (sym moves);
    state_columns = is.state_columns ∙ ap length (sym rows);
    steps_known = λ number of step inside held.
        let known = is.steps_known number of step (rw moves at inside) held in
        record {
          set = known.set;
          numbered = get-kept number known.set known.numbered;
          step_is = λ move found. IsStep-kept move known.set step (known.step_is move (rw moves at found));
        };
    joins_known = λ number state joined inside held.
        let known = is.joins_known number state joined (rw rows at inside) held in
        record {
          set = known.set;
          numbered = get-kept number known.set known.numbered;
          join_is = IsJoined-kept known.set state joined known.join_is;
        };
    most_is = rw (rows, moves) is.most_is;
  }

-- a set was added, and no more
pub Keeps-sets : (rows : List ℕ) (moves : List MoveSets) (sets after : List ℕ) (actions : List Action) → (more : List ℕ) × (after ≡ sets ++ more)
    → Keeps (record { rows = rows; moves = moves; sets = sets; actions = actions }) (record { rows = rows; moves = moves; sets = after; actions = actions })
Keeps-sets rows moves sets after actions grown = record { sets = grown; actions = ([], sym (append-nil actions)) }

-- actions were added, and no more
pub Keeps-actions : (rows : List ℕ) (moves : List MoveSets) (sets : List ℕ) (actions after : List Action) → (more : List Action) × (after ≡ actions ++ more)
    → Keeps (record { rows = rows; moves = moves; sets = sets; actions = actions }) (record { rows = rows; moves = moves; sets = sets; actions = after })
Keeps-actions rows moves sets actions after grown = record { sets = ([], sym (append-nil sets)); actions = grown }

-- ---- what is new is kept

module _ (width : ℕ) (memo : MemoValue) (steps : Cells Step) (joins : Cells ℕ) (most : ℕ) (is : IsMemo width memo steps joins most) where
  pub IsMemo-keep_step : (after : Cells Step) (number of : ℕ) (step : Step) → after.columns ≡ steps.columns → IsStepAt memo number of step
      → ((r k : ℕ) (v : Step) → k < steps.columns → HasCell after r k v → (((r ≡ number) × (k ≡ of) × (v ≡ step)) ⊎ HasCell steps r k v))
      → IsMemo width memo after joins most
  IsMemo-keep_step after number of step columns right cells = record {
    narrow = is.narrow;
    rows_are = is.rows_are;
    sets_are = is.sets_are;
    move_columns = columns ∙ is.move_columns;
    state_columns = is.state_columns;
    steps_known = λ r k v inside held. elim (cells r k v (omega (arith, inside, is.move_columns)) held) [
      | inl (row, column, value) ↦ rw (row, column, value) right
      | inr old ↦ is.steps_known r k v inside old
    ];
    joins_known = is.joins_known;
    most_is = is.most_is;
  }

  pub IsMemo-keep_join : (after : Cells ℕ) (number state joined : ℕ) → after.columns ≡ joins.columns → IsJoinAt memo number state joined
      → ((r k : ℕ) (v : ℕ) → k < joins.columns → HasCell after r k v → (((r ≡ number) × (k ≡ state) × (v ≡ joined)) ⊎ HasCell joins r k v))
      → IsMemo width memo steps after most
  IsMemo-keep_join after number state joined columns right cells = record {
    narrow = is.narrow;
    rows_are = is.rows_are;
    sets_are = is.sets_are;
    move_columns = is.move_columns;
    state_columns = columns ∙ is.state_columns;
    steps_known = is.steps_known;
    joins_known = λ r k v inside held. elim (cells r k v (omega (arith, inside, is.state_columns)) held) [
      | inl (row, column, value) ↦ rw (row, column, value) right
      | inr old ↦ is.joins_known r k v inside old
    ];
    most_is = is.most_is;
  }

-- the step that was found out
pub IsStep-made : (memo : MemoValue) (move : MoveSets) (set targets after : ℕ) (step : Step) → slice_get memo.sets step.next ≡ Some after → AreNeighbours memo.rows set targets
    → ((q : ℕ) → Has after q ↔ (Has targets q × Has move.silent q)) → step.first ≤ step.last → step.last ≤ length memo.actions
    → AreWritten targets move (slice_range memo.actions step.first step.last) → IsStep memo move set step
IsStep-made memo move set targets after step numbered are cut ordered within written = record {
  after = after;
  numbered = numbered;
  next = λ q. (
    (λ has. let (target, silent) = (cut q).0 has in ((are q).0 target, silent)),
    (λ (stands, silent). (cut q).1 ((are q).1 stands, silent)),
  );
  ordered = ordered;
  within = within;
  actions = record {
    rising = written.rising;
    exact = λ action. (
      (λ held. let (target, writes, marked) = (written.exact action).0 held in ((are action.state).0 target, writes, marked)),
      (λ (stands, writes, marked). (written.exact action).1 ((are action.state).1 stands, writes, marked)),
    );
  };
}

-- ---- a memo that knows the empty set alone

one_set : (number set : ℕ) → slice_get (0 ∷ []) number ≡ Some set → (number ≡ 0) × (set ≡ 0)
one_set zero set is = (refl, cc)
one_set (suc number) set is = absurd (cc)

pub AreSets-one : (rows sets : List ℕ) → sets ≡ 0 ∷ [] → AreSets rows sets
AreSets-one rows sets one = record {
  empty = rw one refl;
  once = λ number zero_there. (one_set number 0 (rw one at zero_there)).0;
  within = λ number set q there has. absurd (Has-none q (subst (λ (s : ℕ). Has s q) (one_set number set (rw one at there)).1 has));
}

pub first_set : (eq : ℕ → ℕ → Bool) (before after : List ℕ) (set : ℕ) → before ≡ [] → set ≡ 0 → after ≡ insert_key eq before set → after ≡ 0 ∷ []
first_set eq before after set none is are = rw (are, none, is) refl

pub HasCell-none : {T : Type 0} (cells : Cells T) (row column : ℕ) (value : T) → cells.cells.items ≡ [] → HasCell cells row column value → ⊥
HasCell-none {T} cells row column value none held =
    let inside : row * cells.columns + column < length cells.cells.items = slice_get_within cells.cells.items (row * cells.columns + column) (Some value) held in
    omega (arith, ap length none)

-- no rows
pub AreRows-none : (width : ℕ) (rows : List ℕ) → rows ≡ [] → AreRows width rows
AreRows-none width rows none = rw none (record { room = omega arith; closed = λ from q has. absurd (Has-none q has) })

-- the empty set is the first, and all behind it are forgotten
pub first_left : (sets after : List ℕ) → slice_get sets 0 ≡ Some 0 → after ≡ take 1 sets → after ≡ 0 ∷ []
first_left [] after first is = absurd (cc)
first_left (x ∷ xs) after first is = let same : x ≡ 0 = same_Some x 0 first in rw (is, same) refl

pub IsMemo-new : (width : ℕ) (memo : MemoValue) (steps : Cells Step) (joins : Cells ℕ) (most : ℕ) → width ≤ 17 → AreRows width memo.rows → memo.sets ≡ 0 ∷ []
    → steps.columns ≡ length memo.moves → joins.columns ≡ length memo.rows → steps.cells.items ≡ [] → joins.cells.items ≡ [] → most ≡ most_sets memo.rows memo.moves
    → IsMemo width memo steps joins most
IsMemo-new width memo steps joins most narrow rows sets move_columns state_columns no_steps no_joins is = record {
  narrow = narrow;
  rows_are = rows;
  sets_are = AreSets-one memo.rows memo.sets sets;
  move_columns = move_columns;
  state_columns = state_columns;
  steps_known = λ number of step inside held. absurd (HasCell-none steps number of step no_steps held);
  joins_known = λ number state joined inside held. absurd (HasCell-none joins number state joined no_joins held);
  most_is = is;
}

-- ---- what is read from a cell

pub step_read : (memo shown : MemoValue) (number of : ℕ) (step : Step) → memo ≡ shown → IsStepAt memo number of step
    → (set : ℕ) (move : MoveSets) → slice_get shown.sets number ≡ Some set → slice_get shown.moves of ≡ Some move → IsStep shown move set step
step_read memo shown number of step same known set move found found_move =
    let is : IsStepAt shown number of step = subst (λ (m : MemoValue). IsStepAt m number of step) same known in
    let set_is : is.set ≡ set = same_Some is.set set (sym is.numbered ∙ found) in
    subst (λ (s : ℕ). IsStep shown move s step) set_is (is.step_is move found_move)

pub join_read : (memo shown : MemoValue) (number state joined : ℕ) → memo ≡ shown → IsJoinAt memo number state joined
    → (set : ℕ) → slice_get shown.sets number ≡ Some set → IsJoined shown set state joined
join_read memo shown number state joined same known set found =
    let is : IsJoinAt shown number state joined = subst (λ (m : MemoValue). IsJoinAt m number state joined) same known in
    let set_is : is.set ≡ set = same_Some is.set set (sym is.numbered ∙ found) in
    subst (λ (s : ℕ). IsJoined shown s state joined) set_is is.join_is

-- ---- moves, each once

move_from_sets : {W : ℕ} (a b : Move W) → move_sets a ≡ move_sets b → a ≡ b
move_from_sets {W} a b same =
    ap (λ (m : MoveSets). let move : Move W = record { silent = m.silent; writes = m.writes; more = m.more; unseen = m.unseen; ends = m.ends } in move) same

pub decides_moves : {W : ℕ} (a b : Move W) → Decides (move_eq a b) (a ≡ b)
decides_moves {W} a b = (
  (λ same. move_from_sets a b (same_move a b same)),
  (λ is. subst (λ (x : Move W). move_eq a x ≡ true) is
      (rw (eq-eqb a.silent a.silent refl, eq-eqb a.writes a.writes refl, eq-eqb a.more a.more refl, eq-eqb a.unseen a.unseen refl, eq-eqb a.ends a.ends refl) refl)),
)

pub moves_once : {W : ℕ} (keys : List (Move W)) → IsDistinct (move_eq {W = W}) keys → AllPairs (λ one other. one ≢ other) (map (move_sets {W = W}) keys)
moves_once {W} keys distinct = apart_by_image (move_sets {W = W}) move_from_sets keys (AllPairs-from_IsDistinct decides_moves keys distinct)
