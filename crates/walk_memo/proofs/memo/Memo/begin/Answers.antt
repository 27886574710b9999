use Rattle.std.proofs.Common.{◌≡◌, ◌+◌, ◌/◌, [], ◌∙◌, ap, arith, map, length, refl, sym, subst}
use Rattle.std.proofs.lemmas.List.{length-map}
use Rattle.walk_memo.specs.Moves.{move_sets}
use Rattle.walk_memo.specs.Memos.{MemoValue}
use Rattle.walk_memo.specs.Kept.{AreRows}
use Rattle.walk_memo.proofs.MemoLemmas.{IsMemo-new, AreRows-none, first_left}
use Rattle.walk_memo.proofs.memo.Memo.begin.Goals as goal

-- no rows, and no moves
pub invariant_of-self : goal.invariant_of-self
invariant_of-self g c =
    let none : c.extend_from_slice.new.self.items ≡ [] = c.in_err-extend_from_slice.ensures.items ∙ c.clear-3.ensures.items in
    let memo : MemoValue =
    record { rows = c.clear-2.new.self.items; moves = map (move_sets {W = g.row.W}) c.extend_from_slice.new.self.items; sets = c.truncate.new.self.keys; actions = c.clear.new.self.items } in
    IsMemo-new g.row.W memo c.begin.new.self c.begin-2.new.self _ c.requires.width (AreRows-none g.row.W c.clear-2.new.self.items c.clear-2.ensures.items)
    (first_left c.self.inside.sets.keys c.truncate.new.self.keys c.self.invariant.sets_are.empty c.truncate.ensures.keys)
    (rw (c.begin.ensures.columns, none) refl) (rw (c.begin-2.ensures.columns, c.clear-2.ensures.items) refl) c.begin.ensures.cells c.begin-2.ensures.cells
    (rw (c.clear-2.ensures.items, none) refl)

-- no rows, but the moves
pub invariant_of-self-in_err-extend_from_slice-2 : goal.invariant_of-self-in_err-extend_from_slice-2
invariant_of-self-in_err-extend_from_slice-2 g c =
    let none : c.extend_from_slice-2.new.self.items ≡ [] = c.in_err-extend_from_slice-2.ensures.items ∙ c.clear-2.ensures.items in
    let moves : c.extend_from_slice.new.self.items ≡ c.args.moves.now = c.in_ok-extend_from_slice.ensures.items ∙ (rw c.clear-3.ensures.items refl) in
    let count : length (map (move_sets {W = g.row.W}) c.extend_from_slice.new.self.items) ≡ length c.args.moves.now = rw moves (length-map c.args.moves.now (move_sets {W = g.row.W})) in
    let sum : length c.args.moves.now ≡ length c.extend_from_slice-2.new.self.items + length (map (move_sets {W = g.row.W}) c.extend_from_slice.new.self.items) =
    omega (arith, count, ap length none) in
    let memo : MemoValue =
    record { rows = c.extend_from_slice-2.new.self.items; moves = map (move_sets {W = g.row.W}) c.extend_from_slice.new.self.items; sets = c.truncate.new.self.keys; actions = c.clear.new.self.items } in
    IsMemo-new g.row.W memo c.begin-3.new.self c.begin-2.new.self _ c.requires.width (AreRows-none g.row.W c.extend_from_slice-2.new.self.items none)
    (first_left c.self.inside.sets.keys c.truncate.new.self.keys c.self.invariant.sets_are.empty c.truncate.ensures.keys)
    (c.begin-3.ensures.columns ∙ c.in_ok-count.ensures ∙ sym count) (rw (c.begin-2.ensures.columns, none) refl) c.begin-3.ensures.cells c.begin-2.ensures.cells
    (ap (λ n. 1048576 / (n + 1)) sum)

-- the rows and the moves
pub invariant_of-self-2 : goal.invariant_of-self-2
invariant_of-self-2 g c =
    let rows : c.extend_from_slice-2.new.self.items ≡ c.args.rows.now = c.in_ok-extend_from_slice-2.ensures.items ∙ (rw c.clear-2.ensures.items refl) in
    let moves : c.extend_from_slice.new.self.items ≡ c.args.moves.now = c.in_ok-extend_from_slice.ensures.items ∙ (rw c.clear-3.ensures.items refl) in
    let count : length (map (move_sets {W = g.row.W}) c.extend_from_slice.new.self.items) ≡ length c.args.moves.now = rw moves (length-map c.args.moves.now (move_sets {W = g.row.W})) in
    let are : AreRows g.row.W c.args.rows.now = record { room = c.requires.room; closed = c.requires.closed } in
    let memo : MemoValue =
    record { rows = c.extend_from_slice-2.new.self.items; moves = map (move_sets {W = g.row.W}) c.extend_from_slice.new.self.items; sets = c.truncate.new.self.keys; actions = c.clear.new.self.items } in
    IsMemo-new g.row.W memo c.begin-3.new.self c.begin-4.new.self _ c.requires.width (subst (AreRows g.row.W) (sym rows) are)
    (first_left c.self.inside.sets.keys c.truncate.new.self.keys c.self.invariant.sets_are.empty c.truncate.ensures.keys)
    (c.begin-3.ensures.columns ∙ c.in_ok-count.ensures ∙ sym count) (rw (c.begin-4.ensures.columns, rows) refl) c.begin-3.ensures.cells c.begin-4.ensures.cells
    (rw (rows, count) refl)
