use Rattle.std.proofs.Common.{◌≡◌, [], ◌∷◌, ◌++◌, ap, sym, subst, ◌∙◌}
use Rattle.std.specs.Option.{option_to_list}
use Rattle.result_board.specs.Board.{BoardRows, HasRow}
use Rattle.result_board.specs.Entries.{history_of}
use Rattle.result_board.proofs.BoardLemmas.{history_more, board_more}
use Rattle.result_board.proofs.board.Board.post.Goals as goal

pub invariant_of-self-2 : goal.invariant_of-self-2
invariant_of-self-2 c =
    let inside = c.self.inside in
    let label = c.args.label.now in
    let row = c.args.row.now in
    let entries = rw c.reserve.ensures.items at c.push_reserved.ensures.items in
    let posted : history_of c.push_reserved.new.self.items ≡ history_of inside.entries.items ++ (c.args.number, label) ∷ [] = history_more _ _ c.args.number label c.of.result entries c.of.ensures in
    let rows : c.push_row.new.rows.items ≡ inside.rows.items ++ option_to_list row = rw (c.reserve-2.ensures.items, c.take.ensures.value) at c.push_row.ensures in
    let has = subst (λ (b : BoardRows). HasRow b.problem label row) (sym c.self.view_is) c.requires in
    board_more inside.job.value _ _ _ _ c.args.number label row c.self.invariant has posted rows

pub returns-clause-posted : goal.returns-clause-posted
returns-clause-posted c =
    let label = c.args.label.now in
    let entries = rw c.reserve.ensures.items at c.push_reserved.ensures.items in
    history_more _ _ c.args.number label c.of.result entries c.of.ensures
    ∙ ap (λ (b : BoardRows). b.posted ++ (c.args.number, label) ∷ []) c.self.view_is
