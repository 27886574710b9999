use Rattle.std.proofs.Common.{◌∙◌, map, ap, sym}
use Rattle.std.proofs.lemmas.Bool.Decides.{Decides-eqb}
use Rattle.std.proofs.lemmas.Slice.Eq.{slice_eq-Decides}
use Rattle.walk_memo.specs.Moves.{move_sets}
use Rattle.walk_memo.specs.Memos.{MemoValue}
use Rattle.walk_memo.proofs.MemoLemmas.{decides_moves}
use Rattle.walk_memo.proofs.memo.Memo.enter.Goals as goal

pub returns-then-eq-2-clause-rows : goal.returns-then-eq-2-clause-rows
returns-then-eq-2-clause-rows g c =
    let tells = slice_eq-Decides Decides-eqb c.as_slice.result.now c.args.rows.now c.eq.result c.eq.ensures in
    ap (λ (m : MemoValue). m.rows) (sym c.self.view_is) ∙ (sym c.as_slice.ensures.value ∙ tells.0 c.if-eq.true)

pub returns-then-eq-2-clause-moves : goal.returns-then-eq-2-clause-moves
returns-then-eq-2-clause-moves g c =
    let tells = slice_eq-Decides (decides_moves {W = g.row.W}) c.as_slice-then-eq.result.now c.args.moves.now c.eq-then-eq.result c.eq-then-eq.ensures in
    ap (λ (m : MemoValue). m.moves) (sym c.self.view_is) ∙ ap (map (move_sets {W = g.row.W})) (sym c.as_slice-then-eq.ensures.value ∙ tells.0 c.if-eq-2.true)
