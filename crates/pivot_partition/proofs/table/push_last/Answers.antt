use Rattle.std.proofs.Common.{◌≡◌, ◌≤◌, ◌<◌, ◌↔◌, ◌+◌, ◌∙◌, ℕ, length, arith}
use Rattle.std.proofs.lemmas.Bool.{iff_false}
use Rattle.state_bits.specs.Members.{Has}
use Rattle.pivot_partition.specs.Tops.{no_rank}
use Rattle.pivot_partition.proofs.RowLemmas.{row-none, row-more}
use Rattle.pivot_partition.proofs.table.push_last.Goals.{then-is_final, else-is_final}
use Rattle.pivot_partition.proofs.table.push_last.Goals as goal

pub loop-state-init : goal.loop-state-init
loop-state-init c = row-none (λ state p. Has c.args.fst.now.finals state) c.args.table.now.items

pub loop-state-preserved : goal.loop-state-preserved
loop-state-preserved c =
    let says : (p : ℕ) → p < no_rank → c.if-is_final.push ≤ p ↔ Has c.args.fst.now.finals c.loop-state.state = elim c.if-is_final.branch [
      | then-is_final w ↦ (λ p below. ((λ low. c.is_final.ensures.0 w.if-is_final.true), (λ final. omega (arith, w.push-is))))
      | else-is_final w ↦ (λ p below. ((λ low. absurd (omega (arith, low, w.push-is, below))), (λ final. absurd (iff_false c.is_final.ensures w.if-is_final.false final))))
    ] in
    row-more (λ state p. Has c.args.fst.now.finals state) c.args.table.now.items c.loop-state.table.items c.push.new.self.items c.loop-state.state c.if-is_final.push
    c.in_ok-push.ensures.items says c.loop-state.invariant

pub returns : goal.returns
returns c =
    let (row, is, long, each) = c.loop-state.invariant in
    let all : c.loop-state.state ≡ length c.args.fst.now.labels + 1 = omega (arith, c.loop-state-test.false, c.loop-state.auto.state-end, c.states-state-end.ensures.states) in
    (row, is, long ∙ all, λ state p inside below. each state p (omega (arith, inside, all)) below)
