use Rattle.std.proofs.Common.{◌≡◌, ◌≤◌, ◌+◌, ◌∙◌, ℕ, get_or, length, arith}
use Rattle.std.specs.List.{slice_index}
use Rattle.std.proofs.lemmas.List.Elements.{Contains-get_or}
use Rattle.fst_compile.specs.Transducer.{Leads}
use Rattle.pivot_partition.proofs.RowLemmas.{row-none, row-more}
use Rattle.pivot_partition.proofs.EdgeLemmas.{least-leads}
use Rattle.pivot_partition.proofs.table.push_row.Goals as goal

pub loop-state-init : goal.loop-state-init
loop-state-init c = row-none (λ state p. (to : ℕ) × Leads c.args.fst.now state to × (slice_index c.args.entered.now to ≤ p)) c.args.table.now.items

pub least_behind-requires : goal.least_behind-requires
least_behind-requires c = λ k d below.
    let enters = c.edges.ensures.labelled (get_or c.edges.result.now k d) (Contains-get_or c.edges.result.now k d below) in
    omega (arith, enters.to, enters.within, c.requires)

pub loop-state-preserved : goal.loop-state-preserved
loop-state-preserved c =
    row-more (λ state p. (to : ℕ) × Leads c.args.fst.now state to × (slice_index c.args.entered.now to ≤ p)) c.args.table.now.items c.loop-state.table.items c.push.new.self.items c.loop-state.state c.least_behind.result
    c.in_ok-push.ensures.items (least-leads c.args.fst.now c.args.entered.now c.loop-state.state c.edges.result.now c.edges.ensures.edges c.least_behind.result c.least_behind.ensures) c.loop-state.invariant

pub returns : goal.returns
returns c =
    let (row, is, long, each) = c.loop-state.invariant in
    let all : c.loop-state.state ≡ length c.args.fst.now.labels + 1 = omega (arith, c.loop-state-test.false, c.loop-state.auto.state-end, c.states-state-end.ensures.states) in
    (row, is, long ∙ all, λ state p inside below. each state p (omega (arith, inside, all)) below)
