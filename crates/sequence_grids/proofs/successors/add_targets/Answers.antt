use Rattle.mine_model.specs.declared.expression.Leaf.TheVariants.{Under}
use Rattle.std.proofs.Common.{false, ◌≡◌, rules, arith, subst, ℕ, ◌⊎◌, ◌↔◌, List}
use Rattle.std.specs.List.{Contains}
use Rattle.std.proofs.lemmas.List.Elements.{Contains-get_or}
use Rattle.state_bits.specs.Members.{Has}
use Rattle.fst_compile.specs.declared.edge.Edge.{Edge}
use Rattle.fst_compile.specs.Transducer.{Enters}
use Rattle.sequence_grids.proofs.SuccessorLemmas.{added-more, added-all}
use Rattle.sequence_grids.proofs.successors.add_targets.Goals as goal

pub add-requires : goal.add-requires
add-requires g c =
    let enters : Enters c.args.fst.now.labels _ = c.edges-edge-items.ensures.labelled _ (Contains-get_or c.edges-edge-items.result.now c.loop-edge.edge-index (record { leaf = Under (record { 0 = 0 }); captured = false; to = record { 0 = 0 } }) c.loop-edge-test.true) in
    let number = enters.to in
    let within = enters.within in
    (search rules, omega (arith, number, within, c.requires.room))

pub loop-edge-preserved : goal.loop-edge-preserved
loop-edge-preserved g c = added-more c.edges-edge-items.result.now c.args.targets.now c.loop-edge.targets c.add.new.self c.loop-edge.edge-index _ c.loop-edge.invariant c.loop-edge-test.true c.add.ensures

pub returns : goal.returns
returns g c =
    let all = added-all c.edges-edge-items.result.now c.args.targets.now c.loop-edge.targets c.loop-edge.edge-index c.loop-edge.invariant c.loop-edge-test.false in
    subst (λ (l : List Edge). (to : ℕ) → Has c.loop-edge.targets to ↔ (Has c.args.targets.now to ⊎ ((edge : Edge) × Contains l edge × (edge.to.0 ≡ to)))) c.edges-edge-items.ensures.edges all
