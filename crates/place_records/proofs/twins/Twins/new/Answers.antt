use Rattle.std.proofs.Common.{◌≡◌, ◌∙◌, ℕ, [], ◌∷◌, map, length, ap, subst}
use Rattle.sequence_grids.proofs.TableLemmas.{first_inserted}
use Rattle.place_records.specs.Twins.{TwinSets, twin_sets, dead_twin, AreTargets}
use Rattle.place_records.proofs.TwinLemmas.{twin_eq}
use Rattle.place_records.proofs.NumberLemmas.{AreTwins-none}
use Rattle.place_records.proofs.twins.Twins.new.Goals as goal

pub invariant_of-result : goal.invariant_of-result
invariant_of-result g c =
    let first : map (twin_sets {W = g.row.W}) c.insert.new.self.keys ≡ dead_twin ∷ [] =
    first_inserted (twin_sets {W = g.row.W}) (twin_eq {W = g.row.W}) c.new-twins.result.keys c.insert.new.self.keys c.dead.result c.new-twins.ensures.empty c.in_ok-insert.ensures.keys
    ∙ ap (λ (t : TwinSets). t ∷ []) c.dead.ensures in
    let targets : AreTargets (length c.args.tables.predecessors) c.targets_below.result = subst (λ (n : ℕ). AreTargets n c.targets_below.result) c.requires.states c.targets_below.ensures in
    rw (first, c.new.ensures.items) (AreTwins-none c.args.tables c.args.needed c.targets_below.result targets)
