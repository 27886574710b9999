use Rattle.std.proofs.Common.{◌≡◌, ◌∙◌, ℕ, map, sym, ap, subst, arith, Some}
use Rattle.std.specs.List.{slice_get}
use Rattle.mine_model.proofs.ListLemmas.{AddsTo-inserted}
use Rattle.mine_model.proofs.ElementLemmas.{slice_get-mapped_by}
use Rattle.place_records.specs.Twins.{twin_sets}
use Rattle.place_records.proofs.TwinLemmas.{twin_eq, same_twin}
use Rattle.place_records.proofs.twins.twin_in.Goals as goal

pub returns-in-Ok-clause-grows : goal.returns-in-Ok-clause-grows
returns-in-Ok-clause-grows g c = AddsTo-inserted (twin_sets {W = g.row.W}) (twin_eq {W = g.row.W}) c.args.twins.now.keys c.insert_full.new.self.keys c.args.twin.now c.in_ok-index.ensures.keys

pub returns-in-Err-clause-grows : goal.returns-in-Err-clause-grows
returns-in-Err-clause-grows g c = AddsTo-inserted (twin_sets {W = g.row.W}) (twin_eq {W = g.row.W}) c.args.twins.now.keys c.insert_full.new.self.keys c.args.twin.now c.in_ok-index.ensures.keys

pub returns-in-Ok-clause-there : goal.returns-in-Ok-clause-there
returns-in-Ok-clause-there g c =
    let (found, place, same) = c.in_ok-index.ensures.stored in
    let there : slice_get (map (twin_sets {W = g.row.W}) c.insert_full.new.self.keys) c.in_ok-index.index ≡ Some (twin_sets {W = g.row.W} c.args.twin.now) =
    slice_get-mapped_by (twin_sets {W = g.row.W}) c.insert_full.new.self.keys c.in_ok-index.index found place ∙ ap Some (sym (same_twin {W = g.row.W} c.args.twin.now found same)) in
    let number : c.in-Ok.number ≡ c.in_ok-index.index = grind arith in
    subst (λ (n : ℕ). slice_get (map (twin_sets {W = g.row.W}) c.insert_full.new.self.keys) n ≡ Some (twin_sets {W = g.row.W} c.args.twin.now)) (sym number) there
