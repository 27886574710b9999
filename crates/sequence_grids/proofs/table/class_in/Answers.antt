use Rattle.std.proofs.Common.{map, ℕ, ◌≡◌, ◌∙◌, sym, ap, subst, Some}
use Rattle.std.specs.List.{slice_get}
use Rattle.std.proofs.lemmas.Result.{IfOk-weaker}
use Rattle.sequence_grids.specs.Tables.{class_sets}
use Rattle.mine_model.proofs.ListLemmas.{AddsTo-inserted}
use Rattle.mine_model.proofs.ElementLemmas.{slice_get-mapped_by}
use Rattle.sequence_grids.proofs.TableLemmas.{same_class, class_eq}
use Rattle.sequence_grids.proofs.table.class_in.Goals as goal

pub returns-clause-grows : goal.returns-clause-grows
returns-clause-grows g c = AddsTo-inserted (class_sets {W = g.row.W}) (class_eq {W = g.row.W}) c.args.classes.now.keys c.insert_full.new.self.keys c.args.class.now c.in_ok-index.ensures.keys

pub returns-clause-there : goal.returns-clause-there
returns-clause-there g c =
    let (found, place, same) = c.in_ok-index.ensures.stored in
    let there : slice_get (map (class_sets {W = g.row.W}) c.insert_full.new.self.keys) c.in_ok-index.index ≡ Some (class_sets {W = g.row.W} c.args.class.now) =
    slice_get-mapped_by (class_sets {W = g.row.W}) c.insert_full.new.self.keys c.in_ok-index.index found place ∙ ap Some (sym (same_class {W = g.row.W} c.args.class.now found same)) in
    IfOk-weaker c.to_number.result (λ number. number ≡ c.in_ok-index.index) (λ number. slice_get (map (class_sets {W = g.row.W}) c.insert_full.new.self.keys) number ≡ Some (class_sets {W = g.row.W} c.args.class.now)) (λ number is. subst (λ (n : ℕ). slice_get (map (class_sets {W = g.row.W}) c.insert_full.new.self.keys) n ≡ Some (class_sets {W = g.row.W} c.args.class.now)) (sym is) there) c.to_number.ensures
