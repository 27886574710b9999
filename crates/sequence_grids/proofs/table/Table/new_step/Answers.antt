use Rattle.std.proofs.Common.{arith, rules, ◌<◌, ◌+◌, ◌*◌, ◌⊎◌, ◌≢◌, ◌≡◌, ℕ, List, map, length, sym, ap, subst, Some}
use Rattle.std.specs.List.{slice_get, slice_index}
use Rattle.state_bits.specs.Members.{Has}
use Rattle.sequence_grids.specs.Tables.{TableValue, class_sets, triple_sets, AreBelow, IsTable, IsStep, IsStepAt, unknown}
use Rattle.mine_model.proofs.ElementLemmas.{get-left}
use Rattle.sequence_grids.proofs.TableLemmas.{map_at, IsTable-triples, IsTable-keep}
use Rattle.sequence_grids.proofs.table.Table.new_step.Given.{Over}
use Rattle.sequence_grids.proofs.table.Table.new_step.Goals as goal
use Rattle.sequence_grids.proofs.table.Table.new_step.Goals.{After-index-as_slice-after, In_ok-number}

module _ (g : Over) where
  class_there : (c : After-index-as_slice-after g) → slice_get (map (class_sets {W = g.row.W}) c.self.inside.classes.keys) c.args.class ≡ Some (class_sets {W = g.row.W} c.index-as_slice-class.result)
  class_there c =
      let inside : c.args.class < length (map (class_sets {W = g.row.W}) c.self.inside.classes.keys) =
      subst (λ (v : TableValue). c.args.class < length v.classes) (sym c.self.view_is) c.requires.class in
      map_at (class_sets {W = g.row.W}) c.self.inside.classes.keys c.as_slice-2.result.now c.args.class c.index-as_slice-class.result inside c.as_slice-2.ensures.keys c.index-as_slice-class.is

  triple_there : (c : After-index-as_slice-after g) → slice_get (map (triple_sets {W = g.row.W}) c.self.inside.triples.keys) c.args.after ≡ Some (triple_sets {W = g.row.W} c.index-as_slice-after.result)
  triple_there c =
      let inside : c.args.after < length (map (triple_sets {W = g.row.W}) c.self.inside.triples.keys) =
      subst (λ (v : TableValue). c.args.after < length v.triples) (sym c.self.view_is) c.requires.after in
      map_at (triple_sets {W = g.row.W}) c.self.inside.triples.keys c.as_slice-3.result.now c.args.after c.index-as_slice-after.result inside c.as_slice-3.ensures.keys c.index-as_slice-after.is

pub before-before-requires : goal.before-before-requires
before-before-requires g c =
    let below : AreBelow (length c.self.inside.predecessors.items) (class_sets {W = g.row.W} c.index-as_slice-class.result) = c.self.invariant.below c.args.class (class_sets {W = g.row.W} c.index-as_slice-class.result) (class_there g c) in
    let same : length c.as_slice.result.now ≡ length c.self.inside.predecessors.items = ap length c.as_slice.ensures.value in
    let silent : (k : ℕ) → Has c.index-as_slice-class.result.silent k → k < length c.as_slice.result.now = λ k has. (let h = below.silent k has in omega arith) in
    let writes : (k : ℕ) → Has c.index-as_slice-class.result.writes k → k < length c.as_slice.result.now = λ k has. (let h = below.writes k has in omega arith) in
    let needs : (k : ℕ) → Has c.index-as_slice-class.result.needs k → k < length c.as_slice.result.now = λ k has. (let h = below.needs k has in omega arith) in
    let width = c.requires.width in
    search rules

module _ (g : Over) (c : In_ok-number g) where
  grown_table : IsTable g.row.W c.self.inside.predecessors.items (map (class_sets {W = g.row.W}) c.self.inside.classes.keys)
      (map (triple_sets {W = g.row.W}) c.triple_in.new.triples.keys) c.self.inside.steps.items
  grown_table =
      let (more, grown, _) = c.triple_in.ensures.grows in
      IsTable-triples g.row.W c.self.inside.predecessors.items (map (class_sets {W = g.row.W}) c.self.inside.classes.keys)
      (map (triple_sets {W = g.row.W}) c.self.inside.triples.keys) (map (triple_sets {W = g.row.W}) c.triple_in.new.triples.keys) more c.self.inside.steps.items c.self.invariant grown

  the_step : slice_get (map (class_sets {W = g.row.W}) c.self.inside.classes.keys) c.args.class ≡ Some (class_sets {W = g.row.W} c.index-as_slice-class.result)
      → slice_get (map (triple_sets {W = g.row.W}) c.self.inside.triples.keys) c.args.after ≡ Some (triple_sets {W = g.row.W} c.index-as_slice-after.result)
      → IsStepAt c.self.inside.predecessors.items (map (class_sets {W = g.row.W}) c.self.inside.classes.keys)
      (map (triple_sets {W = g.row.W}) c.triple_in.new.triples.keys) c.args.class c.args.after c.in_ok-number.number
  the_step class_is triple_is =
      let (more, grown, _) = c.triple_in.ensures.grows in (
        class_sets {W = g.row.W} c.index-as_slice-class.result,
        triple_sets {W = g.row.W} c.index-as_slice-after.result,
        triple_sets {W = g.row.W} c.before-before.result,
        class_is,
        (rw grown (get-left _ more c.args.after _ triple_is)),
        c.in_ok-number.ensures.there,
        subst (λ (xs : List ℕ). IsStep xs (class_sets {W = g.row.W} c.index-as_slice-class.result) (triple_sets {W = g.row.W} c.index-as_slice-after.result)
            (triple_sets {W = g.row.W} c.before-before.result)) c.as_slice.ensures.value c.before-before.ensures,
      )

  kept_table : (kept : List ℕ) → slice_get (map (class_sets {W = g.row.W}) c.self.inside.classes.keys) c.args.class ≡ Some (class_sets {W = g.row.W} c.index-as_slice-class.result)
      → slice_get (map (triple_sets {W = g.row.W}) c.self.inside.triples.keys) c.args.after ≡ Some (triple_sets {W = g.row.W} c.index-as_slice-after.result)
      → ((i : ℕ) → i < length kept → slice_index kept i ≢ unknown
      → (((i ≡ 256 * c.args.after + c.args.class) × (c.args.class < 256) × (slice_index kept i ≡ c.in_ok-number.number))
      ⊎ ((i < length c.self.inside.steps.items) × (slice_index kept i ≡ slice_index c.self.inside.steps.items i))))
      → IsTable g.row.W c.self.inside.predecessors.items (map (class_sets {W = g.row.W}) c.self.inside.classes.keys)
      (map (triple_sets {W = g.row.W}) c.triple_in.new.triples.keys) kept
  kept_table kept class_is triple_is cases =
      IsTable-keep g.row.W c.self.inside.predecessors.items (map (class_sets {W = g.row.W}) c.self.inside.classes.keys) (map (triple_sets {W = g.row.W}) c.triple_in.new.triples.keys)
      c.self.inside.steps.items kept c.args.class c.args.after c.in_ok-number.number grown_table (the_step class_is triple_is) cases

pub invariant_of-self : goal.invariant_of-self
invariant_of-self g c =
    let (more, grown, _) = c.triple_in.ensures.grows in
    IsTable-triples g.row.W c.self.inside.predecessors.items (map (class_sets {W = g.row.W}) c.self.inside.classes.keys)
    (map (triple_sets {W = g.row.W}) c.self.inside.triples.keys) (map (triple_sets {W = g.row.W}) c.triple_in.new.triples.keys) more c.self.inside.steps.items c.self.invariant grown

pub invariant_of-self-in_err-keep_step : goal.invariant_of-self-in_err-keep_step
invariant_of-self-in_err-keep_step g c =
    let there : After-index-as_slice-after g = (goal.at.invariant_of-self-in_err-keep_step g c).After-index-as_slice-after in
    kept_table g (goal.at.invariant_of-self-in_err-keep_step g c).In_ok-number c.keep_step.new.steps.items (class_there g there) (triple_there g there) c.keep_step.ensures

pub invariant_of-self-2 : goal.invariant_of-self-2
invariant_of-self-2 g c =
    let there : After-index-as_slice-after g = (goal.at.invariant_of-self-2 g c).After-index-as_slice-after in
    kept_table g (goal.at.invariant_of-self-2 g c).In_ok-number c.keep_step.new.steps.items (class_there g there) (triple_there g there) c.keep_step.ensures

pub returns-clause-step : goal.returns-clause-step
returns-clause-step g c =
    let there : After-index-as_slice-after g = (goal.at.returns-clause-step g c).After-index-as_slice-after in
    the_step g (goal.at.returns-clause-step g c).In_ok-number (class_there g there) (triple_there g there)
