use Rattle.std.proofs.Common.{◌≡◌, ◌≤◌, ◌<◌, [], length, get_or, sym, ap, ◌∙◌, subst, arith, List}
use Rattle.std.specs.List.{Contains}
use Rattle.std.proofs.lemmas.Option.{get_or_from_slice_get}
use Rattle.fst_compile.specs.declared.edge.Edge.{Edge}
use Rattle.fst_compile.specs.Transducers.{IsRow}
use Rattle.fst_compile.specs.Transducer.{Transducer, Enters, RisesByTarget, edges_from}
use Rattle.fst_compile.proofs.fst.Fst.edges.Goals as goal
use Rattle.fst_compile.proofs.fst.Fst.edges.Goals.{After-list}

pub list-requires : goal.list-requires
list-requires c =
    let labels : c.args.q.0 ≤ length c.self.inside.labels.items = subst (λ (m : Transducer). c.args.q.0 ≤ length m.labels) (sym c.self.view_is) c.requires in
    omega (arith, labels, c.self.invariant.1)

module _ (c : After-list) where
  the_row : get_or c.self.inside.edges.lists c.args.q.0 [] ≡ c.list.result.now
  the_row = get_or_from_slice_get c.self.inside.edges.lists c.args.q.0 c.list.result.now [] c.list.ensures

  is_row : IsRow c.self.inside.labels.items c.list.result.now
  is_row =
      let labels : c.args.q.0 ≤ length c.self.inside.labels.items = subst (λ (m : Transducer). c.args.q.0 ≤ length m.labels) (sym c.self.view_is) c.requires in
      subst (λ (row : List Edge). IsRow c.self.inside.labels.items row) the_row (c.self.invariant.0 c.args.q.0 [] (omega (arith, labels, c.self.invariant.1)))

pub returns-clause-edges : goal.returns-clause-edges
returns-clause-edges c = sym (the_row c) ∙ ap (λ (m : Transducer). edges_from m c.args.q.0) c.self.view_is

pub returns-clause-rising : goal.returns-clause-rising
returns-clause-rising c = (is_row c).rising

pub returns-clause-labelled : goal.returns-clause-labelled
returns-clause-labelled c =
    subst (λ (m : Transducer). (edge : Edge) → Contains c.list.result.now edge → Enters m.labels edge) c.self.view_is (is_row c).labelled
