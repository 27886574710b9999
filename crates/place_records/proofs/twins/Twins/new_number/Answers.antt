use Rattle.std.proofs.Common.{◌<◌, map, length, sym, subst}
use Rattle.mine_model.proofs.ElementLemmas.{get-some}
use Rattle.place_records.specs.Twins.{twin_sets, IsTwinAt}
use Rattle.place_records.specs.Numbers.{TwinsValue, AreTwins}
use Rattle.place_records.proofs.NumberLemmas.{AreTwins-grow, AreTwins-keep, Extends-added}
use Rattle.place_records.proofs.twins.Twins.new_number.Given.{Over}
use Rattle.place_records.proofs.twins.Twins.new_number.Goals as goal
use Rattle.place_records.proofs.twins.Twins.new_number.Goals.{In_ok-number}

module _ (g : Over) (c : In_ok-number g) where
  right : IsTwinAt (length c.self.inside.tables.predecessors) c.self.inside.needed c.self.inside.tables.classes c.self.inside.tables.triples (map (twin_sets {W = g.row.W}) c.twin_in.new.twins.keys)
      c.args.class c.args.behind c.in_ok-number.number
  right =
      let in_classes : c.args.class < length c.self.inside.tables.classes = subst (λ (v : TwinsValue). c.args.class < length v.table.classes) (sym c.self.view_is) c.requires.class in
      let in_triples : c.args.behind < length c.self.inside.tables.triples = subst (λ (v : TwinsValue). c.args.behind < length v.table.triples) (sym c.self.view_is) c.requires.behind in
      let (class, at_class) = get-some c.self.inside.tables.classes c.args.class in_classes in
      let (triple, at_triple) = get-some c.self.inside.tables.triples c.args.behind in_triples in
      let is = c.twin_of-twin.ensures (length c.self.inside.tables.predecessors) class triple c.self.invariant.targets_are (c.words-words.ensures.class class at_class) (c.words-words.ensures.after triple at_triple) in
      (class, triple, twin_sets {W = g.row.W} c.twin_of-twin.result, at_class, at_triple, c.in_ok-number.ensures.there, is)

  grown : AreTwins c.self.inside.tables c.self.inside.needed c.self.inside.targets (map (twin_sets {W = g.row.W}) c.twin_in.new.twins.keys) c.self.inside.numbers.items
  grown = AreTwins-grow c.self.inside.tables c.self.inside.needed c.self.inside.targets (map (twin_sets {W = g.row.W}) c.self.inside.twins.keys) (map (twin_sets {W = g.row.W}) c.twin_in.new.twins.keys)
      c.self.inside.numbers.items c.self.invariant (Extends-added _ _ _ c.twin_in.ensures.grows)

pub invariant_of-self-in_err-keep_step : goal.invariant_of-self-in_err-keep_step
invariant_of-self-in_err-keep_step g c =
    let at = (goal.at.invariant_of-self-in_err-keep_step g c).In_ok-number in
    AreTwins-keep c.self.inside.tables c.self.inside.needed c.self.inside.targets _ c.self.inside.numbers.items c.keep_step.new.steps.items c.args.class c.args.behind c.in_ok-number.number
    (grown g at) (right g at) c.keep_step.ensures

pub invariant_of-self-2 : goal.invariant_of-self-2
invariant_of-self-2 g c =
    let at = (goal.at.invariant_of-self-2 g c).In_ok-number in
    AreTwins-keep c.self.inside.tables c.self.inside.needed c.self.inside.targets _ c.self.inside.numbers.items c.keep_step.new.steps.items c.args.class c.args.behind c.in_ok-number.number
    (grown g at) (right g at) c.keep_step.ensures

pub returns-clause-number : goal.returns-clause-number
returns-clause-number g c = right g (goal.at.returns-clause-number g c).In_ok-number
