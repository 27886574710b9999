use Rattle.std.proofs.Common.{◌++◌, length, append_assoc, ap, sym, ◌∙◌, subst, arith}
use Rattle.std.specs.List.{AllPairs}
use Rattle.std.specs.Vec.Iter.{into_iter_items}
use Rattle.automaton_model.specs.Merges.{ComesNotBefore}
use Rattle.automaton_model.proofs.MergeLemmas.{merged-step}
use Rattle.automaton_model.proofs.groups.joined.Goals as goal

pub parts-preserved : goal.parts-preserved
parts-preserved c =
    let steps = c.in-Some.ensures.steps in
    let seen = c.parts.yielded in
    let all = ap (λ xs. seen ++ xs) (sym steps.0) ∙ c.parts.invariant.seen in
    record {
      seen = rw append_assoc all;
      count = omega (arith, steps.1, c.parts.invariant.count, ap length steps.0);
      groups = merged-step seen (into_iter_items c.next.new.self) c.in-Some.part (subst (AllPairs ComesNotBefore) (sym all) c.requires) c.join.ensures.fits
          c.parts.groups.items c.join.new.groups.items c.parts.invariant.groups c.in_ok-join.ensures.joined;
    }
