use Rattle.std.proofs.Common.{◌≡◌, ◌<◌, Some, List, length, get_or, slice_get, slice_range, ap, subst, arith}
use Rattle.std.proofs.lemmas.List.{length-map}
use Rattle.automaton_model.specs.Automata.{StateValue}
use Rattle.group_search.specs.declared.decoded.Head.{Head}
use Rattle.group_search.specs.Decoded.{state_in}
use Rattle.group_search.proofs.DecodeLemmas.{head-there}
use Rattle.group_search.proofs.decoded.DecodedAutomata.edges.Goals as goal

pub returns : goal.returns
returns c =
    let heads : List Head = c.self.inside.heads.items in
    let head : Head = get_or heads c.args.number c.index-head.result.now in
    let inside : c.args.number < length c.self.inside.heads.items =
    (let long = length-map heads (state_in c.self.inside.edges.items) in let whole = ap (λ (l : List StateValue). length l) c.self.view_is in let there = c.requires in omega (arith, long, whole, there)) in (
      state_in c.self.inside.edges.items head,
      subst (λ (states : List StateValue). slice_get states c.args.number ≡ Some (state_in c.self.inside.edges.items head)) c.self.view_is
          (head-there c.self.inside.heads.items c.self.inside.edges.items c.args.number c.index-head.result.now inside),
      (λ i. slice_range (c.deref.ensures.value i) (c.index-head.ensures i).from (c.index-head.ensures i).end),
    )
