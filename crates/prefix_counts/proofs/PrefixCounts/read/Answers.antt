use mathlib.Core.List.{reverse}
use Rattle.std.proofs.Common.{◌≡◌, ℕ, ◌-◌, ◌++◌, ◌∷◌, [], List, Some, length, get_or, ap, sym, subst, ◌∙◌, arith, refl, slice_get}
use Rattle.std.proofs.lemmas.Option.{slice_get-get_or, slice_get_read}
use Rattle.mine_model.proofs.ListLemmas.{written_back}
use Rattle.prefix_counts.specs.Nodes.{lists_of}
use Rattle.prefix_counts.specs.Prefixes.{Prefixes}
use Rattle.prefix_counts.proofs.NodeLemmas.{lists_of-length, first_is_empty, read_more}
use Rattle.prefix_counts.proofs.PrefixCounts.read.Goals as goal
use Rattle.prefix_counts.proofs.PrefixCounts.read.Goals.{After-index-node}

pub index-node-requires : goal.index-node-requires
index-node-requires c =
    let long = lists_of-length c.self.inside.nodes.items in
    let view = ap (λ (p : Prefixes). length p.lists) c.self.view_is in
    omega (arith, long, view, c.loop-here.invariant.within, c.loop-here-test.true)

module _ (c : After-index-node) where
  at : slice_get c.self.inside.nodes.items (c.loop-here.here - 1) ≡ Some c.index-node.result.now
  at =
      let long = lists_of-length c.self.inside.nodes.items in
      let view = ap (λ (p : Prefixes). length p.lists) c.self.view_is in
      slice_get_read c.self.inside.nodes.items (length c.self.inside.nodes.items) (c.loop-here.here - 1) c.index-node.result.now refl
      (omega (arith, long, view, c.loop-here.invariant.within, c.loop-here-test.true)) c.index-node.ensures

pub loop-here-smaller : goal.loop-here-smaller
loop-here-smaller c =
    let at_node = (goal.at.loop-here-smaller c).After-index-node in
    let low = c.self.invariant.before (c.loop-here.here - 1) c.index-node.result.now (at at_node) in
    omega (arith, low, c.loop-here-test.true)

pub loop-here-preserved : goal.loop-here-preserved
loop-here-preserved c =
    let at_node = (goal.at.loop-here-preserved c).After-index-node in
    let low = c.self.invariant.before (c.loop-here.here - 1) c.index-node.result.now (at at_node) in
    let so_far = subst (λ (p : Prefixes). get_or p.lists c.loop-here.here [] ++ reverse c.loop-here.list.items ≡ get_or p.lists c.args.number []) (sym c.self.view_is) c.loop-here.invariant.list in
    let more = read_more c.self.inside.nodes.items c.self.inside.slots.items c.self.invariant c.loop-here.here c.index-node.result.now c.loop-here.list.items (get_or (lists_of c.self.inside.nodes.items) c.args.number []) c.loop-here-test.true (at at_node) so_far in
    record {
      within = omega (arith, low, c.loop-here.invariant.within);
      list =
          rw c.in_ok-push.ensures.items
          (subst (λ (p : Prefixes). get_or p.lists c.index-node.result.now.parent [] ++ reverse (c.loop-here.list.items ++ c.index-node.result.now.rank ∷ []) ≡ get_or p.lists c.args.number []) c.self.view_is more);
    }

pub returns : goal.returns
returns c =
    let lists : List (List ℕ) = c.args.self.now.lists in
    let reversed : c.reverse.new.self ≡ reverse c.loop-here.list.items = c.reverse.ensures.after ∙ ap reverse c.as_mut_slice.ensures.value in
    let whole = written_back c.reverse.new.self c.loop-here.list.items c.loop-here.list.len (c.loop-here.list.ok.0 ∙ sym (c.reverse.ensures.len ∙ ap length c.as_mut_slice.ensures.value)) in
    let none : c.loop-here.here ≡ 0 = omega (arith, c.loop-here-test.false) in
    let front : get_or lists c.loop-here.here [] ≡ [] =
    ap (λ k. get_or lists k []) none ∙ subst (λ (p : Prefixes). get_or p.lists 0 [] ≡ []) c.self.view_is (first_is_empty c.self.inside.nodes.items []) in
    let read : reverse c.loop-here.list.items ≡ get_or lists c.args.number [] = ap (λ w. w ++ reverse c.loop-here.list.items) (sym front) ∙ c.loop-here.invariant.list in
    slice_get-get_or lists c.args.number [] c.requires ∙ ap Some (sym read ∙ sym reversed ∙ sym whole)
