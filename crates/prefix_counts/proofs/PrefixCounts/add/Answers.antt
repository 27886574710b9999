use Rattle.std.proofs.Common.{◌≡◌, suc, ◌+◌, ◌-◌, ◌^◌, ◌<◌, Some, length, set, get_or, ap, subst, ◌∙◌, arith, refl, slice_get, rules}
use Rattle.std.proofs.lemmas.Option.{slice_get_read, get_or_from_slice_get}
use Rattle.prefix_counts.specs.declared.node.Node.{Node}
use Rattle.prefix_counts.specs.Nodes.{sums_of}
use Rattle.prefix_counts.specs.Prefixes.{Prefixes}
use Rattle.prefix_counts.proofs.NodeLemmas.{lists_of-length, lists_of-set, set_nodes, sum_here, sums_added}
use Rattle.prefix_counts.proofs.PrefixCounts.add.Goals as goal
use Rattle.prefix_counts.proofs.PrefixCounts.add.Goals.{After-index_mut}

pub index_mut-requires : goal.index_mut-requires
index_mut-requires c =
    let long = lists_of-length c.self.inside.nodes.items in
    let view = ap (λ (p : Prefixes). length p.lists) c.self.view_is in
    omega (arith, long, view, c.requires.some, c.requires.within)

module _ (c : After-index_mut) where
  node : Node
  node = c.index_mut.result.now

  at : slice_get c.self.inside.nodes.items (c.args.number - 1) ≡ Some c.index_mut.result.now
  at =
      let long = lists_of-length c.self.inside.nodes.items in
      let view = ap (λ (p : Prefixes). length p.lists) c.self.view_is in
      slice_get_read c.self.inside.nodes.items (length c.self.inside.nodes.items) (c.args.number - 1) c.index_mut.result.now refl (omega (arith, long, view, c.requires.some, c.requires.within)) c.index_mut.ensures.value

  next : c.args.number ≡ suc (c.args.number - 1)
  next = omega (arith, c.requires.some)

  here : get_or c.args.self.now.sums c.args.number 0 ≡ c.index_mut.result.now.sum
  here =
      subst (λ (p : Prefixes). get_or p.sums c.args.number 0 ≡ c.index_mut.result.now.sum) c.self.view_is
      (get_or_from_slice_get (sums_of c.self.inside.nodes.items) c.args.number c.index_mut.result.now.sum 0 (sum_here c.self.inside.nodes.items (c.args.number - 1) c.args.number c.index_mut.result.now at next))

  other : Node
  other = record { parent = c.index_mut.result.now.parent; rank = c.index_mut.result.now.rank; sum = c.index_mut.result.now.sum + c.args.weight }

pub overflow_add-index_mut : goal.overflow_add-index_mut
overflow_add-index_mut c =
    let at_read = (goal.at.overflow_add-index_mut c).After-index_mut in
    let sum = here at_read in
    let room : c.index_mut.result.now.sum + c.args.weight < 2 ^ 64 = omega (arith, sum, c.requires.room) in
    search (rules, room)

pub invariant_of-self : goal.invariant_of-self
unfolding other
invariant_of-self c =
    let at_read = (goal.at.invariant_of-self c).After-index_mut in
    set_nodes c.self.inside.nodes.items (c.args.number - 1) c.index_mut.result.now (other at_read) (at at_read) refl refl c.self.inside.slots.items c.self.invariant

pub returns-clause-lists : goal.returns-clause-lists
unfolding other
returns-clause-lists c =
    let at_read = (goal.at.returns-clause-lists c).After-index_mut in
    lists_of-set c.self.inside.nodes.items (c.args.number - 1) c.index_mut.result.now (other at_read) (at at_read) refl refl ∙ ap (λ (p : Prefixes). p.lists) c.self.view_is

pub returns-clause-sums : goal.returns-clause-sums
returns-clause-sums c =
    let at_read = (goal.at.returns-clause-sums c).After-index_mut in
    sums_added c.self.inside.nodes.items (c.args.number - 1) c.args.number c.args.weight c.index_mut.result.now (at at_read) (next at_read)
    ∙ ap (λ (p : Prefixes). set p.sums c.args.number (get_or p.sums c.args.number 0 + c.args.weight)) c.self.view_is
