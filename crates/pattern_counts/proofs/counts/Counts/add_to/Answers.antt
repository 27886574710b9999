use Rattle.std.proofs.Common.{◌≡◌, ◌+◌, ◌^◌, ◌<◌, Some, slice_get, sym, subst, rules}
use Rattle.pattern_counts.specs.Tally.{Tally, sum_of}
use Rattle.pattern_counts.specs.Counted.{Counted}
use Rattle.pattern_counts.proofs.SumLemmas.{adds_found, room_found}
use Rattle.pattern_counts.proofs.counts.Counts.add_to.Goals as goal
use Rattle.pattern_counts.proofs.counts.Counts.add_to.Goals.{After-index_mut}

module _ (c : After-index_mut) where
  tally : Tally
  tally = record { lists = c.self.inside.lists.lists; sums = c.self.inside.sums.items }

  at : slice_get c.self.inside.lists.lists c.args.number ≡ Some c.args.list.now
  at = subst (λ (t : Counted). slice_get t.tally.lists c.args.number ≡ Some c.args.list.now) (sym c.self.view_is) c.requires.list

pub overflow_add-index_mut : goal.overflow_add-index_mut
unfolding tally
overflow_add-index_mut c =
    let at_read = (goal.at.overflow_add-index_mut c).After-index_mut in
    let room : c.index_mut.result.now + c.args.weight < 2 ^ 64 = room_found (tally at_read) c.self.invariant.are c.args.list.now c.args.weight c.args.number c.index_mut.result.now (at at_read) c.index_mut.ensures.value (subst (λ (t : Counted). sum_of t.tally c.args.list.now + c.args.weight < 2 ^ 64) (sym c.self.view_is) c.requires.room) in
    search (rules, room)

pub returns-clause-adds : goal.returns-clause-adds
unfolding tally
returns-clause-adds c =
    let at_read = (goal.at.returns-clause-adds c).After-index_mut in
    rw (← c.self.view_is) (adds_found (tally at_read) c.self.invariant.are c.args.list.now c.args.weight c.args.number c.index_mut.result.now (at at_read) c.index_mut.ensures.value)
