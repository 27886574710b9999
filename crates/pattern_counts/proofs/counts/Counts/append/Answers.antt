use Rattle.std.proofs.Common.{◌≡◌, ◌+◌, ◌<◌, ◌≤◌, ◌-◌, min, vec_capacity, [], ◌∷◌, ◌++◌, length, map, sym, subst, ap, ◌∙◌, arith, Contains}
use Rattle.std.proofs.lemmas.List.{map_push, length-map, length_push}
use Rattle.pattern_counts.specs.Tally.{Tally, IsTally}
use Rattle.pattern_counts.specs.Hashes.{hash_of}
use Rattle.pattern_counts.specs.Counted.{Counted}
use Rattle.open_addressing.specs.Table.{IsTable}
use Rattle.pattern_counts.specs.Table.{layout}
use Rattle.pattern_counts.proofs.SumLemmas.{adds_new, tally_new}
use Rattle.flat_lists.proofs.ShelfLemmas.{elements_of-push}
use Rattle.pattern_counts.proofs.counts.Counts.append.Goals as goal
use Rattle.pattern_counts.proofs.counts.Counts.append.Goals.{After-place}

module _ (c : After-place) where
  before : Tally
  before = record { lists = c.self.inside.lists.lists; sums = c.self.inside.sums.items }

  none : Contains c.self.inside.lists.lists c.args.list.now → ⊥
  none = subst (λ (t : Counted). Contains t.tally.lists c.args.list.now → ⊥) (sym c.self.view_is) c.requires.new

  tally : IsTally (record { lists = c.push_reserved.new.self.lists; sums = c.push_reserved-2.new.self.items })
  unfolding before
  tally = rw (c.push_reserved.ensures.lists, c.push_reserved-2.ensures.items) (tally_new before c.self.invariant.are c.args.list.now c.args.weight none)

  hashed : c.push_reserved-3.new.self.items ≡ map hash_of c.push_reserved.new.self.lists
  hashed =
      c.push_reserved-3.ensures.items ∙ ap (λ hashes. hashes ++ c.args.hash ∷ []) c.self.invariant.hashed
      ∙ ap (λ hash. map hash_of c.self.inside.lists.lists ++ hash ∷ []) c.requires.hash
      ∙ sym (map_push hash_of c.self.inside.lists.lists c.args.list.now) ∙ ap (map hash_of) (sym c.push_reserved.ensures.lists)

  count : length c.self.inside.hashes.items ≡ length c.self.inside.lists.lists
  count = ap length c.self.invariant.hashed ∙ length-map c.self.inside.lists.lists hash_of

  most : length c.self.inside.lists.lists + 1
      ≤ min (min c.self.inside.lists.most_lists (vec_capacity c.self.inside.sums)) (min (vec_capacity c.self.inside.hashes) (min (length c.self.inside.slots.items - 1) 4294967295))
  most = subst (λ (t : Counted). length t.tally.lists + 1 ≤ t.most_lists) (sym c.self.view_is) c.requires.room.for_lists

  room : length c.self.inside.lists.lists + 1 < length c.self.inside.slots.items
  room = omega (arith, most)

  few : length c.push_reserved.new.self.lists ≤ 4294967295
  few = omega (arith, most, ap length c.push_reserved.ensures.lists, length_push c.self.inside.lists.lists c.args.list.now)

  table : IsTable layout c.push_reserved-3.new.self.items c.place.new.slots.items
  table =
      rw c.push_reserved-3.ensures.items (c.place.ensures.table c.self.inside.hashes.items c.self.invariant.table (omega (arith, count, c.len-number.ensures)) (omega (arith, room, c.len-number.ensures)))

pub invariant_of-self : goal.invariant_of-self
invariant_of-self c = record { are = tally c; few = few c; hashed = hashed c; table = table c }

pub returns-clause-tally : goal.returns-clause-tally
returns-clause-tally c = tally c

pub returns-clause-adds : goal.returns-clause-adds
unfolding before
returns-clause-adds c =
    rw (← c.self.view_is, c.push_reserved.ensures.lists, c.push_reserved-2.ensures.items)
    (adds_new (before c) c.args.list.now c.args.weight c.self.invariant.are.each (none c))

pub returns-clause-ranks : goal.returns-clause-ranks
returns-clause-ranks c =
    rw (← c.self.view_is, c.push_reserved.ensures.lists) (elements_of-push c.self.inside.lists.lists c.args.list.now)
