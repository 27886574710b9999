use Rattle.std.proofs.Common.{◌≡◌, ◌∙◌, ◌+◌, ◌-◌, ◌<◌, ◌≤◌, sym, ap, subst, refl, arith, ℕ, suc, List, [], ◌∷◌, ◌++◌, get_or, drop, length}
use Rattle.std.proofs.Math.Seq.{drop-cons}
use Rattle.std.proofs.lemmas.Option.{slice_get_within, slice_get-get_or}
use Rattle.mine_model.specs.declared.item.Item.{Item}
use Rattle.sequence_grids.specs.declared.places.Place.{Place}
use Rattle.sequence_grids.specs.Tables.{unknown}
use Rattle.sequence_grids.specs.Places.{HasTriple, AreFilled}
use Rattle.sequence_grids.proofs.TableLemmas.{Grows-nothing, Grows-twice}
use Rattle.sequence_grids.proofs.KindLemmas.{KindsGrow-nothing, Extends-twice}
use Rattle.sequence_grids.proofs.PlaceLemmas.{AreFilled-none, AreFilled-more, AreFilled-all}
use Rattle.sequence_grids.proofs.places.push_met.Goals as goal

pub loop-position-init : goal.loop-position-init
loop-position-init c =
    let place : Place = record { kind = unknown; triple = 0 } in
    let old = c.args.places.now.items in
    let known = c.push_known-position.ensures in
    let pushed : c.push_reserved.new.self.items ≡ old ++ place ∷ [] = c.push_reserved.ensures.items ∙ ap (λ (ps : List Place). ps ++ place ∷ []) c.in_ok-reserve.ensures.items in
    let first : AreFilled c.args.job.now c.args.bound c.args.tables.now c.args.kinds.now c.push_reserved.new.self.items (length old) c.args.items.now (length c.args.items.now) =
    rw pushed (AreFilled-none c.args.job.now c.args.bound c.args.tables.now c.args.kinds.now old c.args.items.now place (length c.args.items.now) c.requires.table refl refl) in
    let filled = known.filled (length old) first in
    record {
      table = c.requires.table;
      kinds = c.requires.kinds;
      tables_grow = Grows-nothing c.args.tables.now;
      room = omega (arith, known.capacity, c.push_reserved.ensures.capacity, c.in_ok-reserve.ensures.ok, c.in_ok-reserve.ensures.len, filled.long, c.push_known-position.new.places.ok, c.args.places.now.ok);
      places_grow = Extends-twice old c.push_reserved.new.self.items c.push_known-position.new.places.items (place ∷ [], pushed) known.grow;
      filled = filled;
      triple = known.triple;
    }

pub push_place-requires-clause-after : goal.push_place-requires-clause-after
push_place-requires-clause-after c =
    let (triple, found, is) = c.loop-position.invariant.triple in
    slice_get_within c.loop-position.tables.triples c.loop-position.triple triple found

abbrev the_item : (items : List Item) (position : ℕ) → Item
the_item items position = get_or items position (record { 0 = 0 })

rest-is : (items : List Item) (position : ℕ) → 0 < position → position ≤ length items
    → drop (position - 1) items ≡ the_item items (position - 1) ∷ drop position items
rest-is items position some inside =
    let next : suc (position - 1) ≡ position = omega arith in
    drop-cons items (position - 1) (record { 0 = 0 }) (omega arith) ∙ ap (λ (n : ℕ). the_item items (position - 1) ∷ drop n items) next

pub push_known-requires-clause-after : goal.push_known-requires-clause-after
push_known-requires-clause-after c =
    subst (λ (xs : List Item). HasTriple c.args.job.now c.args.bound c.push_place.new.tables.triples xs c.in_ok-triple.triple)
    (sym (rest-is c.args.items.now c.loop-position.position c.loop-position-test.true c.loop-position.invariant.filled.inside))
    (c.in_ok-triple.ensures.triple (drop c.loop-position.position c.args.items.now) c.loop-position.invariant.triple)

pub loop-position-preserved : goal.loop-position-preserved
loop-position-preserved c =
    let items = c.args.items.now in
    let old = c.args.places.now.items in
    let position : ℕ = c.loop-position.position - 1 in
    let before = c.loop-position.invariant in
    let known = c.push_known.ensures in
    let t : Item = the_item items position in
    let next : c.loop-position.position ≡ position + 1 = omega (arith, c.loop-position-test.true) in
    let inside : position < length items = omega (arith, c.loop-position-test.true, before.filled.inside) in
    let (kind, added, has) = c.in_ok-triple.ensures.place in
    let place : Place = record { kind = kind; triple = c.in_ok-triple.triple } in
    let triple : HasTriple c.args.job.now c.args.bound c.push_place.new.tables.triples (drop position items) c.in_ok-triple.triple =
    subst (λ (xs : List Item). HasTriple c.args.job.now c.args.bound c.push_place.new.tables.triples xs c.in_ok-triple.triple)
    (sym (rest-is items c.loop-position.position c.loop-position-test.true before.filled.inside))
    (c.in_ok-triple.ensures.triple (drop c.loop-position.position items) before.triple) in
    let so_far : AreFilled c.args.job.now c.args.bound c.loop-position.tables c.args.kinds.now c.loop-position.places.items (length old) items (position + 1) =
    subst (AreFilled c.args.job.now c.args.bound c.loop-position.tables c.args.kinds.now c.loop-position.places.items (length old) items) next before.filled in
    let one : AreFilled c.args.job.now c.args.bound c.push_place.new.tables c.args.kinds.now c.push_place.new.places.items (length old) items position =
    rw added (AreFilled-more c.args.job.now c.args.bound c.loop-position.tables c.push_place.new.tables c.args.kinds.now c.args.kinds.now c.loop-position.places.items
    (length old) items position place t so_far c.push_place.ensures.tables_grow (KindsGrow-nothing c.args.kinds.now)
    (slice_get-get_or items position (record { 0 = 0 }) inside) has triple) in
    let filled = known.filled (length old) one in
    record {
      table = c.push_place.ensures.table;
      kinds = c.push_place.ensures.kinds;
      tables_grow = Grows-twice c.args.tables.now c.loop-position.tables c.push_place.new.tables before.tables_grow c.push_place.ensures.tables_grow;
      room = omega (arith, known.capacity, c.push_place.ensures.capacity, before.room, filled.long, before.filled.long, c.push_known.new.places.ok, c.loop-position.places.ok);
      places_grow = Extends-twice old c.loop-position.places.items c.push_known.new.places.items before.places_grow
          (Extends-twice c.loop-position.places.items c.push_place.new.places.items c.push_known.new.places.items c.push_place.ensures.places_grow known.grow);
      filled = filled;
      triple = known.triple;
    }

pub returns-clause-places : goal.returns-clause-places
returns-clause-places c =
    AreFilled-all c.args.job.now c.args.bound c.loop-position.tables c.args.kinds.now c.loop-position.places.items (length c.args.places.now.items) c.args.items.now c.loop-position.position
    c.loop-position.invariant.filled c.loop-position-test.false
