use Rattle.std.proofs.Common.{◌≡◌, ◌∙◌, ◌+◌, ◌-◌, ◌<◌, ◌≤◌, sym, ap, subst, refl, arith, ℕ, suc, List, [], ◌∷◌, ◌++◌, get_or, drop, length}
use Rattle.std.proofs.Math.Seq.{drop-cons}
use Rattle.std.proofs.Math.ListN.{drop_of_length-le}
use Rattle.std.proofs.lemmas.Option.{slice_get_within, slice_get-get_or}
use Rattle.mine_model.specs.declared.item.Item.{Item}
use Rattle.sequence_grids.specs.declared.places.Place.{Place}
use Rattle.sequence_grids.specs.Tables.{unknown}
use Rattle.sequence_grids.specs.Places.{HasTriple, AreFilled}
use Rattle.sequence_grids.proofs.TableLemmas.{Grows-nothing, Grows-twice}
use Rattle.sequence_grids.proofs.KindLemmas.{KindsGrow-nothing, KindsGrow-twice, Extends-twice}
use Rattle.sequence_grids.proofs.PlaceLemmas.{AreFilled-none, AreFilled-more, AreFilled-all, IsTripleOf-last}
use Rattle.sequence_grids.proofs.cuts.push_places.Goals as goal

abbrev the_item : (items : List Item) (position : ℕ) → Item
the_item items position = get_or items position (record { 0 = 0 })

rest-is : (items : List Item) (position : ℕ) → 0 < position → position ≤ length items
    → drop (position - 1) items ≡ the_item items (position - 1) ∷ drop position items
rest-is items position some inside =
    let next : suc (position - 1) ≡ position = omega arith in
    drop-cons items (position - 1) (record { 0 = 0 }) (omega arith) ∙ ap (λ (n : ℕ). the_item items (position - 1) ∷ drop n items) next

pub loop-position-init : goal.loop-position-init
loop-position-init c =
    let place : Place = record { kind = unknown; triple = 0 } in
    let old = c.args.places.now.items in
    let items = c.args.items.now in
    let pushed : c.push_reserved.new.self.items ≡ old ++ place ∷ [] = c.push_reserved.ensures.items ∙ ap (λ (ps : List Place). ps ++ place ∷ []) c.in_ok-reserve.ensures.items in
    let nothing : drop (length items) items ≡ [] = drop_of_length-le items (omega arith) in
    record {
      table = c.requires.table;
      cuts = c.requires.cuts;
      tables_grow = Grows-nothing c.args.tables.now;
      kinds_grow = KindsGrow-nothing c.args.kinds.now;
      room = omega (arith, c.push_reserved.ensures.capacity, c.push_reserved.ensures.len, c.in_ok-reserve.ensures.ok, c.in_ok-reserve.ensures.len);
      places_grow = (place ∷ [], pushed);
      filled = rw pushed (AreFilled-none c.args.job.now c.args.bound c.args.tables.now c.args.kinds.now old items place (length items) c.requires.table refl refl);
      triple = let (triple, found, last) = c.requires.table.last in (triple, found, (rw nothing (IsTripleOf-last c.args.job.now c.args.bound triple last)));
    }

pub push_place-requires-clause-after : goal.push_place-requires-clause-after
push_place-requires-clause-after c =
    let (triple, found, is) = c.loop-position.invariant.triple in
    slice_get_within c.loop-position.tables.triples c.loop-position.triple triple found

pub loop-position-preserved : goal.loop-position-preserved
loop-position-preserved c =
    let items = c.args.items.now in
    let old = c.args.places.now.items in
    let position : ℕ = c.loop-position.position - 1 in
    let before = c.loop-position.invariant in
    let t : Item = the_item items position in
    let next : c.loop-position.position ≡ position + 1 = omega (arith, c.loop-position-test.true) in
    let inside : position < length items = omega (arith, c.loop-position-test.true, before.filled.inside) in
    let (kind, added, has) = c.in_ok-triple.ensures.place in
    let place : Place = record { kind = kind; triple = c.in_ok-triple.triple } in
    let triple : HasTriple c.args.job.now c.args.bound c.push_place.new.tables.triples (drop position items) c.in_ok-triple.triple =
    subst (λ (xs : List Item). HasTriple c.args.job.now c.args.bound c.push_place.new.tables.triples xs c.in_ok-triple.triple)
    (sym (rest-is items c.loop-position.position c.loop-position-test.true before.filled.inside))
    (c.in_ok-triple.ensures.triple (drop c.loop-position.position items) before.triple) in
    let so_far : AreFilled c.args.job.now c.args.bound c.loop-position.tables c.loop-position.kinds c.loop-position.places.items (length old) items (position + 1) =
    subst (AreFilled c.args.job.now c.args.bound c.loop-position.tables c.loop-position.kinds c.loop-position.places.items (length old) items) next before.filled in
    let one : AreFilled c.args.job.now c.args.bound c.push_place.new.tables c.push_place.new.kinds c.push_place.new.places.items (length old) items position =
    rw added (AreFilled-more c.args.job.now c.args.bound c.loop-position.tables c.push_place.new.tables c.loop-position.kinds c.push_place.new.kinds c.loop-position.places.items
    (length old) items position place t so_far c.push_place.ensures.tables_grow c.push_place.ensures.kinds_grow
    (slice_get-get_or items position (record { 0 = 0 }) inside) has triple) in
    record {
      table = c.push_place.ensures.table;
      cuts = c.push_place.ensures.cuts;
      tables_grow = Grows-twice c.args.tables.now c.loop-position.tables c.push_place.new.tables before.tables_grow c.push_place.ensures.tables_grow;
      kinds_grow = KindsGrow-twice c.args.kinds.now c.loop-position.kinds c.push_place.new.kinds before.kinds_grow c.push_place.ensures.kinds_grow;
      room = omega (arith, c.push_place.ensures.capacity, before.room, one.long, before.filled.long, c.push_place.new.places.ok, c.loop-position.places.ok);
      places_grow = Extends-twice old c.loop-position.places.items c.push_place.new.places.items before.places_grow c.push_place.ensures.places_grow;
      filled = one;
      triple = triple;
    }

pub returns-clause-places : goal.returns-clause-places
returns-clause-places c =
    AreFilled-all c.args.job.now c.args.bound c.loop-position.tables c.loop-position.kinds c.loop-position.places.items (length c.args.places.now.items) c.args.items.now c.loop-position.position
    c.loop-position.invariant.filled c.loop-position-test.false
