use Rattle.std.proofs.Common.{rules, ◌≡◌, ◌∙◌, ◌<◌, ap, arith, Some, length}
use Rattle.std.specs.List.{slice_get}
use Rattle.std.proofs.lemmas.Option.{slice_get_within, get_or_from_slice_get}
use Rattle.mine_model.specs.declared.item.Item.{Item}
use Rattle.sequence_grids.specs.declared.kinds.Kind.{Kind}
use Rattle.sequence_grids.specs.Grids.{items_at}
use Rattle.sequence_grids.specs.Kinds.{HasKind}
use Rattle.sequence_grids.specs.Places.{IsPlaceAt}
use Rattle.sequence_grids.proofs.GridLemmas.{at_place, the_place, both_ways, item_there}
use Rattle.sequence_grids.proofs.grids.Grids.is_silent.Goals as goal
use Rattle.sequence_grids.proofs.grids.Grids.is_silent.Goals.{After-place_of-place}

pub place_of-place-requires-clause-within : goal.place_of-place-requires-clause-within
place_of-place-requires-clause-within c = rw (c.as_slice.ensures.value, c.as_slice-2.ensures.value) (at_place c.args.self.now c.self.inside.job.now c.self.inside.bound c.self.inside.tables c.self.inside.kinds c.self.inside.places.items c.self.inside.ends.items c.self.inside.sequences.items c.self.view_is c.self.invariant.kept c.args.grid c.args.pos c.requires.grid (omega (arith, c.requires.pos)))

is_place : (c : After-place_of-place) → IsPlaceAt c.args.self.now.problem c.args.self.now.bound c.self.inside.tables c.self.inside.kinds (items_at c.args.self.now c.args.grid) c.args.pos c.place_of-place.result
is_place c = the_place c.args.self.now c.self.inside.job.now c.self.inside.bound c.self.inside.tables c.self.inside.kinds c.self.inside.places.items c.self.inside.ends.items c.self.inside.sequences.items c.self.view_is c.self.invariant.kept c.args.grid c.args.pos c.requires.grid (omega (arith, c.requires.pos)) c.place_of-place.result (rw (c.as_slice.ensures.value, c.as_slice-2.ensures.value) at c.place_of-place.ensures)

has_kind : (c : After-place_of-place) → (t : Item) × (slice_get (items_at c.args.self.now c.args.grid) c.args.pos ≡ Some t)
    × HasKind c.args.self.now.problem c.args.self.now.bound c.self.inside.tables.classes c.self.inside.kinds t c.place_of-place.result.kind
has_kind c =
    let (t, there) = item_there (items_at c.args.self.now c.args.grid) c.args.pos c.requires.pos in
    (t, there, (is_place c).kind t there)

pub index-requires : goal.index-requires
index-requires c =
    let (t, there, (kind, found, is)) = has_kind (goal.at.index-requires c).After-place_of-place in
    let inside : c.place_of-place.result.kind < length c.self.inside.kinds.kinds.items = slice_get_within c.self.inside.kinds.kinds.items c.place_of-place.result.kind kind found in
    search rules

pub is_silent-requires-clause-class : goal.is_silent-requires-clause-class
is_silent-requires-clause-class c =
    let (t, there, (kind, found, is)) = has_kind (goal.at.is_silent-requires-clause-class c).After-place_of-place in
    let same : c.index.result.now ≡ kind = c.index.ensures ∙ get_or_from_slice_get c.self.inside.kinds.kinds.items c.place_of-place.result.kind kind c.index.result.now found in
    let (class, at_class, right) = is.class in
    rw same (slice_get_within c.self.inside.tables.classes kind.class class at_class)

pub returns : goal.returns
returns c t there =
    let (kind, found, is) = (is_place (goal.at.returns c).After-place_of-place).kind t there in
    let same : c.index.result.now ≡ kind = c.index.ensures ∙ get_or_from_slice_get c.self.inside.kinds.kinds.items c.place_of-place.result.kind kind c.index.result.now found in
    let (class, at_class, right) = is.class in
    let at_index : slice_get c.self.inside.tables.classes c.index.result.now.class ≡ Some class = ap (λ (k : Kind). slice_get c.self.inside.tables.classes k.class) same ∙ at_class in
    both_ways (c.is_silent.ensures class at_index) (right.silent c.args.k.0 (c.requires.start, c.requires.state))
