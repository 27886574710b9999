use Rattle.std.proofs.Common.{rules, ◌≡◌, ◌∙◌, ◌+◌, ◌<◌, ℕ, ap, arith, Some, length, drop}
use Rattle.std.specs.List.{slice_get, slice_index}
use Rattle.std.proofs.lemmas.Option.{slice_get_within, get_or_from_slice_get}
use Rattle.mine_model.specs.declared.item.Item.{Item}
use Rattle.sequence_grids.specs.declared.kinds.Kind.{Kind}
use Rattle.sequence_grids.specs.Grids.{items_at}
use Rattle.sequence_grids.specs.Kinds.{HasKind}
use Rattle.sequence_grids.specs.Places.{IsPlaceAt}
use Rattle.sequence_grids.proofs.GridLemmas.{at_end, at_place, the_place, states_are, columns_of, both_ways, item_there}
use Rattle.sequence_grids.proofs.KindLemmas.{once_by_rising}
use Rattle.sequence_grids.proofs.ReadingLemmas.{row_inside, row_end, row_start}
use Rattle.sequence_grids.proofs.grids.Grids.reading.Goals as goal
use Rattle.sequence_grids.proofs.grids.Grids.reading.Goals.{After-place_of-place, After-place_behind-behind}

pub place_of-place-requires-clause-within : goal.place_of-place-requires-clause-within
place_of-place-requires-clause-within c = rw (c.as_slice.ensures.value, c.as_slice-2.ensures.value) (at_place c.args.self.now c.self.inside.job.now c.self.inside.bound c.self.inside.tables c.self.inside.kinds c.self.inside.places.items c.self.inside.ends.items c.self.inside.sequences.items c.self.view_is c.self.invariant.kept c.args.grid c.args.pos c.requires.grid (omega (arith, c.requires.pos)))

pub place_behind-behind-requires-clause-before : goal.place_behind-behind-requires-clause-before
place_behind-behind-requires-clause-before c = rw c.as_slice-4.ensures.value (at_end c.args.self.now c.self.inside.job.now c.self.inside.bound c.self.inside.tables c.self.inside.kinds c.self.inside.places.items c.self.inside.ends.items c.self.inside.sequences.items c.self.view_is c.self.invariant.kept c.args.grid (c.args.pos + 1) c.requires.grid (omega (arith, c.requires.pos)))

pub place_behind-behind-requires-clause-within : goal.place_behind-behind-requires-clause-within
place_behind-behind-requires-clause-within c = rw (c.as_slice-3.ensures.value, c.as_slice-4.ensures.value) (at_place c.args.self.now c.self.inside.job.now c.self.inside.bound c.self.inside.tables c.self.inside.kinds c.self.inside.places.items c.self.inside.ends.items c.self.inside.sequences.items c.self.view_is c.self.invariant.kept c.args.grid (c.args.pos + 1) c.requires.grid (omega (arith, c.requires.pos)))

is_place : (c : After-place_of-place) → IsPlaceAt c.args.self.now.problem c.args.self.now.bound c.self.inside.tables c.self.inside.kinds (items_at c.args.self.now c.args.grid) c.args.pos c.place_of-place.result
is_place c = the_place c.args.self.now c.self.inside.job.now c.self.inside.bound c.self.inside.tables c.self.inside.kinds c.self.inside.places.items c.self.inside.ends.items c.self.inside.sequences.items c.self.view_is c.self.invariant.kept c.args.grid c.args.pos c.requires.grid (omega (arith, c.requires.pos)) c.place_of-place.result (rw (c.as_slice.ensures.value, c.as_slice-2.ensures.value) at c.place_of-place.ensures)

is_behind : (c : After-place_behind-behind) → IsPlaceAt c.args.self.now.problem c.args.self.now.bound c.self.inside.tables c.self.inside.kinds (items_at c.args.self.now c.args.grid) (c.args.pos + 1) c.place_behind-behind.result
is_behind c = the_place c.args.self.now c.self.inside.job.now c.self.inside.bound c.self.inside.tables c.self.inside.kinds c.self.inside.places.items c.self.inside.ends.items c.self.inside.sequences.items c.self.view_is c.self.invariant.kept c.args.grid (c.args.pos + 1) c.requires.grid (omega (arith, c.requires.pos)) c.place_behind-behind.result (rw (c.as_slice-3.ensures.value, c.as_slice-4.ensures.value) at c.place_behind-behind.ensures)

has_kind : (c : After-place_of-place) → (t : Item) × (slice_get (items_at c.args.self.now c.args.grid) c.args.pos ≡ Some t)
    × HasKind c.args.self.now.problem c.args.self.now.bound c.self.inside.tables.classes c.self.inside.kinds t c.place_of-place.result.kind
has_kind c =
    let (t, there) = item_there (items_at c.args.self.now c.args.grid) c.args.pos c.requires.pos in
    (t, there, (is_place c).kind t there)

pub index-kind-requires : goal.index-kind-requires
index-kind-requires c =
    let (t, there, (kind, found, is)) = has_kind (goal.at.index-kind-requires c).After-place_of-place in
    let inside : c.place_of-place.result.kind < length c.self.inside.kinds.kinds.items = slice_get_within c.self.inside.kinds.kinds.items c.place_of-place.result.kind kind found in
    search rules

pub words-words-requires-clause-class : goal.words-words-requires-clause-class
words-words-requires-clause-class c =
    let (t, there, (kind, found, is)) = has_kind (goal.at.words-words-requires-clause-class c).After-place_of-place in
    let same : c.index-kind.result.now ≡ kind = c.index-kind.ensures ∙ get_or_from_slice_get c.self.inside.kinds.kinds.items c.place_of-place.result.kind kind c.index-kind.result.now found in
    let (class, at_class, right) = is.class in
    rw same (slice_get_within c.self.inside.tables.classes kind.class class at_class)

pub words-words-requires-clause-after : goal.words-words-requires-clause-after
words-words-requires-clause-after c =
    let (triple, found, is) = (is_behind (goal.at.words-words-requires-clause-after c).After-place_behind-behind).triple in
    slice_get_within c.self.inside.tables.triples c.place_behind-behind.result.triple triple found

pub ends_from-requires : goal.ends_from-requires
ends_from-requires c =
    let (t, there, (kind, found, is)) = has_kind (goal.at.ends_from-requires c).After-place_of-place in
    let same : c.index-kind.result.now ≡ kind = c.index-kind.ensures ∙ get_or_from_slice_get c.self.inside.kinds.kinds.items c.place_of-place.result.kind kind c.index-kind.result.now found in
    let base : c.index-kind.result.now.base ≡ kind.base = ap (λ (k : Kind). k.base) same in
    let room = is.room in
    rw c.as_slice-6.ensures.value (omega (arith, base, room))

pub returns : goal.returns
returns c t there k least most =
    let (kind, found, is) = (is_place (goal.at.returns c).After-place_of-place).kind t there in
    let same : c.index-kind.result.now ≡ kind = c.index-kind.ensures ∙ get_or_from_slice_get c.self.inside.kinds.kinds.items c.place_of-place.result.kind kind c.index-kind.result.now found in
    let (class, at_class, right) = is.class in
    let at_index : slice_get c.self.inside.tables.classes c.index-kind.result.now.class ≡ Some class = ap (λ (k : Kind). slice_get c.self.inside.tables.classes k.class) same ∙ at_class in
    let (triple, at_triple, behind) = (is_behind (goal.at.returns c).After-place_behind-behind).triple in
    let of_class = c.words-words.ensures.class class at_index in
    let of_triple = c.words-words.ensures.after triple at_triple in
    let states = states_are c.args.self.now c.self.inside.job.now c.self.inside.bound c.self.inside.tables c.self.inside.kinds c.self.inside.places.items c.self.inside.ends.items c.self.inside.sequences.items c.self.view_is c.self.invariant.kept c.args.grid c.args.pos c.requires.grid (omega (arith, c.requires.pos)) in
    let inside : k < length c.self.inside.tables.predecessors = omega (arith, states, most) in
    let cell = is.cells k (least, most) in
    let row : c.ends_from.result.now ≡ drop kind.base c.self.inside.kinds.ends.items =
    c.ends_from.ensures ∙ ap (λ (k : Kind). drop k.base c.as_slice-6.result.now) same ∙ ap (drop kind.base) c.as_slice-6.ensures.value in
    let columns = columns_of c.args.self.now c.self.inside.job.now c.self.inside.bound c.self.inside.tables c.self.inside.kinds c.self.inside.places.items c.self.inside.ends.items c.self.inside.sequences.items c.self.view_is c.self.invariant.kept c.args.grid c.args.pos c.requires.grid (omega (arith, c.requires.pos)) in
    let all = columns.all in
    let column : ℕ = slice_index c.self.inside.kinds.columns.numbers.items k in
    let start = row_start c.self.inside.kinds.ends.items c.ends_from.result.now kind.base column row in
    let end = row_end c.self.inside.kinds.ends.items c.ends_from.result.now kind.base column row in
    let within = row_inside c.self.inside.kinds.ends.items c.ends_from.result.now kind.base column row in
    record {
      silent = both_ways (of_class.silent k inside) (right.silent k (least, most));
      writing = both_ways (of_class.writing k inside) (right.writes k (least, most));
      seen = both_ways (of_triple.seen k inside) (behind.seen k most);
      unseen = both_ways (of_triple.unseen k inside) (behind.unseen k most);
      ending = both_ways (of_triple.ending k inside) (behind.ends k most);
      kept = record {
        state = rw c.as_slice-5.ensures.value (omega (arith, all, most));
        column = rw c.as_slice-5.ensures.value (record {
          inside = within cell.inside.room;
          forward = rw (start, end) cell.inside.forward;
          within = rw (end, c.as_slice-7.ensures.value) cell.inside.within;
        });
      };
      outputs = rw (c.as_slice-5.ensures.value, start, end, c.as_slice-7.ensures.value) cell.outputs;
      once = rw (c.as_slice-5.ensures.value, start, end, c.as_slice-7.ensures.value) (once_by_rising _ cell.rising);
    }
