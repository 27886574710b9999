use Rattle.std.proofs.Common.{◌≡◌, ◌<◌, ◌≤◌, length, slice_get, sym, ap, ◌∙◌, arith, rules}
use Rattle.std.specs.List.{slice_index}
use Rattle.std.proofs.lemmas.List.{get_or_default}
use Rattle.flat_lists.specs.Cuts.{start_of}
use Rattle.flat_lists.specs.Shelf.{Shelf}
use Rattle.flat_lists.proofs.CutLemmas.{end_within, length-lists_in, list_read}
use Rattle.flat_lists.proofs.FlatLists.list.Given.{Over}
use Rattle.flat_lists.proofs.FlatLists.list.Goals as goal
use Rattle.flat_lists.proofs.FlatLists.list.Goals.{After-deref}

pub start_at-start-requires : goal.start_at-start-requires
start_at-start-requires g c =
    omega (arith, c.requires, length-lists_in c.self.inside.ends.items c.self.inside.elements.items, ap (λ (s : Shelf _). length s.lists) c.self.view_is, ap length c.as_slice.ensures.value)

pub index-end-requires : goal.index-end-requires
index-end-requires g c =
    omega (arith, c.requires, length-lists_in c.self.inside.ends.items c.self.inside.elements.items, ap (λ (s : Shelf _). length s.lists) c.self.view_is, c.self.inside.ends.ok.0)

module _ (g : Over) (c : After-deref g) where
  inside : c.args.number < length c.self.inside.ends.items
  inside =
      omega (arith, c.requires, length-lists_in c.self.inside.ends.items c.self.inside.elements.items, ap (λ (s : Shelf _). length s.lists) c.self.view_is)

  start : c.start_at-start.result ≡ start_of c.self.inside.ends.items c.args.number
  start = c.start_at-start.ensures ∙ ap (λ ends. start_of ends c.args.number) c.as_slice.ensures.value

  end : c.index-end.result.now ≡ slice_index c.self.inside.ends.items c.args.number
  end = c.index-end.ensures ∙ get_or_default c.self.inside.ends.items c.args.number c.index-end.result.now 0 inside

  forward : c.start_at-start.result ≤ c.index-end.result.now
  forward = omega (arith, start, end, c.self.invariant.forward c.args.number inside)

  whole : c.index-end.result.now ≤ length c.deref.result.now
  whole =
      omega (arith, end, ap length c.deref.ensures.value, end_within c.self.inside.ends.items (length c.self.inside.elements.items) c.self.invariant c.args.number inside)

pub slice_bounds-result-count : goal.slice_bounds-result-count
slice_bounds-result-count g c = forward g c

pub slice_bounds-result-start : goal.slice_bounds-result-start
slice_bounds-result-start g c = let ahead = forward g c in let within = whole g c in search rules

pub slice_bounds-result-end : goal.slice_bounds-result-end
slice_bounds-result-end g c = let ahead = forward g c in let within = whole g c in search rules

pub offset_bounds-deref-start : goal.offset_bounds-deref-start
offset_bounds-deref-start g c = let ahead = forward g c in let within = whole g c in search rules

pub returns : goal.returns
returns g c =
    let at = (goal.at.returns g c).After-deref in
    ap (λ (s : Shelf _). slice_get s.lists c.args.number) (sym c.self.view_is) ∙ list_read c.self.inside.ends.items c.self.inside.elements.items c.deref.result.now c.start_at-start.result c.index-end.result.now c.args.number (inside g at) (start g at) (end g at) c.deref.ensures.value
