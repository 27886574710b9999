use Rattle.std.proofs.Common.{◌≡◌, ◌<◌, ◌∙◌, ℕ, ◌==◌, not, List, length, map, length-set, set, sym, ap, subst, arith, rules, refl}
use Rattle.std.specs.List.{slice_get, slice_index}
use Rattle.std.proofs.lemmas.Option.{slice_get_within, get_or_from_slice_get}
use Rattle.place_walk.specs.declared.stand.Stand.{Stand}
use Rattle.stand_sums.specs.declared.shelf.Shelf.{Shelf}
use Rattle.stand_sums.specs.Kept.{filings_in, filed_for, filled, AreShelved, AreFiles}
use Rattle.stand_sums.specs.Files.{stand_at}
use Rattle.stand_sums.specs.Runs.{RunValue}
use Rattle.stand_sums.proofs.ShelfLemmas.{shelf-found, shelf-free, shelf-within}
use Rattle.stand_sums.proofs.FileLemmas.{placed-more, placed-alone, shelved-more, file-one, no-shelf}
use Rattle.stand_sums.proofs.filing.file_rank.Goals as goal

pub set-requires : goal.set-requires
set-requires c =
    let found = shelf-found c.args.shelves.now.items c.as_slice.result.now c.in-Some.place c.index-shelf.result.now c.args.rank c.as_slice.ensures.value c.in-Some.ensures.some c.index-shelf.ensures in
    let less : c.index-shelf.result.now.next < length c.args.run.now.stands =
    shelf-within c.args.shelves.now.items c.in-Some.place c.index-shelf.result.now c.args.rank found c.requires.room c.args.run.now.stands c.requires.files.shelved in
    search rules

pub fill-requires : goal.fill-requires
fill-requires c =
    let found = shelf-found c.args.shelves.now.items c.as_slice.result.now c.in-Some.place c.index-shelf.result.now c.args.rank c.as_slice.ensures.value c.in-Some.ensures.some c.index-shelf.ensures in
    let less : c.index-shelf.result.now.next < length c.args.run.now.stands =
    shelf-within c.args.shelves.now.items c.in-Some.place c.index-shelf.result.now c.args.rank found c.requires.room c.args.run.now.stands c.requires.files.shelved in
    let same : c.index_mut.result.now ≡ c.index-shelf.result.now =
    c.index_mut.ensures.value ∙ get_or_from_slice_get c.args.shelves.now.items c.in-Some.place c.index-shelf.result.now c.index_mut.result.now found.at in
    let this : c.index_mut.result.now.next < length c.args.run.now.stands = subst (λ (s : Shelf). s.next < length c.args.run.now.stands) (sym same) less in
    search rules

pub index_mut-requires : goal.index_mut-requires
index_mut-requires c =
    let found = shelf-found c.args.shelves.now.items c.as_slice.result.now c.in-Some.place c.index-shelf.result.now c.args.rank c.as_slice.ensures.value c.in-Some.ensures.some c.index-shelf.ensures in
    let inside : c.in-Some.place < length c.args.shelves.now.items = slice_get_within c.args.shelves.now.items c.in-Some.place c.index-shelf.result.now found.at in
    search rules

pub returns-in-Some-clause-files : goal.returns-in-Some-clause-files
returns-in-Some-clause-files c =
    let shelves : List Shelf = c.args.shelves.now.items in
    let run : List Stand = c.args.run.now.stands in
    let shelf : Shelf = c.index-shelf.result.now in
    let place : ℕ = c.in-Some.place in
    let found = shelf-found shelves c.as_slice.result.now place shelf c.args.rank c.as_slice.ensures.value c.in-Some.ensures.some c.index-shelf.ensures in
    let free = shelf-free shelves place shelf c.args.rank found c.requires.room in
    let same : c.index_mut.result.now ≡ shelf =
    c.index_mut.ensures.value ∙ get_or_from_slice_get shelves place shelf c.index_mut.result.now found.at in
    let is : c.fill.new.shelf ≡ filled shelf c.args.end = c.fill.ensures ∙ ap (λ (s : Shelf). filled s c.args.end) same in
    let stand : Stand = stand_at (not (shelf.end == c.args.end)) c.args.visit in
    let long : length (set run shelf.next stand) ≡ length run = length-set run shelf.next stand in
    let written : c.set.new.self.stands ≡ set run shelf.next stand = ap (λ (v : RunValue). v.stands) c.set.ensures in
    subst (λ (l : List Stand). AreFiles c.args.places.now (set shelves place c.fill.new.shelf) l) (sym written)
    (subst (λ (s : Shelf). AreFiles c.args.places.now (set shelves place s) (set run shelf.next stand)) (sym is)
    (record {
      placed = placed-more c.args.places.now shelves place shelf (filled shelf c.args.end) c.requires.files.placed found.at refl;
      shelved = subst (AreShelved 0 (set shelves place (filled shelf c.args.end))) (sym long) (shelved-more 0 shelves (length run) place shelf c.args.end c.requires.files.shelved found.at free);
    }))

pub returns-in-Some-clause-filed : goal.returns-in-Some-clause-filed
returns-in-Some-clause-filed c =
    let shelves : List Shelf = c.args.shelves.now.items in
    let run : List Stand = c.args.run.now.stands in
    let shelf : Shelf = c.index-shelf.result.now in
    let place : ℕ = c.in-Some.place in
    let found = shelf-found shelves c.as_slice.result.now place shelf c.args.rank c.as_slice.ensures.value c.in-Some.ensures.some c.index-shelf.ensures in
    let free = shelf-free shelves place shelf c.args.rank found c.requires.room in
    let same : c.index_mut.result.now ≡ shelf =
    c.index_mut.ensures.value ∙ get_or_from_slice_get shelves place shelf c.index_mut.result.now found.at in
    let is : c.fill.new.shelf ≡ filled shelf c.args.end = c.fill.ensures ∙ ap (λ (s : Shelf). filled s c.args.end) same in
    let stand : Stand = stand_at (not (shelf.end == c.args.end)) c.args.visit in
    let written : c.set.new.self.stands ≡ set run shelf.next stand = ap (λ (v : RunValue). v.stands) c.set.ensures in
    subst (λ (l : List Stand). filings_in l (set shelves place c.fill.new.shelf) ≡ map (filed_for c.args.rank c.args.visit c.args.end) (filings_in run shelves)) (sym written)
    (subst (λ (s : Shelf). filings_in (set run shelf.next stand) (set shelves place s) ≡ map (filed_for c.args.rank c.args.visit c.args.end) (filings_in run shelves)) (sym is)
    (file-one run c.args.rank c.args.visit c.args.end (length run) (omega arith) 0 shelves place shelf c.requires.files.shelved found.at found.rank_is found.kept free
    (placed-alone c.args.places.now shelves place shelf c.args.rank c.requires.files.placed found.at found.rank_is)))

pub returns-in_default-clause-filed : goal.returns-in_default-clause-filed
returns-in_default-clause-filed c =
    let place : ℕ = slice_index c.args.places.now c.args.rank in
    no-shelf c.args.places.now c.args.run.now.stands c.args.visit c.args.end c.args.shelves.now.items c.args.rank place c.requires.files.placed refl
    (λ shelf at. c.in_default.ensures.none shelf (ap (λ (l : List Shelf). slice_get l place) c.as_slice.ensures.value ∙ at))
