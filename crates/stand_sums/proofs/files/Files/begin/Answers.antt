use Rattle.std.proofs.Common.{◌≡◌, ◌∙◌, List, length, map, ap, arith}
use Rattle.std.proofs.lemmas.Result.{on_ok_weaker, on_err_weaker}
use Rattle.place_walk.specs.declared.stand.Stand.{Stand}
use Rattle.stand_sums.specs.declared.shelf.Shelf.{Shelf}
use Rattle.stand_sums.specs.Kept.{filed_in}
use Rattle.stand_sums.proofs.FileLemmas.{begun-files, unfiled-all}
use Rattle.stand_sums.proofs.files.Files.begin.Goals as goal

pub invariant_of-self-2 : goal.invariant_of-self-2
invariant_of-self-2 c =
    let (end, laid) = c.requires.places in
    let run : List Stand = c.in_ok-self-inside.field-0.stands in
    let long : length run ≡ c.run_end-end.result = c.in_ok-self-inside.ensures in
    let same : c.run_end-end.result ≡ end = c.run_end-end.ensures end laid in
    begun-files c.shelves_for.new.places.items c.shelves_for.new.shelves.items run c.args.next.now end laid (omega (arith, long, same))
    c.shelves_for.result c.shelves_for.ensures.placed c.shelves_for.ensures.all c.shelves_for.ensures.none

pub returns-clause-begun : goal.returns-clause-begun
returns-clause-begun c =
    let run : List Stand = c.in_ok-self-inside.field-0.stands in
    on_ok_weaker c.shelves_for.result
    (λ all. ap (λ (l : List Shelf). map (filed_in run) l) all ∙ unfiled-all run c.args.next.now)
    c.shelves_for.ensures.all

pub returns-clause-none : goal.returns-clause-none
returns-clause-none c =
    on_err_weaker c.shelves_for.result
    (λ none. ap (λ (l : List Shelf). map (filed_in c.in_ok-self-inside.field-0.stands) l) none)
    c.shelves_for.ensures.none
