use Rattle.std.proofs.Common.{◌≡◌, ℕ, ◌+◌, ◌<◌, List, length, get_or, refl, sym, ap, ◌∙◌, subst, arith}
use Rattle.std.proofs.lemmas.Bool.{iff_false}
use Rattle.mining_job.specs.Problems.{Problem, items_of}
use Rattle.sequence_grids.specs.Grids.{items_at}
use Rattle.place_records.specs.Records.{start_of}
use Rattle.snapshot_project.specs.Terrains.{AreStarts}
use Rattle.snapshot_project.proofs.StartLemmas.{start-next}
use Rattle.snapshot_project.proofs.BeginLemmas.{starts-none, starts-more, starts-pass}
use Rattle.snapshot_project.proofs.beginning.starts_of.Goals as goal
use Rattle.snapshot_project.proofs.beginning.starts_of.Goals.{then-completes+in_ok-start_at+in_ok-push, else-completes}

pub loop-grid-init : goal.loop-grid-init
loop-grid-init c = record {
  starts = subst (AreStarts c.args.grids.now 0) (sym c.new-starts.ensures.items) (starts-none c.args.grids.now);
  place = refl;
  most = omega arith;
}

pub loop-grid-preserved : goal.loop-grid-preserved
loop-grid-preserved c =
    let grids = c.args.grids.now in
    let grid = c.loop-grid.grid in
    let count : length c.sequences-number-items.result.now ≡ length grids.sequences = ap length c.sequences-number-items.ensures in
    let inside : grid < length grids.sequences = omega (arith, count, c.loop-grid-test.true) in
    let next : start_of grids (grid + 1) ≡ start_of grids grid + length (items_at grids grid) + 1 = start-next grids grid inside in
    let numbers : get_or c.sequences-number-items.result.now grid 0 ≡ get_or grids.sequences grid 0 = ap (λ (l : List ℕ). get_or l grid 0) c.sequences-number-items.ensures in
    let long : c.places_of.result ≡ length (items_at grids grid) + 1 = c.places_of.ensures.places
    ∙ ap (λ (p : Problem). length (items_of p (get_or c.sequences-number-items.result.now grid 0)) + 1) (sym c.requires.problem)
    ∙ ap (λ (i : ℕ). length (items_of grids.problem i) + 1) numbers in
    record {
      starts = elim c.if-completes.branch [
        | then-completes+in_ok-start_at+in_ok-push w ↦
            rw (w.starts-is, w.in_ok-push.ensures.items, w.in_ok-start_at.ensures, c.loop-grid.invariant.place) (starts-more grids grid c.loop-grid.starts.items inside c.loop-grid.invariant.starts (c.completes.ensures.0 w.if-completes.true))
        | else-completes w ↦
            rw w.starts-is (starts-pass grids grid c.loop-grid.starts.items inside c.loop-grid.invariant.starts (iff_false c.completes.ensures w.if-completes.false))
      ];
      place = omega (arith, next, long, c.loop-grid.invariant.place);
      most = omega (arith, c.places_of.ensures.most, c.loop-grid.invariant.most);
    }
