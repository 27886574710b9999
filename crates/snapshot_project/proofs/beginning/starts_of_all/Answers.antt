use Rattle.std.proofs.Common.{◌≡◌, ℕ, ◌+◌, ◌<◌, None, false, length, get_or, refl, sym, subst, arith}
use Rattle.std.proofs.lemmas.Option.{slice_get-get_or}
use Rattle.mine_model.proofs.ElementLemmas.{get-held}
use Rattle.mine_model.proofs.ListLemmas.{AllByRecursion-contained}
use Rattle.mining_job.specs.Problems.{items_of}
use Rattle.sequence_grids.specs.Grids.{GridList, Completes, items_at}
use Rattle.place_records.specs.Records.{start_of}
use Rattle.snapshot_project.specs.Terrains.{AreStarts}
use Rattle.snapshot_project.proofs.StartLemmas.{start-next}
use Rattle.snapshot_project.proofs.BeginLemmas.{starts-none, starts-more}
use Rattle.snapshot_project.proofs.beginning.starts_of_all.Goals as goal

pub loop-number-init : goal.loop-number-init
loop-number-init c = record {
  starts = λ bound complete.
      let part : GridList = record { problem = c.args.job.now; bound = bound; sequences = c.args.sequences.now } in
      subst (AreStarts part 0) (sym c.in_ok-starts.ensures.items) (starts-none part);
  place = refl;
}

pub loop-number-preserved : goal.loop-number-preserved
loop-number-preserved c =
    let job = c.args.job.now in
    let numbers = c.args.sequences.now in
    let index = c.loop-number.number-index in
    let number = get_or numbers index 0 in
    let inside : index < length numbers = c.loop-number-test.true in
    let any : GridList = record { problem = job; bound = record { top = 0; need = None }; sequences = numbers } in
    let next : start_of any (index + 1) ≡ start_of any index + length (items_at any index) + 1 = start-next any index inside in
    let long : c.places_of.result ≡ length (items_at any index) + 1 = c.places_of.ensures.places in
    record {
      starts = λ bound complete.
          let part : GridList = record { problem = job; bound = bound; sequences = numbers } in
          let here : Completes job bound (items_at part index) 0 false =
          AllByRecursion-contained (λ i. Completes job bound (items_of job i) 0 false) numbers number complete
          (get-held numbers index number (slice_get-get_or numbers index 0 inside)) in
          rw (c.in_ok-push.ensures.items, c.in_ok-start_at.ensures, c.loop-number.invariant.place)
          (starts-more part index c.loop-number.starts.items inside (c.loop-number.invariant.starts bound complete) here);
      place = omega (arith, next, long, c.loop-number.invariant.place);
    }

pub returns : goal.returns
returns c = λ bound complete.
    let part : GridList = record { problem = c.args.job.now; bound = bound; sequences = c.args.sequences.now } in
    let done : c.loop-number.number-index ≡ length c.args.sequences.now = omega (arith, c.loop-number-test.false, c.loop-number.auto.number-index-end) in
    subst (λ (n : ℕ). AreStarts part n c.loop-number.starts.items) done (c.loop-number.invariant.starts bound complete)
