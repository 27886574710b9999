use Rattle.std.proofs.Common.{◌≡◌, ℕ, ◌+◌, ◌≤◌, ◌<◌, None, ◌∷◌, [], ◌++◌, length, refl, sym, ap, ◌∙◌, subst, arith}
use Rattle.sequence_grids.specs.Grids.{GridList, items_at}
use Rattle.place_records.specs.Records.{start_of}
use Rattle.snapshot_project.proofs.FirstLemmas.{AreFirsts, firsts-none, firsts-more}
use Rattle.snapshot_project.proofs.StartLemmas.{start-next}
use Rattle.snapshot_project.proofs.beginning.first_places.Goals as goal

pub loop-number-init : goal.loop-number-init
loop-number-init c = record {
  firsts =
      let any : GridList = record { problem = c.args.job.now; bound = record { top = 0; need = None }; sequences = c.args.sequences.now } in
      subst (AreFirsts any 0) (sym c.in_ok-starts.ensures.items) (firsts-none any);
  place = refl;
}

pub loop-number-preserved : goal.loop-number-preserved
loop-number-preserved c =
    let job = c.args.job.now in
    let numbers = c.args.sequences.now in
    let index = c.loop-number.number-index in
    let inside : index < length numbers = c.loop-number-test.true in
    let any : GridList = record { problem = job; bound = record { top = 0; need = None }; sequences = numbers } in
    let next : start_of any (index + 1) ≡ start_of any index + length (items_at any index) + 1 = start-next any index inside in
    let long : c.places_of.result ≡ length (items_at any index) + 1 = c.places_of.ensures.places in
    let most : length (items_at any index) ≤ 65535 = omega (arith, long, c.places_of.ensures.most) in
    let place : c.in_ok-to_place.field-0 ≡ start_of any index = c.in_ok-to_place.ensures ∙ c.loop-number.invariant.place in
    let pushed : c.push.new.self.items ≡ c.loop-number.starts.items ++ start_of any index ∷ [] =
    c.in_ok-push.ensures.items ∙ ap (λ (n : ℕ). c.loop-number.starts.items ++ n ∷ []) place in
    record {
      firsts = subst (AreFirsts any (index + 1)) (sym pushed) (firsts-more any index c.loop-number.starts.items c.loop-number.invariant.firsts most);
      place = omega (arith, next, long, c.loop-number.invariant.place);
    }
