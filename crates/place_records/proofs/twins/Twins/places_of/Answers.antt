use Rattle.std.proofs.Common.{◌≡◌, ◌∙◌, ◌-◌, ◌<◌, ℕ, length, sym, ap, subst, arith, Some}
use Rattle.std.specs.List.{slice_get}
use Rattle.std.proofs.lemmas.Option.{slice_get-get_or}
use Rattle.sequence_grids.specs.Places.{ArePlaces}
use Rattle.place_records.proofs.RecordLemmas.{first_within, first_completes}
use Rattle.place_records.proofs.twins.Twins.places_of.Goals as goal

pub returns-clause-completes : goal.returns-clause-completes
returns-clause-completes g c =
    let room = c.push_met.new.places.items in
    let end : length room ≡ c.len.result = omega (arith, c.len.ensures) in
    let are : ArePlaces c.args.job.now c.args.bound c.push_met.new.tables c.args.kinds.now room c.len.result c.args.items.now =
    subst (λ (n : ℕ). ArePlaces c.args.job.now c.args.bound c.push_met.new.tables c.args.kinds.now room n c.args.items.now) end c.in_ok-push_met.ensures.places in
    let inside : c.len.result - 1 < length room = first_within c.args.job.now c.args.bound c.push_met.new.tables c.args.kinds.now room c.len.result c.args.items.now are in
    let found : slice_get room (c.len.result - 1) ≡ Some c.index-first.result.now = slice_get-get_or room (c.len.result - 1) c.index-first.result.now inside ∙ ap Some (sym c.index-first.ensures) in
    first_completes c.args.job.now c.args.bound c.push_met.new.tables c.args.kinds.now room c.len.result c.args.items.now are c.index-first.result.now found c.completes.result c.completes.ensures
