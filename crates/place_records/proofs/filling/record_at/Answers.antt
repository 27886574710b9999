use Rattle.std.proofs.Common.{rules, ◌≡◌, ◌∙◌, ◌-◌, ◌<◌, ℕ, ap, get_or, length, sym, Some}
use Rattle.std.specs.List.{slice_get}
use Rattle.std.proofs.lemmas.Option.{slice_get-get_or}
use Rattle.sequence_grids.specs.declared.places.Place.{Place}
use Rattle.place_records.proofs.RecordLemmas.{place_within, behind_within, kind_within, class_within, triple_within, record_is}
use Rattle.place_records.proofs.filling.record_at.Given.{Over}
use Rattle.place_records.proofs.filling.record_at.Goals as goal
use Rattle.place_records.proofs.filling.record_at.Goals.{After-index}

abbrev none : Place
none = record { kind = 0; triple = 0 }

module _ (g : Over) (c : After-index g) where
  place_there : slice_get c.args.kept.now (c.args.end - 1 - c.args.position) ≡ Some (get_or c.args.kept.now (c.args.end - 1 - c.args.position) none)
  place_there = slice_get-get_or c.args.kept.now (c.args.end - 1 - c.args.position) none
      (place_within c.args.job.now c.args.bound c.args.twins.now.table c.args.kinds.now c.args.kept.now c.args.end c.args.items.now c.requires.kept c.args.position c.requires.position)

  behind_there : slice_get c.args.kept.now (c.args.end - 2 - c.args.position) ≡ Some (get_or c.args.kept.now (c.args.end - 2 - c.args.position) none)
  behind_there = slice_get-get_or c.args.kept.now (c.args.end - 2 - c.args.position) none
      (behind_within c.args.job.now c.args.bound c.args.twins.now.table c.args.kinds.now c.args.kept.now c.args.end c.args.items.now c.requires.kept c.args.position c.requires.position)

  kind_there : slice_get c.args.kinds.now.kinds.items (get_or c.args.kept.now (c.args.end - 1 - c.args.position) none).kind ≡ Some c.index.result.now
  kind_there =
      let number : ℕ = (get_or c.args.kept.now (c.args.end - 1 - c.args.position) none).kind in
      let inside : number < length c.args.kinds.now.kinds.items = kind_within c.args.job.now c.args.bound c.args.twins.now.table c.args.kinds.now c.args.kept.now c.args.end c.args.items.now c.requires.kept c.args.position c.requires.position _ place_there in
      slice_get-get_or c.args.kinds.now.kinds.items number c.index.result.now inside ∙ ap Some (sym c.index.ensures)

pub index-requires : goal.index-requires
index-requires g c =
    let number : ℕ = (get_or c.args.kept.now (c.args.end - 1 - c.args.position) none).kind in
    let there : slice_get c.args.kept.now (c.args.end - 1 - c.args.position) ≡ Some (get_or c.args.kept.now (c.args.end - 1 - c.args.position) none) =
    slice_get-get_or c.args.kept.now (c.args.end - 1 - c.args.position) none
    (place_within c.args.job.now c.args.bound c.args.twins.now.table c.args.kinds.now c.args.kept.now c.args.end c.args.items.now c.requires.kept c.args.position c.requires.position) in
    let inside : number < length c.args.kinds.now.kinds.items = kind_within c.args.job.now c.args.bound c.args.twins.now.table c.args.kinds.now c.args.kept.now c.args.end c.args.items.now c.requires.kept c.args.position c.requires.position _ there in
    search rules

pub number-requires : goal.number-requires
number-requires g c =
    let at = (goal.at.number-requires g c).After-index in
    let width = c.requires.width in
    let class : c.index.result.now.class < length c.args.twins.now.table.classes = class_within c.args.job.now c.args.bound c.args.twins.now.table c.args.kinds.now c.args.kept.now c.args.end c.args.items.now c.requires.kept c.args.position c.requires.position _ c.index.result.now (place_there g at) (kind_there g at) in
    let behind : (get_or c.args.kept.now (c.args.end - 2 - c.args.position) none).triple < length c.args.twins.now.table.triples = triple_within c.args.job.now c.args.bound c.args.twins.now.table c.args.kinds.now c.args.kept.now c.args.end c.args.items.now c.requires.kept c.args.position c.requires.position _ (behind_there g at) in
    search rules

pub returns-clause-entry : goal.returns-clause-entry
returns-clause-entry g c t there =
    let at = (goal.at.returns-clause-entry g c).After-index in
    record_is c.args.job.now c.args.bound c.args.twins.now.table c.args.kinds.now c.args.kept.now c.args.end c.args.items.now c.requires.kept c.args.position c.requires.position
    c.number.new.self _ _ c.index.result.now c.in_ok-of.of (place_there g at) (behind_there g at) (kind_there g at) c.requires.table.states c.number.ensures.grows.table (c.number.ensures.grows.needed ∙ c.requires.needed)
    c.in_ok-of.ensures.number t there
