use Rattle.std.proofs.Common.{◌≡◌, ◌∙◌, sym, ap}
use Rattle.std.specs.Arc.{arc_value}
use Rattle.std.specs.Option.{option_map}
use Rattle.snapshot_project.specs.declared.part.Ground.{Ground}
use Rattle.snapshot_project.specs.Terrains.{part_on}
use Rattle.snapshot_project.specs.Rooms.{RoomValue}
use Rattle.snapshot_project.proofs.FoundLemmas.{same-need}
use Rattle.snapshot_project.proofs.room.Room.knows.Goals as goal

pub returns-in-Some-clause-known : goal.returns-in-Some-clause-known
returns-in-Some-clause-known c = λ is.
    let made : Ground = arc_value c.in-Some.ground in
    let need : c.deref.result.now.bound.need ≡ c.need.result = same-need c.deref.result.now.bound.need c.need.result (sym c.eq.ensures ∙ is) in (
      part_on made,
      sym (ap (λ (r : RoomValue). r.part) c.self.view_is) ∙ ap (option_map (λ it. part_on (arc_value it))) c.in-Some.is,
      ap (λ (m : Ground). m.bound.need) (sym c.deref.ensures) ∙ need ∙ c.need.ensures.need,
    )
