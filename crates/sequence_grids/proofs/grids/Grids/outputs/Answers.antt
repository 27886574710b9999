use Rattle.std.proofs.Common.{arith}
use Rattle.sequence_grids.specs.Grids.{items_at}
use Rattle.sequence_grids.specs.Places.{IsPlaceAt}
use Rattle.sequence_grids.proofs.GridLemmas.{at_place, the_place, columns_of, HasCell-of, item_there}
use Rattle.sequence_grids.proofs.KindLemmas.{once_by_rising}
use Rattle.sequence_grids.proofs.grids.Grids.outputs.Goals as goal
use Rattle.sequence_grids.proofs.grids.Grids.outputs.Goals.{After-place_of-place}

pub place_of-place-requires-clause-within : goal.place_of-place-requires-clause-within
place_of-place-requires-clause-within c = rw (c.as_slice.ensures.value, c.as_slice-2.ensures.value) (at_place c.args.self.now c.self.inside.job.now c.self.inside.bound c.self.inside.tables c.self.inside.kinds c.self.inside.places.items c.self.inside.ends.items c.self.inside.sequences.items c.self.view_is c.self.invariant.kept c.args.grid c.args.pos c.requires.grid (omega (arith, c.requires.pos)))

is_place : (c : After-place_of-place) → IsPlaceAt c.args.self.now.problem c.args.self.now.bound c.self.inside.tables c.self.inside.kinds (items_at c.args.self.now c.args.grid) c.args.pos c.place_of-place.result
is_place c = the_place c.args.self.now c.self.inside.job.now c.self.inside.bound c.self.inside.tables c.self.inside.kinds c.self.inside.places.items c.self.inside.ends.items c.self.inside.sequences.items c.self.view_is c.self.invariant.kept c.args.grid c.args.pos c.requires.grid (omega (arith, c.requires.pos)) c.place_of-place.result (rw (c.as_slice.ensures.value, c.as_slice-2.ensures.value) at c.place_of-place.ensures)

pub outputs_of-requires : goal.outputs_of-requires
outputs_of-requires c =
    let (t, there) = item_there (items_at c.args.self.now c.args.grid) c.args.pos c.requires.pos in
    record {
      cell = HasCell-of c.args.self.now.problem c.args.self.now.bound c.self.inside.tables c.self.inside.kinds t c.place_of-place.result.kind c.args.k.0
          (columns_of c.args.self.now c.self.inside.job.now c.self.inside.bound c.self.inside.tables c.self.inside.kinds c.self.inside.places.items c.self.inside.ends.items c.self.inside.sequences.items c.self.view_is c.self.invariant.kept c.args.grid c.args.pos c.requires.grid (omega (arith, c.requires.pos)))
          ((is_place (goal.at.outputs_of-requires c).After-place_of-place).kind t there) (c.requires.start, c.requires.state);
    }

pub returns-clause-ranks : goal.returns-clause-ranks
returns-clause-ranks c t rank there =
    let (kind, found, is) = (is_place (goal.at.returns-clause-ranks c).After-place_of-place).kind t there in
    let cell = is.cells c.args.k.0 (c.requires.start, c.requires.state) in
    rw (c.outputs_of.ensures kind found) (cell.outputs rank)

pub returns-clause-once : goal.returns-clause-once
returns-clause-once c =
    let (t, there) = item_there (items_at c.args.self.now c.args.grid) c.args.pos c.requires.pos in
    let (kind, found, is) = (is_place (goal.at.returns-clause-once c).After-place_of-place).kind t there in
    let cell = is.cells c.args.k.0 (c.requires.start, c.requires.state) in
    rw (c.outputs_of.ensures kind found) (once_by_rising _ cell.rising)
