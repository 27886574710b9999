use Rattle.std.proofs.Common.{arith}
use Rattle.std.proofs.lemmas.Option.{slice_get_within}
use Rattle.sequence_grids.specs.Grids.{items_at, rest_at}
use Rattle.sequence_grids.specs.Places.{IsPlaceAt}
use Rattle.sequence_grids.proofs.GridLemmas.{at_place, the_place, states_are, both_ways, completes_by}
use Rattle.sequence_grids.proofs.grids.Grids.completing.Goals as goal
use Rattle.sequence_grids.proofs.grids.Grids.completing.Goals.{After-place_of-place}

pub place_of-place-requires-clause-within : goal.place_of-place-requires-clause-within
place_of-place-requires-clause-within c = rw (c.as_slice.ensures.value, c.as_slice-2.ensures.value) (at_place c.args.self.now c.self.inside.job.now c.self.inside.bound c.self.inside.tables c.self.inside.kinds c.self.inside.places.items c.self.inside.ends.items c.self.inside.sequences.items c.self.view_is c.self.invariant.kept c.args.grid c.args.pos c.requires.grid c.requires.pos)

is_place : (c : After-place_of-place) → IsPlaceAt c.args.self.now.problem c.args.self.now.bound c.self.inside.tables c.self.inside.kinds (items_at c.args.self.now c.args.grid) c.args.pos c.place_of-place.result
is_place c = the_place c.args.self.now c.self.inside.job.now c.self.inside.bound c.self.inside.tables c.self.inside.kinds c.self.inside.places.items c.self.inside.ends.items c.self.inside.sequences.items c.self.view_is c.self.invariant.kept c.args.grid c.args.pos c.requires.grid c.requires.pos c.place_of-place.result (rw (c.as_slice.ensures.value, c.as_slice-2.ensures.value) at c.place_of-place.ensures)

pub completing-requires : goal.completing-requires
completing-requires c =
    let (triple, found, is) = (is_place (goal.at.completing-requires c).After-place_of-place).triple in
    record { triple = slice_get_within c.self.inside.tables.triples c.place_of-place.result.triple triple found }

pub returns-clause-states : goal.returns-clause-states
returns-clause-states c state inside =
    let (triple, found, is) = (is_place (goal.at.returns-clause-states c).After-place_of-place).triple in
    let states = states_are c.args.self.now c.self.inside.job.now c.self.inside.bound c.self.inside.tables c.self.inside.kinds c.self.inside.places.items c.self.inside.ends.items c.self.inside.sequences.items c.self.view_is c.self.invariant.kept c.args.grid c.args.pos c.requires.grid c.requires.pos in
    both_ways (c.completing.ensures.states triple found state (omega (arith, states)))
    (completes_by c.args.self.now.problem c.args.self.now.bound (rest_at c.args.self.now c.args.grid c.args.pos) triple is c.args.seen state inside)
