use Rattle.std.proofs.lemmas.Option.{slice_get_within}
use Rattle.sequence_grids.specs.Grids.{items_at, rest_at}
use Rattle.sequence_grids.specs.Places.{IsPlaceAt}
use Rattle.sequence_grids.proofs.GridLemmas.{at_place, the_place, both_ways, completes_by}
use Rattle.sequence_grids.proofs.kept_grids.KeptGrids.completes.Goals as goal
use Rattle.sequence_grids.proofs.kept_grids.KeptGrids.completes.Goals.{After-place_of-place}

pub place_of-place-requires-clause-within : goal.place_of-place-requires-clause-within
place_of-place-requires-clause-within c = rw (c.as_slice.ensures.value, c.as_slice-2.ensures.value) (at_place c.args.self.now c.self.inside.parts.job.now c.self.inside.parts.bound c.self.inside.parts.tables c.self.inside.parts.kinds c.self.inside.parts.places.items c.self.inside.parts.ends.items c.self.inside.parts.sequences.items c.self.view_is c.self.invariant c.args.grid c.args.pos c.requires.grid c.requires.pos)

is_place : (c : After-place_of-place) → IsPlaceAt c.args.self.now.problem c.args.self.now.bound c.self.inside.parts.tables c.self.inside.parts.kinds (items_at c.args.self.now c.args.grid) c.args.pos c.place_of-place.result
is_place c = the_place c.args.self.now c.self.inside.parts.job.now c.self.inside.parts.bound c.self.inside.parts.tables c.self.inside.parts.kinds c.self.inside.parts.places.items c.self.inside.parts.ends.items c.self.inside.parts.sequences.items c.self.view_is c.self.invariant c.args.grid c.args.pos c.requires.grid c.requires.pos c.place_of-place.result (rw (c.as_slice.ensures.value, c.as_slice-2.ensures.value) at c.place_of-place.ensures)

pub completes-requires-clause-triple : goal.completes-requires-clause-triple
completes-requires-clause-triple c =
    let (triple, found, is) = (is_place (goal.at.completes-requires-clause-triple c).After-place_of-place).triple in
    slice_get_within c.self.inside.parts.tables.triples c.place_of-place.result.triple triple found

pub returns : goal.returns
returns c =
    let (triple, found, is) = (is_place (goal.at.returns c).After-place_of-place).triple in
    both_ways (c.completes.ensures triple found)
    (completes_by c.args.self.now.problem c.args.self.now.bound (rest_at c.args.self.now c.args.grid c.args.pos) triple is c.args.seen c.args.q.0 c.requires.state)
