use Rattle.std.proofs.Common.{ℕ, ◌<◌, List, length, rules}
use Rattle.std.specs.List.{slice_index}
use Rattle.state_bits.specs.Members.{Has}
use Rattle.snapshot_project.proofs.FoundLemmas.{rows-fit, rows-closed}
use Rattle.snapshot_project.proofs.room.enter_over.Goals as goal

pub enter-requires : goal.enter-requires
enter-requires g c =
    let width = c.requires.width in
    let (part, is, terrain) = c.requires.terrain in
    let rows : List ℕ = c.args.over.now.rows.items in
    let room = rows-fit _ part.problem rows terrain.rows_are in
    let closed : (from q : ℕ) → Has (slice_index c.as_slice.result.now from) q → q < length c.as_slice.result.now =
    rw c.as_slice.ensures.value (rows-closed _ part.problem is.whole rows terrain.rows_are) in
    rw c.as_slice.ensures.value (search rules)

pub enter-requires-2 : goal.enter-requires-2
enter-requires-2 g c =
    let width = c.requires.width in
    let (part, is, terrain) = c.requires.terrain in
    let rows : List ℕ = c.args.over.now.rows.items in
    let room = rows-fit _ part.problem rows terrain.rows_are in
    let closed : (from q : ℕ) → Has (slice_index c.as_slice-2.result.now from) q → q < length c.as_slice-2.result.now =
    rw c.as_slice-2.ensures.value (rows-closed _ part.problem is.whole rows terrain.rows_are) in
    rw c.as_slice-2.ensures.value (search rules)
