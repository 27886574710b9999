use Rattle.std.proofs.Common.{ℕ, ◌*◌, ◌≤◌, ◌<◌, List, length, sym, ◌∙◌, subst, rules}
use Rattle.std.specs.List.{slice_index}
use Rattle.state_bits.specs.Members.{Has}
use Rattle.sequence_grids.specs.Successors.{AreSuccessors}
use Rattle.snapshot_project.proofs.FoundLemmas.{rows-fit, rows-closed}
use Rattle.sequence_candidates.proofs.terrain.terrain_over.Goals as goal

pub memo_of-requires : goal.memo_of-requires
memo_of-requires g c =
    let width = c.requires.width in
    let rows : List ℕ = c.args.rows.items in
    let room : length c.as_slice.result.now ≤ 64 * g.row.W = rw c.as_slice.ensures.value (rows-fit _ c.args.grids.problem rows c.requires.rows) in
    let closed : (from q : ℕ) → Has (slice_index c.as_slice.result.now from) q → q < length c.as_slice.result.now =
    rw c.as_slice.ensures.value (rows-closed _ c.args.grids.problem c.requires.whole rows c.requires.rows) in
    search (rules, closed)

pub memo_of-requires-2 : goal.memo_of-requires-2
memo_of-requires-2 g c =
    let width = c.requires.width in
    let rows : List ℕ = c.args.rows.items in
    let room : length c.as_slice-2.result.now ≤ 64 * g.row.W = rw c.as_slice-2.ensures.value (rows-fit _ c.args.grids.problem rows c.requires.rows) in
    let closed : (from q : ℕ) → Has (slice_index c.as_slice-2.result.now from) q → q < length c.as_slice-2.result.now =
    rw c.as_slice-2.ensures.value (rows-closed _ c.args.grids.problem c.requires.whole rows c.requires.rows) in
    search (rules, closed)

pub returns : goal.returns
returns g c =
    let rows = c.in_ok-early.ensures.0 ∙ c.as_slice.ensures.value in
    record {
      ground = record {
        rows_are = subst (AreSuccessors _ c.args.grids.problem.transducer) (sym rows) c.requires.rows;
        records_are = rw (sym c.keep.ensures) c.in_ok-records.ensures;
      };
      early = c.in_ok-early.ensures.1 ∙ c.moves.ensures;
      rows = c.in_ok-late.ensures.0 ∙ c.as_slice-2.ensures.value ∙ sym rows;
      late = c.in_ok-late.ensures.1 ∙ c.moves-2.ensures;
    }
