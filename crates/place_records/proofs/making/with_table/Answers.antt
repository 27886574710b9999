use Rattle.std.proofs.Common.{◌≡◌, map, sym, subst, List}
use Rattle.std.proofs.lemmas.Result.{IfOk-at_ok}
use Rattle.sequence_grids.specs.declared.kinds.Kinds.{Kinds}
use Rattle.walk_memo.specs.Moves.{move_sets, MoveSets}
use Rattle.place_records.specs.Records.{AreRecords}
use Rattle.place_records.specs.Ranks.{RanksValue, ranks_of, CanAskOf}
use Rattle.place_records.specs.Filled.{AreMade}
use Rattle.place_records.proofs.FillLemmas.{AreRecords-of}
use Rattle.place_records.proofs.making.with_table.Goals as goal

pub returns-in_ok-table-in-Ok : goal.returns-in_ok-table-in-Ok
returns-in_ok-table-in-Ok g c problem bound sequences made columns =
    let is = IfOk-at_ok (λ made. AreMade problem bound c.args.kinds sequences made.places (map (move_sets {W = g.row.W}) made.early.items) (map (move_sets {W = g.row.W}) made.late.items)) c.in-Ok.is made in
    let early : List MoveSets = map (move_sets {W = g.row.W}) c.in-Ok.made.early.items in
    let late : List MoveSets = map (move_sets {W = g.row.W}) c.in-Ok.made.late.items in
    let ranks : RanksValue = c.in_ok-table-in-Ok.table in
    let same : ranks.kinds ≡ c.args.kinds = c.in_ok-table-in-Ok.ensures.kinds in
    subst (λ (kinds : Kinds). AreRecords (record { problem = problem; bound = bound; sequences = sequences }) c.in-Ok.made.places early late
    (ranks_of (record { kinds = kinds; keeps = ranks.keeps })) (CanAskOf (record { kinds = kinds; keeps = ranks.keeps }))) (sym same)
    (AreRecords-of (record { problem = problem; bound = bound; sequences = sequences }) is.twins c.args.kinds c.in-Ok.made.places early late columns is.filled is.early_are is.late_are ranks.keeps)
