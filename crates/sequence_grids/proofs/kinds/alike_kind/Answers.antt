use Rattle.std.proofs.Common.{◌≡◌, ◌<◌, ℕ, Some, length, refl, arith}
use Rattle.std.specs.List.{slice_get}
use Rattle.std.proofs.lemmas.Option.{slice_get_read}
use Rattle.sequence_grids.specs.Kinds.{row_at}
use Rattle.sequence_grids.specs.Cuts.{IsReadable}
use Rattle.sequence_grids.proofs.KindLemmas.{IsKind-alike}
use Rattle.sequence_grids.proofs.kinds.alike_kind.Goals as goal
use Rattle.sequence_grids.proofs.kinds.alike_kind.Goals.{After-index-met}

found-met : (c : After-index-met) → slice_get c.args.kinds.now.kinds.items c.in_ok-number.field-0.now ≡ Some c.index-met.result.now
found-met c =
    slice_get_read c.args.kinds.now.kinds.items (length c.args.kinds.now.kinds.items) c.in_ok-number.field-0.now c.index-met.result.now refl
    (omega (arith, c.if-number-len.false, c.len.ensures)) c.index-met.ensures

readable-met : (c : After-index-met) → IsReadable c.args.kinds.now c.index-met.result.now
readable-met c = c.requires.readable.each c.in_ok-number.field-0.now c.index-met.result.now (found-met c)

pub same_outputs-requires-clause-one : goal.same_outputs-requires-clause-one
same_outputs-requires-clause-one c =
    let columns : c.len-columns.result ≡ length c.args.kinds.now.columns.heads.items = omega (arith, c.len-columns.ensures) in
    rw (c.as_slice.ensures.value, c.as_slice-then-met-kind.ensures.value, columns) (readable-met (goal.at.same_outputs-requires-clause-one c).After-index-met).rows

pub same_outputs-requires-clause-other : goal.same_outputs-requires-clause-other
same_outputs-requires-clause-other c =
    let columns : c.len-columns.result ≡ length c.args.kinds.now.columns.heads.items = omega (arith, c.len-columns.ensures) in
    rw (c.as_slice.ensures.value, c.as_slice-then-met-kind.ensures.value, columns) c.requires.kind.rows

pub returns-then-same_outputs : goal.returns-then-same_outputs
returns-then-same_outputs c =
    let at : After-index-met = (goal.at.returns-then-same_outputs c).After-index-met in
    let columns : c.len-columns.result ≡ length c.args.kinds.now.columns.heads.items = omega (arith, c.len-columns.ensures) in
    let readable = readable-met at in
    let same : (column : ℕ) → column < length c.args.kinds.now.columns.heads.items → row_at c.args.kinds.now.ends.items c.args.kinds.now.ranks.items c.args.kind.base column
    ≡ row_at c.args.kinds.now.ends.items c.args.kinds.now.ranks.items c.index-met.result.now.base column =
    rw (c.as_slice.ensures.value, c.as_slice-then-met-kind.ensures.value, columns) at (c.same_outputs.ensures c.if-same_outputs.true) in record {
      kind = (
        c.index-met.result.now,
        found-met at,
        IsKind-alike c.args.job.now c.args.bound c.args.tables.now.classes c.args.kinds.now.columns c.args.kinds.now.ends.items c.args.kinds.now.ranks.items c.args.t c.args.kind c.index-met.result.now
            c.requires.readable.columns_are c.requires.kind readable.room readable.rows c.if-met-kind.true same,
      );
    }
