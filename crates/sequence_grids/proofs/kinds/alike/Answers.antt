use Rattle.std.proofs.Common.{rules, ◌≡◌, ◌∙◌, ◌<◌, ℕ, length, sym, ap, arith}
use Rattle.std.proofs.lemmas.List.{get_or_read}
use Rattle.std.proofs.lemmas.Option.{slice_get_within, get_or_from_slice_get}
use Rattle.sequence_grids.specs.declared.kinds.Kind.{Kind}
use Rattle.sequence_grids.specs.Kinds.{row_at}
use Rattle.sequence_grids.proofs.KindLemmas.{HasKind-at, IsKind-alike}
use Rattle.sequence_grids.proofs.kinds.alike.Goals as goal

pub index-met-requires : goal.index-met-requires
index-met-requires c =
    let i : ℕ = c.in_ok-other.field-0.now in
    let inside : i < length c.args.kinds.now.numbers.items = omega (arith, c.if-other-len.false, c.len.ensures) in
    let (kind, found, is) = HasKind-at c.args.job.now c.args.bound c.args.tables.now.classes c.args.kinds.now c.requires.kinds i c.index-number.result.now inside
    (get_or_read c.args.kinds.now.numbers.items i c.index-number.result.now inside c.index-number.ensures 0) c.if-number.false in
    let within : c.index-number.result.now < length c.args.kinds.now.kinds.items = slice_get_within c.args.kinds.now.kinds.items c.index-number.result.now kind found in
    search rules

pub same_outputs-requires-clause-one : goal.same_outputs-requires-clause-one
same_outputs-requires-clause-one c =
    let i : ℕ = c.in_ok-other.field-0.now in
    let inside : i < length c.args.kinds.now.numbers.items = omega (arith, c.if-other-len.false, c.len.ensures) in
    let (kind, found, is) = HasKind-at c.args.job.now c.args.bound c.args.tables.now.classes c.args.kinds.now c.requires.kinds i c.index-number.result.now inside
    (get_or_read c.args.kinds.now.numbers.items i c.index-number.result.now inside c.index-number.ensures 0) c.if-number.false in
    let met : c.index-met.result.now ≡ kind = c.index-met.ensures ∙ get_or_from_slice_get c.args.kinds.now.kinds.items c.index-number.result.now kind c.index-met.result.now found in
    let columns : c.len-columns.result ≡ length c.args.kinds.now.columns.heads.items = omega (arith, c.len-columns.ensures) in
    rw (c.as_slice.ensures.value, c.as_slice-then-met-kind.ensures.value, met, columns) is.rows

pub same_outputs-requires-clause-other : goal.same_outputs-requires-clause-other
same_outputs-requires-clause-other c =
    let columns : c.len-columns.result ≡ length c.args.kinds.now.columns.heads.items = omega (arith, c.len-columns.ensures) in
    rw (c.as_slice.ensures.value, c.as_slice-then-met-kind.ensures.value, columns) c.requires.kind.rows

pub returns-then-same_outputs-clause-kind : goal.returns-then-same_outputs-clause-kind
returns-then-same_outputs-clause-kind c =
    let i : ℕ = c.in_ok-other.field-0.now in
    let inside : i < length c.args.kinds.now.numbers.items = omega (arith, c.if-other-len.false, c.len.ensures) in
    let (kind, found, is) = HasKind-at c.args.job.now c.args.bound c.args.tables.now.classes c.args.kinds.now c.requires.kinds i c.index-number.result.now inside
    (get_or_read c.args.kinds.now.numbers.items i c.index-number.result.now inside c.index-number.ensures 0) c.if-number.false in
    let met : c.index-met.result.now ≡ kind = c.index-met.ensures ∙ get_or_from_slice_get c.args.kinds.now.kinds.items c.index-number.result.now kind c.index-met.result.now found in
    let columns : c.len-columns.result ≡ length c.args.kinds.now.columns.heads.items = omega (arith, c.len-columns.ensures) in
    let class : kind.class ≡ c.args.kind.class = ap (λ (k : Kind). k.class) (sym met) ∙ c.if-met-kind.true in
    let same : (column : ℕ) → column < length c.args.kinds.now.columns.heads.items → row_at c.args.kinds.now.ends.items c.args.kinds.now.ranks.items c.args.kind.base column
    ≡ row_at c.args.kinds.now.ends.items c.args.kinds.now.ranks.items kind.base column =
    rw (c.as_slice.ensures.value, c.as_slice-then-met-kind.ensures.value, met, columns) at (c.same_outputs.ensures c.if-same_outputs.true) in (
      kind,
      found,
      IsKind-alike c.args.job.now c.args.bound c.args.tables.now.classes c.args.kinds.now.columns c.args.kinds.now.ends.items c.args.kinds.now.ranks.items c.args.t c.args.kind kind
          c.requires.kinds.columns_are c.requires.kind is.room is.rows class same,
    )
