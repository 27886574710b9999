use Rattle.std.proofs.Common.{◌≡◌, ◌∙◌, ◌+◌, ◌<◌, ◌≤◌, ℕ, ap, arith, length, get_or}
use Rattle.std.proofs.lemmas.Option.{get_or_from_slice_get}
use Rattle.std.proofs.lemmas.List.{get_or_read}
use Rattle.sequence_grids.specs.declared.kinds.Kind.{Kind}
use Rattle.sequence_grids.proofs.BackLemmas.{Extends-back, IsKind-back}
use Rattle.sequence_grids.proofs.kinds.take_back.Goals as goal

pub returns-clause-kept : goal.returns-clause-kept
returns-clause-kept c before grow ends ranks = record {
  columns = grow.columns;
  kinds = grow.kinds;
  ends = rw c.truncate.ensures.items (Extends-back before.ends.items c.args.kinds.now.ends.items c.args.ends grow.ends ends);
  ranks = rw c.truncate-2.ensures.items (Extends-back before.ranks.items c.args.kinds.now.ranks.items c.args.ranks grow.ranks ranks);
}

pub returns-clause-kind : goal.returns-clause-kind
returns-clause-kind c =
    let (kind, found, is) = c.requires.kind in
    let kinds = c.args.kinds.now in
    let same : c.index.result.now ≡ kind = c.index.ensures ∙ get_or_from_slice_get kinds.kinds.items c.args.number kind c.index.result.now found in
    let base : c.index.result.now.base ≡ kind.base = ap (λ (k : Kind). k.base) same in
    let last : c.index.result.now.base + c.len.result ≡ kind.base + length kinds.columns.heads.items = omega (arith, base, c.len.ensures) in
    let few : kind.base + length kinds.columns.heads.items < c.args.ends = omega (arith, last, c.if-last-ends.false) in
    let room = is.room in
    let read = get_or_read kinds.ends.items (c.index.result.now.base + c.len.result) c.index-else-last-ends.result.now (omega (arith, last, room)) c.index-else-last-ends.ensures 0 in
    let end = ap (λ (n : ℕ). get_or kinds.ends.items n 0) last in
    let low : get_or kinds.ends.items (kind.base + length kinds.columns.heads.items) 0 ≤ c.args.ranks = omega (arith, end, read, c.if-index-ranks.false) in (
      kind,
      found,
      rw (c.truncate.ensures.items, c.truncate-2.ensures.items)
          (IsKind-back c.args.job.now c.args.bound c.args.tables.now.classes kinds.columns kinds.ends.items kinds.ranks.items c.args.t kind c.args.ends c.args.ranks c.requires.columns is few low),
    )
