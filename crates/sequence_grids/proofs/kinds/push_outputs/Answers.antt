use Rattle.std.proofs.Common.{◌≡◌, ◌<◌, arith, sym, length, subst}
use Rattle.std.specs.List.{slice_index}
use Rattle.std.proofs.lemmas.List.{get_or_read}
use Rattle.sequence_grids.specs.Kinds.{IsRow, AreActs}
use Rattle.sequence_grids.proofs.KindLemmas.{Extends-twice}
use Rattle.sequence_grids.proofs.kinds.push_outputs.Goals as goal

pub loop-column-preserved : goal.loop-column-preserved
loop-column-preserved c =
    let inside : c.loop-column.column < length c.args.columns.now.heads.items = omega (arith, c.len-column-end.ensures, c.loop-column-test.true) in
    let head : slice_index c.args.columns.now.heads.items c.loop-column.column ≡ c.index-head.result.now =
    sym (get_or_read c.args.columns.now.heads.items c.loop-column.column c.index-head.result.now inside c.index-head.ensures 0) in
    record {
      ends = Extends-twice c.args.ends.now.items c.loop-column.ends.items c.push_at.new.ends.items c.loop-column.invariant.ends c.push_at.ensures.ends;
      ranks = Extends-twice c.args.ranks.now.items c.loop-column.ranks.items c.push_at.new.ranks.items c.loop-column.invariant.ranks c.push_at.ensures.ranks;
      row = c.in_ok-push_at.ensures.row c.args.columns.now.heads.items (length c.args.ends.now.items) c.loop-column.column head c.loop-column.invariant.row;
      acts = c.in_ok-push_at.ensures.acts c.args.columns.now.heads.items c.loop-column.column head c.loop-column.invariant.acts;
    }

pub returns-clause-row : goal.returns-clause-row
returns-clause-row c =
    let last : c.loop-column.column ≡ length c.args.columns.now.heads.items = omega (arith, c.len-column-end.ensures, c.loop-column-test.false, c.loop-column.auto.column-end) in
    subst (IsRow c.args.job.now c.args.bound c.args.t c.args.columns.now.heads.items (length c.args.ends.now.items) c.loop-column.ends.items c.loop-column.ranks.items) last c.loop-column.invariant.row

pub returns-clause-acts : goal.returns-clause-acts
returns-clause-acts c =
    let last : c.loop-column.column ≡ length c.args.columns.now.heads.items = omega (arith, c.len-column-end.ensures, c.loop-column-test.false, c.loop-column.auto.column-end) in
    subst (AreActs c.args.job.now c.args.bound c.args.t c.args.columns.now.heads.items c.loop-column.scratch.acts.items) last c.loop-column.invariant.acts
