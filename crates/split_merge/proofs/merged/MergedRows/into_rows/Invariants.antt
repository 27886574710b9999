use Rattle.std.proofs.Common.{◌≡◌, ◌++◌, map}
use Rattle.split_merge.specs.Entries.{row_of}
use Rattle.split_merge.proofs.merged.MergedRows.into_rows.Given as goal

abbrev pub invariant-loop-pattern : goal.invariant-loop-pattern
invariant-loop-pattern l = l.rows.items ++ map row_of l.pattern-iterator ≡ l.fn.self
