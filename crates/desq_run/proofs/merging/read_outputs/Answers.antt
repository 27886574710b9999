use Rattle.std.proofs.Common.{rules, string_bytes}
use Rattle.desq_run.proofs.MergedLemmas.{taken-none, taken-next, cut-next}
use Rattle.desq_run.proofs.merging.read_outputs.Goals as goal

pub loop-at-init : goal.loop-at-init
loop-at-init g c = record {
  taken = taken-none c.args.threshold (g.F.Files.holds c.args.files.now) c.args.names.now c.args.held.now c.requires.none;
  same_names = search rules;
  same_files = search rules;
  never_falls = search rules;
}

pub loop-at-preserved : goal.loop-at-preserved
loop-at-preserved g c = record {
  taken = taken-next c.args.threshold (g.F.Files.holds c.args.files.now) string_bytes c.args.file_names.now c.loop-at.at c.index-file_names-at.result
      c.loop-at-test.true c.index-file_names-at.is (g.F.Files.holds c.loop-at.files) c.loop-at.invariant.same_files c.as_str.result.now c.as_str.ensures.value
      c.loop-at.names c.loop-at.held c.loop-at.invariant.taken c.read_rows.new.names c.read_rows.new.held c.in-Ok.ensures.accepted;
  same_names = search rules;
  same_files = search rules;
  never_falls = search rules;
}

pub returns-in-Err-clause-cut : goal.returns-in-Err-clause-cut
returns-in-Err-clause-cut g c =
    rw c.fault_of.ensures
    (cut-next c.args.threshold (g.F.Files.holds c.args.files.now) string_bytes c.args.file_names.now c.loop-at.at c.index-file_names-at.result
    c.loop-at-test.true c.index-file_names-at.is (g.F.Files.holds c.loop-at.files) c.loop-at.invariant.same_files c.as_str.result.now c.as_str.ensures.value
    c.loop-at.names c.loop-at.held c.loop-at.invariant.taken c.in-Err.fault
    (λ lines are. c.read_rows.ensures.refused lines c.in-Err.fault are c.in-Err.is))
