use Rattle.std.proofs.Common.{rules, ◌≡◌, inl, inr, ◌≤◌, Contains, map, Err, subst, sym, string_bytes}
use Rattle.std.proofs.lemmas.List.{length-map}
use Rattle.command_line.specs.Commands.{source_said, command_said}
use Rattle.command_line.specs.Words.{merge, merged_in, most_merged}
use Rattle.desq_run.specs.Inputs.{HasRanges}
use Rattle.desq_run.proofs.MergeLemmas.{merge-mined, merge-ends, merge-needs}
use Rattle.desq_run.proofs.attempts.merge_input.Goals as goal

pub merge_outputs-requires-clause-may : goal.merge_outputs-requires-clause-may
merge_outputs-requires-clause-may g c = λ name named.
    c.requires.may name (inr (inr (inl (subst (λ source. Contains (merged_in source) name) (sym c.requires.named) named))))

pub merge_outputs-requires-clause-few : goal.merge_outputs-requires-clause-few
merge_outputs-requires-clause-few g c =
    let ranges : HasRanges (merge (map string_bytes c.args.file_names.now)) = subst HasRanges c.requires.named c.requires.ranges in
    subst (λ n. n ≤ most_merged) (length-map c.args.file_names.now string_bytes) ranges.1

pub returns-in_err-names-clause-ends : goal.returns-in_err-names-clause-ends
returns-in_err-names-clause-ends g c = λ words is.
    let same : c.from_residual.result ≡ Err c.in_err-names.field-0.0 = search rules in
    rw same
    (merge-ends words (g.F.Files.holds c.args.files.now) (command_said c.args.command.now) is (map string_bytes c.args.file_names.now) c.requires.named
    c.in_err-names.field-0.0 c.in_err-names.ensures.fails)

pub returns-clause-mined : goal.returns-clause-mined
returns-clause-mined g c = λ words is.
    merge-mined words (g.F.Files.holds c.args.files.now) (command_said c.args.command.now) is (map string_bytes c.args.file_names.now) c.requires.named
    c.in_ok-names.field-0.names c.in_ok-names.field-0.rows.items _ c.in_ok-names.ensures.merged

pub returns-in_err-names-clause-untouched : goal.returns-in_err-names-clause-untouched
returns-in_err-names-clause-untouched g c = λ needs.
    absurd (merge-needs (source_said c.args.command.now.source) (map string_bytes c.args.file_names.now) c.requires.named c.requires.ranges needs)

pub returns-clause-untouched : goal.returns-clause-untouched
returns-clause-untouched g c = λ needs.
    absurd (merge-needs (source_said c.args.command.now.source) (map string_bytes c.args.file_names.now) c.requires.named c.requires.ranges needs)
