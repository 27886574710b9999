use Rattle.std.proofs.Common.{inl, inr, ◌∙◌, sym, map, string_bytes}
use Rattle.desq_run.proofs.EndLemmas.{usage-ended, ended-usage, ended-source, ended-hierarchy, ended-data, refusal-ended, ended-refusal, ended-accepted, accepted-ended, if-done, if-failed, if-unread, if-unwritten}
use Rattle.desq_run.proofs.running.run.Goals as goal

pub returns-clause-done : goal.returns-clause-done
returns-clause-done g c = λ zero_status input is.
    let status = sym c.status-status.ensures ∙ zero_status in (
      accepted-ended (map string_bytes c.args.words.now) (g.F.Files.holds c.args.files.now) input is c.attempt-outcome.result c.attempt-outcome.ensures.ends (inl status),
      if-done c.attempt-outcome.result _ c.attempt-outcome.ensures.written status input is,
    )

pub returns-clause-usage : goal.returns-clause-usage
returns-clause-usage g c = λ two.
    usage-ended (map string_bytes c.args.words.now) (g.F.Files.holds c.args.files.now) c.attempt-outcome.result c.attempt-outcome.ensures.ends (sym c.status-status.ensures ∙ two)

pub returns-clause-refuses_words : goal.returns-clause-refuses_words
returns-clause-refuses_words g c = λ usage.
    rw c.status-status.ensures
    (ended-usage (map string_bytes c.args.words.now) (g.F.Files.holds c.args.files.now) c.attempt-outcome.result c.attempt-outcome.ensures.ends usage)

pub returns-clause-refuses_source : goal.returns-clause-refuses_source
returns-clause-refuses_source g c = λ command fault is refused.
    rw c.status-status.ensures
    (ended-source (map string_bytes c.args.words.now) (g.F.Files.holds c.args.files.now) c.attempt-outcome.result c.attempt-outcome.ensures.ends command fault is refused)

pub returns-clause-refuses_hierarchy : goal.returns-clause-refuses_hierarchy
returns-clause-refuses_hierarchy g c = λ command bytes fault has told refused.
    let ended = ended-hierarchy (map string_bytes c.args.words.now) (g.F.Files.holds c.args.files.now) c.attempt-outcome.result c.attempt-outcome.ensures.ends
    command bytes fault has told refused in
    elim ended [
      | inl same ↦ inl (c.status-status.ensures ∙ same)
      | inr other ↦ elim other [
        | inl memory ↦ inr (inl (c.status-status.ensures ∙ memory))
        | inr unread ↦ inr (inr (if-unread c.attempt-outcome.result _ c.attempt-outcome.ensures.read_fault unread))
      ]
    ]

pub returns-clause-refuses_data : goal.returns-clause-refuses_data
returns-clause-refuses_data g c = λ command input fault has unmerged told refused.
    let ended = ended-data (map string_bytes c.args.words.now) (g.F.Files.holds c.args.files.now) c.attempt-outcome.result c.attempt-outcome.ensures.ends
    command input fault has unmerged told refused in
    elim ended [
      | inl same ↦ inl (c.status-status.ensures ∙ same)
      | inr other ↦ elim other [
        | inl memory ↦ inr (inl (c.status-status.ensures ∙ memory))
        | inr unread ↦ inr (inr (if-unread c.attempt-outcome.result _ c.attempt-outcome.ensures.read_fault unread))
      ]
    ]

pub returns-clause-refused : goal.returns-clause-refused
returns-clause-refused g c = λ malformed input is.
    let status = rw c.status-status.ensures at malformed in
    rw c.status-status.ensures
    (refusal-ended (map string_bytes c.args.words.now) (g.F.Files.holds c.args.files.now) input is c.attempt-outcome.result c.attempt-outcome.ensures.ends status)

pub returns-clause-refuses : goal.returns-clause-refuses
returns-clause-refuses g c = λ input fault is refused.
    let ended = ended-refusal (map string_bytes c.args.words.now) (g.F.Files.holds c.args.files.now) input is c.attempt-outcome.result c.attempt-outcome.ensures.ends fault refused in
    elim ended [
      | inl same ↦ inl (c.status-status.ensures ∙ same)
      | inr other ↦ elim other [
        | inl memory ↦ inr (inl (c.status-status.ensures ∙ memory))
        | inr unread ↦ inr (inr (if-unread c.attempt-outcome.result _ c.attempt-outcome.ensures.read_fault unread))
      ]
    ]

pub returns-clause-cut : goal.returns-clause-cut
returns-clause-cut g c = λ six input is.
    let status = sym c.status-status.ensures ∙ six in (
      accepted-ended (map string_bytes c.args.words.now) (g.F.Files.holds c.args.files.now) input is c.attempt-outcome.result c.attempt-outcome.ensures.ends (inr status),
      if-unwritten c.attempt-outcome.result _ c.attempt-outcome.ensures.cut status input is,
    )

pub returns-clause-complete : goal.returns-clause-complete
returns-clause-complete g c = λ input is accepted files_clean out_clean.
    let ended = ended-accepted (map string_bytes c.args.words.now) (g.F.Files.holds c.args.files.now) input is c.attempt-outcome.result c.attempt-outcome.ensures.ends accepted in
    elim ended [
      | inl zero_status ↦ inl (c.status-status.ensures ∙ zero_status)
      | inr other ↦ elim other [
        | inl unread ↦ absurd (files_clean (if-unread c.attempt-outcome.result _ c.attempt-outcome.ensures.read_fault unread))
        | inr further ↦ elim further [
          | inl unwritten ↦ absurd (out_clean (if-unwritten c.attempt-outcome.result _ c.attempt-outcome.ensures.write_fault unwritten))
          | inr memory ↦ inr (c.status-status.ensures ∙ memory)
        ]
      ]
    ]

pub returns-clause-nothing : goal.returns-clause-nothing
returns-clause-nothing g c = λ not_zero not_six.
    if-failed c.attempt-outcome.result _ c.attempt-outcome.ensures.unchanged
    (λ e. not_zero (c.status-status.ensures ∙ e)) (λ e. not_six (c.status-status.ensures ∙ e))
