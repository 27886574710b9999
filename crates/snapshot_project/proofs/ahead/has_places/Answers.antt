use Rattle.std.proofs.Common.{◌≡◌, ◌∙◌, inl, inr, sym, ap, arith}
use Rattle.std.proofs.lemmas.Bool.{cases_lt, lt-ltb, true≢false}
use Rattle.stand_sums.specs.declared.next_rank.NextRank.{NextRank}
use Rattle.stand_sums.proofs.FileLemmas.{laid-last}
use Rattle.snapshot_project.proofs.ahead.has_places.Goals as goal

pub returns-in-Some : goal.returns-in-Some
returns-in-Some c none end laid =
    let nothing : NextRank = record { rank = 0; weight = 0; support = 0; longer = 0; first = 0; last = 0 } in
    let (inside, is, quiet, (some, at), last_at) = c.in-Some.ensures.item in
    let zero : c.in-Some.next.now.last ≡ 0 = elim (cases_lt 0 c.in-Some.next.now.last) [
      | inl more ↦ absurd (true≢false (sym (lt-ltb 0 c.in-Some.next.now.last more) ∙ none))
      | inr less ↦ omega arith
    ] in
    sym (laid-last 0 c.args.found.now end nothing laid some) ∙ ap (λ (next : NextRank). next.last) (sym (at nothing)) ∙ zero
