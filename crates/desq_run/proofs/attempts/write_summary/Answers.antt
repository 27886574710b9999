use Rattle.std.proofs.Common.{◌≡◌, ◌<◌, ◌++◌, ◌∙◌, ap, subst, ℕ, Some, IfSome, map, length, take}
use Rattle.mine_model.specs.Names.{named_row}
use Rattle.made_input.specs.Summary.{summary_of}
use Rattle.desq_run.proofs.attempts.write_summary.Goals as goal

pub returns-in-Err-clause-cut : goal.returns-in-Err-clause-cut
returns-in-Err-clause-cut g c = λ failed.
    let names = c.args.answer.now.names in
    let text = c.as_bytes.ensures.value ∙ c.as_str.ensures.value ∙ c.summary.ensures names
    ∙ ap (λ rows. summary_of c.args.count (map (named_row names) rows)) c.as_slice.ensures.value in
    subst (λ text. IfSome (g.O.Sink.written c.args.out.now) (λ before. (n : ℕ) × (n < length text)
    × (g.O.Sink.written c.write_all.new.sink ≡ Some (before ++ take n text)))) text c.in-Err.ensures.cut
