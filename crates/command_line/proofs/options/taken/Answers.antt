use Rattle.std.proofs.Common.{◌∙◌, ap, sym, subst, map, string_bytes, inl, inr}
use Rattle.clap.specs.Words.{IsAmong, Kinds, fault_of, is_simple, is_simple_and_free, kind_of, matches_of}
use Rattle.command_line.specs.Options.{faults, rows}
use Rattle.command_line.proofs.Adding.{desq_is_free, desq_is_simple}
use Rattle.command_line.proofs.options.taken.Goals as goal

pub returns-in-Ok : goal.returns-in-Ok
unfolding faults rows
returns-in-Ok c =
    let is = c.in_ok-command.ensures.app in
    let texts = map string_bytes c.args.words.now in (
      sym (ap (λ a. fault_of a texts) is) ∙ c.in-Ok.ensures.kinds (ap is_simple_and_free is ∙ desq_is_free),
      (c.in-Ok.ensures.matches (ap is_simple is ∙ desq_is_simple)).0 ∙ ap (λ a. matches_of a texts) is,
      c.in_ok-command.ensures.needed c.in-Ok.matches c.in-Ok.ensures.parsed,
    )

pub returns : goal.returns
unfolding faults rows
returns c none =
    let is = c.in_ok-command.ensures.app in
    let texts = map string_bytes c.args.words.now in
    elim (c.in-Err.ensures.kinds (ap is_simple_and_free is ∙ desq_is_free)) [
      | inl memory ↦ c.in_default.not-OutOfMemory (c.kind.ensures ∙ memory)
      | inr among ↦ subst (λ (k : Kinds). IsAmong (kind_of c.in-Err.error) k) (ap (λ a. fault_of a texts) is ∙ none) among
    ]
