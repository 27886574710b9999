use Rattle.std.proofs.Common.{◌≡◌, ℕ, ◌+◌, ◌*◌, ◌<◌, sym, subst, arith}
use Rattle.pattern_proof.specs.Finding.{Question, question_of, silents_of, bits_of}
use Rattle.pattern_proof.proofs.FindingLemmas.{place-within}
use Rattle.pattern_proof.proofs.search.bit_at.Goals as goal

pub returns-clause-within : goal.returns-clause-within
returns-clause-within c =
    let q : Question = question_of c.args.search.now in
    let s : ℕ = c.args.silent in
    let w : ℕ = c.args.written in
    let k : ℕ = c.args.state in
    let cut = c.requires.search.cut in
    let silents : c.args.search.now.silents ≡ silents_of q = omega (arith, cut) in
    let within = c.requires.state in
    subst (λ n. (w * (n + 1) + s) * c.states-states.result + k < bits_of q) (sym silents)
    (subst (λ n. (w * (silents_of q + 1) + s) * n + k < bits_of q) (sym c.states-states.ensures.states) (place-within q s w k c.requires.place (omega (arith, within))))
