use Rattle.std.proofs.Common.{◌≡◌, ◌+◌, ◌≤◌, [], ◌∷◌, ◌++◌, length, take, drop, sym, ap, ◌∙◌, subst, refl, arith, length-drop}
use Rattle.std.proofs.lemmas.List.{map-append, take_rest}
use Rattle.mine_model.specs.Grammar.{IsDecimal}
use Rattle.pattern_proof.specs.Pieces.{IsWithout, BeginsWith}
use Rattle.pattern_proof.specs.ProofLines.{AreDecimals}
use Rattle.pattern_proof.specs.Reading.{numbers_of}
use Rattle.pattern_proof.proofs.PieceLemmas.{piece-read, state-refused, state-more, begins-end}
use Rattle.pattern_proof.proofs.lines.states_in.Goals as goal

pub returns-in_default : goal.returns-in_default
returns-in_default c =
    let text = c.args.text.now in let at = c.loop-at.at in let d = c.place_of.result in
    let (words, are, said) = c.loop-at.invariant.said in
    state-refused text at d words (numbers_of c.loop-at.states.items) c.loop-at-test.true c.loop-at.invariant.begins are said
    (subst (λ l. IsWithout 32 (take d l)) (take_rest text (at + 1)) c.place_of.ensures.before)
    (subst (λ l. BeginsWith 32 (drop d l)) (take_rest text (at + 1)) c.place_of.ensures.behind)
    (λ n is few. c.in_default.ensures n (subst (λ l. IsDecimal l n) (sym (piece-read text (at + 1) d)) is) few)

pub loop-at-preserved : goal.loop-at-preserved
loop-at-preserved c =
    let text = c.args.text.now in let at = c.loop-at.at in let d = c.place_of.result in
    let (words, are, said) = c.loop-at.invariant.said in
    let few = subst (λ l. d ≤ length l) (take_rest text (at + 1)) c.place_of.ensures.within in
    let long = length-drop (at + 1) text in
    let (all, also, more) = state-more text at d words (numbers_of c.loop-at.states.items) c.loop-at-test.true c.loop-at.invariant.begins are said (at + 1 + d) c.in-Some.number refl
    (subst (λ l. IsDecimal l c.in-Some.number) (piece-read text (at + 1) d) c.in-Some.ensures) in
    let pushed : numbers_of c.push.new.self.items ≡ numbers_of c.loop-at.states.items ++ c.in-Some.number ∷ [] =
    ap numbers_of c.in_ok-push.ensures.items ∙ map-append (λ state. state.0) c.loop-at.states.items (_ ∷ []) in
    record {
      within = omega (arith, few, long, c.loop-at-test.true);
      begins = begins-end text at d words (numbers_of c.loop-at.states.items) c.loop-at-test.true c.loop-at.invariant.begins are said (at + 1 + d) refl
          (subst (λ l. BeginsWith 32 (drop d l)) (take_rest text (at + 1)) c.place_of.ensures.behind);
      said = (all, subst (AreDecimals all) (sym pushed) also, more);
    }
