use Rattle.std.proofs.Common.{◌≡◌, ℕ, ◌+◌, ◌-◌, ◌⊎◌, ◌↔◌, true≢false, sym, ◌∙◌, subst, arith}
use Rattle.state_bits.specs.Members.{HasBit}
use Rattle.pattern_proof.specs.Finding.{Question, question_of, IsRightAt}
use Rattle.pattern_proof.proofs.FindingLemmas.{right-silent, right-written, one-set, none-more}
use Rattle.pattern_proof.proofs.search.fill_place.Goals as goal

pub ends-requires-clause-silent : goal.ends-requires-clause-silent
ends-requires-clause-silent c =
    let q : Question = question_of c.args.search.now in
    let some = c.loop-state-test.true in
    let within = c.loop-state.invariant.within in
    λ place. subst (λ l. IsRightAt q l (c.args.silent + 1) c.args.written) (sym c.as_slice.ensures.value)
    (right-silent q c.loop-state.words.items c.args.silent c.args.written c.loop-state.state (c.loop-state.state - 1) c.requires.place within (omega (arith, some)) c.loop-state.invariant.set place)

pub ends-requires-clause-written : goal.ends-requires-clause-written
ends-requires-clause-written c =
    let q : Question = question_of c.args.search.now in
    let some = c.loop-state-test.true in
    let within = c.loop-state.invariant.within in
    λ place. subst (λ l. IsRightAt q l c.args.silent (c.args.written + 1)) (sym c.as_slice.ensures.value)
    (right-written q c.loop-state.words.items c.args.silent c.args.written c.loop-state.state (c.loop-state.state - 1) c.requires.place within (omega (arith, some)) c.loop-state.invariant.set place)

pub loop-state-preserved-then-ends : goal.loop-state-preserved-then-ends
loop-state-preserved-then-ends c =
    let q : Question = question_of c.args.search.now in
    let some = c.loop-state-test.true in
    let within = c.loop-state.invariant.within in
    record {
      within = omega (arith, within);
      set = one-set q c.loop-state.words.items c.args.silent c.args.written c.loop-state.state (c.loop-state.state - 1) c.requires.place within (omega (arith, some)) c.loop-state.invariant.set
          c.set_bit.new.words.items (c.ends.ensures.0 c.if-ends.true)
          (subst (λ b. (r : ℕ) → HasBit c.set_bit.new.words.items r ↔ (HasBit c.loop-state.words.items r ⊎ (r ≡ b))) c.bit_at.ensures.bit c.set_bit.ensures.set);
      long = c.set_bit.ensures.long ∙ c.loop-state.invariant.long;
      room = c.set_bit.ensures.room ∙ c.loop-state.invariant.room;
    }

pub loop-state-preserved : goal.loop-state-preserved
loop-state-preserved c =
    let q : Question = question_of c.args.search.now in
    let some = c.loop-state-test.true in
    let within = c.loop-state.invariant.within in
    record {
      within = omega (arith, within);
      set = none-more q c.loop-state.words.items c.args.silent c.args.written c.loop-state.state (c.loop-state.state - 1) c.requires.place within (omega (arith, some)) c.loop-state.invariant.set
          (λ ends. true≢false (sym (c.ends.ensures.1 ends) ∙ c.if-ends.false));
      long = c.loop-state.invariant.long;
      room = c.loop-state.invariant.room;
    }
