use Rattle.std.proofs.Common.{◌≡◌, ℕ, ◌+◌, ◌-◌, ◌*◌, ◌≤◌, ◌<◌, length, refl, sym, ap, ◌∙◌, subst, arith}
use Rattle.pattern_proof.specs.Finding.{Question, question_of, silents_of, EndFrom}
use Rattle.pattern_proof.proofs.FindingLemmas.{none-set, bit-of-place}
use Rattle.pattern_proof.proofs.search.fill.Goals as goal

pub loop-left-init : goal.loop-left-init
loop-left-init c =
    let q : Question = question_of c.args.search.now in
    let cut = c.requires.search.cut in
    let silents : c.args.search.now.silents ≡ silents_of q = omega (arith, cut) in
    let cells : (length q.pattern + 1) * (silents_of q + 1) ≤ (length q.pattern + 1) * (silents_of q + 1) = omega arith in
    record {
      within = subst (λ n. (length q.pattern + 1) * (n + 1) ≤ (length q.pattern + 1) * (silents_of q + 1)) (sym silents) cells;
      set = subst (λ n. EndFrom q ((length q.pattern + 1) * (n + 1) * (length q.transducer.labels + 1)) c.args.words.now.items) (sym silents) (none-set q c.args.words.now.items c.requires.clear);
      long = refl;
      room = refl;
    }

pub fill_place-requires-clause-behind : goal.fill_place-requires-clause-behind
fill_place-requires-clause-behind c =
    let q : Question = question_of c.args.search.now in
    let cut = c.requires.search.cut in
    let columns : ℕ = c.args.search.now.silents + 1 in
    let same : columns ≡ silents_of q + 1 = omega (arith, cut) in
    let left : ℕ = c.loop-left.left in
    let some = c.loop-left-test.true in
    let within : left ≤ (length q.pattern + 1) * columns = subst (λ n. left ≤ (length q.pattern + 1) * n) (sym same) c.loop-left.invariant.within in
    let one : left ≡ left - 1 + 1 = omega (arith, some) in
    let less : left - 1 < (length q.pattern + 1) * columns = omega (arith, within, some) in
    let width : ℕ = length q.transducer.labels + 1 in
    let bits : left * width ≡ (left - 1) * width + width = ap (λ n. n * width) one ∙ grind arith in
    subst (λ n. EndFrom q n c.loop-left.words.items) (bits ∙ sym (bit-of-place q (left - 1) columns same less width)) c.loop-left.invariant.set
