use Rattle.std.proofs.Common.{◌≡◌, ℕ, ◌+◌, ◌/◌, ◌<◌, ◌≤◌, ◌++◌, List, length, get_or, ◌∙◌, sym, ap, arith, refl, subst}
use Rattle.std.proofs.lemmas.List.{length-append}
use Rattle.member_counts.specs.declared.digits.Digits.{Digits}
use Rattle.member_counts.proofs.CountLemmas.{AreCompared, AreCompared-none, AreCompared-more, get_or-front, get_or-behind, reached, not_reached}
use Rattle.member_counts.proofs.reaching.reaching.Goals as goal

pub loop-digit-init : goal.loop-digit-init
loop-digit-init g c =
    let ds : List (Digits g.row.W) = c.args.low.now ++ c.args.high.now in
    let three : length c.args.low.now ≡ 3 = omega arith in
    let long : length ds ≡ 3 + length c.args.high.now = length-append c.args.low.now c.args.high.now ∙ ap (λ (n : ℕ). n + length c.args.high.now) three in
    let members : ℕ = c.args.members.now in
    let threshold : ℕ = c.args.threshold in
    let first = AreCompared-more ds 0 (get_or c.args.low.now 0 c.index-low-0.result) members threshold threshold _ c.add_to-two.new.row c.add_to-two.result members c.compare.new.reaching _ refl
    (AreCompared-none ds members threshold) (omega (arith, long)) (get_or-front c.args.low.now c.args.high.now 0 c.index-low-0.result (omega arith) c.index-low-0.is)
    c.add_to-two.ensures c.compare.ensures.set c.compare.ensures.clear in
    let second = AreCompared-more ds 1 (get_or c.args.low.now 1 c.index-low-1.result) members threshold (threshold / 2) c.add_to-two.result c.add_to-four.new.row c.add_to-four.result c.compare.new.reaching c.compare-2.new.reaching _ refl
    first (omega (arith, long)) (get_or-front c.args.low.now c.args.high.now 1 c.index-low-1.result (omega arith) c.index-low-1.is)
    c.add_to-four.ensures c.compare-2.ensures.set c.compare-2.ensures.clear in
    AreCompared-more ds 2 (get_or c.args.low.now 2 c.index-low-2.result) members threshold (threshold / 2 / 2) c.add_to-four.result c.add_to-carry.new.row c.add_to-carry.result c.compare-2.new.reaching c.compare-3.new.reaching _ refl
    second (omega (arith, long)) (get_or-front c.args.low.now c.args.high.now 2 c.index-low-2.result (omega arith) c.index-low-2.is)
    c.add_to-carry.ensures c.compare-3.ensures.set c.compare-3.ensures.clear

pub loop-digit-preserved : goal.loop-digit-preserved
loop-digit-preserved g c =
    let ds : List (Digits g.row.W) = c.args.low.now ++ c.args.high.now in
    let three : length c.args.low.now ≡ 3 = omega arith in
    let at : ℕ = 3 + c.loop-digit.digit-index in
    let inside : at < length ds = omega (arith, length-append c.args.low.now c.args.high.now) in
    let read : c.digit-item.result ≡ get_or ds at c.digit-item.result = c.digit-item.is ∙ sym (get_or-behind c.args.low.now c.args.high.now c.loop-digit.digit-index c.digit-item.result three) in
    let place : at + 1 ≡ 3 + (c.loop-digit.digit-index + 1) = omega arith in
    subst (λ (k : ℕ). AreCompared ds k c.args.members.now c.args.threshold (c.loop-digit.rest / 2) c.add_to-carry-in-loop-digit.result c.compare-in-loop-digit.new.reaching) place
    (AreCompared-more ds at c.digit-item.result c.args.members.now c.args.threshold c.loop-digit.rest c.loop-digit.carry c.add_to-carry-in-loop-digit.new.row c.add_to-carry-in-loop-digit.result
    c.loop-digit.reaching c.compare-in-loop-digit.new.reaching _ refl c.loop-digit.invariant inside read c.add_to-carry-in-loop-digit.ensures c.compare-in-loop-digit.ensures.set c.compare-in-loop-digit.ensures.clear)

pub returns-then-rest-lt2 : goal.returns-then-rest-lt2
returns-then-rest-lt2 g c =
    let ds : List (Digits g.row.W) = c.args.low.now ++ c.args.high.now in
    let over : length ds ≤ 3 + c.loop-digit.digit-index = omega (arith, length-append c.args.low.now c.args.high.now) in
    reached ds (3 + c.loop-digit.digit-index) c.args.members.now c.args.threshold c.loop-digit.rest c.loop-digit.carry c.loop-digit.reaching c.compare-4.new.reaching _ refl
    c.loop-digit.invariant over c.compare-4.ensures.set c.compare-4.ensures.clear c.if-rest-lt2.true

pub returns-else-rest-lt2 : goal.returns-else-rest-lt2
returns-else-rest-lt2 g c q =
    let ds : List (Digits g.row.W) = c.args.low.now ++ c.args.high.now in
    let over : length ds ≤ 3 + c.loop-digit.digit-index = omega (arith, length-append c.args.low.now c.args.high.now) in
    rw c.new.ensures (not_reached ds (3 + c.loop-digit.digit-index) c.args.members.now c.args.threshold c.loop-digit.rest c.loop-digit.carry c.loop-digit.reaching
    c.loop-digit.invariant over (omega arith) q)
