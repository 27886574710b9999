use Rattle.std.proofs.Common.{◌≡◌, ◌+◌, ◌*◌, ◌%◌, length, get_or, drop, sym, ap, ◌∙◌, arith}
use Rattle.pattern_counts.specs.Hashes.{mixed, mixed_all, hash_of}
use Rattle.pattern_counts.proofs.HashLemmas.{mixed-two, mixed-one, mixed-none}
use Rattle.pattern_counts.proofs.hashes.hash_of.Goals as goal
use Rattle.pattern_counts.proofs.hashes.hash_of.Goals.{then-at-len, else-at-len}

pub loop-at-preserved : goal.loop-at-preserved
loop-at-preserved c =
    let list = c.args.list.now in
    let at = c.loop-at.at in
    let next : c.mixed-hash.result ≡ mixed c.loop-at.hash (get_or list at 0 + get_or list (at + 1) 0 * 4294967296) = rw (c.from.ensures, c.from-in-loop-at.ensures) at c.mixed-hash.ensures in
    record {
      within = omega arith;
      so_far = ap (λ hash. mixed_all hash (drop (at + 2) list)) next ∙ sym (mixed-two c.loop-at.hash list at (omega arith)) ∙ c.loop-at.invariant.so_far;
    }

pub returns : goal.returns
unfolding hash_of
returns c = elim c.if-at-len.branch [
  | then-at-len w ↦
      let next : c.if-at-len.hash ≡ mixed c.loop-at.hash (get_or c.args.list.now c.loop-at.at 0) = w.hash-is ∙ w.mixed-hash-then-at-len.ensures ∙ ap (mixed c.loop-at.hash) w.from-then-at-len.ensures in
      let last : c.loop-at.at + 1 ≡ length c.args.list.now = omega (arith, w.if-at-len.true, c.loop-at-test.false) in
      ap (λ hash. hash % 4294967296) (next ∙ sym (mixed-one c.loop-at.hash c.args.list.now c.loop-at.at last) ∙ c.loop-at.invariant.so_far)
  | else-at-len w ↦
      let end : c.loop-at.at ≡ length c.args.list.now = omega (arith, w.if-at-len.false, c.loop-at.invariant.within) in
      ap (λ hash. hash % 4294967296) (w.hash-is ∙ sym (mixed-none c.loop-at.hash c.args.list.now c.loop-at.at end) ∙ c.loop-at.invariant.so_far)
]
