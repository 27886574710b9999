use Rattle.std.proofs.Common.{◌<◌, ℕ, length, get_or, ◌∙◌, ap, arith}
use Rattle.std.proofs.lemmas.List.{length-replicate}
use Rattle.member_counts.proofs.BitLemmas.{word_is}
use Rattle.member_counts.proofs.CountLemmas.{bit_in-none, sets_with-next, sets_with-none, sets_with-take_le}
use Rattle.member_counts.proofs.low.added.Goals as goal
use Rattle.state_bits.proofs.WordLemmas.{length-words_of}

pub loop-index-init : goal.loop-index-init
loop-index-init g c q inside = omega (arith, c.new-low.ensures q, sets_with-none c.args.sets.now q)

pub add_rows-two-requires : goal.add_rows-two-requires
add_rows-two-requires g c = (omega arith, (ap length c.words.ensures ∙ length-words_of g.row.W _, length-replicate {A = ℕ} g.row.W 0))

pub loop-index-preserved : goal.loop-index-preserved
loop-index-preserved g c q inside =
    let set : ℕ = get_or c.args.sets.now c.loop-index.index c.index-sets-index.result in
    let word = word_is g.row.W c.words.result.now set q c.words.ensures inside in
    let room : c.loop-index.index < length c.args.sets.now = omega arith in
    let next = sets_with-next c.args.sets.now c.loop-index.index c.index-sets-index.result q room in
    omega (arith, word, next, c.loop-index.invariant q inside, c.add_rows-two.ensures q, c.add_rows-four.ensures q, c.add_rows.ensures q, bit_in-none g.row.W q, sets_with-take_le c.args.sets.now c.loop-index.index q)
