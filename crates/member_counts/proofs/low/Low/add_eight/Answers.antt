use Rattle.std.proofs.Common.{length, get_or, ◌∙◌, ap, arith}
use Rattle.member_counts.proofs.BitLemmas.{word_is}
use Rattle.member_counts.proofs.CountLemmas.{sets_with-seven}
use Rattle.member_counts.proofs.low.Low.add_eight.Goals as goal
use Rattle.state_bits.proofs.WordLemmas.{length-words_of}

pub add_rows-two-requires : goal.add_rows-two-requires
add_rows-two-requires g c = (omega arith, (ap length c.words.ensures ∙ length-words_of g.row.W _, ap length c.words-2.ensures ∙ length-words_of g.row.W _))

pub add_rows-other_two-requires : goal.add_rows-other_two-requires
add_rows-other_two-requires g c = (omega arith, (ap length c.words-3.ensures ∙ length-words_of g.row.W _, ap length c.words-4.ensures ∙ length-words_of g.row.W _))

pub add_rows-two-requires-2 : goal.add_rows-two-requires-2
add_rows-two-requires-2 g c = (omega arith, (ap length c.words-5.ensures ∙ length-words_of g.row.W _, ap length c.words-6.ensures ∙ length-words_of g.row.W _))

pub add_rows-other_two-requires-2 : goal.add_rows-other_two-requires-2
add_rows-other_two-requires-2 g c = (omega arith, (ap length c.words-7.ensures ∙ length-words_of g.row.W _, ap length c.words-8.ensures ∙ length-words_of g.row.W _))

pub returns : goal.returns
returns g c q inside =
    let word0 = word_is g.row.W c.words.result.now (get_or c.args.sets.now 0 c.index-sets-0.result) q c.words.ensures inside in
    let word1 = word_is g.row.W c.words-2.result.now (get_or c.args.sets.now 1 c.index-sets-1.result) q c.words-2.ensures inside in
    let word2 = word_is g.row.W c.words-3.result.now (get_or c.args.sets.now 2 c.index-sets-2.result) q c.words-3.ensures inside in
    let word3 = word_is g.row.W c.words-4.result.now (get_or c.args.sets.now 3 c.index-sets-3.result) q c.words-4.ensures inside in
    let word4 = word_is g.row.W c.words-5.result.now (get_or c.args.sets.now 4 c.index-sets-4.result) q c.words-5.ensures inside in
    let word5 = word_is g.row.W c.words-6.result.now (get_or c.args.sets.now 5 c.index-sets-5.result) q c.words-6.ensures inside in
    let word6 = word_is g.row.W c.words-7.result.now (get_or c.args.sets.now 6 c.index-sets-6.result) q c.words-7.ensures inside in
    let word7 = word_is g.row.W c.words-8.result.now c.args.last.now q c.words-8.ensures inside in
    let all = sets_with-seven c.args.sets.now c.index-sets-0.result c.index-sets-1.result c.index-sets-2.result c.index-sets-3.result c.index-sets-4.result c.index-sets-5.result c.index-sets-6.result q (omega arith) in
    omega (arith, word0, word1, word2, word3, word4, word5, word6, word7, all, c.add_rows-two.ensures q, c.add_rows-other_two.ensures q, c.add_rows-four.ensures q, c.add_rows-two-2.ensures q, c.add_rows-other_two-2.ensures q, c.add_rows-other_four.ensures q, c.add_rows.ensures q)
