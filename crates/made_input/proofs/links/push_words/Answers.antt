use Rattle.std.proofs.Common.{◌-◌, ◌+◌, ◌++◌, ap, sym, ◌∙◌}
use Rattle.std.specs.List.{flat_map, range_with_len}
use Rattle.mine_model.specs.Ancestry.{item_at}
use Rattle.item_hierarchy.specs.Edges.{links_of}
use Rattle.made_input.specs.Made.{links_of_word}
use Rattle.made_input.proofs.MakingLemmas.{word-next, words-done}
use Rattle.made_input.proofs.links.push_words.Goals as goal

pub loop-word-preserved : goal.loop-word-preserved
loop-word-preserved c =
    ap (λ l. l ++ flat_map (links_of_word item_at) (range_with_len (c.loop-word.word + 1) (100 - (c.loop-word.word + 1)))) c.in_ok-push_word.ensures
    ∙ word-next c.loop-word.word (links_of c.loop-word.rows.items) c.loop-word-test.true ∙ c.loop-word.invariant

pub returns : goal.returns
returns c = sym (words-done c.loop-word.word (links_of c.loop-word.rows.items) c.loop-word-test.false) ∙ c.loop-word.invariant
