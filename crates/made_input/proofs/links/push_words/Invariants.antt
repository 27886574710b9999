use Rattle.std.proofs.Common.{◌≡◌, ◌-◌, ◌++◌}
use Rattle.std.specs.List.{flat_map, range_with_len}
use Rattle.mine_model.specs.Ancestry.{item_at}
use Rattle.item_hierarchy.specs.Edges.{links_of}
use Rattle.made_input.specs.Made.{links_of_word, word_links}
use Rattle.made_input.proofs.links.push_words.Given as goal

abbrev pub invariant-loop-word : goal.invariant-loop-word
invariant-loop-word l = links_of l.rows.items ++ flat_map (links_of_word item_at) (range_with_len l.word (100 - l.word))
    ≡ links_of l.fn.rows.items ++ word_links item_at
