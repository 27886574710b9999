use Rattle.std.proofs.Common.{true≢false, refl, length, ap, ◌∙◌}
use Rattle.open_addressing.specs.Table.{home_of}
use Rattle.open_addressing.proofs.TableLemmas.{not_held_ahead, not_held_round, not_held_full}
use Rattle.mine_model.proofs.ElementLemmas.{get-held}
use Rattle.pattern_counts.specs.Hashes.{hash_of}
use Rattle.pattern_counts.specs.Table.{layout}
use Rattle.pattern_counts.proofs.table.find_from.Goals as goal

pub returns-in-Free-clause-none : goal.returns-in-Free-clause-none
returns-in-Free-clause-none c =
    let (at, behind, within, free, others) = c.in-Free.ensures in (
      λ none. not_held_ahead layout hash_of c.args.lists.now.lists c.args.slots.now c.args.list.now c.requires.table c.args.home (c.requires.home ∙ ap (home_of (length c.args.slots.now)) c.requires.hash) at within behind free others,
      λ absent. refl,
    )

pub returns-in-Held-search-clause-none : goal.returns-in-Held-search-clause-none
returns-in-Held-search-clause-none c =
    (λ none. absurd (true≢false none), λ absent. absurd (absent (get-held c.args.lists.now.lists _ c.args.list.now c.in-Held-search.ensures)))

pub returns-in-Free-search-clause-none : goal.returns-in-Free-search-clause-none
returns-in-Free-search-clause-none c =
    let (at, behind, within, free, others) = c.in-Free-search.ensures in (
      λ none. not_held_round layout hash_of c.args.lists.now.lists c.args.slots.now c.args.list.now c.requires.table c.args.home (c.requires.home ∙ ap (home_of (length c.args.slots.now)) c.requires.hash) at c.requires.within within free c.in-Passed.ensures others,
      λ absent. refl,
    )

pub returns-in-Passed-search-clause-none : goal.returns-in-Passed-search-clause-none
returns-in-Passed-search-clause-none c = (
  λ none. not_held_full layout hash_of c.args.lists.now.lists c.args.slots.now c.args.list.now c.requires.table c.args.home (c.requires.home ∙ ap (home_of (length c.args.slots.now)) c.requires.hash) c.in-Passed.ensures c.in-Passed-search.ensures,
  λ absent. refl,
)
