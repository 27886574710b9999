use Rattle.std.proofs.Common.{true≢false, refl, length, ap, ◌∙◌}
use Rattle.open_addressing.specs.Table.{home_of}
use Rattle.open_addressing.proofs.TableLemmas.{not_held_ahead, not_held_round, not_held_full}
use Rattle.mine_model.proofs.ElementLemmas.{get-held}
use Rattle.item_names.specs.Table.{key_of, mixed, layout}
use Rattle.item_names.proofs.table.find_from.Goals as goal

pub returns-in-Free-clause-none : goal.returns-in-Free-clause-none
returns-in-Free-clause-none c =
    let (at, behind, within, free, others) = c.in-Free.ensures in (
      λ none. not_held_ahead layout key_of c.args.texts.now c.args.slots.now c.args.name.now c.requires.table c.args.home (c.requires.home ∙ ap (λ key. home_of (length c.args.slots.now) (mixed key)) c.requires.key) at within behind free others,
      λ absent. refl,
    )

pub returns-in-Held-search-clause-none : goal.returns-in-Held-search-clause-none
returns-in-Held-search-clause-none c =
    (λ none. absurd (true≢false none), λ absent. absurd (absent (get-held c.args.texts.now _ c.args.name.now c.in-Held-search.ensures)))

pub returns-in-Free-search-clause-none : goal.returns-in-Free-search-clause-none
returns-in-Free-search-clause-none c =
    let (at, behind, within, free, others) = c.in-Free-search.ensures in (
      λ none. not_held_round layout key_of c.args.texts.now c.args.slots.now c.args.name.now c.requires.table c.args.home (c.requires.home ∙ ap (λ key. home_of (length c.args.slots.now) (mixed key)) c.requires.key) at c.requires.within within free c.in-Passed.ensures others,
      λ absent. refl,
    )

pub returns-in-Passed-search-clause-none : goal.returns-in-Passed-search-clause-none
returns-in-Passed-search-clause-none c = (
  λ none. not_held_full layout key_of c.args.texts.now c.args.slots.now c.args.name.now c.requires.table c.args.home (c.requires.home ∙ ap (λ key. home_of (length c.args.slots.now) (mixed key)) c.requires.key) c.in-Passed.ensures c.in-Passed-search.ensures,
  λ absent. refl,
)
