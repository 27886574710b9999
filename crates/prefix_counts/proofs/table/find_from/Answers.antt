use Rattle.std.proofs.Common.{◌∷◌, [], List, ℕ, true≢false, refl}
use Rattle.open_addressing.proofs.TableLemmas.{not_held_ahead, not_held_round, not_held_full}
use Rattle.mine_model.proofs.ElementLemmas.{get-held}
use Rattle.prefix_counts.specs.Table.{key_of, layout, pairs_of}
use Rattle.prefix_counts.proofs.table.find_from.Goals as goal

pub returns-in-Free-clause-none : goal.returns-in-Free-clause-none
returns-in-Free-clause-none c =
    let pair : List ℕ = c.args.key.parent ∷ c.args.key.rank ∷ [] in
    let (at, behind, within, free, others) = c.in-Free.ensures in (
      λ none. not_held_ahead layout key_of (pairs_of c.args.nodes.now) c.args.slots.now pair c.requires.table c.args.home c.requires.home at within behind free others,
      λ absent. refl,
    )

pub returns-in-Held-search-clause-none : goal.returns-in-Held-search-clause-none
returns-in-Held-search-clause-none c =
    (λ none. absurd (true≢false none), λ absent. absurd (absent (get-held (pairs_of c.args.nodes.now) _ (c.args.key.parent ∷ c.args.key.rank ∷ []) c.in-Held-search.ensures)))

pub returns-in-Free-search-clause-none : goal.returns-in-Free-search-clause-none
returns-in-Free-search-clause-none c =
    let pair : List ℕ = c.args.key.parent ∷ c.args.key.rank ∷ [] in
    let (at, behind, within, free, others) = c.in-Free-search.ensures in (
      λ none. not_held_round layout key_of (pairs_of c.args.nodes.now) c.args.slots.now pair c.requires.table c.args.home c.requires.home at c.requires.within within free c.in-Passed.ensures others,
      λ absent. refl,
    )

pub returns-in-Passed-search-clause-none : goal.returns-in-Passed-search-clause-none
returns-in-Passed-search-clause-none c = (
  λ none. not_held_full layout key_of (pairs_of c.args.nodes.now) c.args.slots.now (c.args.key.parent ∷ c.args.key.rank ∷ []) c.requires.table c.args.home c.requires.home c.in-Passed.ensures c.in-Passed-search.ensures,
  λ absent. refl,
)
