use Rattle.std.proofs.Common.{◌<◌, List, [], length, refl, sym, subst}
use Rattle.std.specs.List.{Contains}
use Rattle.std.proofs.lemmas.List.Elements.{Contains-push}
use Rattle.mine_model.specs.declared.item.Item.{Item}
use Rattle.mine_model.specs.declared.row.Row.{Row}
use Rattle.mine_model.specs.Limits.{most_length}
use Rattle.automaton_model.specs.Automata.{StateValue}
use Rattle.group_search.specs.declared.loads.LoadedState.{LoadedState}
use Rattle.group_search.specs.Waits.{Wait, waits_of}
use Rattle.group_search.specs.Search.{IsSound, IsGrown, IsSearching, work_of}
use Rattle.group_search.proofs.SearchLemmas.{search-first, grown-searching, grown-less, search-ends}
use Rattle.group_search.proofs.searching.search.Goals as goal

pub prefixes-init : goal.prefixes-init
prefixes-init g c =
    let order : List Item = c.args.ranks.now.order in
    let states : List StateValue = g.A.Automata.states_of c.args.automata.now in
    let all : Wait = record { prefix = []; loads = c.args.loads.now } in
    let grown = subst (λ (r : List Row). IsGrown order c.args.threshold states c.args.loads.now c.args.stack.now r c.grow.new.stack c.grow.new.rows.items)
    c.requires.rows c.in_ok-grow.ensures in
    record {
      stacked = c.in_ok-grow.ensures.kids.pushed.stacked;
      searching = grown-searching order c.count-count.ensures.different states c.requires.trim (length order) most_length c.args.threshold c.requires.least
          all [] all [] (search-first order c.args.threshold states (length order) most_length all c.requires.sound)
          c.args.stack.now c.grow.new.stack c.grow.new.rows.items c.requires.waits c.requires.prefix grown;
    }

pub returns-then-not-more : goal.returns-then-not-more
returns-then-not-more g c =
    search-ends c.args.ranks.now.order c.args.threshold (g.A.Automata.states_of c.args.automata.now) (length c.args.ranks.now.order) most_length c.args.loads.now
    (waits_of c.prefixes.stack) c.prefixes.rows.items c.prefixes.invariant.searching (c.in_ok-more.ensures.none c.if-not-more.true)

pub grow-requires-in-prefixes-clause-sound : goal.grow-requires-in-prefixes-clause-sound
grow-requires-in-prefixes-clause-sound g c =
    let order : List Item = c.args.ranks.now.order in
    let states : List StateValue = g.A.Automata.states_of c.args.automata.now in
    let wait : Wait = record { prefix = c.take_next.new.stack.prefix.items; loads = c.take_next.new.loads.items } in
    let taken = c.in_ok-more.ensures.taken c.if-not-more.false in
    subst (λ (l : List LoadedState). IsSound states (length order) most_length (record { prefix = c.take_next.new.stack.prefix.items; loads = l })) (sym c.as_slice.ensures.value)
    (c.prefixes.invariant.searching.sound wait (subst (λ (w : List Wait). Contains w wait) (sym taken.last) (Contains-push (waits_of c.take_next.new.stack) wait)))

pub prefixes-smaller : goal.prefixes-smaller
prefixes-smaller g c =
    let order : List Item = c.args.ranks.now.order in
    let states : List StateValue = g.A.Automata.states_of c.args.automata.now in
    let all : Wait = record { prefix = []; loads = c.args.loads.now } in
    let wait : Wait = record { prefix = c.take_next.new.stack.prefix.items; loads = c.take_next.new.loads.items } in
    let taken = c.in_ok-more.ensures.taken c.if-not-more.false in
    let searching = subst (λ (w : List Wait). IsSearching order c.args.threshold states (length order) most_length all w c.prefixes.rows.items) taken.last c.prefixes.invariant.searching in
    let grown = subst (λ (l : List LoadedState). IsGrown order c.args.threshold states l c.take_next.new.stack c.prefixes.rows.items c.grow-in-prefixes.new.stack c.grow-in-prefixes.new.rows.items)
    c.as_slice.ensures.value c.in_ok-grow-2.ensures in
    subst (λ (w : List Wait). work_of (length order) most_length (waits_of c.grow-in-prefixes.new.stack) < work_of (length order) most_length w) (sym taken.last)
    (grown-less order c.count-count.ensures.different states c.requires.trim (length order) most_length c.args.threshold c.requires.least
    all (waits_of c.take_next.new.stack) wait c.prefixes.rows.items searching c.take_next.new.stack c.grow-in-prefixes.new.stack c.grow-in-prefixes.new.rows.items refl refl grown)

pub prefixes-preserved : goal.prefixes-preserved
prefixes-preserved g c =
    let order : List Item = c.args.ranks.now.order in
    let states : List StateValue = g.A.Automata.states_of c.args.automata.now in
    let all : Wait = record { prefix = []; loads = c.args.loads.now } in
    let wait : Wait = record { prefix = c.take_next.new.stack.prefix.items; loads = c.take_next.new.loads.items } in
    let taken = c.in_ok-more.ensures.taken c.if-not-more.false in
    let searching = subst (λ (w : List Wait). IsSearching order c.args.threshold states (length order) most_length all w c.prefixes.rows.items) taken.last c.prefixes.invariant.searching in
    let grown = subst (λ (l : List LoadedState). IsGrown order c.args.threshold states l c.take_next.new.stack c.prefixes.rows.items c.grow-in-prefixes.new.stack c.grow-in-prefixes.new.rows.items)
    c.as_slice.ensures.value c.in_ok-grow-2.ensures in
    record {
      stacked = c.in_ok-grow-2.ensures.kids.pushed.stacked;
      searching = grown-searching order c.count-count.ensures.different states c.requires.trim (length order) most_length c.args.threshold c.requires.least
          all (waits_of c.take_next.new.stack) wait c.prefixes.rows.items searching c.take_next.new.stack c.grow-in-prefixes.new.stack c.grow-in-prefixes.new.rows.items refl refl grown;
    }
