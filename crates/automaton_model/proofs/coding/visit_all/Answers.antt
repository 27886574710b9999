use Rattle.std.proofs.Common.{◌≡◌, ◌+◌, ◌++◌, ◌∷◌, [], ℕ, List, Bool, true, false, not, if◌then◌else◌, length, map, reverse, refl, sym, ap, ◌∙◌, arith}
use Rattle.std.specs.Bool.{◌==◌}
use Rattle.std.specs.List.{list_any}
use Rattle.automaton_model.specs.Automata.{Edge, state_of}
use Rattle.automaton_model.specs.Walks.{AreVisited}
use Rattle.automaton_model.proofs.VisitLemmas.{visited-inside, visited-few, visits-first, visits-popped, visits-pass, visits-next, fewer-left}
use Rattle.automaton_model.proofs.coding.visit_all.Goals as goal

pub states-init : goal.states-init
states-init c =
    visits-first c.args.registry.now c.len-count.ensures.registry c.args.root c.requires c.new-visited.result.keys c.push.new.self.items c.new-visited.ensures.empty
    (c.in_ok-push.ensures.items ∙ ap (λ (l : List ℕ). l ++ c.args.root ∷ []) c.new-waiting.ensures.items)

pub state-requires : goal.state-requires
state-requires c =
    visited-inside c.args.registry.now c.len-count.ensures.registry c.args.root c.requires c.states.visited.keys (reverse c.pop.new.self.items) c.in-Some.number
    (visits-popped c.args.registry.now c.len-count.ensures.registry c.args.root c.requires c.states.visited.keys c.states.waiting.items c.pop.new.self.items c.in-Some.number c.states.invariant c.in-Some.ensures.items)

turned : (new there : Bool) → new ≡ not there → new ≡ true → there ≡ false
turned new false is holds = refl
turned new true is holds = sym holds ∙ is

turned_back : (new there : Bool) → new ≡ not there → new ≡ false → there ≡ true
turned_back new true is fails = refl
turned_back new false is fails = sym fails ∙ is

-- a state that was not visited is visited now
abbrev visited_more : (c : goal.In_ok-push_targets) → AreVisited c.args.registry.now c.args.root c.insert_full.new.self.keys (reverse c.push_targets.new.waiting.items)
visited_more c =
    visits-next c.args.registry.now c.len-count.ensures.registry c.args.root c.requires c.states.visited.keys c.insert_full.new.self.keys c.pop.new.self.items
    c.push_targets.new.waiting.items c.in-Some.number (state_of c.state.result.now)
    (visits-popped c.args.registry.now c.len-count.ensures.registry c.args.root c.requires c.states.visited.keys c.states.waiting.items c.pop.new.self.items c.in-Some.number c.states.invariant c.in-Some.ensures.items)
    (turned c.in_ok-_index.new (list_any (λ k. c.in-Some.number == k) c.states.visited.keys) c.in_ok-_index.ensures.added c.if-new.true)
    c.in_ok-_index.ensures.keys c.state.ensures
    (c.in_ok-push_targets.ensures ∙ ap (λ (l : List Edge). c.pop.new.self.items ++ map (λ (edge : Edge). edge.to) (reverse l)) c.as_slice.ensures.value)

pub states-smaller-in-Continue-branch-3 : goal.states-smaller-in-Continue-branch-3
states-smaller-in-Continue-branch-3 c =
    fewer-left (length c.args.registry.now) (length c.states.visited.keys) (length c.insert_full.new.self.keys) (length c.states.waiting.items) (length c.push_targets.new.waiting.items)
    (c.in_ok-_index.ensures.len ∙ ap (λ (b : Bool). length c.states.visited.keys + (if b then 1 else 0)) c.if-new.true)
    (visited-few c.args.registry.now c.len-count.ensures.registry c.args.root c.requires c.insert_full.new.self.keys (reverse c.push_targets.new.waiting.items) (visited_more c))
    (omega (arith, c.push_targets.new.waiting.ok.0, c.push_targets.new.waiting.ok.1, c.push_targets.new.waiting.small))

pub states-preserved-in-Continue-branch-3 : goal.states-preserved-in-Continue-branch-3
states-preserved-in-Continue-branch-3 c = visited_more c

pub states-preserved : goal.states-preserved
states-preserved c =
    visits-pass c.args.registry.now c.len-count.ensures.registry c.args.root c.requires c.states.visited.keys c.insert_full.new.self.keys c.pop.new.self.items c.in-Some.number
    (visits-popped c.args.registry.now c.len-count.ensures.registry c.args.root c.requires c.states.visited.keys c.states.waiting.items c.pop.new.self.items c.in-Some.number c.states.invariant c.in-Some.ensures.items)
    (turned_back c.in_ok-_index.new (list_any (λ k. c.in-Some.number == k) c.states.visited.keys) c.in_ok-_index.ensures.added c.if-new.false)
    c.in_ok-_index.ensures.keys
