-- The walk over the states of a registry, by the numbers of its states.
use Rattle.std.proofs.Common.{◌≡◌, ℕ, ◌+◌, ◌-◌, ◌*◌, ◌≤◌, ◌<◌, Some, List, [], ◌∷◌, ◌++◌, map, length, reverse, take, get_or, true, false, refl, sym, ap, ◌∙◌, subst, arith, true≢false, append_assoc}
use Rattle.std.specs.Bool.{◌==◌}
use Rattle.std.specs.List.{Contains, slice_get, list_any}
use Rattle.std.proofs.lemmas.Bool.{eqb-true}
use Rattle.std.proofs.lemmas.Grind.{common_steps}
use Rattle.std.proofs.lemmas.Cmp.{nat_eq_equiv}
use Rattle.std.proofs.lemmas.List.{length-map, map-append, append-nil, reverse-append, reverse-reverse}
use Rattle.std.proofs.lemmas.Map.Views.{Contains-from_any, list_any-from_Contains}
use Rattle.std.proofs.lemmas.Option.{slice_get_within, get_or_from_slice_get}
use Rattle.indexmap.specs.IndexSet.{insert_key}
use Rattle.indexmap.proofs.ReorderLemmas.{map-reverse}
use Rattle.mine_model.proofs.ListLemmas.{Contains-first, Contains-from, Contains-by}
use Rattle.mine_model.proofs.ElementLemmas.{get-some}
use Rattle.automaton_model.specs.Automata.{Edge, StateValue, Accepts, state_code, code_of}
use Rattle.automaton_model.specs.Codes.{IsCodeOf}
use Rattle.automaton_model.specs.Registry.{IsRegistry}
use Rattle.automaton_model.specs.Walks.{Path, IsVisited, IsWalk, paths_from, states_of, AreVisited, renumbered, dead_state}
use Rattle.automaton_model.proofs.WalkLemmas.{walk-begin, walk-skip, walk-visit}
use Rattle.automaton_model.proofs.NumberLemmas.{new_states, standing_at, target, walk-code, below-length}

targets_of : (path : Path) (edges : List Edge) → states_of (paths_from path edges) ≡ map (λ (edge : Edge). edge.to) edges
targets_of path [] = refl
targets_of path (e ∷ edges) = ap (λ (l : List ℕ). e.to ∷ l) (targets_of path edges)

module _ (states : List StateValue) (registry : IsRegistry states) (root : ℕ) (inside : root < length states) where
  pub visited-begin : AreVisited states root [] (root ∷ [])
  visited-begin = ([], (record { prefix = []; state = root }) ∷ [], walk-begin states registry root, refl, refl)

  stands : (path : Path) (visits waiting : List Path) → IsWalk states root visits waiting → Contains visits path → path.state < length states
  stands path visits waiting walk held =
      let (s, s_is) = get-some states root inside in
      let (t, t_is) = standing_at states registry root s s_is path.prefix path.state (walk.visited path held) in
      slice_get_within states path.state t t_is

  -- a state that was visited is passed
  pub visited-pass : (visited rest : List ℕ) (number : ℕ) → AreVisited states root visited (number ∷ rest) → Contains visited number → AreVisited states root visited rest
  visited-pass visited rest number (visits, [], walk, done, waits) held = absurd (cc)
  visited-pass visited rest number (visits, path ∷ stack, walk, done, waits) held =
      let first : number ≡ path.state = cc in
      let others : rest ≡ states_of stack = cc in
      let (visit, among, same) = Contains-from (λ (p : Path). p.state) visits number (subst (λ (l : List ℕ). Contains l number) done held) in
      (visits, stack, walk-skip states registry root visits path stack walk (visit, among, sym same ∙ first), done, others)

  -- one that was not is visited, and the states wait to which its edges lead
  pub visited-next : (visited rest : List ℕ) (number : ℕ) (state : StateValue) → AreVisited states root visited (number ∷ rest) → (Contains visited number → ⊥)
      → slice_get states number ≡ Some state → AreVisited states root (visited ++ number ∷ []) (map (λ (edge : Edge). edge.to) state.edges ++ rest)
  visited-next visited rest number state (visits, [], walk, done, waits) fresh is = absurd (cc)
  visited-next visited rest number state (visits, path ∷ stack, walk, done, waits) fresh is =
      let first : number ≡ path.state = cc in
      let others : rest ≡ states_of stack = cc in
      let here : slice_get states path.state ≡ Some state = subst (λ n. slice_get states n ≡ Some state) first is in
      let new : IsVisited visits path.state → ⊥ = λ (visit, among, same).
      fresh (subst (λ (l : List ℕ). Contains l number) (sym done) (subst (Contains (states_of visits)) (same ∙ sym first) (Contains-by (λ (p : Path). p.state) visits visit among))) in (
        visits ++ path ∷ [],
        paths_from path state.edges ++ stack,
        walk-visit states registry root visits path stack walk new state here,
        (λ i. done i ++ first i ∷ []) ∙ sym (map-append (λ (p : Path). p.state) visits (path ∷ [])),
        (λ i. sym (targets_of path state.edges) i ++ others i) ∙ sym (map-append (λ (p : Path). p.state) (paths_from path state.edges) stack),
      )

  -- the next state stands in the registry
  pub visited-inside : (visited rest : List ℕ) (number : ℕ) → AreVisited states root visited (number ∷ rest) → number < length states
  visited-inside visited rest number (visits, [], walk, done, waits) = absurd (cc)
  visited-inside visited rest number (visits, path ∷ stack, walk, done, waits) =
      let first : number ≡ path.state = cc in
      let (s, s_is) = get-some states root inside in
      let (t, t_is) = standing_at states registry root s s_is path.prefix path.state (walk.reached path (Contains-first path stack)) in
      subst (λ n. n < length states) (sym first) (slice_get_within states path.state t t_is)

  pub visited-few : (visited waiting : List ℕ) → AreVisited states root visited waiting → length visited ≤ length states
  visited-few visited waiting (visits, stack, walk, done, waits) =
      let (s, s_is) = get-some states root inside in
      omega (arith, below-length states registry root s s_is visits stack walk, ap length done, length-map visits (λ (p : Path). p.state))

  -- The same, with the stack as a vector whose last element is the next state

  pub visits-first : (visited waiting : List ℕ) → visited ≡ [] → waiting ≡ root ∷ [] → AreVisited states root visited (reverse waiting)
  visits-first visited waiting none one = rw (none, one) visited-begin

  pub visits-popped : (visited waiting rest : List ℕ) (number : ℕ) → AreVisited states root visited (reverse waiting) → waiting ≡ rest ++ number ∷ []
      → AreVisited states root visited (number ∷ reverse rest)
  visits-popped visited waiting rest number are is =
      subst (AreVisited states root visited) (ap (reverse {A = ℕ}) is ∙ reverse-append rest (number ∷ [])) are

  pub visits-pass : (visited after rest : List ℕ) (number : ℕ) → AreVisited states root visited (number ∷ reverse rest) → list_any (λ k. number == k) visited ≡ true
      → after ≡ insert_key (λ a b. a == b) visited number → AreVisited states root after (reverse rest)
  visits-pass visited after rest number are there inserts =
      let same : after ≡ visited = rw (inserts, there) refl in
      subst (λ (l : List ℕ). AreVisited states root l (reverse rest)) (sym same)
      (visited-pass visited (reverse rest) number are (Contains-from_any (λ x y. eqb-true x y) number visited there))

  pub visits-next : (visited after rest waiting : List ℕ) (number : ℕ) (state : StateValue) → AreVisited states root visited (number ∷ reverse rest)
      → list_any (λ k. number == k) visited ≡ false → after ≡ insert_key (λ a b. a == b) visited number → slice_get states number ≡ Some state
      → waiting ≡ rest ++ map (λ (edge : Edge). edge.to) (reverse state.edges) → AreVisited states root after (reverse waiting)
  visits-next visited after rest waiting number state are new inserts is waits =
      let grown : after ≡ visited ++ number ∷ [] = rw (inserts, new) refl in
      let fresh : Contains visited number → ⊥ = λ held. true≢false (sym (list_any-from_Contains nat_eq_equiv number visited held) ∙ new) in
      let stack : reverse waiting ≡ map (λ (edge : Edge). edge.to) state.edges ++ reverse rest =
      ap (reverse {A = ℕ}) (waits ∙ ap (λ (l : List ℕ). rest ++ l) (map-reverse (λ (edge : Edge). edge.to) state.edges))
      ∙ reverse-append rest (reverse (map (λ (edge : Edge). edge.to) state.edges))
      ∙ ap (λ (l : List ℕ). l ++ reverse rest) (reverse-reverse (map (λ (edge : Edge). edge.to) state.edges)) in
      subst (λ (l : List ℕ). AreVisited states root l (reverse waiting)) (sym grown)
      (subst (AreVisited states root (visited ++ number ∷ [])) (sym stack) (visited-next visited (reverse rest) number state are fresh is))

  module _ (visited : List ℕ) (all : AreVisited states root visited []) where
    pub visited-stands : (number : ℕ) → Contains visited number → number < length states
    visited-stands number held =
        let (visits, stack, walk, done, waits) = all in
        let (visit, among, same) = Contains-from (λ (p : Path). p.state) visits number (subst (λ (l : List ℕ). Contains l number) done held) in
        subst (λ n. n < length states) (sym same) (stands visit visits stack walk among)

    -- the edges of a visited state lead to visited states
    pub visited-target : (number : ℕ) (state : StateValue) (edge : Edge) → Contains visited number → slice_get states number ≡ Some state → Contains state.edges edge → Contains visited edge.to
    visited-target number state edge held is on = go all
      where
        go : AreVisited states root visited [] → Contains visited edge.to
        go (visits, path ∷ stack, walk, done, waits) = absurd (cc)
        go (visits, [], walk, done, waits) =
            let (visit, among, same) = Contains-from (λ (p : Path). p.state) visits number (subst (λ (l : List ℕ). Contains l number) done held) in
            let (s, s_is) = get-some states root inside in
            let (v, there, to) = target states registry root s s_is visits walk visit among state (subst (λ n. slice_get states n ≡ Some state) same is) edge on in
            subst (λ (l : List ℕ). Contains l edge.to) (sym done) (subst (Contains (states_of visits)) to (Contains-by (λ (p : Path). p.state) visits v there))

    -- the visited states, with the places of their targets, are written as the code
    pub visited-code : IsCodeOf (Accepts states root) (code_of (new_states states visited visited))
    visited-code = go all
      where
        go : AreVisited states root visited [] → IsCodeOf (Accepts states root) (code_of (new_states states visited visited))
        go (visits, path ∷ stack, walk, done, waits) = absurd (cc)
        go (visits, [], walk, done, waits) =
            let (s, s_is) = get-some states root inside in
            subst (λ (l : List ℕ). IsCodeOf (Accepts states root) (code_of (new_states states l l))) (sym done)
            (walk-code states registry root s s_is visits walk)

-- one state more is written
pub code-step : (states : List StateValue) (visited part : List ℕ) (number : ℕ) (state : StateValue) → slice_get states number ≡ Some state
    → code_of (new_states states visited (part ++ number ∷ [])) ≡ code_of (new_states states visited part) ++ state_code (renumbered visited state)
code-step states visited [] number state is =
    append-nil (state_code (renumbered visited (get_or states number dead_state)))
    ∙ ap (λ (s : StateValue). state_code (renumbered visited s)) (get_or_from_slice_get states number state dead_state is)
code-step states visited (k ∷ part) number state is =
    let first : List ℕ = state_code (renumbered visited (get_or states k dead_state)) in
    ap (λ (l : List ℕ). first ++ l) (code-step states visited part number state is)
    ∙ sym (append_assoc first (code_of (new_states states visited part)) (state_code (renumbered visited state)))

-- a state more is visited: that counts more than all that can wait
pub fewer-left : (all before after waiting more : ℕ) → after ≡ before + 1 → after ≤ all → more < 18446744073709551616
    → (all - after) * 18446744073709551616 + more < (all - before) * 18446744073709551616 + waiting
fewer-left all before after waiting more one most small = omega (arith, one, most, small)

pub take-whole : (xs : List ℕ) (n : ℕ) → n ≡ length xs → take n xs ≡ xs
take-whole xs n most = grind (arith, common_steps)
