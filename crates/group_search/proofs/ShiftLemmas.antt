-- The states of automata, those of one behind those of another.
use Rattle.std.proofs.Common.{◌≡◌, ℕ, suc, ◌+◌, ◌<◌, inl, inr, true, Some, List, [], ◌∷◌, ◌++◌, length, map, sym, ap, ◌∙◌, subst, arith}
use Rattle.std.specs.List.{AllPairs, Contains, slice_get}
use Rattle.std.proofs.lemmas.List.Elements.{Contains-append_cases}
use Rattle.std.proofs.lemmas.Option.{slice_get_within}
use Rattle.mine_model.proofs.ListLemmas.{Contains-cases, Contains-none, Contains-by, Contains-from, AllPairs-append, AllPairs-tail, AllPairs-head}
use Rattle.mine_model.proofs.ElementLemmas.{get-some, get-held, get-left, slice_get-mapped_by, same-some}
use Rattle.automaton_model.specs.declared.state.Edge.{Edge}
use Rattle.automaton_model.specs.Automata.{StateValue, Accepts}
use Rattle.automaton_model.proofs.RegistryLemmas.{stands}
use Rattle.automaton_model.proofs.LanguageLemmas.{accepts-more}
use Rattle.group_search.specs.Searched.{IsTrimState, IsTrim}
use Rattle.group_search.specs.Decoded.{shifted}

-- Edges of a trim automaton lead to states of it

pub edge-there : (states : List StateValue) → IsTrim states → (k : ℕ) (state : StateValue) (edge : Edge) → slice_get states k ≡ Some state → Contains state.edges edge → edge.to < length states
edge-there states trim k state edge is held =
    let (list, accepts) = (trim state (get-held states k state is)).alive edge held in
    let (next, at) = stands states edge.to list accepts in slice_get_within states edge.to next at

-- States behind alter nothing

pub longer-back : (states more : List StateValue) → IsTrim states → (list : List ℕ) (k : ℕ) → k < length states → Accepts (states ++ more) k list → Accepts states k list
longer-back states more trim [] k inside (state, is, good) =
    let (here, at) = get-some states k inside in
    let same : state ≡ here = same-some state here (slice_get (states ++ more) k) is (get-left states more k here at) in
    (here, at, subst (λ (s : StateValue). (s.accepts ≡ true)) same good)
longer-back states more trim (rank ∷ list) k inside (state, edge, is, held, by, next) =
    let (here, at) = get-some states k inside in
    let same : state ≡ here = same-some state here (slice_get (states ++ more) k) is (get-left states more k here at) in
    let on : Contains here.edges edge = subst (λ (s : StateValue). Contains s.edges edge) same held in
    (here, edge, at, on, by, longer-back states more trim list edge.to (edge-there states trim k here edge at on) next)

-- Numbers that count from a base on

get-right : {X : Type 0} (xs ys : List X) (k : ℕ) → slice_get (xs ++ ys) (k + length xs) ≡ slice_get ys k
get-right [] ys k = ap (slice_get ys) (let is : k + 0 ≡ k = omega arith in is)
get-right (x ∷ xs) ys k =
    let next : k + length (x ∷ xs) ≡ suc (k + length xs) = omega arith in
    ap (slice_get (x ∷ xs ++ ys)) next ∙ get-right xs ys k

abbrev pub shifted_edge : ℕ → Edge → Edge
shifted_edge base edge = record { rank = edge.rank; to = edge.to + base }

module _ (front states : List StateValue) where
  abbrev all : List StateValue
  all = front ++ map (shifted (length front)) states

  shifted-there : (k : ℕ) (state : StateValue) → slice_get states k ≡ Some state → slice_get all (k + length front) ≡ Some (shifted (length front) state)
  shifted-there k state is = get-right front (map (shifted (length front)) states) k ∙ slice_get-mapped_by (shifted (length front)) states k state is

  pub shift-forth : (list : List ℕ) (k : ℕ) → Accepts states k list → Accepts (front ++ map (shifted (length front)) states) (k + length front) list
  shift-forth [] k (state, is, good) = (shifted (length front) state, shifted-there k state is, good)
  shift-forth (rank ∷ list) k (state, edge, is, held, by, next) =
      (shifted (length front) state, shifted_edge (length front) edge, shifted-there k state is, Contains-by (shifted_edge (length front)) state.edges edge held, by, shift-forth list edge.to next)

  pub shift-back : IsTrim states → (list : List ℕ) (k : ℕ) → k < length states → Accepts (front ++ map (shifted (length front)) states) (k + length front) list → Accepts states k list
  shift-back trim [] k inside (state, is, good) =
      let (here, at) = get-some states k inside in
      let same : state ≡ shifted (length front) here = same-some state (shifted (length front) here) (slice_get all (k + length front)) is (shifted-there k here at) in
      (here, at, subst (λ (s : StateValue). (s.accepts ≡ true)) same good)
  shift-back trim (rank ∷ list) k inside (state, edge, is, held, by, next) =
      let (here, at) = get-some states k inside in
      let same : state ≡ shifted (length front) here = same-some state (shifted (length front) here) (slice_get all (k + length front)) is (shifted-there k here at) in
      let (from, on, moved) = Contains-from (shifted_edge (length front)) here.edges edge (subst (λ (s : StateValue). Contains s.edges edge) same held) in (
        here,
        from,
        at,
        on,
        sym (ap (λ (e : Edge). e.rank) moved) ∙ by,
        shift-back trim list from.to (edge-there states trim k here from at on) (subst (λ (e : Edge). Accepts all e.to list) moved next),
      )

  rising-shifted : (edges : List Edge) → AllPairs (λ (low : Edge) (high : Edge). low.rank < high.rank) edges
      → AllPairs (λ (low : Edge) (high : Edge). low.rank < high.rank) (map (shifted_edge (length front)) edges)
  rising-shifted [] rising = λ i j d less within. absurd (omega (arith, less, within))
  rising-shifted (edge ∷ edges) rising =
      AllPairs-append (λ (low : Edge) (high : Edge). low.rank < high.rank) (shifted_edge (length front) edge ∷ []) (map (shifted_edge (length front)) edges)
      (λ i j d less within. absurd (omega (arith, less, within)))
      (rising-shifted edges (AllPairs-tail (λ (low : Edge) (high : Edge). low.rank < high.rank) edge edges rising))
      (λ low high here there. (let (from, held, is) = Contains-from (shifted_edge (length front)) edges high there in
      let first : low ≡ shifted_edge (length front) edge = elim (Contains-cases (shifted_edge (length front) edge) [] low here) [ inl same ↦ same | inr none ↦ absurd (Contains-none low none) ] in
      let less : edge.rank < from.rank = AllPairs-head (λ (low : Edge) (high : Edge). low.rank < high.rank) edge edges rising from held in
      let left : low.rank ≡ edge.rank = ap (λ (e : Edge). e.rank) first in
      let right : high.rank ≡ from.rank = ap (λ (e : Edge). e.rank) is in
      omega (arith, less, left, right)))

  -- one trim automaton behind another
  pub both-trim : IsTrim front → IsTrim states → IsTrim (front ++ map (shifted (length front)) states)
  both-trim before behind = λ state held. elim (Contains-append_cases front (map (shifted (length front)) states) state held) [
    | inl old ↦ record {
      rising = (before state old).rising;
      alive = λ edge on. (let (list, accepts) = (before state old).alive edge on in (list, accepts-more front (map (shifted (length front)) states) list edge.to accepts));
    }
    | inr new ↦ (let (from, there, is) = Contains-from (shifted (length front)) states state new in
        subst (IsTrimState (front ++ map (shifted (length front)) states)) (sym is) (record {
          rising = rising-shifted from.edges (behind from there).rising;
          alive = λ edge on. (let (old, inside, moved) = Contains-from (shifted_edge (length front)) from.edges edge on in
              let (list, accepts) = (behind from there).alive old inside in
              (list, subst (λ (e : Edge). Accepts (front ++ map (shifted (length front)) states) e.to list) (sym moved) (shift-forth list old.to accepts)));
        }))
  ]
