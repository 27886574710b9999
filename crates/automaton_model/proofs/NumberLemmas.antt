-- A walk with a bound on its steps, and the numbers that it gives.
use Rattle.std.proofs.Common.{◌≡◌, ◌≢◌, ℕ, zero, suc, ◌+◌, ◌≤◌, ◌<◌, ◌⊎◌, inl, inr, Bool, true, false, cond, not, Some, List, [], ◌∷◌, ◌++◌, map, length, get_or, refl, sym, ap, ◌∙◌, subst, arith, length-append}
use Rattle.std.specs.Bool.{◌==◌}
use Rattle.std.specs.List.{AllPairs, AllZip, Contains, slice_get}
use Rattle.std.proofs.lemmas.Bool.{cases_eq, eqb-true, eqb-false}
use Rattle.std.proofs.lemmas.Bool.Decides.{Decides-eqb}
use Rattle.std.proofs.lemmas.Option.{slice_get_within, get_or_from_slice_get}
use Rattle.std.proofs.lemmas.List.{length-map}
use Rattle.std.proofs.lemmas.List.Elements.{Contains-get_or}
use Rattle.std.proofs.lemmas.List.Kept.{AllPairs-cons}
use Rattle.std.proofs.lemmas.Map.Steps.{length-le_from_distinct_below}
use Rattle.std.proofs.lemmas.Map.Made.{IsDistinct-from_AllPairs}
use Rattle.std.proofs.lemmas.Map.Views.{Contains-from_any}
use Rattle.mine_model.proofs.ListLemmas.{Contains-cases, Contains-first, Contains-other, Contains-none, Contains-from, AllPairs-tail, AllPairs-head}
use Rattle.mine_model.proofs.ElementLemmas.{get-some}
use Rattle.automaton_model.specs.Automata.{Edge, StateValue, Accepts, code_of}
use Rattle.automaton_model.specs.Codes.{IsCodeOf}
use Rattle.automaton_model.specs.Registry.{IsRegistry}
use Rattle.automaton_model.specs.Walks.{Reaches, Path, IsVisited, IsWalk, paths_from, IsRenumberedEdge, IsRenumbered, states_of, number_in, renumbered_edge, renumbered, dead_state}
use Rattle.automaton_model.proofs.WalkLemmas.{reaches-join, walk-begin, walk-skip, walk-visit, walk-end}

abbrev pub new_states : List StateValue → List ℕ → List ℕ → List StateValue
new_states states visited part = map (λ k. renumbered visited (get_or states k dead_state)) part

visited_decided : (visits : List Path) (state : ℕ) → IsVisited visits state ⊎ (IsVisited visits state → ⊥)
visited_decided [] state = inr (λ (visit, held, same). Contains-none visit held)
visited_decided (visit ∷ visits) state = elim (cases_eq visit.state state) [
  | inl same ↦ inl (visit, Contains-first visit visits, same)
  | inr other ↦ elim (visited_decided visits state) [
    | inl some ↦ (let (v, held, same) = some in inl (v, Contains-other visit visits v held, same))
    | inr none ↦ inr (λ (v, held, same). elim (Contains-cases visit visits v held) [
      | inl is ↦ other (sym (ap (λ (w : Path). w.state) is) ∙ same)
      | inr later ↦ none (v, later, same)
    ])
  ]
]

found_first : (first : Path) (visits : List Path) (state : ℕ) (b : Bool) → state == first.state ≡ b
    → (b ≡ false → (v : Path) × (slice_get visits (number_in (states_of visits) state) ≡ Some v) × (v.state ≡ state))
    → (v : Path) × (slice_get (first ∷ visits) (cond (not b) (1 + number_in (states_of visits) state) 0) ≡ Some v) × (v.state ≡ state)
found_first first visits state true e rest = (first, refl, sym (eqb-true state first.state e))
found_first first visits state false e rest =
    let (v, at, same) = rest refl in
    let next : suc (number_in (states_of visits) state) ≡ 1 + number_in (states_of visits) state = omega arith in
    (v, subst (λ k. slice_get (first ∷ visits) k ≡ Some v) next at, same)

numbered : (visits : List Path) (state : ℕ) → IsVisited visits state → (visit : Path) × (slice_get visits (number_in (states_of visits) state) ≡ Some visit) × (visit.state ≡ state)
numbered [] state (visit, held, same) = absurd (Contains-none visit held)
numbered (first ∷ visits) state (visit, held, same) =
    found_first first visits state (state == first.state) refl (λ other. elim (Contains-cases first visits visit held) [
      | inl is ↦ absurd (eqb-false state first.state other (sym same ∙ ap (λ (w : Path). w.state) is))
      | inr later ↦ numbered visits state (visit, later, same)
    ])

module _ (states : List StateValue) (registry : IsRegistry states) where
  -- where a path leads to stands a state
  pub standing_at : (i : ℕ) (s : StateValue) → slice_get states i ≡ Some s → (xs : List ℕ) (j : ℕ) → Reaches states i xs j → (t : StateValue) × (slice_get states j ≡ Some t)
  standing_at i s is [] j reached = (s, subst (λ n. slice_get states n ≡ Some s) reached is)
  standing_at i s is (w ∷ xs) j (t, e, also, held, rank, next) =
      let (u, u_is) = get-some states e.to (omega (arith, (registry.kept i t also).back e held, slice_get_within states i s is)) in standing_at e.to u u_is xs j next

module _ (states : List StateValue) (registry : IsRegistry states) (root : ℕ) (some : StateValue) (some_is : slice_get states root ≡ Some some) where
  module _ (visits : List Path) (walk : IsWalk states root visits []) where
    -- an edge of a visited state leads to a visited one
    pub target : (visit : Path) → Contains visits visit → (old : StateValue) → slice_get states visit.state ≡ Some old → (e : Edge) → Contains old.edges e → IsVisited visits e.to
    target visit held old old_is e inside =
        elim (walk.all (visit.prefix ++ e.rank ∷ []) e.to (reaches-join states registry visit.prefix (e.rank ∷ []) root visit.state e.to (walk.visited visit held) (old, e, old_is, inside, refl, refl))) [
          | inl done ↦ done
          | inr ahead ↦ (let (path, more, waits, cut, rest) = ahead in absurd (Contains-none path waits))
        ]

    edges_zip : (visit : Path) → Contains visits visit → (old : StateValue) → slice_get states visit.state ≡ Some old
        → (edges : List Edge) → ((e : Edge) → Contains edges e → Contains old.edges e) → AllZip (IsRenumberedEdge visits) edges (map (renumbered_edge (states_of visits)) edges)
    edges_zip visit held old old_is [] among = tt
    edges_zip visit held old old_is (e ∷ edges) among = (
      (let (v, at, same) = numbered visits e.to (target visit held old old_is e (among e (Contains-first e edges))) in
          record { rank = refl; visit = v; numbered = at; same = same }),
      edges_zip visit held old old_is edges (λ f inside. among f (Contains-other e edges f inside)),
    )

    -- a visited state stands in the registry
    stands_there : (visit : Path) → Contains visits visit → (old : StateValue) × (slice_get states visit.state ≡ Some old)
    stands_there visit held = standing_at states registry root some some_is visit.prefix visit.state (walk.visited visit held)

    states_zip : (part : List Path) → ((visit : Path) → Contains part visit → Contains visits visit) → AllZip (IsRenumbered states visits) part (new_states states (states_of visits) (states_of part))
    states_zip [] among = tt
    states_zip (visit ∷ part) among = (
      (let held = among visit (Contains-first visit part) in
          let (old, old_is) = stands_there visit held in
          let same : old ≡ get_or states visit.state dead_state = sym (get_or_from_slice_get states visit.state old dead_state old_is) in
          subst (λ (s : StateValue). IsRenumbered states visits visit (renumbered (states_of visits) s)) same
          (record { old = old; old_is = old_is; accepts = refl; edges = edges_zip visit held old old_is old.edges (λ e inside. inside) })),
      states_zip part (λ v held. among v (Contains-other visit part v held)),
    )

    -- the code that the walk gives
    pub walk-code : IsCodeOf (Accepts states root) (code_of (new_states states (states_of visits) (states_of visits)))
    walk-code = (
      new_states states (states_of visits) (states_of visits),
      walk-end states registry root visits walk some some_is (new_states states (states_of visits) (states_of visits)) (states_zip visits (λ v held. held)),
      refl,
    )

  -- The walk comes to an end

  pub below-length : (visits waiting : List Path) → IsWalk states root visits waiting → length visits ≤ length states
  below-length visits waiting walk =
      let state : Path → ℕ = λ (w : Path). w.state in
      let apart : AllPairs (λ x y. x ≢ y) (map state visits) = apart_states visits walk.once in
      let few : length (map state visits) ≤ length states = length-le_from_distinct_below (map state visits) (length states) (IsDistinct-from_AllPairs Decides-eqb (map state visits) apart)
      (λ q found.
      let (v, held, same) = Contains-from state visits q (Contains-from_any (λ x y. eqb-true x y) q (map state visits) found) in
      let (s, s_is) = standing_at states registry root some some_is v.prefix v.state (walk.visited v held) in
      let below : v.state < length states = slice_get_within states v.state s s_is in
      omega (arith, below, same)) in
      omega (arith, few, length-map visits state)
    where
      apart_states : (xs : List Path) → AllPairs (λ (one : Path) (other : Path). one.state ≢ other.state) xs → AllPairs (λ x y. x ≢ y) (map (λ (w : Path). w.state) xs)
      apart_states [] once = λ i j e less inside. absurd (omega (arith, inside))
      apart_states (x ∷ xs) once =
          AllPairs-cons (λ (p : ℕ) q. p ≢ q) x.state (map (λ (w : Path). w.state) xs)
          (λ k d below same.
          let (v, held, is) = Contains-from (λ (w : Path). w.state) xs (get_or (map (λ (w : Path). w.state) xs) k d) (Contains-get_or (map (λ (w : Path). w.state) xs) k d below) in
          AllPairs-head (λ (one : Path) (other : Path). one.state ≢ other.state) x xs once v held (same ∙ is))
          (apart_states xs (AllPairs-tail (λ (one : Path) (other : Path). one.state ≢ other.state) x xs once))

  abbrev Done : Type 0
  Done = (done : List Path) × IsWalk states root done []

  abbrev Goes : ℕ → Type 0
  Goes left = (waiting visits : List Path) → IsWalk states root visits waiting → length states ≤ left + length visits → Done

  -- where all states are visited, what waits is passed
  walk_over : Goes 0
  walk_over [] visits walk most = (visits, walk)
  walk_over (path ∷ waiting) visits walk most = elim (visited_decided visits path.state) [
    | inl seen ↦ walk_over waiting visits (walk-skip states registry root visits path waiting walk seen) most
    | inr fresh ↦
        let (s, s_is) = standing_at states registry root some some_is path.prefix path.state (walk.reached path (Contains-first path waiting)) in
        let more : IsWalk states root (visits ++ path ∷ []) (paths_from path s.edges ++ waiting) = walk-visit states registry root visits path waiting walk fresh s s_is in
        absurd (omega (arith, most, below-length (visits ++ path ∷ []) (paths_from path s.edges ++ waiting) more, length-append visits (path ∷ [])))
  ]

  walk_by : (left : ℕ) → Goes left → Goes (suc left)
  walk_by left next [] visits walk most = (visits, walk)
  walk_by left next (path ∷ waiting) visits walk most = elim (visited_decided visits path.state) [
    | inl seen ↦ walk_by left next waiting visits (walk-skip states registry root visits path waiting walk seen) most
    | inr fresh ↦
        let (s, s_is) = standing_at states registry root some some_is path.prefix path.state (walk.reached path (Contains-first path waiting)) in
        next (paths_from path s.edges ++ waiting) (visits ++ path ∷ []) (walk-visit states registry root visits path waiting walk fresh s s_is)
        (omega (arith, most, length-append visits (path ∷ [])))
  ]

  walk_all : (left : ℕ) → Goes left
  walk_all zero = walk_over
  walk_all (suc left) = walk_by left (walk_all left)

  -- EACH STATE of a registry has a code of what it accepts
  pub state-code : (code : List ℕ) × IsCodeOf (Accepts states root) code
  state-code =
      let (visits, walk) = walk_all (length states) ((record { prefix = []; state = root }) ∷ []) [] (walk-begin states registry root) (omega arith) in
      (code_of (new_states states (states_of visits) (states_of visits)), walk-code visits walk)
