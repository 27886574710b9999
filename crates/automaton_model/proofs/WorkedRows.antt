-- Worked codes: of no list; of one list; of three lists, where two of their rests are one state.
use Rattle.std.proofs.Common.{◌≡◌, ◌≢◌, ℕ, ◌<◌, true, false, List, [], ◌∷◌, map, length, get_or, refl, sym, ap, ◌∙◌, arith, true≢false}
use Rattle.std.specs.List.{AllPairs, AllByRecursion, Contains}
use Rattle.std.proofs.lemmas.List.Kept.{AllPairs-cons}
use Rattle.std.proofs.lemmas.List.Elements.{Contains-get_or}
use Rattle.mine_model.proofs.ListLemmas.{Contains-none, AllByRecursion-contained, Contains-from}
use Rattle.automaton_model.specs.Automata.{Edge, StateValue, Accepts}
use Rattle.automaton_model.specs.Codes.{IsCodeOf}
use Rattle.automaton_model.specs.Registry.{IsRegistry}
use Rattle.automaton_model.specs.Languages.{IsRightLanguageOf, IsEdgeOf, IsStateOf}
use Rattle.automaton_model.specs.Walks.{Path, IsVisited, IsWalk}
use Rattle.automaton_model.proofs.AutomatonLemmas.{code-also}
use Rattle.automaton_model.proofs.LanguageLemmas.{node-stays, node-pushed, registry-pushed}
use Rattle.automaton_model.proofs.WalkLemmas.{walk-begin, walk-skip, walk-visit}
use Rattle.automaton_model.proofs.NumberLemmas.{walk-code}
use Rattle.automaton_model.proofs.ExistenceLemmas.{tails, tails-exact, has_empty, empty-exact, edges_rise, no_states}

abbrev Rises : List ℕ → Type 0
Rises [] = Unit {0}
Rises (x ∷ xs) = AllByRecursion (λ y. x < y) xs × Rises xs

rises_pairs : (xs : List ℕ) → Rises xs → AllPairs (λ low high. low < high) xs
rises_pairs [] rises = λ i j e less inside. absurd (omega (arith, inside))
rises_pairs (x ∷ xs) rises =
    AllPairs-cons (λ low high. low < high) x xs
    (λ k d below. AllByRecursion-contained (λ y. x < y) xs (get_or xs k d) rises.0 (Contains-get_or xs k d below)) (rises_pairs xs rises.1)

abbrev ranks_of : List Edge → List ℕ
ranks_of edges = map (λ (edge : Edge). edge.rank) edges

abbrev HasHead : List ℕ → List ℕ → Type 0
HasHead ranks [] = Unit {0}
HasHead ranks (x ∷ xs) = Contains ranks x

abbrev IsEdgeTold : List (List ℕ) → List StateValue → Edge → Type 0
IsEdgeTold lists states edge =
    (edge.to < length states) × ((more : List ℕ) × Contains lists (edge.rank ∷ more)) × IsRightLanguageOf (Contains (tails edge.rank lists)) states edge.to

edge_told : (lists : List (List ℕ)) (states : List StateValue) (edge : Edge) → IsEdgeTold lists states edge → IsEdgeOf (Contains lists) states edge
edge_told lists states edge told = record {
  inside = told.0;
  more = told.1.0;
  begins = told.1.1;
  node = λ ranks. (
    (λ a. (tails-exact edge.rank lists ranks).0 ((told.2 ranks).0 a)),
    (λ m. (told.2 ranks).1 ((tails-exact edge.rank lists ranks).1 m)),
  );
}

-- a state, told by what computes
state_told : (lists : List (List ℕ)) (states : List StateValue) (edges : List Edge) → Rises (ranks_of edges) → AllByRecursion (IsEdgeTold lists states) edges
    → AllByRecursion (HasHead (ranks_of edges)) lists → IsStateOf (Contains lists) states (record { accepts = has_empty lists; edges = edges })
state_told lists states edges rises told heads = record {
  accepts = empty-exact lists;
  rising = edges_rise edges (ranks_of edges) refl (rises_pairs (ranks_of edges) rises);
  edge = λ edge held. edge_told lists states edge (AllByRecursion-contained (IsEdgeTold lists states) edges edge told held);
  all = λ rank ranks member.
      (let (edge, inside, same) = Contains-from (λ (edge : Edge). edge.rank) edges rank (AllByRecursion-contained (HasHead (ranks_of edges)) lists (rank ∷ ranks) heads member) in
      (edge, inside, sym same));
}

abbrev AreOther : StateValue → List StateValue → Type 0
AreOther state states = AllByRecursion (λ (other : StateValue). other ≢ state) states

not_there : (state : StateValue) (states : List StateValue) → AreOther state states → (other : StateValue) → Contains states other → other ≢ state
not_there state states others other held = AllByRecursion-contained (λ (s : StateValue). s ≢ state) states other others held

not_seen : (visits : List Path) (state : ℕ) → AllByRecursion (λ (v : Path). v.state ≢ state) visits → IsVisited visits state → ⊥
not_seen visits state others (visit, held, same) = AllByRecursion-contained (λ (v : Path). v.state ≢ state) visits visit others held same

abbrev edge_of : ℕ → ℕ → Edge
edge_of rank to = record { rank = rank; to = to }

abbrev path_of : List ℕ → ℕ → Path
path_of prefix state = record { prefix = prefix; state = state }

-- No list

abbrev none : List StateValue
none = (record { accepts = false; edges = [] }) ∷ []

none_state : IsStateOf (Contains []) [] (record { accepts = false; edges = [] })
none_state = state_told [] [] [] tt tt tt

none_registry : IsRegistry none
none_registry = registry-pushed [] no_states (Contains []) (record { accepts = false; edges = [] }) none_state (λ other held. absurd (Contains-none other held))

none_walk : IsWalk none 0 (path_of [] 0 ∷ []) []
none_walk = walk-visit none none_registry 0 [] (path_of [] 0) [] (walk-begin none none_registry 0) (not_seen [] 0 tt) (record { accepts = false; edges = [] }) refl

pub code-of_none : IsCodeOf (Contains []) (0 ∷ 0 ∷ [])
code-of_none = code-also (Accepts none 0) (Contains []) (node-pushed [] no_states (Contains []) (record { accepts = false; edges = [] }) none_state) (0 ∷ 0 ∷ [])
    (walk-code none none_registry 0 (record { accepts = false; edges = [] }) refl (path_of [] 0 ∷ []) none_walk)

-- The states that both other rows share: of the empty list, and of 1

abbrev last : StateValue
last = record { accepts = true; edges = [] }

abbrev before : StateValue
before = record { accepts = false; edges = edge_of 1 0 ∷ [] }

last_state : IsStateOf (Contains ([] ∷ [])) [] last
last_state = state_told ([] ∷ []) [] [] tt tt (tt, tt)

last_registry : IsRegistry (last ∷ [])
last_registry = registry-pushed [] no_states (Contains ([] ∷ [])) last last_state (λ other held. absurd (Contains-none other held))

last_node : IsRightLanguageOf (Contains ([] ∷ [])) (last ∷ []) 0
last_node = node-pushed [] no_states (Contains ([] ∷ [])) last last_state

accepts_differ : (s t : StateValue) → s.accepts ≡ true → t.accepts ≡ false → s ≢ t
accepts_differ s t p q same = true≢false (sym p ∙ ap (λ (x : StateValue). x.accepts) same ∙ q)

edges_differ : (s t : StateValue) → (length s.edges ≡ length t.edges → ⊥) → s ≢ t
edges_differ s t differ same = differ (ap (λ (x : StateValue). length x.edges) same)

before_state : IsStateOf (Contains ((1 ∷ []) ∷ [])) (last ∷ []) before
before_state = state_told ((1 ∷ []) ∷ []) (last ∷ []) (edge_of 1 0 ∷ []) (tt, tt)
    ((omega arith, ([], (0, omega arith, refl)), last_node), tt) ((0, omega arith, refl), tt)

before_registry : IsRegistry (last ∷ before ∷ [])
before_registry = registry-pushed (last ∷ []) last_registry (Contains ((1 ∷ []) ∷ [])) before before_state
    (not_there before (last ∷ []) (accepts_differ last before refl refl, tt))

before_node : IsRightLanguageOf (Contains ((1 ∷ []) ∷ [])) (last ∷ before ∷ []) 1
before_node = node-pushed (last ∷ []) last_registry (Contains ((1 ∷ []) ∷ [])) before before_state

last_node_later : IsRightLanguageOf (Contains ([] ∷ [])) (last ∷ before ∷ []) 0
last_node_later = node-stays (last ∷ []) last_registry (Contains ([] ∷ [])) (before ∷ []) 0 (omega arith) last_node

-- 3 1 alone

abbrev first_of_one : StateValue
first_of_one = record { accepts = false; edges = edge_of 3 1 ∷ [] }

abbrev one : List StateValue
one = last ∷ before ∷ first_of_one ∷ []

abbrev one_list : List (List ℕ)
one_list = (3 ∷ 1 ∷ []) ∷ []

one_state : IsStateOf (Contains one_list) (last ∷ before ∷ []) first_of_one
one_state = state_told one_list (last ∷ before ∷ []) (edge_of 3 1 ∷ []) (tt, tt)
    ((omega arith, (1 ∷ [], (0, omega arith, refl)), before_node), tt) ((0, omega arith, refl), tt)

ranks_differ : edge_of 1 0 ≡ edge_of 3 1 → ⊥
ranks_differ same = (let e : 1 ≡ 3 = ap (λ (x : Edge). x.rank) same in absurd (omega (arith, e)))

before_other : before ≢ first_of_one
before_other same = (let e : edge_of 1 0 ∷ [] ≡ edge_of 3 1 ∷ [] = ap (λ (x : StateValue). x.edges) same in ranks_differ (cc))

one_registry : IsRegistry one
one_registry = registry-pushed (last ∷ before ∷ []) before_registry (Contains one_list) first_of_one one_state
    (not_there first_of_one (last ∷ before ∷ []) (accepts_differ last first_of_one refl refl, (before_other, tt)))

abbrev one_visits : List Path
one_visits = path_of [] 2 ∷ path_of (3 ∷ []) 1 ∷ path_of (3 ∷ 1 ∷ []) 0 ∷ []

one_walk : IsWalk one 2 one_visits []
one_walk =
    walk-visit one one_registry 2 (path_of [] 2 ∷ path_of (3 ∷ []) 1 ∷ []) (path_of (3 ∷ 1 ∷ []) 0) []
    (walk-visit one one_registry 2 (path_of [] 2 ∷ []) (path_of (3 ∷ []) 1) []
    (walk-visit one one_registry 2 [] (path_of [] 2) [] (walk-begin one one_registry 2) (not_seen [] 2 tt) first_of_one refl)
    (not_seen (path_of [] 2 ∷ []) 1 ((λ e. absurd (omega (arith, e))), tt)) before refl)
    (not_seen (path_of [] 2 ∷ path_of (3 ∷ []) 1 ∷ []) 0 ((λ e. absurd (omega (arith, e))), ((λ e. absurd (omega (arith, e))), tt))) last refl

pub code-of_one : IsCodeOf (Contains one_list) (0 ∷ 1 ∷ 3 ∷ 1 ∷ 0 ∷ 1 ∷ 1 ∷ 2 ∷ 1 ∷ 0 ∷ [])
code-of_one = code-also (Accepts one 2) (Contains one_list) (node-pushed (last ∷ before ∷ []) before_registry (Contains one_list) first_of_one one_state)
    (0 ∷ 1 ∷ 3 ∷ 1 ∷ 0 ∷ 1 ∷ 1 ∷ 2 ∷ 1 ∷ 0 ∷ []) (walk-code one one_registry 2 first_of_one refl one_visits one_walk)

-- 3 1, 3 2 1 and 3 3 1

abbrev middle : StateValue
middle = record { accepts = false; edges = edge_of 1 0 ∷ edge_of 2 1 ∷ edge_of 3 1 ∷ [] }

abbrev first_of_three : StateValue
first_of_three = record { accepts = false; edges = edge_of 3 2 ∷ [] }

abbrev up_to_middle : List StateValue
up_to_middle = last ∷ before ∷ middle ∷ []

abbrev three : List StateValue
three = last ∷ before ∷ middle ∷ first_of_three ∷ []

abbrev middle_lists : List (List ℕ)
middle_lists = (1 ∷ []) ∷ (2 ∷ 1 ∷ []) ∷ (3 ∷ 1 ∷ []) ∷ []

abbrev three_lists : List (List ℕ)
three_lists = (3 ∷ 1 ∷ []) ∷ (3 ∷ 2 ∷ 1 ∷ []) ∷ (3 ∷ 3 ∷ 1 ∷ []) ∷ []

middle_state : IsStateOf (Contains middle_lists) (last ∷ before ∷ []) middle
middle_state = state_told middle_lists (last ∷ before ∷ []) (edge_of 1 0 ∷ edge_of 2 1 ∷ edge_of 3 1 ∷ [])
    ((omega arith, (omega arith, tt)), ((omega arith, tt), (tt, tt))) (
      (omega arith, ([], (0, omega arith, refl)), last_node_later),
      (
        (omega arith, (1 ∷ [], (1, omega arith, refl)), before_node),
        ((omega arith, (1 ∷ [], (2, omega arith, refl)), before_node), tt),
      ),
    )
    ((0, omega arith, refl), ((1, omega arith, refl), ((2, omega arith, refl), tt)))

middle_registry : IsRegistry up_to_middle
middle_registry = registry-pushed (last ∷ before ∷ []) before_registry (Contains middle_lists) middle middle_state
    (not_there middle (last ∷ before ∷ []) (accepts_differ last middle refl refl, (edges_differ before middle (λ e. absurd (omega (arith, e))), tt)))

middle_node : IsRightLanguageOf (Contains middle_lists) up_to_middle 2
middle_node = node-pushed (last ∷ before ∷ []) before_registry (Contains middle_lists) middle middle_state

three_state : IsStateOf (Contains three_lists) up_to_middle first_of_three
three_state = state_told three_lists up_to_middle (edge_of 3 2 ∷ []) (tt, tt)
    ((omega arith, (1 ∷ [], (0, omega arith, refl)), middle_node), tt)
    ((0, omega arith, refl), ((0, omega arith, refl), ((0, omega arith, refl), tt)))

before_other_too : before ≢ first_of_three
before_other_too same = (let e : edge_of 1 0 ∷ [] ≡ edge_of 3 2 ∷ [] = ap (λ (x : StateValue). x.edges) same in
    let f : edge_of 1 0 ≡ edge_of 3 2 = cc in let g : 1 ≡ 3 = ap (λ (x : Edge). x.rank) f in absurd (omega (arith, g)))

three_registry : IsRegistry three
three_registry = registry-pushed up_to_middle middle_registry (Contains three_lists) first_of_three three_state
    (not_there first_of_three up_to_middle (
      accepts_differ last first_of_three refl refl,
      (before_other_too, (edges_differ middle first_of_three (λ e. absurd (omega (arith, e))), tt)),
    ))

abbrev three_visits : List Path
three_visits = path_of [] 3 ∷ path_of (3 ∷ []) 2 ∷ path_of (3 ∷ 1 ∷ []) 0 ∷ path_of (3 ∷ 2 ∷ []) 1 ∷ []

three_walk : IsWalk three 3 three_visits []
three_walk =
    let begun = walk-visit three three_registry 3 [] (path_of [] 3) [] (walk-begin three three_registry 3) (not_seen [] 3 tt) first_of_three refl in
    let second = walk-visit three three_registry 3 (path_of [] 3 ∷ []) (path_of (3 ∷ []) 2) [] begun
    (not_seen (path_of [] 3 ∷ []) 2 ((λ e. absurd (omega (arith, e))), tt)) middle refl in
    let third = walk-visit three three_registry 3 (path_of [] 3 ∷ path_of (3 ∷ []) 2 ∷ []) (path_of (3 ∷ 1 ∷ []) 0) (path_of (3 ∷ 2 ∷ []) 1 ∷ path_of (3 ∷ 3 ∷ []) 1 ∷ []) second
    (not_seen (path_of [] 3 ∷ path_of (3 ∷ []) 2 ∷ []) 0 ((λ e. absurd (omega (arith, e))), ((λ e. absurd (omega (arith, e))), tt))) last refl in
    let fourth = walk-visit three three_registry 3 (path_of [] 3 ∷ path_of (3 ∷ []) 2 ∷ path_of (3 ∷ 1 ∷ []) 0 ∷ []) (path_of (3 ∷ 2 ∷ []) 1) (path_of (3 ∷ 3 ∷ []) 1 ∷ []) third
    (not_seen (path_of [] 3 ∷ path_of (3 ∷ []) 2 ∷ path_of (3 ∷ 1 ∷ []) 0 ∷ []) 1
    ((λ e. absurd (omega (arith, e))), ((λ e. absurd (omega (arith, e))), ((λ e. absurd (omega (arith, e))), tt)))) before refl in
    let fifth = walk-skip three three_registry 3 three_visits (path_of (3 ∷ 2 ∷ 1 ∷ []) 0) (path_of (3 ∷ 3 ∷ []) 1 ∷ []) fourth
    (path_of (3 ∷ 1 ∷ []) 0, (2, omega arith, refl), refl) in
    walk-skip three three_registry 3 three_visits (path_of (3 ∷ 3 ∷ []) 1) [] fifth (path_of (3 ∷ 2 ∷ []) 1, (3, omega arith, refl), refl)

abbrev three_code : List ℕ
three_code = 0 ∷ 1 ∷ 3 ∷ 1 ∷ 0 ∷ 3 ∷ 1 ∷ 2 ∷ 2 ∷ 3 ∷ 3 ∷ 3 ∷ 1 ∷ 0 ∷ 0 ∷ 1 ∷ 1 ∷ 2 ∷ []

pub code-of_three : IsCodeOf (Contains three_lists) three_code
code-of_three = code-also (Accepts three 3) (Contains three_lists) (node-pushed up_to_middle middle_registry (Contains three_lists) first_of_three three_state)
    three_code (walk-code three three_registry 3 first_of_three refl three_visits three_walk)
