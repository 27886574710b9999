-- What states of nodes accept.
use Rattle.std.proofs.Common.{◌≡◌, ℕ, false, ◌+◌, ◌<◌, ◌⊎◌, inl, inr, Bool, IsTrue, Some, None, List, [], ◌∷◌, ◌++◌, length, get_or, refl, sym, ap, ◌∙◌, subst, arith, length-append, append_assoc, take}
use Rattle.std.specs.List.{AllZip, AllPairs, Contains, slice_get}
use Rattle.std.proofs.lemmas.Bool.{cases_lt}
use Rattle.std.proofs.lemmas.Option.{same_Some, slice_get_within, get_or_from_slice_get}
use Rattle.std.proofs.lemmas.List.{take_more}
use Rattle.std.proofs.lemmas.Slice.Zip.{AllZip-long, all_zipped_more}
use Rattle.mine_model.proofs.ElementLemmas.{get-some, same-some, get-place}
use Rattle.automaton_model.specs.declared.state.Edge.{Edge}
use Rattle.automaton_model.specs.Automata.{StateValue, Accepts as IsAccepted}
use Rattle.automaton_model.specs.Registry.{IsKeptState, IsRegistry}
use Rattle.automaton_model.proofs.LanguageLemmas.{node-stays}
use Rattle.automaton_model.proofs.ZipLemmas.{zip-there, zip-first, zip-second}
use Rattle.candidate_graph.specs.declared.edge.Edge.{Edge as Step}
use Rattle.candidate_graph.specs.Graphs.{Node}
use Rattle.candidate_graph.specs.Paths.{HasEdge, Accepts}
use Rattle.candidate_states.specs.declared.states.Made.{Made}
use Rattle.graph_order.specs.Orders.{IsSomeGraph}
use Rattle.candidate_states.specs.Roots.{IsTrim, IsRootOf}
use Rattle.graph_order.proofs.StepLemmas.{no-step, AreStepsOf, step-edge, step-held}
use Rattle.candidate_states.specs.Kept.{state_in, IsEntered, Follows, IsStateAt, AreStates, Keeps, HasTargets, IsMoved}

-- ---- what stays

-- states stay right where the registry grows
pub states-stay : (nodes : List Node) (states more : List StateValue) (made : List Made) → IsRegistry states → AreStates nodes states made → AreStates nodes (states ++ more) made
states-stay nodes states more made registry are node ends number is =
    let at = are node ends number is in
    record {
      inside = omega (arith, at.inside, length-append states more);
      language = node-stays states registry (Follows nodes node ends) more number at.inside at.language;
    }

pub keeps-all : (one two three : List Made) → Keeps one two → Keeps two three → Keeps one three
keeps-all one two three first second node ends number is = second node ends number (first node ends number is)

pub targets-stay : (nodes : List Node) (before now : List Made) (node : ℕ) → Keeps before now → HasTargets nodes before node → HasTargets nodes now node
targets-stay nodes before now node keeps has rank edge held =
    let (number, is) = has rank edge held in (number, keeps edge.next edge.ends number is)

-- a state is entered where there was none
module _ (before now : List Made) (node : ℕ) (ends : Bool) (state : ℕ) (entered : IsEntered before now node ends state) where
  pub entered-keeps : state_in before node ends ≡ None → Keeps before now
  entered-keeps none other flag number is = elim (entered.others other flag) [
    | inl (here, same) ↦ (let was : state_in before node ends ≡ Some number = ap (state_in before node) (sym same) ∙ ap (λ (n : ℕ). state_in before n flag) (sym here) ∙ is in absurd (cc))
    | inr stays ↦ stays ∙ is
  ]

  pub entered-states : (nodes : List Node) (states : List StateValue) → AreStates nodes states before → IsStateAt nodes states node ends state → AreStates nodes states now
  entered-states nodes states are new other flag number is = elim (entered.others other flag) [
    | inl (here, same) ↦
        let there : state_in now node ends ≡ Some number = ap (state_in now node) (sym same) ∙ ap (λ (n : ℕ). state_in now n flag) (sym here) ∙ is in
        let one : state ≡ number = same_Some state number (sym entered.here ∙ there) in
        subst (λ (n : ℕ). IsStateAt nodes states n flag number) (sym here)
        (subst (λ (f : Bool). IsStateAt nodes states node f number) (sym same) (subst (IsStateAt nodes states node ends) one new))
    | inr stays ↦ are other flag number (sym stays ∙ is)
  ]

-- ---- no states, and one more

-- ---- the state of a node

-- ranks rise in edges that belong to steps by rising ranks
rising-moved : (made : List Made) (steps : List Step) (edges : List Edge) → AllZip (IsMoved made) steps edges → AllPairs (λ (low : Step) (high : Step). low.rank < high.rank) steps
    → AllPairs (λ (low : Edge) (high : Edge). low.rank < high.rank) edges
rising-moved made steps edges moved rising i j d less within =
    let long : length edges ≡ length steps = AllZip-long (IsMoved made) steps edges moved in
    let (one, one_is) = get-some steps i (omega (arith, less, within, long)) in
    let (other, other_is) = get-some steps j (omega (arith, within, long)) in
    let (low, low_is, low_moved) = zip-there (IsMoved made) steps edges moved i one one_is in
    let (high, high_is, high_moved) = zip-there (IsMoved made) steps edges moved j other other_is in
    let below : (get_or steps i one).rank < (get_or steps j one).rank = rising i j one less (slice_get_within steps j other other_is) in
    let first : (get_or steps i one).rank ≡ one.rank = ap (λ (s : Step). s.rank) (get_or_from_slice_get steps i one one one_is) in
    let second : (get_or steps j one).rank ≡ other.rank = ap (λ (s : Step). s.rank) (get_or_from_slice_get steps j other one other_is) in
    let left : (get_or edges i d).rank ≡ low.rank = ap (λ (e : Edge). e.rank) (get_or_from_slice_get edges i low d low_is) in
    let right : (get_or edges j d).rank ≡ high.rank = ap (λ (e : Edge). e.rank) (get_or_from_slice_get edges j high d high_is) in
    omega (arith, below, first, second, left, right, low_moved.rank, high_moved.rank)

pub follows-of : (nodes : List Node) (node : ℕ) (ends : Bool) (ranks : List ℕ) → Accepts nodes node ranks → Follows nodes node ends ranks
follows-of nodes node ends [] none = absurd none
follows-of nodes node ends (rank ∷ ranks) accepts = accepts

pub behind : (nodes : List Node) (node : ℕ) (ends : Bool) (ranks : List ℕ) → Follows nodes node ends ranks → ((ranks ≡ []) × IsTrue ends) ⊎ Accepts nodes node ranks
behind nodes node ends [] follows = inl (refl, follows)
behind nodes node ends (rank ∷ ranks) follows = inr follows

pub ahead : (nodes : List Node) (node : ℕ) (ends : Bool) (ranks : List ℕ) → ((ranks ≡ []) × IsTrue ends) ⊎ Accepts nodes node ranks → Follows nodes node ends ranks
ahead nodes node ends [] either = elim either [ inl (none, yes') ↦ yes' | inr none ↦ absurd none ]
ahead nodes node ends (rank ∷ ranks) either = elim either [ inl (none, yes') ↦ absurd (cc) | inr accepts ↦ accepts ]

module _ (nodes : List Node) (states : List StateValue) (made : List Made) (are : AreStates nodes states made) (number : ℕ) (node : Node) (steps : List Step)
    (at : slice_get nodes number ≡ Some node) (known : node.edges ≡ Some steps) (ends : Bool) (edges : List Edge) (moved : AllZip (IsMoved made) steps edges) where
  abbrev state' : StateValue
  state' = record { accepts = ends; edges = edges }

  has-edge : (step : Step) → Contains steps step → HasEdge nodes number step.rank step
  has-edge step held = (node, steps, at, known, held, refl)

  step-taken : (rank : ℕ) (step : Step) → HasEdge nodes number rank step → Contains steps step × (step.rank ≡ rank)
  step-taken rank step (node', steps', at', known', held, is) = (step-held nodes number steps (node, at, known) rank step (node', steps', at', known', held, is), is)

  -- it may be kept behind the others
  pub state-kept : IsSomeGraph nodes → IsTrim nodes → IsKeptState states (length states) state'
  state-kept (courses, ranks, need, graph) trim = record {
    rising = rising-moved made steps edges moved (graph.edges number node steps at known).rising;
    back = λ edge held. (let (step, there, is) = zip-second (IsMoved made) steps edges moved edge held in (are step.next step.ends edge.to is.to).inside);
    alive = λ edge held. (let (step, there, is) = zip-second (IsMoved made) steps edges moved edge held in
        let language = (are step.next step.ends edge.to is.to).language in
        elim (trim number step.rank step (has-edge step there)) [
          | inl yes' ↦ ([], (language []).1 yes')
          | inr (list, accepts) ↦ (list, (language list).1 (follows-of nodes step.next step.ends list accepts))
        ]);
  }

  -- where it stands it accepts what follows
  module _ (place : ℕ) (is : slice_get states place ≡ Some state') where
    forth : (ranks : List ℕ) → IsAccepted states place ranks → Follows nodes number ends ranks
    forth [] (s, s_is, accepts) = subst (λ (x : StateValue). IsTrue x.accepts) (same-some s state' (slice_get states place) s_is is) accepts
    forth (rank ∷ rest) (s, edge, s_is, held, rank_is, more) =
        let inside : Contains edges edge = subst (λ (x : StateValue). Contains x.edges edge) (same-some s state' (slice_get states place) s_is is) held in
        let (step, there, moved_is) = zip-second (IsMoved made) steps edges moved edge inside in
        let follows : Follows nodes step.next step.ends rest = ((are step.next step.ends edge.to moved_is.to).language rest).0 more in
        (step, (node, steps, at, known, there, sym moved_is.rank ∙ rank_is), behind nodes step.next step.ends rest follows)

    back : (ranks : List ℕ) → Follows nodes number ends ranks → IsAccepted states place ranks
    back [] follows = (state', is, follows)
    back (rank ∷ rest) (step, has, either) =
        let (held, rank_is) = step-taken rank step has in
        let (edge, there, moved_is) = zip-first (IsMoved made) steps edges moved step held in
        (state', edge, is, there, moved_is.rank ∙ rank_is, ((are step.next step.ends edge.to moved_is.to).language rest).1 (ahead nodes step.next step.ends rest either))

    pub state-right : IsStateAt nodes states number ends place
    state-right = record { inside = slice_get_within states place state' is; language = λ ranks. (forth ranks, back ranks) }

-- ---- step by step

-- one more is moved
pub moved-more : (made : List Made) (steps : List Step) (k : ℕ) (edges : List Edge) (edge : Edge) → k < length steps → AllZip (IsMoved made) (take k steps) edges
    → IsMoved made (get_or steps k no-step) edge → AllZip (IsMoved made) (take (k + 1) steps) (edges ++ edge ∷ [])
moved-more made steps k edges edge inside moved is =
    subst (λ (l : List Step). AllZip (IsMoved made) l (edges ++ edge ∷ [])) (sym (take_more steps k no-step inside))
    (all_zipped_more (IsMoved made) (take k steps) edges (get_or steps k no-step) edge moved is)

-- ---- steps of a node

module _ (nodes : List Node) (number : ℕ) (list : List Step) (are : AreStepsOf nodes number list) where
  pub steps-made : (made : List Made) → HasTargets nodes made number → (step : Step) → Contains list step → (state : ℕ) × (state_in made step.next step.ends ≡ Some state)
  steps-made made has step held = has step.rank step (step-edge nodes number list are step held)

  pub targets-of : (made : List Made) → ((k : ℕ) (step : Step) → k < length list → slice_get list k ≡ Some step → (state : ℕ) × (state_in made step.next step.ends ≡ Some state))
      → HasTargets nodes made number
  targets-of made each rank step (node, steps, at, known, held, is) =
      let (k, k_at) = get-place list step (step-held nodes number list are rank step (node, steps, at, known, held, is)) in
      each k step (slice_get_within list k step k_at) k_at

-- what was made of the steps so far, and of one more
pub made-more : (steps : List Step) (i : ℕ) (before now : List Made) (state : ℕ) → Keeps before now
    → ((k : ℕ) (step : Step) → k < i → slice_get steps k ≡ Some step → (state : ℕ) × (state_in before step.next step.ends ≡ Some state))
    → state_in now (get_or steps i no-step).next (get_or steps i no-step).ends ≡ Some state
    → (k : ℕ) (step : Step) → k < i + 1 → slice_get steps k ≡ Some step → (state : ℕ) × (state_in now step.next step.ends ≡ Some state)
made-more steps i before now state keeps each new k step below at = elim (cases_lt k i) [
  | inl less ↦ (let (old, is) = each k step less at in (old, keeps step.next step.ends old is))
  | inr most ↦ (
      let same : k ≡ i = omega (arith, below, most) in
      let one : get_or steps i no-step ≡ step = ap (λ (n : ℕ). get_or steps n no-step) (sym same) ∙ get_or_from_slice_get steps k step no-step at in
      (state, subst (λ (s : Step). state_in now s.next s.ends ≡ Some state) one new))
]

-- ---- the whole

pub grows-more : (one two three : List StateValue) → ((more : List StateValue) × (two ≡ one ++ more)) → ((more : List StateValue) × (three ≡ two ++ more)) → (more : List StateValue) × (three ≡ one ++ more)
grows-more one two three (first, is) (second, also) =
    (first ++ second, also ∙ ap (λ (l : List StateValue). l ++ second) is ∙ append_assoc one first second)

pub root-right : (nodes : List Node) (states : List StateValue) (root : ℕ) → IsStateAt nodes states 0 false root → IsRootOf nodes states root
root-right nodes states root at = record {
  inside = at.inside;
  language = λ ranks. ((λ accepts. forth ranks ((at.language ranks).0 accepts)), (λ accepts. (at.language ranks).1 (follows-of nodes 0 false ranks accepts)));
}
  where
    forth : (ranks : List ℕ) → Follows nodes 0 false ranks → Accepts nodes 0 ranks
    forth [] follows = absurd (cc)
    forth (rank ∷ ranks) follows = follows
