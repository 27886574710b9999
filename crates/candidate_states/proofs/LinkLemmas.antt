-- What states of nodes at stages accept.
use Rattle.std.proofs.Common.{◌≡◌, ◌↔◌, ℕ, ◌+◌, ◌≤◌, ◌<◌, ◌⊎◌, inl, inr, Bool, true, false, IsTrue, true≢false, Option, Some, None, List, [], ◌∷◌, ◌++◌, length, get_or, take, refl, sym, ap, ◌∙◌, subst, arith, length-append, set, length-set, get_or-set_same, get_or-set_other}
use Rattle.std.specs.List.{AllPairs, Contains, slice_get}
use Rattle.std.proofs.lemmas.Bool.{cases_eq}
use Rattle.std.proofs.lemmas.List.{take_more, get_or-take, length-take, get_or_default}
use Rattle.std.proofs.lemmas.List.Elements.{Contains-append_left, Contains-append_right, Contains-append_cases}
use Rattle.std.proofs.lemmas.List.Quantifiers.{all_pairs_push}
use Rattle.std.proofs.lemmas.Option.{same_Some, slice_get_within}
use Rattle.mine_model.proofs.ListLemmas.{Contains-cases, Contains-first, Contains-none}
use Rattle.mine_model.proofs.ElementLemmas.{same-some}
use Rattle.automaton_model.specs.declared.state.Edge.{Edge}
use Rattle.automaton_model.specs.Automata.{StateValue, Accepts as IsAccepted}
use Rattle.automaton_model.specs.Registry.{IsKeptState, IsRegistry}
use Rattle.automaton_model.proofs.LanguageLemmas.{node-stays}
use Rattle.automaton_model.specs.Walks.{dead_state}
use Rattle.candidate_graph.specs.declared.edge.Edge.{Edge as Step}
use Rattle.candidate_graph.specs.Graphs.{Node}
use Rattle.candidate_graph.specs.Paths.{HasEdge}
use Rattle.candidate_states.specs.declared.asked.Asked.{Asked}
use Rattle.candidate_states.specs.declared.numbers.Numbers.{Numbers}
use Rattle.candidate_states.specs.declared.stages.Stage.{Stage}
use Rattle.candidate_states.specs.declared.stages.Stage.TheVariants.{Before, Going, Ending}
use Rattle.candidate_states.specs.Roots.{IsPivotRootOf}
use Rattle.candidate_states.specs.Stages.{asked_in, stage_behind, can_end, Completes, IsClosed, unnumbered, number_by, number_in, IsNumbered, IsStageAt, AreNumbered, KeepsNumbers, IsSettledAt, IsSettled, AreLinked}
use Rattle.graph_order.proofs.StepLemmas.{no-step}
use Rattle.candidate_states.proofs.StageLemmas.{completes-root}

-- ---- what stays

pub numbered-stay : (nodes : List Node) (pivot : ℕ) (states more : List StateValue) (numbers : List Numbers) → IsRegistry states → AreNumbered nodes pivot states numbers
    → AreNumbered nodes pivot (states ++ more) numbers
numbered-stay nodes pivot states more numbers registry are node stage number is =
    let at = are node stage number is in
    record {
      inside = omega (arith, at.inside, length-append states more);
      language = node-stays states registry (Completes nodes pivot node stage) more number at.inside at.language;
      some = at.some;
    }

pub numbers-through : (one two three : List Numbers) → KeepsNumbers one two → KeepsNumbers two three → KeepsNumbers one three
numbers-through one two three first second node stage none = first node stage (second node stage none)

pub settled-keeps : (nodes : List Node) (pivot : ℕ) (before now : List Numbers) (node : ℕ) (stage : Stage) → KeepsNumbers before now → IsSettledAt nodes pivot before node stage
    → IsSettledAt nodes pivot now node stage
settled-keeps nodes pivot before now node stage keeps settled none = settled (keeps node stage none)

pub all-settled-keep : (nodes : List Node) (pivot : ℕ) (asked : List Asked) (before now : List Numbers) (node : ℕ) → KeepsNumbers before now → IsSettled nodes pivot asked before node
    → IsSettled nodes pivot asked now node
all-settled-keep nodes pivot asked before now node keeps settled stage is = settled-keeps nodes pivot before now node stage keeps (settled stage is)

-- the numbers of one node were set
pub number-entered : (items : List Numbers) (node : ℕ) (stage : Stage) (number : ℕ) (new : Numbers) → node < length items → number_by new stage ≡ Some number
    → ((other : Stage) → (other ≡ stage) ⊎ (number_by new other ≡ number_by (get_or items node unnumbered) other)) → IsNumbered items (set items node new) node stage number
number-entered items node stage number new below here others = record {
  long = length-set items node new;
  here = ap (λ (n : Numbers). number_by n stage) set_here ∙ here;
  others = λ other flag. elim (cases_eq other node) [
    | inl same ↦ elim (others flag) [
      | inl is ↦ inl (same, is)
      | inr stays ↦ inr (ap (λ (n : ℕ). number_in (set items node new) n flag) same ∙ ap (λ (n : Numbers). number_by n flag) set_here ∙ stays ∙ ap (λ (n : ℕ). number_in items n flag) (sym same))
    ]
    | inr differ ↦ inr (ap (λ (n : Numbers). number_by n flag) (get_or-set_other items node other new unnumbered differ))
  ];
}
  where
    set_here : get_or (set items node new) node unnumbered ≡ new
    set_here = get_or-set_same items node new unnumbered below

-- a state is entered
module _ (before now : List Numbers) (node : ℕ) (stage : Stage) (number : ℕ) (entered : IsNumbered before now node stage number) where
  pub entered-keep : KeepsNumbers before now
  entered-keep other flag none = elim (entered.others other flag) [
    | inl (here, same) ↦ (let is : number_in now other flag ≡ Some number = ap (λ (n : ℕ). number_in now n flag) here ∙ ap (number_in now node) same ∙ entered.here in absurd (cc))
    | inr stays ↦ sym stays ∙ none
  ]

  pub entered-numbered : (nodes : List Node) (pivot : ℕ) (states : List StateValue) → AreNumbered nodes pivot states before → IsStageAt nodes pivot states node stage number
      → AreNumbered nodes pivot states now
  entered-numbered nodes pivot states are new other flag own is = elim (entered.others other flag) [
    | inl (here, same) ↦
        let there : number_in now node stage ≡ Some own = ap (number_in now node) (sym same) ∙ ap (λ (n : ℕ). number_in now n flag) (sym here) ∙ is in
        let one : number ≡ own = same_Some number own (sym entered.here ∙ there) in
        subst (λ (n : ℕ). IsStageAt nodes pivot states n flag own) (sym here)
        (subst (λ (f : Stage). IsStageAt nodes pivot states node f own) (sym same) (subst (IsStageAt nodes pivot states node stage) one new))
    | inr stays ↦ are other flag own (sym stays ∙ is)
  ]

  pub entered-settled : (nodes : List Node) (pivot : ℕ) → IsSettledAt nodes pivot now node stage
  entered-settled nodes pivot none = absurd (cc)
    where
      here : number_in now node stage ≡ Some number
      here = entered.here

-- ---- step by step

module _ (numbers : List Numbers) (pivot : ℕ) (stage : Stage) where
  abbrev to : Step → Option ℕ
  to step = number_in numbers step.next (stage_behind pivot stage step)

  pub linked-none : AreLinked numbers pivot stage [] []
  linked-none = record {
    rising = λ i j d less within. absurd (omega (arith, within));
    each = λ edge held. absurd (Contains-none edge held);
    all = λ step number held is. absurd (Contains-none step held);
  }

  module _ (steps : List Step) (k : ℕ) (edges : List Edge) (below : k < length steps) (are : AreLinked numbers pivot stage (take k steps) edges) where
    abbrev step' : Step
    step' = get_or steps k no-step

    more : take (k + 1) steps ≡ take k steps ++ step' ∷ []
    more = take_more steps k no-step below

    step-cases : (step : Step) → Contains (take (k + 1) steps) step → Contains (take k steps) step ⊎ (step ≡ step')
    step-cases step held = elim (Contains-append_cases (take k steps) (step' ∷ []) step (subst (λ (l : List Step). Contains l step) more held)) [
      | inl old ↦ inl old
      | inr last ↦ elim (Contains-cases step' [] step last) [ inl same ↦ inr same | inr none ↦ absurd (Contains-none step none) ]
    ]

    old-step : (step : Step) → Contains (take k steps) step → Contains (take (k + 1) steps) step
    old-step step held = subst (λ (l : List Step). Contains l step) (sym more) (Contains-append_left (take k steps) (step' ∷ []) step held)

    pub linked-skip : to step' ≡ None → AreLinked numbers pivot stage (take (k + 1) steps) edges
    linked-skip none = record {
      rising = are.rising;
      each = λ edge held. (let (step, there, rank, is) = are.each edge held in (step, old-step step there, rank, is));
      all = λ step number held is. elim (step-cases step held) [
        | inl old ↦ are.all step number old is
        | inr same ↦ (let last : to step' ≡ Some number = ap to (sym same) ∙ is in absurd (cc))
      ];
    }

    abbrev edge-to : ℕ → Edge
    edge-to number = record { rank = step'.rank; to = number }

    pub linked-push : (number : ℕ) → AllPairs (λ (low : Step) (high : Step). low.rank < high.rank) steps → to step' ≡ Some number
        → AreLinked numbers pivot stage (take (k + 1) steps) (edges ++ (record { rank = step'.rank; to = number }) ∷ [])
    linked-push number rising some = record {
      rising = all_pairs_push (λ (low : Edge) (high : Edge). low.rank < high.rank) edges (edge-to number) are.rising lower;
      each = λ edge held. elim (Contains-append_cases edges ((edge-to number) ∷ []) edge held) [
        | inl old ↦ (let (step, there, rank, is) = are.each edge old in (step, old-step step there, rank, is))
        | inr last ↦ elim (Contains-cases (edge-to number) [] edge last) [
          | inl same ↦ (
            step',
            subst (λ (l : List Step). Contains l step') (sym more) (Contains-append_right (take k steps) (step' ∷ []) step' (Contains-first step' [])),
            ap (λ (e : Edge). e.rank) same,
            some ∙ ap (λ (e : Edge). Some e.to) (sym same),
          )
          | inr none ↦ absurd (Contains-none edge none)
        ]
      ];
      all = λ step own held is. elim (step-cases step held) [
        | inl old ↦ Contains-append_left edges ((edge-to number) ∷ []) (record { rank = step.rank; to = own }) (are.all step own old is)
        | inr same ↦ (
            let one : number ≡ own = same_Some number own (sym some ∙ ap to (sym same) ∙ is) in
            let both : (edge-to number) ≡ record { rank = step.rank; to = own } = (λ i. record { rank = (ap (λ (s : Step). s.rank) (sym same)) i; to = one i }) in
            subst (Contains (edges ++ (edge-to number) ∷ [])) both (Contains-append_right edges ((edge-to number) ∷ []) (edge-to number) (Contains-first (edge-to number) [])))
      ];
    }
      where
        lower : (j : ℕ) (d : Edge) → j < length edges → (get_or edges j d).rank < step'.rank
        lower j d within =
            let (step, there, rank, is) = are.each (get_or edges j d) (j, within, get_or_default edges j (get_or edges j d) d within) in
            let (i, inside, step_is) = there in
            let low : i < k = omega (arith, inside, length-take k steps) in
            let read : get_or steps i step ≡ step = sym (get_or-take k steps i step low) ∙ step_is in
            let less : (get_or steps i step).rank < (get_or steps k step).rank = rising i k step low below in
            let first : (get_or steps i step).rank ≡ step.rank = ap (λ (s : Step). s.rank) read in
            let second : (get_or steps k step).rank ≡ step'.rank = ap (λ (s : Step). s.rank) (get_or_default steps k step no-step below) in
            omega (arith, less, first, second, rank)

-- ---- the state of a node at a stage

module _ (nodes : List Node) (pivot : ℕ) (states : List StateValue) (asked : List Asked) (numbers : List Numbers) (are : AreNumbered nodes pivot states numbers) (node : ℕ) (stage : Stage)
    (is : IsTrue (asked_in asked node stage)) (closed : IsClosed nodes pivot asked node)
    (targets : (rank : ℕ) (step : Step) → HasEdge nodes node rank step → IsSettled nodes pivot asked numbers step.next) (steps : List Step)
    (exact : (step : Step) → Contains steps step ↔ (HasEdge nodes node step.rank step × (step.rank ≤ pivot))) (edges : List Edge)
    (linked : AreLinked numbers pivot stage steps edges) where
  abbrev state' : StateValue
  state' = record { accepts = can_end stage; edges = edges }

  held-step : (rank : ℕ) (step : Step) → HasEdge nodes node rank step → rank ≤ pivot → Contains steps step × (step.rank ≡ rank)
  held-step rank step (n, all, at, known, held, same) most = ((exact step).1 ((n, all, at, known, held, refl), subst (λ (r : ℕ). r ≤ pivot) (sym same) most), same)

  -- what completes by an edge goes along one of the state
  goes-on : (rank : ℕ) (rest : List ℕ) (step : Step) → HasEdge nodes node rank step → rank ≤ pivot → Completes nodes pivot step.next (stage_behind pivot stage step) rest
      → (number : ℕ) × (number_in numbers step.next (stage_behind pivot stage step) ≡ Some number)
  goes-on rank rest step has most more = by (number_in numbers step.next (stage_behind pivot stage step)) refl
    where
      by : (found : Option ℕ) → number_in numbers step.next (stage_behind pivot stage step) ≡ found
          → (number : ℕ) × (number_in numbers step.next (stage_behind pivot stage step) ≡ Some number)
      by (Some number) found_is = (number, found_is)
      by None found_is = absurd (targets rank step has (stage_behind pivot stage step) (closed stage is rank step has most) found_is rest more)

  -- nothing is accepted where no prefix ends and no edge is there
  pub dead-settled : can_end stage ≡ false → length edges ≡ 0 → (list : List ℕ) → Completes nodes pivot node stage list → ⊥
  dead-settled never none [] ends = true≢false (sym ends ∙ never)
  dead-settled never none (rank ∷ rest) (step, has, most, more) =
      let (number, found) = goes-on rank rest step has most more in
      let (i, inside, there) = linked.all step number (held-step rank step has most).0 found in
      omega (arith, inside, none)

  some-completes : (can_end stage ≡ false → length edges ≡ 0 → ⊥) → (list : List ℕ) × Completes nodes pivot node stage list
  some-completes alive = by (can_end stage) refl edges refl
    where
      by : (ends : Bool) → can_end stage ≡ ends → (all : List Edge) → edges ≡ all → (list : List ℕ) × Completes nodes pivot node stage list
      by true ends all whole = ([], ends)
      by false ends [] whole = absurd (alive ends (ap length whole))
      by false ends (edge ∷ others) whole =
          let (step, there, rank, found) = linked.each edge (subst (λ (l : List Edge). Contains l edge) (sym whole) (Contains-first edge others)) in
          let (has, most) = (exact step).0 there in
          let (list, more) = (are step.next (stage_behind pivot stage step) edge.to found).some in
          (step.rank ∷ list, (step, has, most, more))

  -- it may be kept behind the others
  pub stage-kept : IsKeptState states (length states) state'
  stage-kept = record {
    rising = linked.rising;
    back = λ edge held. (let (step, there, rank, found) = linked.each edge held in (are step.next (stage_behind pivot stage step) edge.to found).inside);
    alive = λ edge held. (
        let (step, there, rank, found) = linked.each edge held in
        let at = are step.next (stage_behind pivot stage step) edge.to found in
        (at.some.0, (at.language at.some.0).1 at.some.1));
  }

  -- where it stands it accepts what completes
  module _ (alive : can_end stage ≡ false → length edges ≡ 0 → ⊥) (later : List StateValue) (still : AreNumbered nodes pivot later numbers) (place : ℕ) (at : slice_get later place ≡ Some state') where
    forth : (ranks : List ℕ) → IsAccepted later place ranks → Completes nodes pivot node stage ranks
    forth [] (s, s_is, accepts) = subst (λ (x : StateValue). IsTrue x.accepts) (same-some s state' (slice_get later place) s_is at) accepts
    forth (rank ∷ rest) (s, edge, s_is, held, rank_is, more) =
        let inside : Contains edges edge = subst (λ (x : StateValue). Contains x.edges edge) (same-some s state' (slice_get later place) s_is at) held in
        let (step, there, same, found) = linked.each edge inside in
        let (has, most) = (exact step).0 there in
        let one : step.rank ≡ rank = sym same ∙ rank_is in (
          step,
          subst (λ (r : ℕ). HasEdge nodes node r step) one has,
          subst (λ (r : ℕ). r ≤ pivot) one most,
          ((still step.next (stage_behind pivot stage step) edge.to found).language rest).0 more,
        )

    back : (ranks : List ℕ) → Completes nodes pivot node stage ranks → IsAccepted later place ranks
    back [] ends = (state', at, ends)
    back (rank ∷ rest) (step, has, most, more) =
        let (number, found) = goes-on rank rest step has most more in
        let (there, same) = held-step rank step has most in (
          state',
          record { rank = step.rank; to = number },
          at,
          linked.all step number there found,
          same,
          ((still step.next (stage_behind pivot stage step) number found).language rest).1 more,
        )

    pub stage-right : IsStageAt nodes pivot later node stage place
    stage-right = record {
      inside = slice_get_within later place state' at;
      language = λ ranks. (forth ranks, back ranks);
      some = some-completes alive;
    }

-- at each stage of one node in turn
pub stages-settled : (nodes : List Node) (pivot : ℕ) (asked : List Asked) (two three four : List Numbers) (node : ℕ) → KeepsNumbers two three → KeepsNumbers three four
    → (IsTrue (asked_in asked node Before) → IsSettledAt nodes pivot two node Before) → (IsTrue (asked_in asked node Going) → IsSettledAt nodes pivot three node Going)
    → (IsTrue (asked_in asked node Ending) → IsSettledAt nodes pivot four node Ending) → IsSettled nodes pivot asked four node
stages-settled nodes pivot asked two three four node second third before going ending = by
  where
    by : (stage : Stage) → IsTrue (asked_in asked node stage) → IsSettledAt nodes pivot four node stage
    by Before is = settled-keeps nodes pivot two four node Before (numbers-through two three four second third) (before is)
    by Going is = settled-keeps nodes pivot three four node Going third (going is)
    by Ending is = ending is

-- ---- the root

pub root-there : (nodes : List Node) (pivot : ℕ) (states : List StateValue) (root : ℕ) → IsStageAt nodes pivot states 0 Before root → IsPivotRootOf nodes pivot states root
root-there nodes pivot states root at = record {
  inside = at.inside;
  language = λ ranks. (
    (λ accepts. (completes-root nodes pivot ranks).0 ((at.language ranks).0 accepts)),
    (λ both. (at.language ranks).1 ((completes-root nodes pivot ranks).1 both)),
  );
}

pub root-dead : (nodes : List Node) (pivot : ℕ) (states : List StateValue) (root : ℕ) → slice_get states root ≡ Some dead_state → ((list : List ℕ) → Completes nodes pivot 0 Before list → ⊥)
    → IsPivotRootOf nodes pivot states root
root-dead nodes pivot states root at never = record {
  inside = slice_get_within states root dead_state at;
  language = λ ranks. ((λ accepts. absurd (none ranks accepts)), (λ both. absurd (never ranks ((completes-root nodes pivot ranks).1 both))));
}
  where
    none : (ranks : List ℕ) → IsAccepted states root ranks → ⊥
    none [] (s, s_is, accepts) = true≢false (sym (subst (λ (x : StateValue). IsTrue x.accepts) (same-some s dead_state (slice_get states root) s_is at) accepts))
    none (rank ∷ rest) (s, edge, s_is, held, rank_is, _) = Contains-none edge (subst (λ (x : StateValue). Contains x.edges edge) (same-some s dead_state (slice_get states root) s_is at) held)
