-- What completes a prefix to a candidate with the pivot, and which edges of a node come up to it.
use Rattle.std.proofs.Common.{◌≡◌, ◌↔◌, ℕ, ◌≤◌, ◌<◌, inl, inr, Bool, true, false, true≢false, IsTrue, if◌then◌else◌, Some, List, [], ◌∷◌, length, get_or, take, refl, sym, ap, ◌∙◌, subst, arith, leb, leb-true, leb-false, eq-eqb, ne_eqb}
use Rattle.std.specs.List.{AllPairs, AllByRecursion, Contains, slice_get}
use Rattle.std.specs.List.Sorted.{IsNonDecreasingBy, IsPartitionPoint}
use Rattle.std.proofs.lemmas.Bool.{cases_lt, cases_eq}
use Rattle.std.proofs.lemmas.List.{get_or-take, length-take}
use Rattle.std.proofs.lemmas.Option.{slice_get_within, slice_get-get_or, get_or_from_slice_get}
use Rattle.mine_model.proofs.ListLemmas.{Contains-cases, Contains-first, Contains-other, Contains-none}
use Rattle.mine_model.proofs.ElementLemmas.{get-held, get-place}
use Rattle.candidate_graph.specs.declared.edge.Edge.{Edge as Step}
use Rattle.candidate_graph.specs.Graphs.{Node}
use Rattle.candidate_graph.specs.Paths.{HasEdge, Accepts}
use Rattle.candidate_states.specs.declared.stages.Stage.{Stage}
use Rattle.candidate_states.specs.declared.stages.Stage.TheVariants.{Before}
use Rattle.candidate_states.specs.Roots.{HasPivot}
use Rattle.candidate_states.specs.Kept.{Follows}
use Rattle.candidate_states.specs.Stages.{stage_met, stage_behind, can_end, Completes}
use Rattle.graph_order.proofs.StepLemmas.{AreStepsOf, step-held}
use Rattle.candidate_states.proofs.StateLemmas.{behind, ahead}

-- ---- stages behind edges

met-behind : (pivot : ℕ) (ends : Bool) (step : Step) → stage_behind pivot (stage_met ends) step ≡ stage_met step.ends
met-behind pivot true step = refl
met-behind pivot false step = refl

met-ends : (ends : Bool) → can_end (stage_met ends) ≡ ends
met-ends true = refl
met-ends false = refl

before-met : (pivot : ℕ) (step : Step) → step.rank ≡ pivot → stage_behind pivot Before step ≡ stage_met step.ends
before-met pivot step same = ap (λ (b : Bool). if b then stage_met step.ends else Before) (eq-eqb step.rank pivot same)

before-before : (pivot : ℕ) (step : Step) → (step.rank ≡ pivot → ⊥) → stage_behind pivot Before step ≡ Before
before-before pivot step other = ap (λ (b : Bool). if b then stage_met step.ends else Before) (ne_eqb step.rank pivot other)

-- ---- what completes

module _ (nodes : List Node) (pivot : ℕ) where
  abbrev Most : List ℕ → Type 0
  Most list = AllByRecursion (λ rank. rank ≤ pivot) list

  met-forth : (list : List ℕ) (node : ℕ) (ends : Bool) → Completes nodes pivot node (stage_met ends) list → Follows nodes node ends list × Most list
  met-forth [] node ends is = (subst IsTrue (met-ends ends) is, tt)
  met-forth (rank ∷ rest) node ends (step, has, most, more) =
      let there : Completes nodes pivot step.next (stage_met step.ends) rest = subst (λ (s : Stage). Completes nodes pivot step.next s rest) (met-behind pivot ends step) more in
      let (follows, all) = met-forth rest step.next step.ends there in
      ((step, has, behind nodes step.next step.ends rest follows), (most, all))

  met-back : (list : List ℕ) (node : ℕ) (ends : Bool) → Follows nodes node ends list → Most list → Completes nodes pivot node (stage_met ends) list
  met-back [] node ends is all = subst IsTrue (sym (met-ends ends)) is
  met-back (rank ∷ rest) node ends (step, has, either) (most, all) =
      let there : Completes nodes pivot step.next (stage_met step.ends) rest = met-back rest step.next step.ends (ahead nodes step.next step.ends rest either) all in
      (step, has, most, subst (λ (s : Stage). Completes nodes pivot step.next s rest) (sym (met-behind pivot ends step)) there)

  edge-rank : (node rank : ℕ) (step : Step) → HasEdge nodes node rank step → step.rank ≡ rank
  edge-rank node rank step (n, steps, at, known, held, is) = is

  before-forth : (list : List ℕ) (node : ℕ) → Completes nodes pivot node Before list → Accepts nodes node list × HasPivot pivot list
  before-forth [] node never = absurd (true≢false (sym never))
  before-forth (rank ∷ rest) node (step, has, most, more) = elim (cases_eq step.rank pivot) [
    | inl same ↦
        let there : Completes nodes pivot step.next (stage_met step.ends) rest = subst (λ (s : Stage). Completes nodes pivot step.next s rest) (before-met pivot step same) more in
        let (follows, all) = met-forth rest step.next step.ends there in
        let one : rank ≡ pivot = sym (edge-rank node rank step has) ∙ same in (
          (step, has, behind nodes step.next step.ends rest follows),
          record { most = (most, all); held = subst (Contains (rank ∷ rest)) one (Contains-first rank rest) },
        )
    | inr other ↦
        let there : Completes nodes pivot step.next Before rest = subst (λ (s : Stage). Completes nodes pivot step.next s rest) (before-before pivot step other) more in
        let (accepts, within) = before-forth rest step.next there in
        ((step, has, inr accepts), record { most = (most, within.most); held = Contains-other rank rest pivot within.held })
  ]

  before-back : (list : List ℕ) (node : ℕ) → Accepts nodes node list → HasPivot pivot list → Completes nodes pivot node Before list
  before-back [] node none within = absurd none
  before-back (rank ∷ rest) node (step, has, either) within = elim (cases_eq step.rank pivot) [
    | inl same ↦
        let there : Completes nodes pivot step.next (stage_met step.ends) rest = met-back rest step.next step.ends (ahead nodes step.next step.ends rest either) within.most.1 in
        (step, has, within.most.0, subst (λ (s : Stage). Completes nodes pivot step.next s rest) (sym (before-met pivot step same)) there)
    | inr other ↦
        let held : Contains rest pivot = elim (Contains-cases rank rest pivot within.held) [
          | inl one ↦ absurd (other (edge-rank node rank step has ∙ sym one))
          | inr there ↦ there
        ] in
        let accepts : Accepts nodes step.next rest = elim either [
          | inl (none, ends) ↦ absurd (Contains-none pivot (subst (λ (l : List ℕ). Contains l pivot) none held))
          | inr more ↦ more
        ] in
        let there : Completes nodes pivot step.next Before rest = before-back rest step.next accepts (record { most = within.most.1; held = held }) in
        (step, has, within.most.0, subst (λ (s : Stage). Completes nodes pivot step.next s rest) (sym (before-before pivot step other)) there)
  ]

  -- WHAT COMPLETES the empty prefix are the candidates with the pivot
  pub completes-root : (list : List ℕ) → Completes nodes pivot 0 Before list ↔ (Accepts nodes 0 list × HasPivot pivot list)
  completes-root list = (before-forth list 0, (λ both. before-back list 0 both.0 both.1))

-- ---- edges up to the pivot

pub rising-most : (steps : List Step) → AllPairs (λ (low : Step) (high : Step). low.rank < high.rank) steps → IsNonDecreasingBy (λ (step : Step). step.rank) steps
rising-most steps rising i j d most within = elim (cases_lt i j) [
  | inl less ↦ (let below : (get_or steps i d).rank < (get_or steps j d).rank = rising i j d less within in omega (arith, below))
  | inr least ↦ (
      let same : i ≡ j = omega (arith, most, least) in
      let one : (get_or steps i d).rank ≡ (get_or steps j d).rank = ap (λ (k : ℕ). (get_or steps k d).rank) same in
      omega (arith, one))
]

pub point-exact : (steps : List Step) (pivot count : ℕ)
    → IsPartitionPoint (λ (step : Step). leb step.rank pivot ≡ true) (λ (step : Step). leb step.rank pivot ≡ false) steps count
    → (k : ℕ) (step : Step) → slice_get steps k ≡ Some step → (k < count) ↔ (step.rank ≤ pivot)
point-exact steps pivot count point k step at = (
  (λ less. let up : leb (get_or steps k step).rank pivot ≡ true = point.0 k step (omega arith) less in leb-true step.rank pivot (subst (λ (s : Step). leb s.rank pivot ≡ true) one up)),
  (λ most. elim (cases_lt k count) [
    | inl less ↦ less
    | inr behind_it ↦ absurd (let over : leb (get_or steps k step).rank pivot ≡ false = point.1 k step behind_it (slice_get_within steps k step at) in
        let above : pivot < step.rank = leb-false step.rank pivot (subst (λ (s : Step). leb s.rank pivot ≡ false) one over) in
        omega (arith, most, above))
  ]),
)
  where
    one : get_or steps k step ≡ step
    one = get_or_from_slice_get steps k step step at

module _ (nodes : List Node) (number : ℕ) (list : List Step) (are : AreStepsOf nodes number list) where
  module _ (pivot count : ℕ) (within : count ≤ length list) (exact : (k : ℕ) (step : Step) → slice_get list k ≡ Some step → (k < count) ↔ (step.rank ≤ pivot)) where
    pub steps-exact : (step : Step) → Contains (take count list) step ↔ (HasEdge nodes number step.rank step × (step.rank ≤ pivot))
    steps-exact step = (
      (λ (k, inside, is).
          let less : k < count = omega (arith, inside, length-take count list) in
          let read : get_or list k step ≡ step = sym (get_or-take count list k step less) ∙ is in
          let at : slice_get list k ≡ Some step = slice_get-get_or list k step (omega (arith, less, within)) ∙ ap (λ (s : Step). Some s) read in
          ((are.0, list, are.1, are.2, get-held list k step at, refl), (exact k step at).0 less)),
      (λ (has, most).
          let (k, at) = get-place list step (step-held nodes number list are step.rank step has) in
          let less : k < count = (exact k step at).1 most in
          let long : length (take count list) ≡ count = omega (arith, within, length-take count list) in
          (k, omega (arith, less, long), get_or-take count list k step less ∙ get_or_from_slice_get list k step step at)),
    )

pub taken-rising : (steps : List Step) (count : ℕ) → count ≤ length steps → AllPairs (λ (low : Step) (high : Step). low.rank < high.rank) steps
    → AllPairs (λ (low : Step) (high : Step). low.rank < high.rank) (take count steps)
taken-rising steps count within rising i j d less inside =
    let low : j < count = omega (arith, inside, length-take count steps) in
    let below : (get_or steps i d).rank < (get_or steps j d).rank = rising i j d less (omega (arith, low, within)) in
    let first : (get_or (take count steps) i d).rank ≡ (get_or steps i d).rank = ap (λ (s : Step). s.rank) (get_or-take count steps i d (omega (arith, less, low))) in
    let second : (get_or (take count steps) j d).rank ≡ (get_or steps j d).rank = ap (λ (s : Step). s.rank) (get_or-take count steps j d low) in
    omega (arith, below, first, second)
