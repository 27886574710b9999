-- Loads as the program holds them.
use Rattle.std.proofs.Common.{◌≡◌, ◌≢◌, ℕ, zero, suc, ◌+◌, ◌≤◌, ◌<◌, inl, inr, Bool, true, false, not, eqb, ◌||◌, if◌then◌else◌, Some, List, [], ◌∷◌, ◌++◌, map, length, get_or, sum_by, slice_set, refl, sym, ap, ◌∙◌, arith, true≢false}
use Rattle.std.specs.List.{Contains, slice_get, list_any}
use Rattle.std.proofs.lemmas.List.{map-append, length-map}
use Rattle.std.proofs.lemmas.List.Sums.{sum_by-cons}
use Rattle.std.proofs.lemmas.Option.{slice_get_within, get_or_from_slice_get}
use Rattle.std.proofs.lemmas.Bool.{eqb-true, eqb-false}
use Rattle.mine_model.proofs.ListLemmas.{Contains-cases, Contains-none}
use Rattle.mine_model.proofs.ElementLemmas.{get-some, slice_get-mapped_by, same-some}
use Rattle.automaton_model.specs.Searches.{Load}
use Rattle.group_search.specs.declared.loads.LoadedState.{LoadedState}
use Rattle.group_search.specs.Found.{load_of}
use Rattle.cand_automaton.specs.Loads.{IsLoaded}

abbrev pub states_of : List LoadedState → List ℕ
states_of held = map (λ (one : LoadedState). one.state) held

-- a place cuts the list in two
cut-at : (held : List LoadedState) (k : ℕ) (one : LoadedState) → slice_get held k ≡ Some one
    → (front : List LoadedState) × (back : List LoadedState) × (held ≡ front ++ one ∷ back) × ((other : LoadedState) → slice_set held k other ≡ front ++ other ∷ back)
cut-at [] k one at = absurd (cc)
cut-at (h ∷ held) zero one at =
    let same : h ≡ one = cc in
    ([], held, (λ i. same i ∷ held), (λ other. refl))
cut-at (h ∷ held) (suc k) one at =
    let (front, back, same, put) = cut-at held k one at in
    (h ∷ front, back, (λ i. h ∷ same i), (λ other. (λ i. h ∷ put other i)))

-- a weight that goes to the load at a place
pub held-more : (held : List LoadedState) (k : ℕ) (one : LoadedState) (weight : ℕ) → slice_get held k ≡ Some one
    → IsLoaded (map load_of held) one.state weight (map load_of (slice_set held k (record { state = one.state; weight = one.weight + weight })))
held-more held k one weight at =
    let (front, back, same, put) = cut-at held k one at in
    let other : LoadedState = record { state = one.state; weight = one.weight + weight } in
    inl (
      map load_of front,
      map load_of back,
      one.weight,
      ap (map load_of) same ∙ map-append load_of front (one ∷ back),
      ap (map load_of) (put other) ∙ map-append load_of front (other ∷ back),
    )

-- the states stay where the weight of one changes
pub held-states : (held : List LoadedState) (k : ℕ) (one : LoadedState) (weight : ℕ) → slice_get held k ≡ Some one
    → states_of (slice_set held k (record { state = one.state; weight = weight })) ≡ states_of held
held-states held k one weight at =
    let (front, back, same, put) = cut-at held k one at in
    let state : LoadedState → ℕ = λ (x : LoadedState). x.state in
    let other : LoadedState = record { state = one.state; weight = weight } in
    ap states_of (put other) ∙ map-append state front (other ∷ back) ∙ sym (map-append state front (one ∷ back)) ∙ sym (ap states_of same)

-- the load whose state stands at a place
pub held-at : (held : List LoadedState) (k state : ℕ) → slice_get (states_of held) k ≡ Some state → (one : LoadedState) × (slice_get held k ≡ Some one) × (one.state ≡ state)
held-at held k state at =
    let state_in : LoadedState → ℕ = λ (x : LoadedState). x.state in
    let below : k < length held = omega (arith, slice_get_within (states_of held) k state at, length-map held state_in) in
    let (one, here) = get-some held k below in
    (one, here, same-some one.state state (slice_get (states_of held) k) (slice_get-mapped_by state_in held k one here) at)

none-next : (state : ℕ) (x : LoadedState) (xs : List LoadedState) (load : Load) (test : Bool) → eqb state x.state ≡ test → (test || list_any (eqb state) (states_of xs)) ≡ false
    → Contains (map load_of (x ∷ xs)) load → (list_any (eqb state) (states_of xs) ≡ false → Contains (map load_of xs) load → load.state ≢ state) → load.state ≢ state
none-next state x xs load true is bad inside rest = absurd (true≢false bad)
none-next state x xs load false is left inside rest = elim (Contains-cases (load_of x) (map load_of xs) load inside) [
  | inl same ↦ (λ equal. eqb-false state x.state is (sym equal ∙ ap (λ (l : Load). l.state) same))
  | inr later ↦ rest left later
]

none-there : (state : ℕ) (xs : List LoadedState) → list_any (eqb state) (states_of xs) ≡ false → (load : Load) → Contains (map load_of xs) load → load.state ≢ state
none-there state [] none load inside = absurd (Contains-none load inside)
none-there state (x ∷ xs) none load inside = none-next state x xs load (eqb state x.state) refl none inside (λ left later. none-there state xs left load later)

-- a state that has no load yet
pub held-new : (held : List LoadedState) (state weight : ℕ) → list_any (eqb state) (states_of held) ≡ false
    → IsLoaded (map load_of held) state weight (map load_of (held ++ (record { state = state; weight = weight }) ∷ []))
held-new held state weight none = inr ((λ load inside. none-there state held none load inside), map-append load_of held ((record { state = state; weight = weight }) ∷ []))

-- the load at the place of a state that has one
pub held-added : (keys now : List ℕ) (held : List LoadedState) (state place : ℕ) (one : LoadedState) → keys ≡ states_of held → now ≡ keys
    → (x : ℕ) × (slice_get now place ≡ Some x) × (eqb state x ≡ true) → one ≡ get_or held place one → (slice_get held place ≡ Some one) × (one.state ≡ state)
held-added keys now held state place one are stay (x, at, same) is =
    let here : slice_get (states_of held) place ≡ Some x = ap (λ (l : List ℕ). slice_get l place) (sym are ∙ sym stay) ∙ at in
    let (other, there, state_is) = held-at held place x here in
    let both : one ≡ other = is ∙ get_or_from_slice_get held place other one there in (
      there ∙ ap (λ (l : LoadedState). Some l) (sym both),
      ap (λ (l : LoadedState). l.state) both ∙ state_is ∙ sym (eqb-true state x same),
    )

-- no load weighs more than all
pub held-weight : (held : List LoadedState) (place : ℕ) (one : LoadedState) → slice_get held place ≡ Some one → one.weight ≤ sum_by (λ (load : Load). load.weight) (map load_of held)
held-weight [] place one at = absurd (cc)
held-weight (h ∷ held) zero one at =
    let same : h ≡ one = cc in
    omega (arith, sum_by-cons (λ (load : Load). load.weight) (load_of h) (map load_of held), ap (λ (l : LoadedState). l.weight) same)
held-weight (h ∷ held) (suc place) one at =
    omega (arith, sum_by-cons (λ (load : Load). load.weight) (load_of h) (map load_of held), held-weight held place one at)

pub turned : (b x : Bool) → b ≡ not x → b ≡ true → x ≡ false
turned b true is same = absurd (true≢false (sym same ∙ is))
turned b false is same = refl

pub turned-back : (b x : Bool) → b ≡ not x → b ≡ false → x ≡ true
turned-back b true is same = refl
turned-back b false is same = absurd (true≢false (sym is ∙ same))

pub kept-keys : (keys now others : List ℕ) (test : Bool) → now ≡ (if test then keys else others) → test ≡ true → now ≡ keys
kept-keys keys now others test is same = is ∙ ap (λ (b : Bool). if b then keys else others) same

-- what the loads weigh
pub held-sum : (held : List LoadedState) → sum_by (λ (one : LoadedState). one.weight) held ≡ sum_by (λ (load : Load). load.weight) (map load_of held)
held-sum [] = refl
held-sum (h ∷ held) =
    omega (
      arith,
      sum_by-cons (λ (one : LoadedState). one.weight) h held,
      sum_by-cons (λ (load : Load). load.weight) (load_of h) (map load_of held),
      held-sum held,
    )
