-- States as the program holds them, and how they are looked up.
use Rattle.std.proofs.Common.{◌≡◌, ℕ, inl, inr, Bool, true, false, ◌&&◌, ◌||◌, if◌then◌else◌, Some, List, [], ◌∷◌, ◌++◌, map, length, get_or, refl, sym, ap, ◌∙◌, subst, true≢false}
use Rattle.std.specs.Bool.{◌==◌, Decides}
use Rattle.std.specs.List.{Contains, slice_get, position, list_any}
use Rattle.std.specs.Cmp.Lexicographic.{pointwise}
use Rattle.std.proofs.lemmas.Bool.Decides.{Decides-and, Decides-eqb, Decides-like}
use Rattle.std.proofs.lemmas.List.{map-append}
use Rattle.std.proofs.lemmas.List.Quantifiers.{position-Some}
use Rattle.std.proofs.lemmas.Option.{slice_get-get_or}
use Rattle.std.proofs.lemmas.Slice.Eq.{slice_eq-Decides}
use Rattle.std.specs.Cmp.{booleans_Decides}
use Rattle.std.proofs.Math.Bool.{beq}
use Rattle.std.proofs.lemmas.Bool.{cases_Bool}
use Rattle.indexmap.specs.IndexSet.{insert_key}
use Rattle.mine_model.proofs.ListLemmas.{Contains-cases, Contains-none, Contains-first, Contains-other}
use Rattle.mine_model.proofs.ElementLemmas.{slice_get-mapped_by}
use Rattle.automaton_model.specs.declared.state.State.{State}
use Rattle.automaton_model.specs.Automata.{Edge, StateValue, state_of}
use Rattle.automaton_model.specs.Registry.{IsKeptState, IsRegistry}
use Rattle.automaton_model.proofs.LanguageLemmas.{kept-pushed}

abbrev edge_eq : Edge → Edge → Bool
edge_eq e f = e.rank == f.rank && e.to == f.to

edge_decides : (e f : Edge) → Decides (edge_eq e f) (e ≡ f)
edge_decides e f =
    Decides-like (edge_eq e f) (λ same i. record { rank = same.0 i; to = same.1 i }) (λ same. (ap (λ (x : Edge). x.rank) same, ap (λ (x : Edge). x.to) same))
    (Decides-and (e.rank == f.rank) (e.to == f.to) (Decides-eqb e.rank f.rank) (Decides-eqb e.to f.to))

abbrev pub held_eq : State → State → Bool
held_eq s t = beq s.accepts t.accepts && pointwise edge_eq s.edges.items t.edges.items

pub held-decides : (s t : State) → Decides (held_eq s t) (state_of s ≡ state_of t)
held-decides s t =
    Decides-like (held_eq s t) (λ same i. record { accepts = same.0 i; edges = same.1 i })
    (λ same. (ap (λ (x : StateValue). x.accepts) same, ap (λ (x : StateValue). x.edges) same))
    (Decides-and (beq s.accepts t.accepts) (pointwise edge_eq s.edges.items t.edges.items) (booleans_Decides s.accepts t.accepts)
    (slice_eq-Decides edge_decides s.edges.items t.edges.items (pointwise edge_eq s.edges.items t.edges.items) refl))

-- the place where a look-up finds the state
pub found-at : (s : State) (keys : List State) (i : ℕ) → position (held_eq s) keys ≡ Some i → slice_get (map state_of keys) i ≡ Some (state_of s)
found-at s keys i found =
    let (inside, passes, first) = position-Some (held_eq s) keys i s found in
    slice_get-mapped_by state_of keys i (get_or keys i s) (slice_get-get_or keys i s inside)
    ∙ ap (λ x. Some x) (sym ((held-decides s (get_or keys i s)).0 passes))

-- where it finds none the state is not there
pub not-found : (s : State) (keys : List State) → list_any (held_eq s) keys ≡ false → Contains (map state_of keys) (state_of s) → ⊥
not-found s [] none held = Contains-none (state_of s) held
not-found s (k ∷ keys) none held = by (held_eq s k) (held-decides s k) none (λ other later. not-found s keys other later)
  where
    by : (test : Bool) → Decides test (state_of s ≡ state_of k) → (test || list_any (held_eq s) keys) ≡ false
        → (list_any (held_eq s) keys ≡ false → Contains (map state_of keys) (state_of s) → ⊥) → ⊥
    by true decides other rest = true≢false other
    by false decides other rest = elim (Contains-cases (state_of k) (map state_of keys) (state_of s) held) [
      | inl same ↦ true≢false (sym (decides.1 same))
      | inr later ↦ rest other later
    ]

some-found : (s : State) (keys : List State) → list_any (held_eq s) keys ≡ true → Contains (map state_of keys) (state_of s)
some-found s [] found = absurd (true≢false (sym found))
some-found s (k ∷ keys) found = by (held_eq s k) (held-decides s k) found (λ later. some-found s keys later)
  where
    by : (test : Bool) → Decides test (state_of s ≡ state_of k) → (test || list_any (held_eq s) keys) ≡ true
        → (list_any (held_eq s) keys ≡ true → Contains (map state_of keys) (state_of s)) → Contains (map state_of (k ∷ keys)) (state_of s)
    by true decides here rest = subst (Contains (map state_of (k ∷ keys))) (sym (decides.0 refl)) (Contains-first (state_of k) (map state_of keys))
    by false decides later rest = Contains-other (state_of k) (map state_of keys) (state_of s) (rest later)

-- a copy of a state that is not there is pushed behind the others
pub held-pushed : (s copy : State) (keys after : List State) → state_of copy ≡ state_of s → list_any (held_eq s) keys ≡ false
    → after ≡ insert_key held_eq keys copy → map state_of after ≡ map state_of keys ++ state_of s ∷ []
held-pushed s copy keys after same none are = elim (cases_Bool (list_any (held_eq copy) keys)) [
  | inl there ↦ absurd (not-found s keys none (subst (Contains (map state_of keys)) same (some-found copy keys there)))
  | inr new ↦ (let pushed : after ≡ keys ++ copy ∷ [] = are ∙ ap (λ (b : Bool). if b then keys else keys ++ copy ∷ []) new in
      ap (map state_of) pushed ∙ map-append state_of keys (copy ∷ []) ∙ ap (λ (x : StateValue). map state_of keys ++ x ∷ []) same)
]

-- the registry with it
pub registry-grown : (s copy : State) (keys after : List State) → IsRegistry (map state_of keys) → IsKeptState (map state_of keys) (length (map state_of keys)) (state_of s)
    → state_of copy ≡ state_of s → list_any (held_eq s) keys ≡ false → after ≡ insert_key held_eq keys copy → IsRegistry (map state_of after)
registry-grown s copy keys after registry kept same none are =
    subst IsRegistry (sym (held-pushed s copy keys after same none are))
    (kept-pushed (map state_of keys) registry (state_of s) kept
    (λ other held is. not-found s keys none (subst (Contains (map state_of keys)) is held)))
