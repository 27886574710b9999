-- A registry that grows by one state.
use Rattle.std.proofs.Common.{◌≡◌, ◌≢◌, ℕ, ◌<◌, ◌↔◌, inl, inr, Some, List, [], ◌∷◌, ◌++◌, length, sym, ◌∙◌, subst, arith}
use Rattle.std.specs.Prelude.{IsTrue}
use Rattle.std.specs.List.{Contains, slice_get}
use Rattle.mine_model.proofs.ListLemmas.{Contains-cases, Contains-none, AllPairs-append}
use Rattle.mine_model.proofs.ElementLemmas.{get-some, get-left, get_snoc, get_last, same-some}
use Rattle.automaton_model.specs.Automata.{StateValue, Accepts}
use Rattle.automaton_model.specs.Registry.{IsKeptState, IsRegistry}
use Rattle.automaton_model.specs.Languages.{IsRightLanguageOf, IsStateOf}
use Rattle.automaton_model.proofs.RegistryLemmas.{registry-same}

-- what is accepted stays accepted
pub accepts-more : (states more : List StateValue) (ranks : List ℕ) (k : ℕ) → Accepts states k ranks → Accepts (states ++ more) k ranks
accepts-more states more [] k (s, is, accepts) = (s, get-left states more k s is, accepts)
accepts-more states more (w ∷ ranks) k (s, e, is, held, rank, next) = (s, e, get-left states more k s is, held, rank, accepts-more states more ranks e.to next)

-- a state that may be kept may be kept with one more behind the others
pub kept-later : (states : List StateValue) (state : StateValue) (number : ℕ) (s : StateValue) → IsKeptState states number s → IsKeptState (states ++ state ∷ []) number s
kept-later states state number s kept = record {
  rising = kept.rising;
  back = kept.back;
  alive = λ edge held. (let (ranks, accepts) = kept.alive edge held in (ranks, accepts-more states (state ∷ []) ranks edge.to accepts));
}

module _ (states : List StateValue) (registry : IsRegistry states) where
  -- and no more is, from the states that were there
  pub accepts-less : (more : List StateValue) (ranks : List ℕ) (k : ℕ) → k < length states → Accepts (states ++ more) k ranks → Accepts states k ranks
  accepts-less more [] k below (s, is, accepts) =
      let (t, at) = get-some states k below in
      (t, at, subst (λ (x : StateValue). IsTrue x.accepts) (same-some s t (slice_get (states ++ more) k) is (get-left states more k t at)) accepts)
  accepts-less more (w ∷ ranks) k below (s, e, is, held, rank, next) =
      let (t, at) = get-some states k below in
      let inside : Contains t.edges e = subst (λ (x : StateValue). Contains x.edges e) (same-some s t (slice_get (states ++ more) k) is (get-left states more k t at)) held in
      let less : e.to < length states = omega (arith, (registry.kept k t at).back e inside, below) in
      (t, e, at, inside, rank, accepts-less more ranks e.to less next)

  pub node-stays : (IsMember : List ℕ → Type 0) (more : List StateValue) (k : ℕ) → k < length states → IsRightLanguageOf IsMember states k → IsRightLanguageOf IsMember (states ++ more) k
  node-stays IsMember more k below node = λ ranks. (
    (λ a. (node ranks).0 (accepts-less more ranks k below a)),
    (λ m. accepts-more states more ranks k ((node ranks).1 m)),
  )

  -- a state that is not there yet may be pushed where its edges lead back to states that accept something
  pub kept-pushed : (state : StateValue) → IsKeptState states (length states) state → ((other : StateValue) → Contains states other → other ≢ state)
      → IsRegistry (states ++ state ∷ [])
  kept-pushed state kept new = record {
    kept = λ number s at. elim (get_snoc states state number s at) [
      | inl old ↦ kept-later states state number s (registry.kept number s old)
      | inr last ↦ subst (λ n. IsKeptState (states ++ state ∷ []) n s) (sym last.0)
          (subst (IsKeptState (states ++ state ∷ []) (length states)) last.1 (kept-later states state (length states) state kept))
    ];
    once = AllPairs-append (λ (first : StateValue) second. first ≢ second) states (state ∷ []) registry.once
        (λ i j e less inside. absurd (omega (arith, less, inside)))
        (λ x y held last. elim (Contains-cases state [] y last) [
          | inl same ↦ (λ equal. new x held (equal ∙ same))
          | inr none ↦ absurd (Contains-none y none)
        ]);
  }

  module _ (IsMember : List ℕ → Type 0) (state : StateValue) (is : IsStateOf IsMember states state) where
    -- a state that tells the set accepts it, where it stands
    pub node-here : (all : List StateValue) (k : ℕ) → slice_get all k ≡ Some state
        → ((ranks : List ℕ) (j : ℕ) → j < length states → Accepts all j ranks ↔ Accepts states j ranks) → IsRightLanguageOf IsMember all k
    node-here all k at same [] = (
      (λ (s, s_is, accepts). is.accepts.0 (subst (λ (x : StateValue). IsTrue x.accepts) (same-some s state (slice_get all k) s_is at) accepts)),
      (λ member. (state, at, is.accepts.1 member)),
    )
    node-here all k at same (w ∷ ranks) = (
      (λ (s, e, s_is, held, rank, next).
          let edge = is.edge e (subst (λ (x : StateValue). Contains x.edges e) (same-some s state (slice_get all k) s_is at) held) in
          subst (λ r. IsMember (r ∷ ranks)) rank ((edge.node ranks).0 ((same ranks e.to edge.inside).0 next))),
      (λ member.
          let (e, held, rank) = is.all w ranks member in
          let edge = is.edge e held in
          (state, e, at, held, rank, (same ranks e.to edge.inside).1 ((edge.node ranks).1 (subst (λ r. IsMember (r ∷ ranks)) (sym rank) member)))),
    )

    -- THE STATE IS THERE already: it is the node of the set
    pub node-found : (k : ℕ) → slice_get states k ≡ Some state → IsRightLanguageOf IsMember states k
    node-found k at = node-here states k at (λ ranks j below. ((λ a. a), (λ a. a)))

    -- THE STATE IS NEW: behind the others it is the node of the set
    pub node-pushed : IsRightLanguageOf IsMember (states ++ state ∷ []) (length states)
    node-pushed = node-here (states ++ state ∷ []) (length states) (get_last states state)
        (λ ranks j below. (accepts-less (state ∷ []) ranks j below, accepts-more states (state ∷ []) ranks j))

    kept_new : IsKeptState states (length states) state
    kept_new = record {
      rising = is.rising;
      back = λ edge held. (is.edge edge held).inside;
      alive = λ edge held. (let e = is.edge edge held in (e.more, (e.node e.more).1 e.begins));
    }

    -- and the registry stays one
    pub registry-pushed : ((other : StateValue) → Contains states other → other ≢ state) → IsRegistry (states ++ state ∷ [])
    registry-pushed new = kept-pushed state kept_new new

  -- equal sets have equal nodes, and nodes that are equal have equal sets
  pub nodes-same : (IsMember Also : List ℕ → Type 0) (i j : ℕ) → i < length states → j < length states → IsRightLanguageOf IsMember states i → IsRightLanguageOf Also states j
      → (i ≡ j) ↔ ((ranks : List ℕ) → IsMember ranks ↔ Also ranks)
  nodes-same IsMember Also i j low high p q = (
    (λ same ranks.
        let moved : Accepts states i ranks ↔ Also ranks = subst (λ n. Accepts states n ranks ↔ Also ranks) (sym same) (q ranks) in
        ((λ m. moved.0 ((p ranks).1 m)), (λ m. (p ranks).0 (moved.1 m)))),
    (λ same.
        let (s, s_is) = get-some states i low in
        let (t, t_is) = get-some states j high in
        registry-same states registry i j s t s_is t_is (λ ranks. (
          (λ a. (q ranks).1 ((same ranks).0 ((p ranks).0 a))),
          (λ a. (p ranks).1 ((same ranks).1 ((q ranks).0 a))),
        ))),
  )
