-- Each finite set of lists has a code.
use Rattle.std.proofs.Common.{◌≡◌, ℕ, zero, suc, ◌+◌, ◌≤◌, ◌<◌, ◌↔◌, ◌⊎◌, inl, inr, Bool, true, false, cond, eqb, List, [], ◌∷◌, ◌++◌, map, length, get_or, refl, sym, ap, ◌∙◌, subst, arith, true≢false, length-append, append_assoc}
use Rattle.std.specs.Prelude.{IsTrue}
use Rattle.std.specs.List.{AllPairs, AllByRecursion, Contains}
use Rattle.std.proofs.lemmas.Bool.{cases_eq, cases_lt, eqb-true, eqb-false}
use Rattle.std.proofs.lemmas.List.{append-nil}
use Rattle.std.proofs.lemmas.List.Kept.{AllPairs-cons}
use Rattle.std.proofs.lemmas.List.Elements.{Contains-get_or}
use Rattle.std.specs.Str.{bytes_eq}
use Rattle.std.proofs.lemmas.Slice.Eq.{bytes_eq-Decides}
use Rattle.std.proofs.lemmas.Option.{slice_get_within}
use Rattle.mine_model.proofs.ListLemmas.{Contains-cases, Contains-first, Contains-other, Contains-none, Contains-by, Contains-from, AllPairs-tail, AllPairs-head, AllByRecursion-contained}
use Rattle.mine_model.proofs.ElementLemmas.{get-some, get-place}
use Rattle.automaton_model.specs.Automata.{Edge, StateValue, Accepts, state_code}
use Rattle.automaton_model.specs.Codes.{IsCodeOf}
use Rattle.automaton_model.specs.Registry.{IsRegistry}
use Rattle.automaton_model.specs.Languages.{IsRightLanguageOf, IsEdgeOf, IsStateOf}
use Rattle.automaton_model.proofs.AutomatonLemmas.{code-same, code-also}
use Rattle.automaton_model.proofs.LanguageLemmas.{node-stays, node-found, node-pushed, registry-pushed}
use Rattle.automaton_model.proofs.NumberLemmas.{state-code}

-- What the lists have behind a first rank

abbrev pub behind : ℕ → List ℕ → List (List ℕ) → List (List ℕ)
behind w [] others = others
behind w (x ∷ xs) others = cond (eqb x w) (xs ∷ others) others

abbrev pub tails : ℕ → List (List ℕ) → List (List ℕ)
tails w [] = []
tails w (list ∷ lists) = behind w list (tails w lists)

behind_forth : (w : ℕ) (list : List ℕ) (lists others : List (List ℕ)) (ranks : List ℕ) → (Contains others ranks → Contains lists (w ∷ ranks))
    → Contains (behind w list others) ranks → Contains (list ∷ lists) (w ∷ ranks)
behind_forth w [] lists others ranks rest held = Contains-other [] lists (w ∷ ranks) (rest held)
behind_forth w (x ∷ xs) lists others ranks rest held = go (eqb x w) refl held
  where
    go : (b : Bool) → eqb x w ≡ b → Contains (cond b (xs ∷ others) others) ranks → Contains ((x ∷ xs) ∷ lists) (w ∷ ranks)
    go false e held = Contains-other (x ∷ xs) lists (w ∷ ranks) (rest held)
    go true e held = elim (Contains-cases xs others ranks held) [
      | inl same ↦ subst (Contains ((x ∷ xs) ∷ lists)) (λ i. eqb-true x w e i ∷ sym same i) (Contains-first (x ∷ xs) lists)
      | inr later ↦ Contains-other (x ∷ xs) lists (w ∷ ranks) (rest later)
    ]

behind_kept : (w : ℕ) (list : List ℕ) (others : List (List ℕ)) (ranks : List ℕ) → Contains others ranks → Contains (behind w list others) ranks
behind_kept w [] others ranks held = held
behind_kept w (x ∷ xs) others ranks held = go (eqb x w)
  where
    go : (b : Bool) → Contains (cond b (xs ∷ others) others) ranks
    go true = Contains-other xs others ranks held
    go false = held

behind_first : (w : ℕ) (list : List ℕ) (others : List (List ℕ)) (ranks : List ℕ) → w ∷ ranks ≡ list → Contains (behind w list others) ranks
behind_first w [] others ranks same = absurd (cc)
behind_first w (x ∷ xs) others ranks same = go (eqb x w) refl
  where
    go : (b : Bool) → eqb x w ≡ b → Contains (cond b (xs ∷ others) others) ranks
    go true e = (let tail : ranks ≡ xs = cc in subst (Contains (xs ∷ others)) (sym tail) (Contains-first xs others))
    go false e = (let first : w ≡ x = cc in absurd (eqb-false x w e (sym first)))

pub tails-exact : (w : ℕ) (lists : List (List ℕ)) (ranks : List ℕ) → Contains (tails w lists) ranks ↔ Contains lists (w ∷ ranks)
tails-exact w [] ranks = ((λ held. absurd (Contains-none ranks held)), (λ held. absurd (Contains-none (w ∷ ranks) held)))
tails-exact w (list ∷ lists) ranks =
    let rest = tails-exact w lists ranks in (
      behind_forth w list lists (tails w lists) ranks rest.0,
      (λ held. elim (Contains-cases list lists (w ∷ ranks) held) [
        | inl same ↦ behind_first w list (tails w lists) ranks same
        | inr later ↦ behind_kept w list (tails w lists) ranks (rest.1 later)
      ]),
    )

-- whether the empty list is among them
abbrev pub is_empty : List ℕ → Bool
is_empty [] = true
is_empty (x ∷ xs) = false

abbrev pub has_empty : List (List ℕ) → Bool
has_empty [] = false
has_empty (list ∷ lists) = cond (is_empty list) true (has_empty lists)

empty_first : (list : List ℕ) (lists : List (List ℕ)) → (IsTrue (has_empty lists) ↔ Contains lists []) → IsTrue (cond (is_empty list) true (has_empty lists)) ↔ Contains (list ∷ lists) []
empty_first [] lists rest = ((λ t. Contains-first [] lists), (λ held. refl))
empty_first (x ∷ xs) lists rest = (
  (λ t. Contains-other (x ∷ xs) lists [] (rest.0 t)),
  (λ held. elim (Contains-cases (x ∷ xs) lists [] held) [
    | inl same ↦ absurd (cc)
    | inr later ↦ rest.1 later
  ]),
)

pub empty-exact : (lists : List (List ℕ)) → IsTrue (has_empty lists) ↔ Contains lists []
empty-exact [] = ((λ t. absurd (true≢false (sym t))), (λ held. absurd (Contains-none [] held)))
empty-exact (list ∷ lists) = empty_first list lists (empty-exact lists)

-- the first ranks, rising

record IsInserted (w : ℕ) (xs ys : List ℕ) : Type 0 where
  rising : AllPairs (λ low high. low < high) ys
  exact : (v : ℕ) → Contains ys v ↔ ((v ≡ w) ⊎ Contains xs v)

insert_any : (w : ℕ) (xs : List ℕ) → AllPairs (λ low high. low < high) xs → (ys : List ℕ) × IsInserted w xs ys
insert_any w [] rising = (
  w ∷ [],
  record {
    rising = λ i j e less inside. absurd (omega (arith, less, inside));
    exact = λ v. (
      (λ held. elim (Contains-cases w [] v held) [ inl same ↦ inl same | inr none ↦ inr none ]),
      (λ either. elim either [
        | inl same ↦ subst (Contains (w ∷ [])) (sym same) (Contains-first w [])
        | inr none ↦ absurd (Contains-none v none)
      ]),
    );
  },
)
insert_any w (x ∷ xs) rising = elim (cases_lt w x) [
  | inl less ↦ (
    w ∷ x ∷ xs,
    record {
      rising = AllPairs-cons (λ low high. low < high) w (x ∷ xs)
          (λ k d below. elim (Contains-cases x xs (get_or (x ∷ xs) k d) (Contains-get_or (x ∷ xs) k d below)) [
            | inl same ↦ omega (arith, less, same)
            | inr later ↦ (let more : x < get_or (x ∷ xs) k d = AllPairs-head (λ low high. low < high) x xs rising (get_or (x ∷ xs) k d) later in omega (arith, less, more))
          ]) rising;
      exact = λ v. (
        Contains-cases w (x ∷ xs) v,
        (λ either. elim either [
          | inl same ↦ subst (Contains (w ∷ x ∷ xs)) (sym same) (Contains-first w (x ∷ xs))
          | inr old ↦ Contains-other w (x ∷ xs) v old
        ]),
      );
    },
  )
  | inr most ↦ elim (cases_eq w x) [
    | inl same ↦ (
      x ∷ xs,
      record {
        rising = rising;
        exact = λ v. (
          (λ held. inr held),
          (λ either. elim either [
            | inl is ↦ subst (Contains (x ∷ xs)) (sym (is ∙ same)) (Contains-first x xs)
            | inr old ↦ old
          ]),
        );
      },
    )
    | inr other ↦
        (let (ys, is) = insert_any w xs (AllPairs-tail (λ low high. low < high) x xs rising) in (
          x ∷ ys,
          record {
            rising = AllPairs-cons (λ low high. low < high) x ys
                (λ k d below. elim ((is.exact (get_or ys k d)).0 (Contains-get_or ys k d below)) [
                  | inl same ↦ omega (arith, most, same, other)
                  | inr later ↦ AllPairs-head (λ low high. low < high) x xs rising (get_or ys k d) later
                ]) is.rising;
            exact = λ v. (
              (λ held. elim (Contains-cases x ys v held) [
                | inl same ↦ inr (subst (Contains (x ∷ xs)) (sym same) (Contains-first x xs))
                | inr later ↦ elim ((is.exact v).0 later) [ inl new ↦ inl new | inr old ↦ inr (Contains-other x xs v old) ]
              ]),
              (λ either. elim either [
                | inl new ↦ Contains-other x ys v ((is.exact v).1 (inl new))
                | inr old ↦ elim (Contains-cases x xs v old) [
                  | inl same ↦ subst (Contains (x ∷ ys)) (sym same) (Contains-first x ys)
                  | inr later ↦ Contains-other x ys v ((is.exact v).1 (inr later))
                ]
              ]),
            );
          },
        ))
  ]
]

record AreHeads (lists : List (List ℕ)) (heads : List ℕ) : Type 0 where
  rising : AllPairs (λ low high. low < high) heads
  there : (w : ℕ) → Contains heads w → (ranks : List ℕ) × Contains lists (w ∷ ranks)
  back : (w : ℕ) (ranks : List ℕ) → Contains lists (w ∷ ranks) → Contains heads w

heads_of : (lists : List (List ℕ)) → (heads : List ℕ) × AreHeads lists heads
heads_of [] = (
  [],
  record {
    rising = λ i j e less inside. absurd (omega (arith, inside));
    there = λ w held. absurd (Contains-none w held);
    back = λ w ranks held. absurd (Contains-none (w ∷ ranks) held);
  },
)
heads_of ([] ∷ lists) =
    let (heads, are) = heads_of lists in (
      heads,
      record {
        rising = are.rising;
        there = λ w held. (let (ranks, inside) = are.there w held in (ranks, Contains-other [] lists (w ∷ ranks) inside));
        back = λ w ranks held. elim (Contains-cases [] lists (w ∷ ranks) held) [ inl same ↦ absurd (cc) | inr later ↦ are.back w ranks later ];
      },
    )
heads_of ((x ∷ xs) ∷ lists) =
    let (heads, are) = heads_of lists in
    let (more, is) = insert_any x heads are.rising in (
      more,
      record {
        rising = is.rising;
        there = λ w held. elim ((is.exact w).0 held) [
          | inl same ↦ (xs, subst (λ v. Contains ((x ∷ xs) ∷ lists) (v ∷ xs)) (sym same) (Contains-first (x ∷ xs) lists))
          | inr old ↦ (let (ranks, inside) = are.there w old in (ranks, Contains-other (x ∷ xs) lists (w ∷ ranks) inside))
        ];
        back = λ w ranks held. elim (Contains-cases (x ∷ xs) lists (w ∷ ranks) held) [
          | inl same ↦ (let first : w ≡ x = cc in (is.exact w).1 (inl first))
          | inr later ↦ (is.exact w).1 (inr (are.back w ranks later))
        ];
      },
    )

-- Whether a state is there

state_decided : (s t : StateValue) → (s ≡ t) ⊎ (s ≡ t → ⊥)
state_decided s t = elim (bytes_eq (state_code s) (state_code t)) as (λ b. bytes_eq (state_code s) (state_code t) ≡ b → (s ≡ t) ⊎ (s ≡ t → ⊥)) [
  | true ↦ λ e.
      let codes : state_code s ≡ state_code t = (bytes_eq-Decides (state_code s) (state_code t)).0 e in
      let one : s ∷ [] ≡ t ∷ [] = code-same (s ∷ []) (t ∷ []) (append-nil (state_code s) ∙ codes ∙ sym (append-nil (state_code t))) in
      inl (cc)
  | false ↦ λ e. inr (λ same. true≢false (sym ((bytes_eq-Decides (state_code s) (state_code t)).1 (ap state_code same)) ∙ e))
] refl

there_decided : (states : List StateValue) (s : StateValue) → Contains states s ⊎ (Contains states s → ⊥)
there_decided [] s = inr (Contains-none s)
there_decided (t ∷ states) s = elim (state_decided s t) [
  | inl same ↦ inl (subst (Contains (t ∷ states)) (sym same) (Contains-first t states))
  | inr other ↦ elim (there_decided states s) [
    | inl later ↦ inl (Contains-other t states s later)
    | inr none ↦ inr (λ held. elim (Contains-cases t states s held) [ inl same ↦ other same | inr later ↦ none later ])
  ]
]

-- A registry with a node for the lists

record HasNode (IsMember : List ℕ → Type 0) (states : List StateValue) : Type 0 where
  more : List StateValue
  registry : IsRegistry (states ++ more)
  number : ℕ
  inside : number < length (states ++ more)
  node : IsRightLanguageOf IsMember (states ++ more) number

record HasEdges (IsMember : List ℕ → Type 0) (states : List StateValue) (ranks : List ℕ) : Type 0 where
  more : List StateValue
  registry : IsRegistry (states ++ more)
  edges : List Edge
  are : AllByRecursion (IsEdgeOf IsMember (states ++ more)) edges
  ranks_are : map (λ (edge : Edge). edge.rank) edges ≡ ranks

edge_stays : (IsMember : List ℕ → Type 0) (states more : List StateValue) → IsRegistry states → (edge : Edge) → IsEdgeOf IsMember states edge → IsEdgeOf IsMember (states ++ more) edge
edge_stays IsMember states more registry edge is = record {
  inside = omega (arith, is.inside, length-append states more);
  more = is.more;
  begins = is.begins;
  node = node-stays states registry (λ ranks. IsMember (edge.rank ∷ ranks)) more edge.to is.inside is.node;
}

edges_stay : (IsMember : List ℕ → Type 0) (states more : List StateValue) → IsRegistry states → (edges : List Edge) → AllByRecursion (IsEdgeOf IsMember states) edges → AllByRecursion (IsEdgeOf IsMember (states ++ more)) edges
edges_stay IsMember states more registry [] are = tt
edges_stay IsMember states more registry (e ∷ edges) are = (edge_stays IsMember states more registry e are.0, edges_stay IsMember states more registry edges are.1)

pub edges_rise : (edges : List Edge) (ranks : List ℕ) → map (λ (edge : Edge). edge.rank) edges ≡ ranks → AllPairs (λ low high. low < high) ranks → AllPairs (λ (low : Edge) (high : Edge). low.rank < high.rank) edges
edges_rise [] ranks same rising = λ i j e less inside. absurd (omega (arith, inside))
edges_rise (e ∷ edges) [] same rising = absurd (cc)
edges_rise (e ∷ edges) (r ∷ ranks) same rising =
    let first : e.rank ≡ r = cc in
    let rest : map (λ (edge : Edge). edge.rank) edges ≡ ranks = cc in
    AllPairs-cons (λ (low : Edge) (high : Edge). low.rank < high.rank) e edges
    (λ k d below.
    let held : Contains ranks (get_or edges k d).rank = subst (λ l. Contains l (get_or edges k d).rank) rest (Contains-by (λ (edge : Edge). edge.rank) edges (get_or edges k d) (Contains-get_or edges k d below)) in
    let less : r < (get_or edges k d).rank = AllPairs-head (λ low high. low < high) r ranks rising (get_or edges k d).rank held in
    omega (arith, less, first))
    (edges_rise edges ranks rest (AllPairs-tail (λ low high. low < high) r ranks rising))

abbrev Short : ℕ → List (List ℕ) → Type 0
Short n lists = (list : List ℕ) → Contains lists list → length list ≤ n

-- edges for these first ranks, where lists that are shorter have nodes
edges_for : (lists : List (List ℕ)) → ((w : ℕ) (states : List StateValue) → IsRegistry states → HasNode (Contains (tails w lists)) states)
    → (ranks : List ℕ) → ((w : ℕ) → Contains ranks w → (more : List ℕ) × Contains lists (w ∷ more))
    → (states : List StateValue) → IsRegistry states → HasEdges (Contains lists) states ranks
edges_for lists shorter [] each states registry = record {
  more = [];
  registry = subst IsRegistry (sym (append-nil states)) registry;
  edges = [];
  are = tt;
  ranks_are = refl;
}
edges_for lists shorter (w ∷ ranks) each states registry =
    let rest = edges_for lists shorter ranks (λ v held. each v (Contains-other w ranks v held)) states registry in
    let found = shorter w (states ++ rest.more) rest.registry in
    let whole : (states ++ rest.more) ++ found.more ≡ states ++ (rest.more ++ found.more) = append_assoc states rest.more found.more in
    let edge : Edge = record { rank = w; to = found.number } in
    let (more, begins) = each w (Contains-first w ranks) in
    let is : IsEdgeOf (Contains lists) ((states ++ rest.more) ++ found.more) edge = record {
      inside = found.inside;
      more = more;
      begins = begins;
      node = λ others. (
        (λ a. (tails-exact w lists others).0 ((found.node others).0 a)),
        (λ m. (found.node others).1 ((tails-exact w lists others).1 m)),
      );
    } in
    let others : AllByRecursion (IsEdgeOf (Contains lists) ((states ++ rest.more) ++ found.more)) rest.edges = edges_stay (Contains lists) (states ++ rest.more) found.more rest.registry rest.edges rest.are in
    record {
      more = rest.more ++ found.more;
      registry = subst IsRegistry whole found.registry;
      edges = edge ∷ rest.edges;
      are = subst (λ s. AllByRecursion (IsEdgeOf (Contains lists) s) (edge ∷ rest.edges)) whole (is, others);
      ranks_are = λ i. w ∷ rest.ranks_are i;
    }

-- the state for the lists
state_is : (lists : List (List ℕ)) (states : List StateValue) (heads : List ℕ) → AreHeads lists heads → (has : HasEdges (Contains lists) states heads)
    → IsStateOf (Contains lists) (states ++ has.more) (record { accepts = has_empty lists; edges = has.edges })
state_is lists states heads are has = record {
  accepts = empty-exact lists;
  rising = edges_rise has.edges heads has.ranks_are are.rising;
  edge = λ edge held. AllByRecursion-contained (IsEdgeOf (Contains lists) (states ++ has.more)) has.edges edge has.are held;
  all = λ rank ranks member.
      (let held : Contains (map (λ (edge : Edge). edge.rank) has.edges) rank = subst (λ l. Contains l rank) (sym has.ranks_are) (are.back rank ranks member) in
      let (edge, inside, same) = Contains-from (λ (edge : Edge). edge.rank) has.edges rank held in
      (edge, inside, sym same));
}

state_for : (lists : List (List ℕ)) (states : List StateValue) (heads : List ℕ) → AreHeads lists heads → (has : HasEdges (Contains lists) states heads)
    → (state : StateValue) → IsStateOf (Contains lists) (states ++ has.more) state
    → Contains (states ++ has.more) state ⊎ (Contains (states ++ has.more) state → ⊥) → HasNode (Contains lists) states
state_for lists states heads are has state is (inl held) =
    let (number, at) = get-place (states ++ has.more) state held in
    record {
      more = has.more;
      registry = has.registry;
      number = number;
      inside = slice_get_within (states ++ has.more) number state at;
      node = node-found (states ++ has.more) has.registry (Contains lists) state is number at;
    }
state_for lists states heads are has state is (inr fresh) =
    let whole : (states ++ has.more) ++ state ∷ [] ≡ states ++ (has.more ++ state ∷ []) = append_assoc states has.more (state ∷ []) in
    record {
      more = has.more ++ state ∷ [];
      registry = subst IsRegistry whole (registry-pushed (states ++ has.more) has.registry (Contains lists) state is (λ other held same. fresh (subst (Contains (states ++ has.more)) same held)));
      number = length (states ++ has.more);
      inside = subst (λ l. length (states ++ has.more) < length l) whole (omega (arith, length-append (states ++ has.more) (state ∷ [])));
      node = subst (λ l. IsRightLanguageOf (Contains lists) l (length (states ++ has.more))) whole (node-pushed (states ++ has.more) has.registry (Contains lists) state is);
    }

node_with : (lists : List (List ℕ)) (states : List StateValue) (heads : List ℕ) → AreHeads lists heads → HasEdges (Contains lists) states heads → HasNode (Contains lists) states
node_with lists states heads are has =
    let state : StateValue = record { accepts = has_empty lists; edges = has.edges } in
    state_for lists states heads are has state (state_is lists states heads are has) (there_decided (states ++ has.more) state)

-- lists of so many ranks at most have a node in some larger registry
short_node : (n : ℕ) (lists : List (List ℕ)) → Short n lists → (states : List StateValue) → IsRegistry states → HasNode (Contains lists) states
short_node zero lists short states registry =
    node_with lists states [] (record {
      rising = λ i j e less inside. absurd (omega (arith, inside));
      there = λ w held. absurd (Contains-none w held);
      back = λ w ranks held. absurd (omega (arith, short (w ∷ ranks) held));
    }) (record { more = []; registry = subst IsRegistry (sym (append-nil states)) registry; edges = []; are = tt; ranks_are = refl })
short_node (suc n) lists short states registry =
    let (heads, are) = heads_of lists in
    node_with lists states heads are (edges_for lists (λ w others kept. short_node n (tails w lists) (λ list held. omega (arith, short (w ∷ list) ((tails-exact w lists list).0 held))) others kept) heads are.there states registry)

abbrev longest : List (List ℕ) → ℕ
longest [] = 0
longest (list ∷ lists) = length list + longest lists

longest_short : (lists : List (List ℕ)) → Short (longest lists) lists
longest_short [] list held = absurd (Contains-none list held)
longest_short (first ∷ lists) list held = elim (Contains-cases first lists list held) [
  | inl same ↦ omega (arith, ap length same)
  | inr later ↦ omega (arith, longest_short lists list later)
]

pub no_states : IsRegistry []
no_states = record { kept = λ number state at. absurd (cc); once = λ i j e less inside. absurd (omega (arith, inside)) }

-- EACH FINITE SET has a code
pub lists-code : (lists : List (List ℕ)) → (code : List ℕ) × IsCodeOf (Contains lists) code
lists-code lists =
    let found = short_node (longest lists) lists (longest_short lists) [] no_states in
    let (state, at) = get-some ([] ++ found.more) found.number found.inside in
    let (code, is) = state-code ([] ++ found.more) found.registry found.number state at in
    (code, code-also (Accepts ([] ++ found.more) found.number) (Contains lists) found.node code is)
