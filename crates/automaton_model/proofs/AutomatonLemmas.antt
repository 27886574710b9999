-- The automata of codes, and what they accept.
use Rattle.std.proofs.Common.{◌≡◌, ℕ, zero, suc, ◌<◌, ◌↔◌, ◌⊎◌, inl, inr, Bool, true, false, Some, None, Option, List, [], ◌∷◌, ◌++◌, length, refl, sym, ap, ◌∙◌, subst, arith, true≢false, append_assoc}
use Rattle.std.specs.Prelude.{if◌then◌else◌, IsTrue}
use Rattle.std.proofs.lemmas.Bool.{cases_eq}
use Rattle.std.specs.List.{AllPairs, AllZip, Contains, slice_get, flat_map}
use Rattle.std.proofs.lemmas.List.{append-nil}
use Rattle.mine_model.proofs.ListLemmas.{Contains-cases, Contains-first, Contains-other, Contains-none, AllPairs-head, order-same}
use Rattle.mine_model.specs.Lists.{IsEarlier}
use Rattle.mine_model.proofs.EarlierLemmas.{earlier-both, earlier-cases, earlier-none}
use Rattle.mine_model.proofs.ElementLemmas.{get-place, same-some}
use Rattle.automaton_model.specs.Automata.{Edge, StateValue, Accepts, edge_code, code_of}
use Rattle.automaton_model.specs.Codes.{IsPrefixIn, AreNerodeEquivalent, IsFirstVisit, Leads, IsStateAfter, IsMinimalAutomaton, IsCodeOf}
use Rattle.automaton_model.proofs.ZipLemmas.{zip-there}

-- Codes are those of one automaton

edges_same : (es fs : List Edge) (us vs : List ℕ) → length es ≡ length fs → flat_map edge_code es ++ us ≡ flat_map edge_code fs ++ vs → (es ≡ fs) × (us ≡ vs)
edges_same [] [] us vs long same = (refl, same)
edges_same [] (f ∷ fs) us vs long same = absurd (omega (arith, long))
edges_same (e ∷ es) [] us vs long same = absurd (omega (arith, long))
edges_same (e ∷ es) (f ∷ fs) us vs long same =
    let shorter : length es ≡ length fs = omega (arith, long) in
    let rank : e.rank ≡ f.rank = cc in
    let to : e.to ≡ f.to = cc in
    let behind : flat_map edge_code es ++ us ≡ flat_map edge_code fs ++ vs = cc in
    let rest = edges_same es fs us vs shorter behind in
    ((λ i. (record { rank = rank i; to = to i }) ∷ rest.0 i), rest.1)

abbrev pub flag_of : Bool → ℕ
flag_of b = if b then 1 else 0

flags_same : (a b : Bool) → flag_of a ≡ flag_of b → a ≡ b
flags_same true true same = refl
flags_same true false same = absurd (omega (arith, same))
flags_same false true same = absurd (omega (arith, same))
flags_same false false same = refl

pub code-same : (ss ts : List StateValue) → code_of ss ≡ code_of ts → ss ≡ ts
code-same [] [] same = refl
code-same [] (t ∷ ts) same = absurd (cc)
code-same (s ∷ ss) [] same = absurd (cc)
code-same (s ∷ ss) (t ∷ ts) same =
    let flag : flag_of s.accepts ≡ flag_of t.accepts = cc in
    let accepts : s.accepts ≡ t.accepts = flags_same s.accepts t.accepts flag in
    let long : length s.edges ≡ length t.edges = cc in
    let behind : flat_map edge_code s.edges ++ code_of ss ≡ flat_map edge_code t.edges ++ code_of ts = cc in
    let both = edges_same s.edges t.edges (code_of ss) (code_of ts) long behind in
    let rest : ss ≡ ts = code-same ss ts both.1 in
    λ i. (record { accepts = accepts i; edges = both.0 i }) ∷ rest i

-- Minimal automata

module _ (IsMember : List ℕ → Type 0) where
  one_rest-back : (first second : List ℕ) → AreNerodeEquivalent IsMember first second → AreNerodeEquivalent IsMember second first
  one_rest-back first second same = λ more. ((same more).1, (same more).0)

  one_rest-chain : (first second third : List ℕ) → AreNerodeEquivalent IsMember first second → AreNerodeEquivalent IsMember second third → AreNerodeEquivalent IsMember first third
  one_rest-chain first second third p q = λ more. ((λ m. (q more).0 ((p more).0 m)), (λ m. (p more).1 ((q more).1 m)))

  -- two first visits of one rest are one
  pub visit-same : (x y : List ℕ) → IsFirstVisit IsMember x → IsFirstVisit IsMember y → AreNerodeEquivalent IsMember x y → x ≡ y
  visit-same x y p q same = elim (earlier-cases x y) [
    | inl less ↦ absurd (q.new x less p.begins same)
    | inr other ↦ elim other [
      | inl equal ↦ equal
      | inr less ↦ absurd (p.new y less q.begins (one_rest-back x y same))
    ]
  ]

  -- the visits of one automaton are those of each other
  visits_in : (ss ts : List StateValue) (p : IsMinimalAutomaton IsMember ss) (q : IsMinimalAutomaton IsMember ts) → (x : List ℕ) → Contains p.visits x → Contains q.visits x
  visits_in ss ts p q x held =
      let is = p.first x held in
      let (visit, inside, same) = q.all x is.begins in
      subst (Contains q.visits) (visit-same visit x (q.first visit inside) is same) inside

  pub visits-same : (ss ts : List StateValue) (p : IsMinimalAutomaton IsMember ss) (q : IsMinimalAutomaton IsMember ts) → p.visits ≡ q.visits
  visits-same ss ts p q =
      order-same IsEarlier earlier-both p.visits q.visits p.rising q.rising (visits_in ss ts p q) (visits_in ts ss q p)

  pub bools_same : (a b : Bool) → ((IsTrue a) ↔ (IsTrue b)) → a ≡ b
  bools_same true true same = refl
  bools_same true false same = sym (same.0 refl)
  bools_same false true same = same.1 refl
  bools_same false false same = refl

  pub ranks_apart : (x y : Edge) → x.rank < y.rank → y.rank < x.rank → ⊥
  ranks_apart x y p q = omega (arith, p, q)

  -- a state after a prefix is determined
  state_same : (visits : List (List ℕ)) (prefix : List ℕ) (s t : StateValue) → IsStateAfter IsMember visits prefix s → IsStateAfter IsMember visits prefix t → s ≡ t
  state_same visits prefix s t p q =
      let accepts : s.accepts ≡ t.accepts = bools_same s.accepts t.accepts ((λ good. q.accepts.1 (p.accepts.0 good)), (λ good. p.accepts.1 (q.accepts.0 good))) in
      let edges : s.edges ≡ t.edges = order-same (λ (low : Edge) (high : Edge). low.rank < high.rank) ranks_apart s.edges t.edges p.rising q.rising
      (λ e held. (q.exact e).1 ((p.exact e).0 held)) (λ e held. (p.exact e).1 ((q.exact e).0 held)) in
      λ i. record { accepts = accepts i; edges = edges i }

  states_same : (all visits : List (List ℕ)) (ss ts : List StateValue) → AllZip (IsStateAfter IsMember all) visits ss → AllZip (IsStateAfter IsMember all) visits ts → ss ≡ ts
  states_same all [] [] [] p q = refl
  states_same all [] [] (t ∷ ts) p q = absurd q
  states_same all [] (s ∷ ss) ts p q = absurd p
  states_same all (v ∷ visits) [] ts p q = absurd p
  states_same all (v ∷ visits) (s ∷ ss) [] p q = absurd q
  states_same all (v ∷ visits) (s ∷ ss) (t ∷ ts) p q =
      let first : s ≡ t = state_same all v s t p.0 q.0 in
      let rest : ss ≡ ts = states_same all visits ss ts p.1 q.1 in
      λ i. first i ∷ rest i

  -- there is at most one minimal automaton
  pub least-unique : (ss ts : List StateValue) → IsMinimalAutomaton IsMember ss → IsMinimalAutomaton IsMember ts → ss ≡ ts
  least-unique ss ts p q =
      let same = visits-same ss ts p q in
      states_same q.visits q.visits ss ts (subst (λ v. AllZip (IsStateAfter IsMember v) v ss) same p.state) q.state

  -- a set has at most one code
  pub code-unique : (code other : List ℕ) → IsCodeOf IsMember code → IsCodeOf IsMember other → code ≡ other
  code-unique code other (ss, p, is) (ts, q, as_well) = is ∙ ap code_of (least-unique ss ts p q) ∙ sym as_well

  -- What an automaton accepts

  module _ (states : List StateValue) (least : IsMinimalAutomaton IsMember states) where
    -- from the state of a visit it accepts the rest after the visit
    accepts_forth : (ranks : List ℕ) (k : ℕ) (visit : List ℕ) → slice_get least.visits k ≡ Some visit → Accepts states k ranks → IsMember (visit ++ ranks)
    accepts_forth [] k visit at (s, is, good) =
        let (t, also, after) = zip-there (IsStateAfter IsMember least.visits) least.visits states least.state k visit at in
        let same : s ≡ t = same-some s t (slice_get states k) is also in
        subst IsMember (sym (append-nil visit)) (after.accepts.0 (subst (λ (x : StateValue). IsTrue x.accepts) same good))
    accepts_forth (w ∷ ranks) k visit at (s, edge, is, held, rank, next) =
        let (t, also, after) = zip-there (IsStateAfter IsMember least.visits) least.visits states least.state k visit at in
        let same : s ≡ t = same-some s t (slice_get states k) is also in
        let leads : Leads IsMember least.visits visit edge = (after.exact edge).0 (subst (λ (x : StateValue). Contains x.edges edge) same held) in
        let member : IsMember ((visit ++ edge.rank ∷ []) ++ ranks) = (leads.same ranks).0 (accepts_forth ranks edge.to leads.first leads.numbered next) in
        subst (λ r. IsMember (visit ++ r ∷ ranks)) rank (subst IsMember (append_assoc visit (edge.rank ∷ []) ranks) member)

    pub accepts_back : (ranks : List ℕ) (k : ℕ) (visit : List ℕ) → slice_get least.visits k ≡ Some visit → IsMember (visit ++ ranks) → Accepts states k ranks
    accepts_back [] k visit at member =
        let (t, also, after) = zip-there (IsStateAfter IsMember least.visits) least.visits states least.state k visit at in
        (t, also, after.accepts.1 (subst IsMember (append-nil visit) member))
    accepts_back (w ∷ ranks) k visit at member =
        let (t, also, after) = zip-there (IsStateAfter IsMember least.visits) least.visits states least.state k visit at in
        let moved : IsMember ((visit ++ w ∷ []) ++ ranks) = subst IsMember (sym (append_assoc visit (w ∷ []) ranks)) member in
        let (next, inside, same) = least.all (visit ++ w ∷ []) (inr (ranks, moved)) in
        let (number, numbered) = get-place least.visits next inside in
        let edge : Edge = record { rank = w; to = number } in
        let leads : Leads IsMember least.visits visit edge = record { more = ranks; begins = member; first = next; numbered = numbered; same = same } in
        (t, edge, also, (after.exact edge).1 leads, refl, accepts_back ranks number next numbered ((same ranks).1 moved))

    -- the first state is that of the empty prefix
    pub first-visit : slice_get least.visits 0 ≡ Some []
    first-visit =
        let (visit, inside, same) = least.all [] (inl refl) in
        let here : visit ≡ [] = visit-same visit [] (least.first visit inside) (record { begins = inl refl; new = λ earlier less. absurd (earlier-none earlier less) }) same in
        go least.visits least.rising (subst (Contains least.visits) here inside)
      where
        go : (visits : List (List ℕ)) → AllPairs IsEarlier visits → Contains visits [] → slice_get visits 0 ≡ Some []
        go [] rising held = absurd (Contains-none [] held)
        go (v ∷ visits) rising held = elim (Contains-cases v visits [] held) [
          | inl same ↦ ap Some (sym same)
          | inr later ↦ absurd (earlier-none v (AllPairs-head IsEarlier v visits rising [] later))
        ]

    -- from its first state it accepts exactly the set
    pub accepts-exact : (ranks : List ℕ) → Accepts states 0 ranks ↔ IsMember ranks
    accepts-exact ranks = (accepts_forth ranks 0 [] first-visit, accepts_back ranks 0 [] first-visit)

-- EQUAL CODES HAVE EQUAL SETS
pub equal-codes : (IsMember Also : List ℕ → Type 0) (code : List ℕ) → IsCodeOf IsMember code → IsCodeOf Also code → (ranks : List ℕ) → IsMember ranks ↔ Also ranks
equal-codes IsMember Also code (ss, p, is) (ts, q, as_well) ranks =
    let same : ss ≡ ts = code-same ss ts (sym is ∙ as_well) in
    let exact : Accepts ss 0 ranks ↔ IsMember ranks = accepts-exact IsMember ss p ranks in
    let other : Accepts ss 0 ranks ↔ Also ranks = subst (λ (l : List StateValue). Accepts l 0 ranks ↔ Also ranks) (sym same) (accepts-exact Also ts q ranks) in
    ((λ m. other.0 (exact.1 m)), (λ m. exact.0 (other.1 m)))

-- equal sets have equal codes
module _ (IsMember Also : List ℕ → Type 0) (same : (ranks : List ℕ) → IsMember ranks ↔ Also ranks) where
  begins_also : (prefix : List ℕ) → IsPrefixIn IsMember prefix → IsPrefixIn Also prefix
  begins_also prefix (inl none) = inl none
  begins_also prefix (inr (more, member)) = inr (more, (same (prefix ++ more)).0 member)

  also_begins : (prefix : List ℕ) → IsPrefixIn Also prefix → IsPrefixIn IsMember prefix
  also_begins prefix (inl none) = inl none
  also_begins prefix (inr (more, member)) = inr (more, (same (prefix ++ more)).1 member)

  rest_also : (first second : List ℕ) → AreNerodeEquivalent IsMember first second → AreNerodeEquivalent Also first second
  rest_also first second rests = λ more. (
    (λ m. (same (second ++ more)).0 ((rests more).0 ((same (first ++ more)).1 m))),
    (λ m. (same (first ++ more)).0 ((rests more).1 ((same (second ++ more)).1 m))),
  )

  also_rest : (first second : List ℕ) → AreNerodeEquivalent Also first second → AreNerodeEquivalent IsMember first second
  also_rest first second rests = λ more. (
    (λ m. (same (second ++ more)).1 ((rests more).0 ((same (first ++ more)).0 m))),
    (λ m. (same (first ++ more)).1 ((rests more).1 ((same (second ++ more)).0 m))),
  )

  state_also : (visits : List (List ℕ)) (prefix : List ℕ) (s : StateValue) → IsStateAfter IsMember visits prefix s → IsStateAfter Also visits prefix s
  state_also visits prefix s after = record {
    accepts = ((λ good. (same prefix).0 (after.accepts.0 good)), (λ m. after.accepts.1 ((same prefix).1 m)));
    rising = after.rising;
    exact = λ edge. (
      (λ held. let leads = (after.exact edge).0 held in record {
        more = leads.more;
        begins = (same (prefix ++ edge.rank ∷ leads.more)).0 leads.begins;
        first = leads.first;
        numbered = leads.numbered;
        same = rest_also leads.first (prefix ++ edge.rank ∷ []) leads.same;
      }),
      (λ leads. (after.exact edge).1 (record {
        more = leads.more;
        begins = (same (prefix ++ edge.rank ∷ leads.more)).1 leads.begins;
        first = leads.first;
        numbered = leads.numbered;
        same = also_rest leads.first (prefix ++ edge.rank ∷ []) leads.same;
      })),
    );
  }

  zip_also : (all visits : List (List ℕ)) (ss : List StateValue) → AllZip (IsStateAfter IsMember all) visits ss → AllZip (IsStateAfter Also all) visits ss
  zip_also all [] [] zip = zip
  zip_also all [] (s ∷ ss) zip = absurd zip
  zip_also all (v ∷ visits) [] zip = absurd zip
  zip_also all (v ∷ visits) (s ∷ ss) zip = (state_also all v s zip.0, zip_also all visits ss zip.1)

  pub code-also : (code : List ℕ) → IsCodeOf IsMember code → IsCodeOf Also code
  code-also code (states, least, is) = (
    states,
    record {
      visits = least.visits;
      rising = least.rising;
      first = λ visit held. (let is_first = least.first visit held in record {
        begins = begins_also visit is_first.begins;
        new = λ earlier less begins rests. is_first.new earlier less (also_begins earlier begins) (also_rest earlier visit rests);
      });
      all = λ prefix begins. (let (visit, held, rests) = least.all prefix (also_begins prefix begins) in (visit, held, rest_also visit prefix rests));
      state = zip_also least.visits least.visits states least.state;
    },
    is,
  )

-- Whether a list is accepted

any_decided : {X : Type 0} (P : X → Type 0) → ((x : X) → P x ⊎ (P x → ⊥)) → (xs : List X) → ((x : X) × Contains xs x × P x) ⊎ ((x : X) → Contains xs x → P x → ⊥)
any_decided P each [] = inr (λ x held p. Contains-none x held)
any_decided P each (x ∷ xs) = elim (each x) [
  | inl good ↦ inl (x, Contains-first x xs, good)
  | inr no_first ↦ elim (any_decided P each xs) [
    | inl some ↦ (let (y, held, good) = some in inl (y, Contains-other x xs y held, good))
    | inr none ↦ inr (λ y held p. elim (Contains-cases x xs y held) [
      | inl same ↦ no_first (subst P same p)
      | inr other ↦ none y other p
    ])
  ]
]

get_cases : {X : Type 0} (xs : List X) (k : ℕ) → ((x : X) × (slice_get xs k ≡ Some x)) ⊎ (slice_get xs k ≡ None)
get_cases [] k = inr refl
get_cases (x ∷ xs) zero = inl (x, refl)
get_cases (x ∷ xs) (suc k) = get_cases xs k

nothing_there : {X : Type 0} (o : Option X) (x : X) → o ≡ None → o ≡ Some x → ⊥
nothing_there o x p q = cc

pub accepts-decided : (states : List StateValue) (ranks : List ℕ) (from : ℕ) → Accepts states from ranks ⊎ (Accepts states from ranks → ⊥)
accepts-decided states [] from = elim (get_cases states from) [
  | inl some ↦ (let (s, is) = some in end s is s.accepts refl)
  | inr none ↦ inr (λ (s, is, good). nothing_there (slice_get states from) s none is)
]
  where
    end : (s : StateValue) → slice_get states from ≡ Some s → (b : Bool) → s.accepts ≡ b → Accepts states from [] ⊎ (Accepts states from [] → ⊥)
    end s is true flag = inl (s, is, subst IsTrue (sym flag) refl)
    end s is false flag = inr (λ (t, also, good). (let same : t ≡ s = same-some t s (slice_get states from) also is in true≢false (sym (subst (λ (x : StateValue). IsTrue x.accepts) same good) ∙ flag)))
accepts-decided states (w ∷ ranks) from = elim (get_cases states from) [
  | inl some ↦ (let (s, is) = some in step s is (any_decided (λ (e : Edge). (e.rank ≡ w) × Accepts states e.to ranks) (each (accepts-decided states ranks)) s.edges))
  | inr none ↦ inr (λ (s, e, is, held, rank, next). nothing_there (slice_get states from) s none is)
]
  where
    each : ((to : ℕ) → Accepts states to ranks ⊎ (Accepts states to ranks → ⊥)) → (e : Edge) → ((e.rank ≡ w) × Accepts states e.to ranks) ⊎ (((e.rank ≡ w) × Accepts states e.to ranks) → ⊥)
    each next_decided e = elim (cases_eq e.rank w) [
      | inl same ↦ elim (next_decided e.to) [ inl good ↦ inl (same, good) | inr no_next ↦ inr (λ (rank, next). no_next next) ]
      | inr other ↦ inr (λ (rank, next). other rank)
    ]

    step : (s : StateValue) → slice_get states from ≡ Some s
        → ((e : Edge) × Contains s.edges e × ((e.rank ≡ w) × Accepts states e.to ranks)) ⊎ ((e : Edge) → Contains s.edges e → ((e.rank ≡ w) × Accepts states e.to ranks) → ⊥)
        → Accepts states from (w ∷ ranks) ⊎ (Accepts states from (w ∷ ranks) → ⊥)
    step s is (inl some) = (let (e, held, both) = some in inl (s, e, is, held, both.0, both.1))
    step s is (inr none) = inr (λ (t, e, also, held, rank, next).
        (let same : t ≡ s = same-some t s (slice_get states from) also is in none e (subst (λ (x : StateValue). Contains x.edges e) same held) (rank, next)))
