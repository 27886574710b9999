-- The loads of the sequences of a part, one sequence after another.
use Rattle.std.proofs.Common.{take, ◌≡◌, ◌≢◌, ◌⊎◌, ℕ, ◌+◌, ◌≤◌, ◌<◌, inl, inr, List, [], ◌∷◌, ◌++◌, length, get_or, sum_by, refl, sym, ap, ◌∙◌, subst, arith, length-append}
use Rattle.std.specs.List.{AllPairs, Contains}
use Rattle.std.proofs.lemmas.List.{take_more, get_or-map, length-map}
use Rattle.std.proofs.lemmas.List.Sums.{sum_by-append, sum_by-cons, sum_by-take-le}
use Rattle.std.proofs.lemmas.List.Elements.{Contains-append_left, Contains-append_right, Contains-append_cases}
use Rattle.mine_model.specs.declared.item.Item.{Item}
use Rattle.mine_model.specs.Database.{sequence_at}
use Rattle.mine_model.specs.Support.{Sequence}
use Rattle.mine_model.specs.Answer.{Data}
use Rattle.mine_model.proofs.ListLemmas.{Contains-cases, Contains-none, Contains-first, Contains-other, AllPairs-append, AllPairs-tail, AllPairs-head}
use Rattle.automaton_model.specs.Automata.{StateValue, Accepts}
use Rattle.automaton_model.specs.Groups.{part_of}
use Rattle.automaton_model.specs.Members.{IsPivotMember}
use Rattle.automaton_model.specs.Registry.{IsRegistry}
use Rattle.automaton_model.specs.Searches.{Load, Weigh}
use Rattle.automaton_model.proofs.LanguageLemmas.{accepts-more, accepts-less, node-stays}
use Rattle.cand_automaton.specs.Roots.{IsRootFor}
use Rattle.cand_automaton.specs.Loads.{IsLoaded, AreLoadsOf}
use Rattle.cand_automaton.proofs.WeighLemmas.{Weigh-within, Weigh-append, Weigh-more, Weigh-no_more, Counts-split}

abbrev pub Apart : Load → Load → Type 0
Apart first second = first.state ≢ second.state

abbrev weights : List Load → ℕ
weights loads = sum_by (λ (load : Load). load.weight) loads

-- the loads with one state have the same states as before
apart-moved : (front back : List Load) (state old new : ℕ) → AllPairs Apart (front ++ (record { state = state; weight = old }) ∷ back)
    → AllPairs Apart (front ++ (record { state = state; weight = new }) ∷ back)
apart-moved front back state old new apart =
    let at : Load = record { state = state; weight = old } in
    let now : Load = record { state = state; weight = new } in
    let (first, rest, across) = split-apart front (at ∷ back) apart in
    AllPairs-append Apart front (now ∷ back) first
    (head-moved rest)
    (λ x y here there. elim (Contains-cases now back y there) [
      | inl same ↦ subst (λ (l : Load). x.state ≢ l.state) (sym same) (across x at here (Contains-first at back))
      | inr later ↦ across x y here (Contains-other at back y later)
    ])
  where
    split-apart : (xs ys : List Load) → AllPairs Apart (xs ++ ys)
        → AllPairs Apart xs × AllPairs Apart ys × ((x y : Load) → Contains xs x → Contains ys y → x.state ≢ y.state)
    split-apart [] ys all = ((λ i j e less inside. absurd (omega (arith, inside))), all, (λ x y here there. absurd (Contains-none x here)))
    split-apart (x ∷ xs) ys all =
        let (first, rest, across) = split-apart xs ys (AllPairs-tail Apart x (xs ++ ys) all) in (
          AllPairs-append Apart (x ∷ []) xs (λ i j e less inside. absurd (omega (arith, less, inside))) first
              (λ u v here there. elim (Contains-cases x [] u here) [
                | inl same ↦ subst (λ (l : Load). l.state ≢ v.state) (sym same) (AllPairs-head Apart x (xs ++ ys) all v (Contains-append_left xs ys v there))
                | inr none ↦ absurd (Contains-none u none)
              ]),
          rest,
          (λ u v here there. elim (Contains-cases x xs u here) [
            | inl same ↦ subst (λ (l : Load). l.state ≢ v.state) (sym same) (AllPairs-head Apart x (xs ++ ys) all v (Contains-append_right xs ys v there))
            | inr later ↦ across u v later there
          ]),
        )

    head-moved : AllPairs Apart ((record { state = state; weight = old }) ∷ back) → AllPairs Apart ((record { state = state; weight = new }) ∷ back)
    head-moved all =
        AllPairs-append Apart ((record { state = state; weight = new }) ∷ []) back (λ i j e less inside. absurd (omega (arith, less, inside)))
        (AllPairs-tail Apart (record { state = state; weight = old }) back all)
        (λ u v here there. elim (Contains-cases (record { state = state; weight = new }) [] u here) [
          | inl same ↦ subst (λ (l : Load). l.state ≢ v.state) (sym same) (AllPairs-head Apart (record { state = state; weight = old }) back all v there)
          | inr none ↦ absurd (Contains-none u none)
        ])

-- where a weight went, its state has a load
loaded-here : (before : List Load) (state weight : ℕ) (after : List Load) → IsLoaded before state weight after → (load : Load) × Contains after load × (load.state ≡ state)
loaded-here before state weight after (inl (front, back, old, was, is)) =
    let now : Load = record { state = state; weight = old + weight } in
    (now, subst (λ l. Contains l now) (sym is) (Contains-append_right front (now ∷ back) now (Contains-first now back)), refl)
loaded-here before state weight after (inr (new, is)) =
    let now : Load = record { state = state; weight = weight } in
    (now, subst (λ l. Contains l now) (sym is) (Contains-append_right before (now ∷ []) now (Contains-first now [])), refl)

-- and each state that had one has one still
loaded-still : (before : List Load) (state weight : ℕ) (after : List Load) → IsLoaded before state weight after
    → (load : Load) → Contains before load → (other : Load) × Contains after other × (other.state ≡ load.state)
loaded-still before state weight after (inl (front, back, old, was, is)) load held =
    let at : Load = record { state = state; weight = old } in
    let now : Load = record { state = state; weight = old + weight } in
    elim (Contains-append_cases front (at ∷ back) load (subst (λ l. Contains l load) was held)) [
      | inl here ↦ (load, subst (λ l. Contains l load) (sym is) (Contains-append_left front (now ∷ back) load here), refl)
      | inr there ↦ elim (Contains-cases at back load there) [
        | inl same ↦ (now, subst (λ l. Contains l now) (sym is) (Contains-append_right front (now ∷ back) now (Contains-first now back)), ap (λ (l : Load). l.state) (sym same))
        | inr later ↦ (load, subst (λ l. Contains l load) (sym is) (Contains-append_right front (now ∷ back) load (Contains-other now back load later)), refl)
      ]
    ]
loaded-still before state weight after (inr (new, is)) load held =
    (load, subst (λ l. Contains l load) (sym is) (Contains-append_left before ((record { state = state; weight = weight }) ∷ []) load held), refl)

-- each load stands at the state, or where one stood
loaded-from : (before : List Load) (state weight : ℕ) (after : List Load) → IsLoaded before state weight after
    → (load : Load) → Contains after load → (load.state ≡ state) ⊎ ((other : Load) × Contains before other × (load.state ≡ other.state))
loaded-from before state weight after (inl (front, back, old, was, is)) load held =
    let at : Load = record { state = state; weight = old } in
    let now : Load = record { state = state; weight = old + weight } in
    elim (Contains-append_cases front (now ∷ back) load (subst (λ l. Contains l load) is held)) [
      | inl here ↦ inr (load, subst (λ l. Contains l load) (sym was) (Contains-append_left front (at ∷ back) load here), refl)
      | inr there ↦ elim (Contains-cases now back load there) [
        | inl same ↦ inl (ap (λ (l : Load). l.state) same)
        | inr later ↦ inr (load, subst (λ l. Contains l load) (sym was) (Contains-append_right front (at ∷ back) load (Contains-other at back load later)), refl)
      ]
    ]
loaded-from before state weight after (inr (new, is)) load held =
    let now : Load = record { state = state; weight = weight } in
    elim (Contains-append_cases before (now ∷ []) load (subst (λ l. Contains l load) is held)) [
      | inl here ↦ inr (load, here, refl)
      | inr there ↦ elim (Contains-cases now [] load there) [
        | inl same ↦ inl (ap (λ (l : Load). l.state) same)
        | inr none ↦ absurd (Contains-none load none)
      ]
    ]

loaded-apart : (before : List Load) (state weight : ℕ) (after : List Load) → IsLoaded before state weight after → AllPairs Apart before → AllPairs Apart after
loaded-apart before state weight after (inl (front, back, old, was, is)) apart =
    subst (AllPairs Apart) (sym is) (apart-moved front back state old (old + weight) (subst (AllPairs Apart) was apart))
loaded-apart before state weight after (inr (new, is)) apart =
    let now : Load = record { state = state; weight = weight } in
    subst (AllPairs Apart) (sym is) (AllPairs-append Apart before (now ∷ []) apart (λ i j e less inside. absurd (omega (arith, less, inside)))
    (λ x y here there. elim (Contains-cases now [] y there) [
      | inl same ↦ subst (λ (l : Load). x.state ≢ l.state) (sym same) (new x here)
      | inr none ↦ absurd (Contains-none y none)
    ]))

loaded-sum : (before : List Load) (state weight : ℕ) (after : List Load) → IsLoaded before state weight after → weights after ≡ weights before + weight
loaded-sum before state weight after (inl (front, back, old, was, is)) =
    let at : Load = record { state = state; weight = old } in
    let now : Load = record { state = state; weight = old + weight } in
    let one : weights after ≡ weights front + weights (now ∷ back) = ap weights is ∙ sum_by-append (λ (load : Load). load.weight) front (now ∷ back) in
    let other : weights before ≡ weights front + weights (at ∷ back) = ap weights was ∙ sum_by-append (λ (load : Load). load.weight) front (at ∷ back) in
    let first : weights (now ∷ back) ≡ (old + weight) + weights back = sum_by-cons (λ (load : Load). load.weight) now back in
    let second : weights (at ∷ back) ≡ old + weights back = sum_by-cons (λ (load : Load). load.weight) at back in
    omega (arith, one, other, first, second)
loaded-sum before state weight after (inr (new, is)) =
    let now : Load = record { state = state; weight = weight } in
    let one : weights after ≡ weights before + weights (now ∷ []) = ap weights is ∙ sum_by-append (λ (load : Load). load.weight) before (now ∷ []) in
    let first : weights (now ∷ []) ≡ weight + weights [] = sum_by-cons (λ (load : Load). load.weight) now [] in
    let none : weights [] ≡ 0 = refl in
    omega (arith, one, first, none)

-- what the loads weigh where the state has the property
loaded-more : (Has : ℕ → Type 0) (before : List Load) (state weight : ℕ) (after : List Load) → IsLoaded before state weight after
    → Has state → (n : ℕ) → Weigh Has before n → Weigh Has after (n + weight)
loaded-more Has before state weight after (inl (front, back, old, was, is)) has n weigh =
    subst (λ l. Weigh Has l (n + weight)) (sym is) (Weigh-more Has front back state old weight n has (subst (λ l. Weigh Has l n) was weigh))
loaded-more Has before state weight after (inr (new, is)) has n weigh =
    subst (λ l. Weigh Has l (n + weight)) (sym is)
    (Weigh-append Has before ((record { state = state; weight = weight }) ∷ []) n weight weigh (inl (has, (0, omega arith, refl))))

-- and where it has not
loaded-no_more : (Has : ℕ → Type 0) (before : List Load) (state weight : ℕ) (after : List Load) → IsLoaded before state weight after
    → (Has state → ⊥) → (n : ℕ) → Weigh Has before n → Weigh Has after n
loaded-no_more Has before state weight after (inl (front, back, old, was, is)) hasnt n weigh =
    subst (λ l. Weigh Has l n) (sym is) (Weigh-no_more Has front back state old weight n hasnt (subst (λ l. Weigh Has l n) was weigh))
loaded-no_more Has before state weight after (inr (new, is)) hasnt n weigh =
    let same : n + 0 ≡ n = omega arith in
    subst (λ l. Weigh Has l n) (sym is)
    (subst (Weigh Has (before ++ (record { state = state; weight = weight }) ∷ [])) same
    (Weigh-append Has before ((record { state = state; weight = weight }) ∷ []) n 0 weigh (inr (hasnt, refl))))

module _ (d : Data Item) (order : List Item) (pivot : ℕ) where
  abbrev Member : List ℕ → List Item → Type 0
  Member ranks items = IsPivotMember d order pivot items ranks

  -- a root stays one in a registry that grows
  pub root-stays : (items : List Item) (states more : List StateValue) (root : ℕ) → IsRegistry states → IsRootFor d order pivot items states root
      → IsRootFor d order pivot items (states ++ more) root
  root-stays items states more root registry is = record {
    inside = omega (arith, is.inside, length-append states more);
    language = node-stays states registry (IsPivotMember d order pivot items) more root is.inside is.language;
  }

  pub loads-none : (states : List StateValue) → AreLoadsOf d order pivot [] states []
  loads-none states = record {
    once = λ i j e less inside. absurd (omega (arith, inside));
    each = λ load held. absurd (Contains-none load held);
    all = λ sequence held. absurd (Contains-none sequence held);
    weigh = λ ranks n counted. counted;
    sum = refl;
  }

  -- the loads of the same sequences in a registry that grows
  pub loads-stay : (sequences : List (Sequence Item)) (states more : List StateValue) (loads : List Load) → IsRegistry states
      → AreLoadsOf d order pivot sequences states loads → AreLoadsOf d order pivot sequences (states ++ more) loads
  loads-stay sequences states more loads registry are = record {
    once = are.once;
    each = λ load held. (let is = are.each load held in record { one = is.one; held = is.held; root = root-stays is.one.items states more load.state registry is.root });
    all = λ sequence held. (let (load, inside, root) = are.all sequence held in (load, inside, root-stays sequence.items states more load.state registry root));
    weigh = λ ranks n counted.
        Weigh-within (λ state. Accepts states state ranks) (λ state. Accepts (states ++ more) state ranks) loads
        (λ load held. (accepts-more states more ranks load.state, accepts-less states registry more ranks load.state (are.each load held).root.inside)) n (are.weigh ranks n counted);
    sum = are.sum;
  }

  -- the loads of one sequence more, of which some stood at its state already or none
  pub loads-more : (sequences : List (Sequence Item)) (one : Sequence Item) (states : List StateValue) (root : ℕ) (loads after : List Load)
      → AreLoadsOf d order pivot sequences states loads → IsRootFor d order pivot one.items states root
      → IsLoaded loads root one.weight after → AreLoadsOf d order pivot (sequences ++ one ∷ []) states after
  loads-more sequences one states root loads after are is loaded = record {
    once = loaded-apart loads root one.weight after loaded are.once;
    each = λ load held. elim (loaded-from loads root one.weight after loaded load held) [
      | inl same ↦ record {
        one = one;
        held = Contains-append_right sequences (one ∷ []) one (Contains-first one []);
        root = subst (IsRootFor d order pivot one.items states) (sym same) is;
      }
      | inr (other, inside, same) ↦ (let old = are.each other inside in record {
        one = old.one;
        held = Contains-append_left sequences (one ∷ []) old.one old.held;
        root = subst (IsRootFor d order pivot old.one.items states) (sym same) old.root;
      })
    ];
    all = λ sequence held. elim (Contains-append_cases sequences (one ∷ []) sequence held) [
      | inl here ↦
          (let (load, inside, stands) = are.all sequence here in
          let (other, there, same) = loaded-still loads root one.weight after loaded load inside in
          (other, there, subst (IsRootFor d order pivot sequence.items states) (sym same) stands))
      | inr last ↦ elim (Contains-cases one [] sequence last) [
        | inl same ↦
            (let (load, inside, stands) = loaded-here loads root one.weight after loaded in
            (load, inside, subst (λ (s : Sequence Item). IsRootFor d order pivot s.items states load.state) (sym same) (subst (IsRootFor d order pivot one.items states) (sym stands) is)))
        | inr none ↦ absurd (Contains-none sequence none)
      ]
    ];
    weigh = λ ranks n counted.
        (let (a, b, sum, first, last) = Counts-split (Member ranks) sequences (one ∷ []) n counted in
        let before = are.weigh ranks a first in
        let Has : ℕ → Type 0 = λ state. Accepts states state ranks in
        elim last [
          | inl has ↦
              (let whole : a + one.weight ≡ n = omega (arith, sum, has.1.1, has.1.2) in
              subst (Weigh Has after) whole (loaded-more Has loads root one.weight after loaded ((is.language ranks).1 has.0) a before))
          | inr hasnt ↦
              (let whole : a ≡ n = omega (arith, sum, hasnt.1) in
              subst (Weigh Has after) whole (loaded-no_more Has loads root one.weight after loaded (λ accepts. hasnt.0 ((is.language ranks).0 accepts)) a before))
        ]);
    sum =
        (let both : sum_by (λ (s : Sequence Item). s.weight) (sequences ++ one ∷ []) ≡ sum_by (λ (s : Sequence Item). s.weight) sequences + sum_by (λ (s : Sequence Item). s.weight) (one ∷ []) =
        sum_by-append (λ (s : Sequence Item). s.weight) sequences (one ∷ []) in
        let last : sum_by (λ (s : Sequence Item). s.weight) (one ∷ []) ≡ one.weight + sum_by (λ (s : Sequence Item). s.weight) [] = sum_by-cons (λ (s : Sequence Item). s.weight) one [] in
        let none : sum_by (λ (s : Sequence Item). s.weight) [] ≡ 0 = refl in
        omega (arith, both, last, none, are.sum, loaded-sum loads root one.weight after loaded));
  }

-- The sequences of a part, one after another

-- those up to one more
pub part-next : (d : Data Item) (numbers : List ℕ) (k number : ℕ) → k < length numbers → number ≡ get_or numbers k 0
    → take (k + 1) (part_of d numbers) ≡ take k (part_of d numbers) ++ sequence_at d.sequences number ∷ []
part-next d numbers k number inside is =
    let at : ℕ → Sequence Item = λ i. sequence_at d.sequences i in
    let below : k < length (part_of d numbers) = omega (arith, inside, length-map numbers at) in
    take_more (part_of d numbers) k (at 0) below
    ∙ ap (λ (s : Sequence Item). take k (part_of d numbers) ++ s ∷ []) (get_or-map at numbers k 0 (at 0) inside ∙ ap at (sym is))

-- what those up to one more weigh
pub part-room : (d : Data Item) (numbers : List ℕ) (k number most : ℕ) → k < length numbers → number ≡ get_or numbers k 0
    → sum_by (λ (s : Sequence Item). s.weight) (part_of d numbers) ≤ most
    → sum_by (λ (s : Sequence Item). s.weight) (take k (part_of d numbers)) + (sequence_at d.sequences number).weight ≤ most
part-room d numbers k number most inside is few =
    let weight : Sequence Item → ℕ = λ (s : Sequence Item). s.weight in
    let whole : sum_by weight (take (k + 1) (part_of d numbers)) ≤ sum_by weight (part_of d numbers) = sum_by-take-le weight (part_of d numbers) (k + 1) in
    let next : sum_by weight (take (k + 1) (part_of d numbers)) ≡ sum_by weight (take k (part_of d numbers) ++ sequence_at d.sequences number ∷ []) = ap (sum_by weight) (part-next d numbers k number inside is) in
    let both : sum_by weight (take k (part_of d numbers) ++ sequence_at d.sequences number ∷ []) ≡ sum_by weight (take k (part_of d numbers)) + sum_by weight (sequence_at d.sequences number ∷ []) =
    sum_by-append weight (take k (part_of d numbers)) (sequence_at d.sequences number ∷ []) in
    let one : sum_by weight (sequence_at d.sequences number ∷ []) ≡ (sequence_at d.sequences number).weight + sum_by weight [] = sum_by-cons weight (sequence_at d.sequences number) [] in
    let none : sum_by weight [] ≡ 0 = refl in
    omega (arith, whole, next, both, one, none, few)
