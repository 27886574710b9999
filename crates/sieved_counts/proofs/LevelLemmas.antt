-- From one length of lists to the next.
use Rattle.std.proofs.Common.{◌≡◌, ℕ, zero, suc, ◌+◌, ◌≤◌, ◌<◌, inl, inr, Bool, IsTrue, Option, Some, List, [], ◌∷◌, ◌++◌, length, slice_get, refl, sym, ap, subst, ◌∙◌, arith, append_assoc, length-append}
use Rattle.std.specs.List.{Contains}
use Rattle.std.proofs.lemmas.Bool.{cases_lt}
use Rattle.std.proofs.lemmas.List.{append-nil, nil_from_length, length_push, same_from_push}
use Rattle.std.proofs.lemmas.List.Elements.{Contains-append_cases}
use Rattle.mine_model.proofs.ListLemmas.{Contains-cases, Contains-none, last-cases}
use Rattle.candidate_graph.specs.declared.edge.Edge.{Edge}
use Rattle.candidate_graph.specs.Graphs.{Node, IsExpanded, Grows}
use Rattle.candidate_graph.specs.Paths.{HasEdge, Reaches, Accepts}
use Rattle.prefix_sieve.specs.Hashes.{hash_of}
use Rattle.prefix_sieve.specs.Sieves.{lets_pass, PassesAll}
use Rattle.prefix_sieve.proofs.PathLemmas.{grows-same, grows-expanded, edge-back, reaches-behind, reaches-more, passes-before, reaches-back}
use Rattle.prefix_counts.specs.Prefixes.{Prefixes}
use Rattle.sieved_counts.specs.declared.fronts.Front.{Front}
use Rattle.sieved_counts.specs.Counted.{HasCounted}
use Rattle.sieved_counts.specs.Fronts.{root_front, IsFrontOf, AreFronts, IsAt, AreFrontsAt, IsLonger, IsBehind, HasGoneOn}
use Rattle.sieved_counts.proofs.GoneLemmas.{front-one, fronts-one, fronts-by, gone-none, edge-on}

-- ---- paths and their last edges

-- the edge is the last of a path of the list
abbrev pub IsLast : List Node → ℕ → List ℕ → Edge → Type 0
IsLast nodes from list edge =
    (front : List ℕ) × (mid : ℕ) × (list ≡ front ++ edge.rank ∷ []) × Reaches nodes from front mid × HasEdge nodes mid edge.rank edge

pub accepts-last : (nodes : List Node) (from : ℕ) (list : List ℕ) → Accepts nodes from list → (edge : Edge) × IsLast nodes from list edge × IsTrue edge.ends
accepts-last nodes from [] none = absurd none
accepts-last nodes from (rank ∷ rest) (edge, has, either) = elim either [
  | inl end ↦ (
    edge,
    (
      [],
      from,
      ap (λ (xs : List ℕ). rank ∷ xs) end.0 ∙ ap (λ (r : ℕ). r ∷ []) (sym has.5),
      refl,
      (has.0, has.1, has.2, has.3, has.4, refl),
    ),
    end.1,
  )
  | inr more ↦
      let (last, (front, mid, is, way, last_has), ends) = accepts-last nodes edge.next rest more in
      (last, (rank ∷ front, mid, ap (λ (xs : List ℕ). rank ∷ xs) is, (edge, has, way), last_has), ends)
]

pub last-accepts : (nodes : List Node) (from : ℕ) (front : List ℕ) (mid : ℕ) (edge : Edge) → Reaches nodes from front mid → HasEdge nodes mid edge.rank edge → IsTrue edge.ends
    → Accepts nodes from (front ++ edge.rank ∷ [])
last-accepts nodes from [] mid edge way has ends = (edge, subst (λ (n : ℕ). HasEdge nodes n edge.rank edge) (sym way) has, inl (refl, ends))
last-accepts nodes from (first ∷ front) mid edge (other, other_has, way) has ends =
    (other, other_has, inr (last-accepts nodes other.next front mid edge way has ends))

pub accepted : (nodes : List Node) (list : List ℕ) (edge : Edge) → IsLast nodes 0 list edge → IsTrue edge.ends → Accepts nodes 0 list
accepted nodes list edge (front, mid, is, way, has) ends = subst (Accepts nodes 0) (sym is) (last-accepts nodes 0 front mid edge way has ends)

pub reaches-on : (a b : List Node) → Grows a b → (from : ℕ) (list : List ℕ) (to : ℕ) → Reaches a from list to → Reaches b from list to
reaches-on a b grows from [] to way = way
reaches-on a b grows from (rank ∷ list) to (edge, has, way) = (edge, edge-on a b grows from rank edge has, reaches-on a b grows edge.next list to way)

-- ---- lists that pass

pub passes-none : (hash : List ℕ → ℕ) (levels : List (List Bool)) → PassesAll hash levels []
passes-none hash levels = λ before rank behind is.
    absurd (omega (arith, ap (λ (xs : List ℕ). length xs) is, length-append before (rank ∷ behind)))

module _ (hash : List ℕ → ℕ) (levels : List (List Bool)) (front : List ℕ) (last : ℕ) where
  abbrev LetsLast : Type 0
  LetsLast = IsTrue (lets_pass (slice_get levels (length front)) (hash (front ++ last ∷ [])))

  pub passes-last : PassesAll hash levels (front ++ last ∷ []) → LetsLast
  passes-last passes = passes front last [] refl

  pub passes-more : PassesAll hash levels front → LetsLast → PassesAll hash levels (front ++ last ∷ [])
  passes-more passes lets = λ before rank behind is. elim (last-cases behind) [
    | inl none ↦
        let (same, ranks) = same_from_push front before last rank (is ∙ ap (λ (xs : List ℕ). before ++ rank ∷ xs) none) in
        subst (λ (xs : List ℕ). IsTrue (lets_pass (slice_get levels (length xs)) (hash (xs ++ rank ∷ [])))) same
        (subst (λ (r : ℕ). IsTrue (lets_pass (slice_get levels (length front)) (hash (front ++ r ∷ [])))) ranks lets)
    | inr split ↦
        let (rest, end, at) = split in
        let whole : front ++ last ∷ [] ≡ (before ++ rank ∷ rest) ++ end ∷ [] =
        is ∙ ap (λ (xs : List ℕ). before ++ rank ∷ xs) at ∙ sym (append_assoc before (rank ∷ rest) (end ∷ [])) in
        passes before rank rest (same_from_push front (before ++ rank ∷ rest) last end whole).0
  ]

-- ---- one length

module _ (levels : List (List Bool)) (weight : ℕ) where
  pub counted-first : (nodes : List Node) (at : Prefixes) → HasCounted levels weight 0 nodes at at
  counted-first nodes at = record {
    known = λ list number short passes way. absurd (omega (arith, short));
    kept = ([], sym (append-nil at.lists), λ list held. absurd (Contains-none list held));
    counted = λ list is. absurd (subst (Accepts nodes 0) (nil_from_length list (let short : length list ≤ 0 = is.short in omega (arith, short))) is.accepted);
    others = λ list never. refl;
  }

  pub fronts-first : (nodes : List Node) (lists : List (List ℕ)) (here : List Front) → 0 < length nodes → slice_get lists 0 ≡ Some [] → here ≡ root_front ∷ []
      → AreFrontsAt levels nodes 0 lists here
  fronts-first nodes lists here root first is = record {
    within = λ front held. elim (Contains-cases root_front [] front (subst (λ (fs : List Front). Contains fs front) is held)) [
      | inl same ↦ subst (λ (f : Front). f.node < length nodes) (sym same) root
      | inr none ↦ absurd (Contains-none front none)
    ];
    fronts =
        subst (AreFronts (IsAt levels nodes 0) lists) (sym is)
        (fronts-one lists (IsAt levels nodes 0) root_front [] (record { number = first; hash = refl }) (refl, passes-none hash_of levels, refl)
        (λ other node at.
        let none : other ≡ [] = nil_from_length other at.0 in
        (none, sym (subst (λ (xs : List ℕ). Reaches nodes 0 xs node) none at.2))));
  }

module _ (levels : List (List Bool)) (weight : ℕ) (a b : List Node) (grows : Grows a b) (count : ℕ) (before mid after : Prefixes) (here next : List Front)
    (so_far : HasCounted levels weight count a before mid) (are : AreFrontsAt levels a count mid.lists here)
    (gone : HasGoneOn (slice_get levels count) weight b here mid after next) where
  abbrev IsNext : List ℕ → Edge → Type 0
  IsNext longer edge = (length longer ≡ count + 1) × PassesAll hash_of levels longer × IsLast b 0 longer edge

  led-next : (longer : List ℕ) (edge : Edge) → IsBehind (slice_get levels count) b mid.lists here longer edge → IsNext longer edge
  led-next longer edge (front, list, held, of, has, is) =
      let (other, other_of, at) = are.fronts.each front held in
      let same : other ≡ list = front-one mid.lists other list front other_of of in
      let (long, passes, way) = subst (λ (xs : List ℕ). IsAt levels a count xs front.node) same at in
      let lets : IsTrue (lets_pass (slice_get levels (length list)) (hash_of (list ++ edge.rank ∷ []))) =
      subst (λ (n : ℕ). IsTrue (lets_pass (slice_get levels n) (hash_of (list ++ edge.rank ∷ [])))) (sym long)
      (subst (λ (xs : List ℕ). IsTrue (lets_pass (slice_get levels count) (hash_of xs))) is.0 is.1) in (
        ap (λ (xs : List ℕ). length xs) is.0 ∙ length_push list edge.rank ∙ ap (λ (n : ℕ). n + 1) long,
        subst (PassesAll hash_of levels) (sym is.0) (passes-more hash_of levels list edge.rank passes lets),
        (list, front.node, is.0, reaches-on a b grows 0 list front.node way, has),
      )

  led-by : (longer list : List ℕ) (edge : Edge) (number : ℕ) (front : Front) → Contains here front → IsFrontOf mid.lists list front → front.node ≡ number
      → HasEdge b number edge.rank edge → IsLonger (slice_get levels count) list longer edge → IsBehind (slice_get levels count) b mid.lists here longer edge
  led-by longer list edge number front held of at has is = (front, list, held, of, subst (λ (n : ℕ). HasEdge b n edge.rank edge) (sym at) has, is)

  next-led : (longer : List ℕ) (edge : Edge) → IsNext longer edge → IsBehind (slice_get levels count) b mid.lists here longer edge
  next-led longer edge (long, passes, (list, number, is, way, has)) =
      let more : length longer ≡ length list + 1 = ap (λ (xs : List ℕ). length xs) is ∙ length_push list edge.rank in
      let short : length list ≡ count = omega (arith, long, more) in
      let whole : PassesAll hash_of levels (list ++ edge.rank ∷ []) = subst (PassesAll hash_of levels) is passes in
      let passed : PassesAll hash_of levels list = passes-before hash_of levels list (edge.rank ∷ []) whole in
      let (front, held, of, at) = are.fronts.all list number (short, passed, reaches-back levels a b grows count so_far.known list number (omega (arith, short)) passed way) in
      let lets : IsTrue (lets_pass (slice_get levels count) (hash_of longer)) =
      subst (λ (xs : List ℕ). IsTrue (lets_pass (slice_get levels count) (hash_of xs))) (sym is)
      (subst (λ (n : ℕ). IsTrue (lets_pass (slice_get levels n) (hash_of (list ++ edge.rank ∷ [])))) short (passes-last hash_of levels list edge.rank whole)) in
      led-by longer list edge number front held of at has (is, lets)

  pub fronts-next : AreFrontsAt levels b (count + 1) after.lists next
  fronts-next =
      let (more, is, are_more) = gone.gone.fronts in
      record {
        within = gone.within;
        fronts =
            subst (AreFronts (IsAt levels b (count + 1)) after.lists) (sym is)
            (fronts-by after.lists (λ list node. (edge : Edge) × IsBehind (slice_get levels count) b mid.lists here list edge × (edge.next ≡ node)) (IsAt levels b (count + 1))
            (λ list node. (
              (λ led.
                  let (long, passes, (front, number, split, way, has)) = led-next list led.0 led.1 in (
                    long,
                    passes,
                    subst (λ (n : ℕ). Reaches b 0 list n) led.2
                        (subst (λ (xs : List ℕ). Reaches b 0 xs led.0.next) (sym split) (reaches-more b 0 front led.0.rank number led.0 way has)),
                  )),
              (λ at. elim (last-cases list) [
                | inl none ↦ absurd (omega (arith, at.0, ap (λ (xs : List ℕ). length xs) none))
                | inr split ↦
                    let (front, last, whole) = split in
                    let (number, edge, way, has, to) = reaches-behind b 0 front last node (subst (λ (xs : List ℕ). Reaches b 0 xs node) whole at.2) in
                    let ranked : list ≡ front ++ edge.rank ∷ [] = whole ∙ ap (λ (r : ℕ). front ++ r ∷ []) (sym has.5) in
                    (edge, next-led list edge (at.0, at.1, (front, number, ranked, way, (has.0, has.1, has.2, has.3, has.4, refl))), to)
              ]),
            ))
            more are_more);
      }

  -- what is no longer was accepted before where it is now
  accepts-back : (list : List ℕ) → length list ≤ count → PassesAll hash_of levels list → Accepts b 0 list → Accepts a 0 list
  accepts-back list short passes accepts =
      let (edge, (front, number, is, way, has), ends) = accepts-last b 0 list accepts in
      let more : length list ≡ length front + 1 = ap (λ (xs : List ℕ). length xs) is ∙ length_push front edge.rank in
      let passed : PassesAll hash_of levels front = passes-before hash_of levels front (edge.rank ∷ []) (subst (PassesAll hash_of levels) is passes) in
      let before' : Reaches a 0 front number = reaches-back levels a b grows count so_far.known front number (omega (arith, short, more)) passed way in
      let known : IsExpanded a number = so_far.known front number (omega (arith, short, more)) passed before' in
      accepted a list edge (front, number, is, before', edge-back a b grows number edge.rank edge known has) ends

  accepts-on : (list : List ℕ) → Accepts a 0 list → Accepts b 0 list
  accepts-on list accepts =
      let (edge, (front, number, is, way, has), ends) = accepts-last a 0 list accepts in
      accepted b list edge (front, number, is, reaches-on a b grows 0 front number way, edge-on a b grows number edge.rank edge has) ends

  pub counted-next : HasCounted levels weight (count + 1) b before after
  counted-next = record {
    known = λ list number short passes way.
        let before' : Reaches a 0 list number = reaches-back levels a b grows count so_far.known list number (omega (arith, short)) passes way in
        elim (cases_lt (length list) count) [
          | inl less ↦ grows-expanded a b grows number (so_far.known list number less passes before')
          | inr most ↦
              let long : length list ≡ count = omega (arith, short, most) in
              let (front, held, of, at) = are.fronts.all list number (long, passes, before') in
              subst (IsExpanded b) at (gone.known front held)
        ];
    kept =
        let (some, some_is, some_pass) = so_far.kept in
        let (more, more_is, more_led) = gone.gone.kept in (
          some ++ more,
          more_is ∙ ap (λ (ls : List (List ℕ)). ls ++ more) some_is ∙ append_assoc before.lists some more,
          λ list held. elim (Contains-append_cases some more list held) [
            | inl here' ↦ some_pass list here'
            | inr there ↦ let (edge, led) = more_led list there in (led-next list edge led).1
          ],
        );
    counted = λ list is. elim (cases_lt count (length list)) [
      | inl longer ↦
          let short : length list ≤ count + 1 = is.short in
          let (edge, last, ends) = accepts-last b 0 list is.accepted in
          gone.gone.counted list edge (next-led list edge (omega (arith, longer, short), is.passes, last)) ends
          ∙ ap (λ (n : ℕ). n + weight) (so_far.others list (λ was. let less : length list ≤ count = was.short in omega (arith, less, longer)))
      | inr short ↦
          gone.gone.others list (λ edge led ends. let long : length list ≡ count + 1 = (led-next list edge led).0 in omega (arith, long, short))
          ∙ so_far.counted list (record { short = short; passes = is.passes; accepted = accepts-back list short is.passes is.accepted })
    ];
    others = λ list never.
        gone.gone.others list (λ edge led ends.
        let (long, passes, last) = led-next list edge led in
        never (record { short = omega (arith, long); passes = passes; accepted = accepted b list edge last ends }))
        ∙ so_far.others list (λ was.
        let short : length list ≤ count = was.short in
        never (record { short = omega (arith, short); passes = was.passes; accepted = accepts-on list was.accepted }));
  }

-- ---- where none is left

pub counted-early : (levels : List (List Bool)) (weight : ℕ) (nodes : List Node) (before after : Prefixes) (more count : ℕ) → HasCounted levels weight count nodes before after
    → AreFrontsAt levels nodes count after.lists [] → HasCounted levels weight (more + count) nodes before after
counted-early levels weight nodes before after zero count counted none =
    let same : count ≡ zero + count = omega arith in
    subst (λ (n : ℕ). HasCounted levels weight n nodes before after) same counted
counted-early levels weight nodes before after (suc more) count counted none =
    let same : more + (count + 1) ≡ suc more + count = omega arith in
    let level : Option (List Bool) = slice_get levels count in
    let gone : HasGoneOn level weight nodes [] after after [] = record {
      known = λ front held. absurd (Contains-none front held);
      within = λ front held. absurd (Contains-none front held);
      gone = gone-none weight (IsBehind level nodes after.lists []) (λ longer edge led. Contains-none led.0 led.2) after [];
    } in
    subst (λ (n : ℕ). HasCounted levels weight n nodes before after) same
    (counted-early levels weight nodes before after more (count + 1)
    (counted-next levels weight nodes nodes (grows-same nodes) count before after after [] [] counted none gone)
    (fronts-next levels weight nodes nodes (grows-same nodes) count before after after [] [] counted none gone))
