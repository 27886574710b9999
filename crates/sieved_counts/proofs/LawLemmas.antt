-- Sums over all sequences.
use Rattle.std.proofs.Common.{◌≡◌, ℕ, zero, suc, ◌+◌, ◌≤◌, ◌⊎◌, ◌↔◌, inl, inr, Bool, true, false, IsTrue, cond, nat_eq, Option, Some, None, List, [], ◌∷◌, ◌++◌, length, slice_get, refl, sym, ap, subst, ◌∙◌, arith, true≢false, length-append}
use Rattle.std.specs.List.{Contains}
use Rattle.std.specs.Cmp.Lexicographic.{pointwise}
use Rattle.std.proofs.lemmas.Bool.{cases_lt, cases_eq, cases_Bool}
use Rattle.std.proofs.lemmas.List.{nil_from_length, length_push}
use Rattle.std.proofs.lemmas.Option.{none-some, same_Some, slice_get_cases}
use Rattle.mine_model.specs.declared.item.Item.{Item}
use Rattle.mine_model.specs.Answer.{Data}
use Rattle.mine_model.specs.Candidates.{IsCandidate}
use Rattle.mine_model.specs.Ranks.{AreRanked}
use Rattle.mine_model.specs.Support.{Sequence, Counts}
use Rattle.mine_model.proofs.ListLemmas.{Contains-first, Contains-other, Contains-cases, Contains-none, last-cases}
use Rattle.mine_model.proofs.ElementLemmas.{decides}
use Rattle.mine_model.proofs.SupportLemmas.{Counts-unique, Counts-one}
use Rattle.mine_model.proofs.FrequencyLemmas.{Counts-by, Counts-append}
use Rattle.mine_model.proofs.RankedLemmas.{ranked-same}
use Rattle.candidate_graph.specs.declared.edge.Edge.{Edge}
use Rattle.candidate_graph.specs.Graphs.{Node, IsExpanded}
use Rattle.candidate_graph.specs.Paths.{Accepts}
use Rattle.prefix_sieve.specs.Hashes.{hash_of}
use Rattle.prefix_sieve.specs.Sieves.{HasCandidate, lets_pass, PassesAll}
use Rattle.prefix_sieve.proofs.PathLemmas.{passes-before}
use Rattle.pattern_counts.specs.Tally.{sum_in}
use Rattle.prefix_counts.specs.Prefixes.{Prefixes, no_prefixes, ArePrefixes}
use Rattle.prefix_counts.specs.Sums.{sum_of}
use Rattle.sieved_counts.specs.Counted.{HasCounted, IsKnownAlong, LeadsToCandidates, AreShort, AreCounted}
use Rattle.prefix_counts.proofs.SumLemmas.{either-none, sum-at}
use Rattle.sieved_counts.proofs.LevelLemmas.{passes-none, passes-last, passes-more}

-- ---- what can be decided

passes-decided : (hash : List ℕ → ℕ) (levels : List (List Bool)) (most : ℕ) (list : List ℕ) → length list ≤ most
    → PassesAll hash levels list ⊎ (PassesAll hash levels list → ⊥)
passes-decided hash levels zero list short =
    inl (subst (PassesAll hash levels) (sym (nil_from_length list (omega (arith, short)))) (passes-none hash levels))
passes-decided hash levels (suc most) list short = elim (last-cases list) [
  | inl none ↦ inl (subst (PassesAll hash levels) (sym none) (passes-none hash levels))
  | inr split ↦
      let (front, last, is) = split in
      let more : length list ≡ length front + 1 = ap (λ (xs : List ℕ). length xs) is ∙ length_push front last in
      elim (passes-decided hash levels most front (omega (arith, short, more))) [
        | inl does ↦ elim (cases_Bool (lets_pass (slice_get levels (length front)) (hash (front ++ last ∷ [])))) [
          | inl lets ↦ inl (subst (PassesAll hash levels) (sym is) (passes-more hash levels front last does lets))
          | inr stops ↦ inr (λ passes. true≢false (sym (passes-last hash levels front last (subst (PassesAll hash levels) is passes)) ∙ stops))
        ]
        | inr never ↦ inr (λ passes. never (passes-before hash levels front (last ∷ []) (subst (PassesAll hash levels) is passes)))
      ]
]

some-decided : (P : Edge → Type 0) → ((edge : Edge) → P edge ⊎ (P edge → ⊥)) → (edges : List Edge)
    → ((edge : Edge) × Contains edges edge × P edge) ⊎ ((edge : Edge) → Contains edges edge → P edge → ⊥)
some-decided P each [] = inr (λ edge held is. Contains-none edge held)
some-decided P each (first ∷ edges) = elim (each first) [
  | inl does ↦ inl (first, Contains-first first edges, does)
  | inr never ↦ elim (some-decided P each edges) [
    | inl there ↦ inl (there.0, Contains-other first edges there.0 there.1, there.2)
    | inr none ↦ inr (λ edge held is. elim (Contains-cases first edges edge held) [
      | inl same ↦ never (subst P same is)
      | inr other ↦ none edge other is
    ])
  ]
]

expanded-decided : (nodes : List Node) (number : ℕ) → IsExpanded nodes number ⊎ (IsExpanded nodes number → ⊥)
expanded-decided nodes number = elim (slice_get_cases nodes number).1 [
  | inl there ↦ go there.0 there.2 there.0.edges refl
  | inr past ↦ inr (λ (node, edges, at, is). none-some node (sym past.1 ∙ at))
]
  where
    go : (node : Node) → slice_get nodes number ≡ Some node → (edges : Option (List Edge)) → node.edges ≡ edges
        → IsExpanded nodes number ⊎ (IsExpanded nodes number → ⊥)
    go node at (Some edges) is = inl (node, edges, at, is)
    go node at None is =
        inr (λ (other, edges, there, known). none-some edges (sym is ∙ ap (λ (n : Node). n.edges) (same_Some node other (sym at ∙ there)) ∙ known))

ends-decided : (rest : List ℕ) (ends : Bool) → ((rest ≡ []) × IsTrue ends) ⊎ ((rest ≡ []) × IsTrue ends → ⊥)
ends-decided [] true = inl (refl, refl)
ends-decided [] false = inr (λ both. true≢false (sym both.1))
ends-decided (rank ∷ rest) ends = inr (λ both. omega (arith, ap (λ (xs : List ℕ). length xs) both.0))

accepts-decided : (nodes : List Node) (list : List ℕ) (from : ℕ) → Accepts nodes from list ⊎ (Accepts nodes from list → ⊥)
accepts-decided nodes [] from = inr (λ none. none)
accepts-decided nodes (rank ∷ rest) from =
    let P : Edge → Type 0 = λ edge. (edge.rank ≡ rank) × (((rest ≡ []) × IsTrue edge.ends) ⊎ Accepts nodes edge.next rest) in
    let each : (edge : Edge) → P edge ⊎ (P edge → ⊥) = λ edge. elim (cases_eq edge.rank rank) [
      | inl same ↦ elim (ends-decided rest edge.ends) [
        | inl end ↦ inl (same, inl end)
        | inr never ↦ elim (accepts-decided nodes rest edge.next) [
          | inl more ↦ inl (same, inr more)
          | inr none ↦ inr (λ both. elim both.1 [ inl end ↦ never end | inr more ↦ none more ])
        ]
      ]
      | inr other ↦ inr (λ both. other both.0)
    ] in
    elim (expanded-decided nodes from) [
      | inl known ↦ elim (some-decided P each known.1) [
        | inl there ↦ inl (there.0, (known.0, known.1, known.2, known.3, there.1, there.2.0), there.2.1)
        | inr none ↦ inr (λ (edge, has, either).
            let same_node : has.0 ≡ known.0 = same_Some has.0 known.0 (sym has.2 ∙ known.2) in
            let same_edges : has.1 ≡ known.1 = same_Some has.1 known.1 (sym has.3 ∙ ap (λ (n : Node). n.edges) same_node ∙ known.3) in
            none edge (subst (λ (es : List Edge). Contains es edge) same_edges has.4) (has.5, either))
      ]
      | inr never ↦ inr (λ (edge, has, either). never (has.0, has.1, has.2, has.3))
    ]

-- ---- one sequence more

module _ (Has : List Item → Type 0) (sequences : List (Sequence Item)) (s : Sequence Item) (n : ℕ) (counted : Counts Has sequences n) where
  counts-more : Has s.items → Counts Has (sequences ++ s ∷ []) (n + s.weight)
  counts-more has = Counts-append Has sequences (s ∷ []) n s.weight counted (inl (has, (0, omega arith, refl)))

  counts-same : (Has s.items → ⊥) → Counts Has (sequences ++ s ∷ []) n
  counts-same never =
      let same : n + 0 ≡ n = omega arith in
      subst (λ (k : ℕ). Counts Has (sequences ++ s ∷ []) k) same (Counts-append Has sequences (s ∷ []) n 0 counted (inr (never, refl)))

module _ (d : Data Item) (order : List Item) (levels : List (List Bool)) where
  none-sum : (list : List ℕ) → sum_of no_prefixes list ≡ 0
  none-sum list = either-none (pointwise nat_eq [] list) 0

  pub counted-none : AreCounted d order levels [] no_prefixes
  counted-none = record { exact = λ list passes. none-sum list; none = λ list never. none-sum list }

  pub counted-more : (sequences : List (Sequence Item)) (s : Sequence Item) (longest : ℕ) (nodes : List Node) (before after : Prefixes)
      → AreCounted d order levels sequences before → HasCounted levels s.weight longest nodes before after
      → AreShort d order s.items longest → LeadsToCandidates d order s.items nodes → AreCounted d order levels (sequences ++ s ∷ []) after
  counted-more sequences s longest nodes before after are has short leads =
      let along : (list : List ℕ) → length list ≤ longest → PassesAll hash_of levels list → IsKnownAlong nodes list = λ list less passes front rank behind number is way.
      (let whole : length list ≡ length front + length (rank ∷ behind) = ap (λ (xs : List ℕ). length xs) is ∙ length-append front (rank ∷ behind) in
      has.known front number (omega (arith, less, whole)) (passes-before hash_of levels front (rank ∷ behind) (subst (PassesAll hash_of levels) is passes)) way) in
      record {
        exact = λ list passes.
            let Has : List Item → Type 0 = HasCandidate d order list in
            let old : Counts Has sequences (sum_of before list) = are.exact list passes in
            elim (cases_lt longest (length list)) [
              | inl longer ↦
                  subst (λ (n : ℕ). Counts Has (sequences ++ s ∷ []) n)
                  (sym (has.others list (λ is. let less : length list ≤ longest = is.short in omega (arith, less, longer))))
                  (counts-same Has sequences s (sum_of before list) old (λ candidate. let less : length list ≤ longest = short list candidate in omega (arith, less, longer)))
              | inr less ↦ elim (accepts-decided nodes list 0) [
                | inl does ↦
                    subst (λ (n : ℕ). Counts Has (sequences ++ s ∷ []) n)
                    (sym (has.counted list (record { short = less; passes = passes; accepted = does })))
                    (counts-more Has sequences s (sum_of before list) old ((leads list (along list less passes)).0 does))
                | inr never ↦
                    subst (λ (n : ℕ). Counts Has (sequences ++ s ∷ []) n)
                    (sym (has.others list (λ is. never is.accepted)))
                    (counts-same Has sequences s (sum_of before list) old (λ candidate. never ((leads list (along list less passes)).1 candidate)))
              ]
            ];
        none = λ list never. has.others list (λ is. never is.passes) ∙ are.none list never;
      }

  pub counted-cases : (sequences : List (Sequence Item)) (prefixes : Prefixes) → AreCounted d order levels sequences prefixes → (list : List ℕ)
      → (sum_of prefixes list ≡ 0) ⊎ Counts (HasCandidate d order list) sequences (sum_of prefixes list)
  counted-cases sequences prefixes are list = elim (passes-decided hash_of levels (length list) list (omega arith)) [
    | inl passes ↦ inr (are.exact list passes)
    | inr stops ↦ inl (are.none list stops)
  ]

-- ---- frequent patterns

-- a list that has a sum is there
sum-some : (lists : List (List ℕ)) (sums : List ℕ) (list : List ℕ) → 1 ≤ sum_in lists sums list
    → (k : ℕ) × (slice_get lists k ≡ Some list) × (slice_get sums k ≡ Some (sum_in lists sums list))
sum-some [] sums list some = absurd (omega (arith, some))
sum-some (first ∷ lists) [] list some = absurd (omega (arith, some))
sum-some (first ∷ lists) (sum ∷ sums) list some =
    elim (pointwise nat_eq first list) as (λ b. (pointwise nat_eq first list ≡ b) → 1 ≤ cond b sum (sum_in lists sums list)
    → (k : ℕ) × (slice_get (first ∷ lists) k ≡ Some list) × (slice_get (sum ∷ sums) k ≡ Some (cond b sum (sum_in lists sums list)))) [
      | true ↦ λ e some'. (0, ap (λ (xs : List ℕ). Some xs) ((decides first list).0 e), refl)
      | false ↦ λ e some'. let (k, at, is) = sum-some lists sums list some' in (suc k, at, is)
    ] refl some

module _ (d : Data Item) (order : List Item) (levels : List (List Bool)) (prefixes : Prefixes) (counted : AreCounted d order levels d.sequences prefixes) where
  -- a list of ranks is that of one pattern
  same-candidates : (pattern : List Item) (list : List ℕ) → AreRanked order pattern list → (items : List Item)
      → HasCandidate d order list items ↔ IsCandidate d items pattern
  same-candidates pattern list ranked items = (
    (λ has. subst (IsCandidate d items) (ranked-same order has.0 pattern list has.2 ranked) has.1),
    (λ candidate. (pattern, candidate, ranked)),
  )

  pub pattern-held : (pattern : List Item) (list : List ℕ) → AreRanked order pattern list → PassesAll hash_of levels list
      → (support : ℕ) → Counts (λ items. IsCandidate d items pattern) d.sequences support → 1 ≤ support
      → (number : ℕ) × (slice_get prefixes.lists number ≡ Some list) × (slice_get prefixes.sums number ≡ Some support)
  pattern-held pattern list ranked passes support counts some =
      let exact : Counts (λ items. IsCandidate d items pattern) d.sequences (sum_of prefixes list) =
      Counts-by (HasCandidate d order list) (λ items. IsCandidate d items pattern) (same-candidates pattern list ranked) d.sequences (sum_of prefixes list) (counted.exact list passes) in
      let same : sum_of prefixes list ≡ support = Counts-unique (λ items. IsCandidate d items pattern) d.sequences (sum_of prefixes list) support exact counts in
      let (number, at, is) = sum-some prefixes.lists prefixes.sums list (omega (arith, some, same)) in
      (number, at, is ∙ ap (λ (n : ℕ). Some n) same)

  pub sum-counted : ArePrefixes prefixes → (number : ℕ) (list : List ℕ) (sum : ℕ) → slice_get prefixes.lists number ≡ Some list
      → slice_get prefixes.sums number ≡ Some sum → 1 ≤ sum
      → (pattern : List Item) × AreRanked order pattern list × Counts (λ items. IsCandidate d items pattern) d.sequences sum
  sum-counted are number list sum at is some =
      let same : sum_of prefixes list ≡ sum = same_Some (sum_of prefixes list) sum (sym (sum-at prefixes number list are at) ∙ is) in
      elim (passes-decided hash_of levels (length list) list (omega arith)) [
        | inl passes ↦
            let exact : Counts (HasCandidate d order list) d.sequences sum = subst (Counts (HasCandidate d order list) d.sequences) same (counted.exact list passes) in
            let (items, (pattern, candidate, ranked)) = Counts-one (HasCandidate d order list) d.sequences sum exact some in
            (pattern, ranked, Counts-by (HasCandidate d order list) (λ items. IsCandidate d items pattern) (same-candidates pattern list ranked) d.sequences sum exact)
        | inr never ↦ absurd (omega (arith, some, same, counted.none list never))
      ]
