-- Places in lists, and paths of a graph whose nodes grow.
use Rattle.std.proofs.Common.{◌≡◌, ℕ, zero, suc, ◌+◌, ◌≤◌, ◌<◌, ◌⊎◌, inl, inr, Bool, Some, List, [], ◌∷◌, ◌++◌, length, slice_get, refl, sym, ap, subst, ◌∙◌, arith, append_assoc, length-append}
use Rattle.std.specs.List.{Contains}
use Rattle.std.proofs.lemmas.Bool.{cases_lt}
use Rattle.std.proofs.lemmas.List.{nil_from_length}
use Rattle.std.proofs.lemmas.Option.{same_Some, slice_get_within, slice_get_cases, slice_get-get_or}
use Rattle.mine_model.proofs.ListLemmas.{last-cases}
use Rattle.candidate_graph.specs.declared.edge.Edge.{Edge}
use Rattle.candidate_graph.specs.Graphs.{Node, IsExpanded, Grows}
use Rattle.candidate_graph.specs.Paths.{HasEdge, Reaches}
use Rattle.prefix_sieve.specs.Hashes.{start, mixed, hash_of}
use Rattle.prefix_sieve.specs.Sieves.{PassesAll}
use Rattle.prefix_sieve.proofs.HashLemmas.{mixed_behind}

-- Places in lists

pub at_place : {X : Type 0} (xs : List X) (x : X) → Contains xs x → (k : ℕ) × (k < length xs) × (slice_get xs k ≡ Some x)
at_place xs x (k, below, is) = (k, below, slice_get-get_or xs k x below ∙ ap (λ y. Some y) is)

-- the next place, or one before it
pub last_or_before : (k count : ℕ) → k < count + 1 → (k < count) ⊎ (k ≡ count)
last_or_before k count below = elim (cases_lt k count) [
  | inl less ↦ inl less
  | inr more ↦ inr (omega (arith, below, more))
]

-- Nodes that grow

pub grows-same : (nodes : List Node) → Grows nodes nodes
grows-same nodes = λ number node at. (node, at, refl, λ edges is. is)

pub grows-both : (a b c : List Node) → Grows a b → Grows b c → Grows a c
grows-both a b c first second = λ number node at.
    let (mid, mid_at, mid_is, mid_keeps) = first number node at in
    let (end, end_at, end_is, end_keeps) = second number mid mid_at in
    (end, end_at, end_is ∙ mid_is, λ edges is. end_keeps edges (mid_keeps edges is))

module _ (a b : List Node) (grows : Grows a b) where
  pub grows-within : (number : ℕ) → number < length a → number < length b
  grows-within number below = elim ((slice_get_cases a number).1) [
    | inl there ↦ let (after, at, is, keeps) = grows number there.0 there.2 in slice_get_within b number after at
    | inr past ↦ absurd (omega (arith, below, past.0))
  ]

  pub grows-expanded : (number : ℕ) → IsExpanded a number → IsExpanded b number
  grows-expanded number (node, edges, at, is) =
      let (after, after_at, after_is, keeps) = grows number node at in (after, edges, after_at, keeps edges is)

  -- edges that were known are no others now
  pub edge-back : (number rank : ℕ) (edge : Edge) → IsExpanded a number → HasEdge b number rank edge → HasEdge a number rank edge
  edge-back number rank edge (node, edges, at, is) (now, others, now_at, now_is, held, ranked) =
      let (after, after_at, after_is, keeps) = grows number node at in
      let one : now ≡ after = same_Some now after (sym now_at ∙ after_at) in
      let same : others ≡ edges = same_Some others edges (sym now_is ∙ ap (λ (n : Node). n.edges) one ∙ keeps edges is) in
      (node, edges, at, is, subst (λ (es : List Edge). Contains es edge) same held, ranked)

-- Paths, rank by rank

pub reaches-behind : (nodes : List Node) (from : ℕ) (list : List ℕ) (rank to : ℕ) → Reaches nodes from (list ++ rank ∷ []) to
    → (mid : ℕ) × (edge : Edge) × Reaches nodes from list mid × HasEdge nodes mid rank edge × (edge.next ≡ to)
reaches-behind nodes from [] rank to (edge, has, is) = (from, edge, refl, has, is)
reaches-behind nodes from (first ∷ list) rank to (edge, has, rest) =
    let (mid, last, way, last_has, is) = reaches-behind nodes edge.next list rank to rest in (mid, last, (edge, has, way), last_has, is)

pub reaches-more : (nodes : List Node) (from : ℕ) (list : List ℕ) (rank mid : ℕ) (edge : Edge) → Reaches nodes from list mid → HasEdge nodes mid rank edge
    → Reaches nodes from (list ++ rank ∷ []) edge.next
reaches-more nodes from [] rank mid edge way has = (edge, subst (λ (n : ℕ). HasEdge nodes n rank edge) (sym way) has, refl)
reaches-more nodes from (first ∷ list) rank mid edge (other, other_has, way) has = (other, other_has, reaches-more nodes other.next list rank mid edge way has)

-- a prefix passes with all its own where a longer one does
pub passes-before : (hash : List ℕ → ℕ) (levels : List (List Bool)) (list behind : List ℕ) → PassesAll hash levels (list ++ behind) → PassesAll hash levels list
passes-before hash levels list behind passes = λ before rank rest is.
    passes before rank (rest ++ behind) (ap (λ (xs : List ℕ). xs ++ behind) is ∙ append_assoc before (rank ∷ rest) behind)

module _ (levels : List (List Bool)) (a b : List Node) (grows : Grows a b) (count : ℕ)
    (known : (list : List ℕ) (number : ℕ) → length list < count → PassesAll hash_of levels list → Reaches a 0 list number → IsExpanded a number) where
  -- what is reached now was reached before
  back-by : (most : ℕ) (list : List ℕ) (number : ℕ) → length list ≤ most → length list ≤ count → PassesAll hash_of levels list
      → Reaches b 0 list number → Reaches a 0 list number
  back-by zero list number short less passes way =
      let none : list ≡ [] = nil_from_length list (omega (arith, short)) in
      subst (λ (xs : List ℕ). Reaches a 0 xs number) (sym none) (subst (λ (xs : List ℕ). Reaches b 0 xs number) none way)
  back-by (suc most) list number short less passes way = elim (last-cases list) [
    | inl none ↦ subst (λ (xs : List ℕ). Reaches a 0 xs number) (sym none) (subst (λ (xs : List ℕ). Reaches b 0 xs number) none way)
    | inr split ↦
        let (front, last, is) = split in
        let long : length list ≡ length front + 1 = ap (λ (xs : List ℕ). length xs) is ∙ length-append front (last ∷ []) in
        let passed : PassesAll hash_of levels front = passes-before hash_of levels front (last ∷ []) (subst (PassesAll hash_of levels) is passes) in
        let (mid, edge, way_to, has, to) = reaches-behind b 0 front last number (subst (λ (xs : List ℕ). Reaches b 0 xs number) is way) in
        let before : Reaches a 0 front mid = back-by most front mid (omega (arith, long, short)) (omega (arith, long, less)) passed way_to in
        let expanded : IsExpanded a mid = known front mid (omega (arith, long, less)) passed before in
        let more : Reaches a 0 (front ++ last ∷ []) edge.next = reaches-more a 0 front last mid edge before (edge-back a b grows mid last edge expanded has) in
        subst (λ (n : ℕ). Reaches a 0 list n) to (subst (λ (xs : List ℕ). Reaches a 0 xs edge.next) (sym is) more)
  ]

  pub reaches-back : (list : List ℕ) (number : ℕ) → length list ≤ count → PassesAll hash_of levels list → Reaches b 0 list number → Reaches a 0 list number
  reaches-back list number less passes way = back-by (length list) list number (omega arith) less passes way

-- the hash of the list with the rank
pub hash-behind : (list : List ℕ) (rank : ℕ) → hash_of (list ++ rank ∷ []) ≡ mixed (hash_of list) rank
hash-behind list rank = mixed_behind start list rank
