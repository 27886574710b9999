-- The search tree: it is determined, its labels are those of the alive prefixes, and it has a cover.
use Rattle.std.proofs.Common.{◌≡◌, ◌≢◌, ◌↔◌, ℕ, suc, ◌≤◌, max, inl, inr, Option, Some, None, List, [], ◌∷◌, ◌++◌, map, get_or, length, length-append, refl, sym, ap, ◌∙◌, subst, arith}
use Rattle.std.proofs.Math.Path.{fun_ext}
use Rattle.std.specs.List.{AllByRecursion, AllPairs, Contains, IsDistinct}
use Rattle.std.proofs.Math.Dec.{eqb}
use Rattle.std.proofs.lemmas.Bool.Decides.{Decides-eqb}
use Rattle.std.proofs.lemmas.List.Elements.{Contains-get_or}
use Rattle.std.proofs.lemmas.List.Kept.{AllPairs-cons}
use Rattle.std.proofs.lemmas.Map.Made.{IsDistinct-from_AllPairs}
use Rattle.mine_model.specs.declared.item.Item.{Item}
use Rattle.mine_model.specs.declared.row.Row.{Row}
use Rattle.mine_model.specs.Support.{Sequence, HasSupport}
use Rattle.mine_model.specs.Generation.{IsPatternOf}
use Rattle.mine_model.specs.Answer.{Data}
use Rattle.mine_model.specs.Growth.{IsAlive}
use Rattle.search_tree.specs.Cover.{GrowByOne, Covers, AreApart, IsTree, down_to}
use Rattle.mine_model.specs.Labels.{IsOnce}
use Rattle.mine_model.specs.Pivots.{IsWithinPivot, label_of, IsAliveLabel}
use Rattle.search_tree.specs.SearchTree.{AreKids, IsRowAt, IsRowOf, AreRootsOf, SearchTree, IsSearchTree}
use Rattle.mine_model.proofs.ListLemmas.{Contains-cases, Contains-first, Contains-other, Contains-none, Contains-by, Contains-from, AllByRecursion-contained, AllByRecursion-weaker, AllPairs-head, AllPairs-tail, rising_same, last-cases}
use Rattle.mine_model.proofs.SupportLemmas.{Counts-unique}
use Rattle.mine_model.proofs.RankedLemmas.{ranked-same, ranked-split, ranked-length}
use Rattle.mine_model.proofs.AboveLemmas.{pattern-shorter}
use Rattle.mine_model.proofs.AliveLemmas.{IsAlive-shorter, IsAlive-some}
use Rattle.mine_model.proofs.OnceLemmas.{apart-once}
use Rattle.search_tree.proofs.TreeLemmas.{cover_once, cover_members}
use Rattle.search_tree.proofs.DepthLemmas.{short_covers}
use Rattle.search_tree.proofs.GrowthLemmas.{kids_of, kids_grow, kids_apart}

pub one_pivot : (p q : ℕ) (ranks others : List ℕ) → label_of p ranks ≡ label_of q others → p ≡ q
one_pivot p q ranks others same = cc

module _ (d : Data Item) (order : List Item) where
  -- a label that begins an alive label is alive
  pub IsAliveLabel-shorter : (pivot : ℕ) (ranks others : List ℕ) → IsAliveLabel d order pivot (ranks ++ others) → IsAliveLabel d order pivot ranks
  IsAliveLabel-shorter pivot ranks others is =
      let (front, back, same, ranked, rest) = ranked-split order is.prefix ranks others is.ranked in record {
        prefix = front;
        ranked = ranked;
        alive = IsAlive-shorter d (IsWithinPivot order pivot) front back (subst (λ l. IsAlive d (IsWithinPivot order pivot) l) same is.alive);
      }

  -- What a tree has is determined

  pub AreKids-same : (pivot : ℕ) (ranks : List ℕ) (kids others : List (List ℕ)) → AreKids d order pivot ranks kids → AreKids d order pivot ranks others → kids ≡ others
  AreKids-same pivot ranks kids others first second =
      let same : first.next ≡ second.next = rising_same first.next second.next first.rising second.rising
      (λ rank held. (second.exact rank).1 ((first.exact rank).0 held)) (λ rank held. (first.exact rank).1 ((second.exact rank).0 held)) in
      first.longer ∙ ap (map (λ rank. label_of pivot (ranks ++ rank ∷ []))) same ∙ sym second.longer

  pub IsRowAt-same : (pivot : ℕ) (ranks : List ℕ) (row other : Row) → IsRowAt d order pivot ranks row → IsRowAt d order pivot ranks other → row ≡ other
  IsRowAt-same pivot ranks row other first second =
      let pattern : row.pattern ≡ other.pattern = ranked-same order row.pattern other.pattern ranks first.ranked second.ranked in
      let support : row.support ≡ other.support = Counts-unique (λ items. IsPatternOf d.links d.expression items other.pattern) d.sequences row.support other.support
      (subst (λ p. HasSupport d.links d.expression d.sequences p row.support) pattern first.frequent.exact) second.frequent.exact in
      λ i. record { pattern = pattern i; support = support i }

  pub IsRowOf-same : (pivot : ℕ) (ranks : List ℕ) (row other : Option Row) → IsRowOf d order pivot ranks row → IsRowOf d order pivot ranks other → row ≡ other
  IsRowOf-same pivot ranks None None first second = refl
  IsRowOf-same pivot ranks None (Some other) first second = absurd (first other second)
  IsRowOf-same pivot ranks (Some row) None first second = absurd (second row first)
  IsRowOf-same pivot ranks (Some row) (Some other) first second = ap Some (IsRowAt-same pivot ranks row other first second)

  pub AreRootsOf-same : (pivots : List ℕ) (roots others : List (List ℕ)) → AreRootsOf d order pivots roots → AreRootsOf d order pivots others → roots ≡ others
  AreRootsOf-same [] roots others first second = first ∙ sym second
  AreRootsOf-same (pivot ∷ pivots) roots others (inl first) (inl second) =
      first.1.1 ∙ ap (λ l. label_of pivot [] ∷ l) (AreRootsOf-same pivots first.1.0 second.1.0 first.1.2 second.1.2) ∙ sym second.1.1
  AreRootsOf-same (pivot ∷ pivots) roots others (inl first) (inr second) = absurd (second.0 first.0)
  AreRootsOf-same (pivot ∷ pivots) roots others (inr first) (inl second) = absurd (first.0 second.0)
  AreRootsOf-same (pivot ∷ pivots) roots others (inr first) (inr second) = AreRootsOf-same pivots roots others first.1 second.1

  -- there is at most one search tree
  pub IsSearchTree-same : (pivots : List ℕ) (tree other : SearchTree) → IsSearchTree d order pivots tree → IsSearchTree d order pivots other → tree ≡ other
  IsSearchTree-same pivots tree other first second =
      let roots : tree.roots ≡ other.roots = AreRootsOf-same pivots tree.roots other.roots first.roots second.roots in
      let kids : tree.kids ≡ other.kids = fun_ext same_kids in
      let row : tree.row ≡ other.row = fun_ext same_row in
      λ i. record { roots = roots i; kids = kids i; row = row i }
    where
      same_kids : (label : List ℕ) → tree.kids label ≡ other.kids label
      same_kids [] = first.no_kids ∙ sym second.no_kids
      same_kids (pivot ∷ ranks) = AreKids-same pivot ranks (tree.kids (pivot ∷ ranks)) (other.kids (pivot ∷ ranks)) (first.kids pivot ranks) (second.kids pivot ranks)

      same_row : (label : List ℕ) → tree.row label ≡ other.row label
      same_row [] = first.no_row ∙ sym second.no_row
      same_row (pivot ∷ ranks) = IsRowOf-same pivot ranks (tree.row (pivot ∷ ranks)) (other.row (pivot ∷ ranks)) (first.row pivot ranks) (second.row pivot ranks)

  -- Its labels

  -- the label of one of the pivots and of an alive prefix
  abbrev pub IsNode : List ℕ → List ℕ → Type 0
  IsNode pivots label =
      (pivot : ℕ) × (ranks : List ℕ) × Contains pivots pivot × (label ≡ label_of pivot ranks) × IsAliveLabel d order pivot ranks

  pub kid-alive : (pivot : ℕ) (ranks : List ℕ) (kids : List (List ℕ)) → AreKids d order pivot ranks kids → (label : List ℕ) → Contains kids label
      → (rank : ℕ) × (label ≡ label_of pivot (ranks ++ rank ∷ [])) × IsAliveLabel d order pivot (ranks ++ rank ∷ [])
  kid-alive pivot ranks kids are label held =
      let (rank, inside, same) = Contains-from (λ rank. label_of pivot (ranks ++ rank ∷ [])) are.next label (subst (λ l. Contains l label) are.longer held) in
      (rank, same, (are.exact rank).0 inside)

  pub alive-kid : (pivot : ℕ) (ranks : List ℕ) (kids : List (List ℕ)) → AreKids d order pivot ranks kids
      → (rank : ℕ) → IsAliveLabel d order pivot (ranks ++ rank ∷ []) → Contains kids (label_of pivot (ranks ++ rank ∷ []))
  alive-kid pivot ranks kids are rank alive =
      subst (λ l. Contains l (label_of pivot (ranks ++ rank ∷ []))) (sym are.longer)
      (Contains-by (λ rank. label_of pivot (ranks ++ rank ∷ [])) are.next rank ((are.exact rank).1 alive))

  pub root-alive : (pivots : List ℕ) (roots : List (List ℕ)) → AreRootsOf d order pivots roots → (label : List ℕ) → Contains roots label
      → (pivot : ℕ) × Contains pivots pivot × (label ≡ label_of pivot []) × IsAliveLabel d order pivot []
  root-alive [] roots are label held = absurd (Contains-none label (subst (λ l. Contains l label) are held))
  root-alive (pivot ∷ pivots) roots (inl are) label held =
      elim (Contains-cases (label_of pivot []) are.1.0 label (subst (λ l. Contains l label) are.1.1 held)) [
        | inl same ↦ (pivot, Contains-first pivot pivots, same, are.0)
        | inr other ↦ (let (p, inside, same, alive) = root-alive pivots are.1.0 are.1.2 label other in (p, Contains-other pivot pivots p inside, same, alive))
      ]
  root-alive (pivot ∷ pivots) roots (inr are) label held =
      let (p, inside, same, alive) = root-alive pivots roots are.1 label held in (p, Contains-other pivot pivots p inside, same, alive)

  pub alive-root : (pivots : List ℕ) (roots : List (List ℕ)) → AreRootsOf d order pivots roots → (pivot : ℕ) → Contains pivots pivot
      → IsAliveLabel d order pivot [] → Contains roots (label_of pivot [])
  alive-root [] roots are pivot inside alive = absurd (Contains-none pivot inside)
  alive-root (p ∷ pivots) roots (inl are) pivot inside alive = subst (λ l. Contains l (label_of pivot [])) (sym are.1.1) (elim (Contains-cases p pivots pivot inside) [
    | inl same ↦ subst (λ n. Contains (label_of p [] ∷ are.1.0) (label_of n [])) (sym same) (Contains-first (label_of p []) are.1.0)
    | inr later ↦ Contains-other (label_of p []) are.1.0 (label_of pivot []) (alive-root pivots are.1.0 are.1.2 pivot later alive)
  ])
  alive-root (p ∷ pivots) roots (inr are) pivot inside alive = elim (Contains-cases p pivots pivot inside) [
    | inl same ↦ absurd (are.0 (subst (λ n. IsAliveLabel d order n []) same alive))
    | inr later ↦ alive-root pivots roots are.1 pivot later alive
  ]

  -- different pivots have different roots
  pub roots-apart : (pivots : List ℕ) (roots : List (List ℕ)) → AreRootsOf d order pivots roots → AllPairs (λ p q. p ≢ q) pivots
      → AllPairs (λ first second. first ≢ second) roots
  roots-apart [] roots are apart = subst (AllPairs (λ first second. first ≢ second)) (sym are) none
    where
      none : AllPairs (λ (first : List ℕ) second. first ≢ second) []
      none i j e less inside = absurd (omega (arith, inside))
  roots-apart (pivot ∷ pivots) roots (inl are) apart =
      subst (AllPairs (λ first second. first ≢ second)) (sym are.1.1)
      (AllPairs-cons (λ first second. first ≢ second) (label_of pivot []) are.1.0
      (λ k e below same. other (get_or are.1.0 k e) (Contains-get_or are.1.0 k e below) same)
      (roots-apart pivots are.1.0 are.1.2 (AllPairs-tail (λ p q. p ≢ q) pivot pivots apart)))
    where
      other : (label : List ℕ) → Contains are.1.0 label → label_of pivot [] ≢ label
      other label held same =
          let (p, inside, is, alive) = root-alive pivots are.1.0 are.1.2 label held in
          AllPairs-head (λ p q. p ≢ q) pivot pivots apart p inside (one_pivot pivot p [] [] (same ∙ is))
  roots-apart (pivot ∷ pivots) roots (inr are) apart = roots-apart pivots roots are.1 (AllPairs-tail (λ p q. p ≢ q) pivot pivots apart)

  module _ (pivots : List ℕ) (tree : SearchTree) (is : IsSearchTree d order pivots tree) where
    -- its labels are those of the pivots and their alive prefixes
    pub search-tree : IsTree tree.roots tree.kids (IsNode pivots)
    search-tree label = (
      (λ node. let (pivot, ranks, inside, same, alive) = node in elim (last-cases ranks) [
        | inl none ↦ inl (subst (Contains tree.roots) (sym (same ∙ ap (label_of pivot) none))
            (alive-root pivots tree.roots is.roots pivot inside (subst (IsAliveLabel d order pivot) none alive)))
        | inr some ↦
            let (front, last, cut) = some in
            let here : IsAliveLabel d order pivot (front ++ last ∷ []) = subst (IsAliveLabel d order pivot) cut alive in
            inr (
              label_of pivot front,
              (pivot, front, inside, refl, IsAliveLabel-shorter pivot front (last ∷ []) here),
              subst (Contains (tree.kids (label_of pivot front))) (sym (same ∙ ap (label_of pivot) cut))
                  (alive-kid pivot front (tree.kids (label_of pivot front)) (is.kids pivot front) last here),
            )
      ]),
      (λ from. elim from [
        | inl root ↦ let (pivot, inside, same, alive) = root-alive pivots tree.roots is.roots label root in (pivot, [], inside, same, alive)
        | inr below ↦
            let (parent, node, kid) = below in
            let (pivot, ranks, inside, same, _) = node in
            let (rank, longer, alive) = kid-alive pivot ranks (tree.kids (label_of pivot ranks)) (is.kids pivot ranks) label (subst (λ l. Contains (tree.kids l) label) same kid) in
            (pivot, ranks ++ rank ∷ [], inside, longer, alive)
      ]),
    )

    next_ranks : List ℕ → List ℕ
    next_ranks [] = []
    next_ranks (pivot ∷ ranks) = (is.kids pivot ranks).next

    kids_are : (label : List ℕ) → tree.kids label ≡ kids_of next_ranks label
    unfolding next_ranks
    kids_are [] = is.no_kids
    kids_are (pivot ∷ ranks) = (is.kids pivot ranks).longer

    next_apart : (label : List ℕ) → IsDistinct eqb (next_ranks label)
    unfolding next_ranks
    next_apart [] = IsDistinct-from_AllPairs Decides-eqb [] (λ i j e less inside. absurd (omega (arith, inside)))
    next_apart (pivot ∷ ranks) =
        IsDistinct-from_AllPairs Decides-eqb (is.kids pivot ranks).next
        (λ i j e less inside same. (let low = (is.kids pivot ranks).rising i j e less inside in omega (arith, low, same)))

    pub search-grows : GrowByOne tree.kids
    search-grows label kid held = kids_grow next_ranks label kid (subst (λ l. Contains l kid) (kids_are label) held)

    -- where the pivots differ, each label has one place in the tree
    pub search-apart : AllPairs (λ p q. p ≢ q) pivots → AreApart tree.roots tree.kids
    unfolding next_ranks
    search-apart apart =
        subst (AreApart tree.roots) (sym (fun_ext kids_are))
        (kids_apart tree.roots next_ranks (apart-once tree.roots (roots-apart pivots tree.roots is.roots apart)) short refl next_apart)
      where
        short : (root : List ℕ) → Contains tree.roots root → length root ≡ 1
        short root held = let (pivot, inside, same, alive) = root-alive pivots tree.roots is.roots root held in ap length same

    -- a cover holds these labels, and each once where the pivots differ
    pub search-members : (labels : List (List ℕ)) → Covers tree.roots tree.kids labels → (label : List ℕ) → Contains labels label ↔ IsNode pivots label
    search-members labels covers = cover_members tree.roots tree.kids search-grows (IsNode pivots) search-tree labels covers

    pub search-once : AllPairs (λ p q. p ≢ q) pivots → (labels : List (List ℕ)) → Covers tree.roots tree.kids labels → IsOnce labels
    search-once apart labels covers = cover_once tree.roots tree.kids search-grows (search-apart apart) labels covers

    -- where no sequence is longer, there is a cover
    pub search-covers : 1 ≤ d.threshold → (most : ℕ) → AllByRecursion (λ s. length s.items ≤ most) d.sequences
        → Covers tree.roots tree.kids (down_to tree.roots tree.kids (suc (suc most)))
    search-covers least most all = short_covers tree.roots tree.kids search-grows (IsNode pivots) search-tree (suc (suc most)) (λ label node.
        let (pivot, ranks, inside, same, alive) = node in
        let (s, held, (more, pattern, within)) = IsAlive-some d (IsWithinPivot order pivot) alive.prefix least alive.alive in
        let long : length s.items ≤ most = AllByRecursion-contained (λ s. length s.items ≤ most) d.sequences s all held in
        omega (
          arith,
          ap length same,
          ranked-length order alive.prefix ranks alive.ranked,
          length-append alive.prefix more,
          pattern-shorter d.links d.expression s.items (alive.prefix ++ more) pattern,
          long,
        ))

-- the length of the longest sequence
abbrev pub longest : {A : Type 0} → List (Sequence A) → ℕ
longest [] = 0
longest (s ∷ sequences) = max (length s.items) (longest sequences)

pub longest-all : {A : Type 0} (sequences : List (Sequence A)) → AllByRecursion (λ s. length s.items ≤ longest sequences) sequences
longest-all [] = tt
longest-all {A} (s ∷ sequences) = (
  omega arith,
  AllByRecursion-weaker (λ (t : Sequence A). length t.items ≤ longest sequences) (λ (t : Sequence A). length t.items ≤ longest (s ∷ sequences)) (λ t most. omega (arith, most)) sequences (longest-all sequences),
)
