-- A cover holds the labels of the tree, each once.
use Rattle.std.proofs.Common.{◌≡◌, ℕ, zero, suc, ◌+◌, ◌<◌, ◌≤◌, ◌↔◌, inl, inr, List, [], length, ap, arith, sum_by, flat_map, Contains}
use Rattle.std.proofs.lemmas.List.Sums.{sum_by-append}
use Rattle.search_tree.specs.Cover.{GrowByOne, Covers, down_to, level, IsTree, AreApart}
use Rattle.mine_model.specs.Labels.{IsOnce}
use Rattle.search_tree.proofs.CoverLemmas.{kids_weight, kids-weight, flat-weight}
use Rattle.mine_model.proofs.SumLemmas.{sum_by-most}
use Rattle.mine_model.proofs.OnceLemmas.{one, times-one, one-same, one-held, one-found, some-part, part-most}

cover-weight : (roots : List (List ℕ)) (kids : List ℕ → List (List ℕ)) (labels : List (List ℕ)) → Covers roots kids labels → (weight : List ℕ → ℕ)
    → sum_by weight labels ≡ sum_by weight roots + sum_by (kids_weight kids weight) labels
cover-weight roots kids labels covers weight = omega (arith, covers weight, sum_by-append weight roots (flat_map kids labels), flat-weight kids weight labels)

once-below : (roots : List (List ℕ)) (kids : List ℕ → List (List ℕ)) → GrowByOne kids → AreApart roots kids → (labels : List (List ℕ)) → Covers roots kids labels
    → (n : ℕ) (label : List ℕ) → length label < n → sum_by (one label) labels ≤ 1
once-below roots kids grow apart labels covers zero label l = absurd (omega arith)
once-below roots kids grow apart labels covers (suc n) label l =
    let whole : sum_by (one label) labels ≡ sum_by (one label) roots + sum_by (kids_weight kids (one label)) labels = cover-weight roots kids labels covers (one label) in
    let top : sum_by (one label) roots ≤ 1 = omega (arith, apart.once_roots label, times-one label roots) in
    elim (some-part (kids_weight kids (one label)) labels) [
      | inl none ↦ omega arith
      | inr part ↦
          let (parent, is, more) = part in
          elim (one-found label (kids parent)) [
            | inr none ↦ absurd (omega (arith, kids-weight kids (one label) parent))
            | inl kid ↦
                let long : length label ≡ suc (length parent) = grow parent label kid in
                let one_parent : sum_by (one parent) labels ≤ 1 = once-below roots kids grow apart labels covers n parent (omega arith) in
                let each : sum_by (kids_weight kids (one label)) labels ≤ sum_by (one parent) labels = sum_by-most (kids_weight kids (one label)) (one parent) labels (λ other there.
                elim (one-found label (kids other)) [
                  | inr none ↦ omega (arith, kids-weight kids (one label) other)
                  | inl kid2 ↦ omega (arith, kids-weight kids (one label) other, one-same parent other (apart.one_parent parent other label kid kid2), times-one label (kids other), apart.once_kids other label)
                ]) in
                elim (one-found label roots) [
                  | inr none ↦ omega arith
                  | inl root ↦ absurd (apart.no_parent parent label root kid)
                ]
          ]
    ]

-- a cover holds each label at most once
pub cover_once : (roots : List (List ℕ)) (kids : List ℕ → List (List ℕ)) → GrowByOne kids → AreApart roots kids → (labels : List (List ℕ)) → Covers roots kids labels → IsOnce labels
cover_once roots kids grow apart labels covers label = omega (arith, times-one label labels, once-below roots kids grow apart labels covers (suc (length label)) label (omega arith))

members-below : (roots : List (List ℕ)) (kids : List ℕ → List (List ℕ)) → GrowByOne kids → (Node : List ℕ → Type 0) → IsTree roots kids Node → (labels : List (List ℕ)) → Covers roots kids labels
    → (n : ℕ) (label : List ℕ) → length label < n → Contains labels label ↔ Node label
members-below roots kids grow Node tree labels covers zero label l = absurd (omega arith)
members-below roots kids grow Node tree labels covers (suc n) label l =
    let whole : sum_by (one label) labels ≡ sum_by (one label) roots + sum_by (kids_weight kids (one label)) labels = cover-weight roots kids labels covers (one label) in (
      (λ is. elim (one-found label roots) [
        | inl root ↦ (tree label).1 (inl root)
        | inr no_root ↦ elim (some-part (kids_weight kids (one label)) labels) [
          | inl none ↦ absurd (omega (arith, one-held label labels is))
          | inr part ↦ let (parent, held, more) = part in elim (one-found label (kids parent)) [
            | inr none ↦ absurd (omega (arith, kids-weight kids (one label) parent))
            | inl kid ↦
                let long : length label ≡ suc (length parent) = grow parent label kid in
                (tree label).1 (inr (parent, (members-below roots kids grow Node tree labels covers n parent (omega arith)).0 held, kid))
          ]
        ]
      ]),
      (λ node. elim (one-found label labels) [
        | inl is ↦ is
        | inr none ↦ elim ((tree label).0 node) [
          | inl root ↦ absurd (omega (arith, one-held label roots root))
          | inr below ↦
              let (parent, node2, kid) = below in
              let long : length label ≡ suc (length parent) = grow parent label kid in
              let held : Contains labels parent = (members-below roots kids grow Node tree labels covers n parent (omega arith)).1 node2 in
              absurd (omega (arith, one-held label (kids parent) kid, kids-weight kids (one label) parent, part-most (kids_weight kids (one label)) labels parent held))
        ]
      ]),
    )

-- a cover holds the labels of the tree and no others
pub cover_members : (roots : List (List ℕ)) (kids : List ℕ → List (List ℕ)) → GrowByOne kids → (Node : List ℕ → Type 0) → IsTree roots kids Node → (labels : List (List ℕ)) → Covers roots kids labels
    → (label : List ℕ) → Contains labels label ↔ Node label
cover_members roots kids grow Node tree labels covers label = members-below roots kids grow Node tree labels covers (suc (length label)) label (omega arith)

-- down to a depth, and the next level
down-weight : (roots : List (List ℕ)) (kids : List ℕ → List (List ℕ)) (n : ℕ) (weight : List ℕ → ℕ)
    → sum_by weight (down_to roots kids (suc n)) ≡ sum_by weight (down_to roots kids n) + sum_by weight (level roots kids n)
down-weight roots kids zero weight = omega (arith, sum_by-append weight roots [])
down-weight roots kids (suc n) weight = omega (
  arith,
  sum_by-append weight roots (flat_map kids (down_to roots kids (suc n))),
  sum_by-append weight roots (flat_map kids (down_to roots kids n)),
  flat-weight kids weight (down_to roots kids (suc n)),
  flat-weight kids weight (down_to roots kids n),
  flat-weight kids weight (level roots kids n),
  down-weight roots kids n (kids_weight kids weight),
)

-- a tree with a level that is empty has a cover
pub down_covers : (roots : List (List ℕ)) (kids : List ℕ → List (List ℕ)) (n : ℕ) → level roots kids n ≡ [] → Covers roots kids (down_to roots kids n)
down_covers roots kids n ends = λ weight.
    let none : sum_by weight (level roots kids n) ≡ 0 = ap (sum_by weight) ends in
    omega (arith, down-weight roots kids n weight)
