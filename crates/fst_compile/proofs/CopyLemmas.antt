-- The copies of a repetition, from the last to the first.
use Rattle.std.proofs.Common.{◌≡◌, ℕ, suc, zero, ◌+◌, ◌-◌, ◌*◌, ◌<◌, ◌≤◌, max, ◌⊎◌, ◌↔◌, inl, inr, Bool, true, false, ◌&&◌, ◌||◌, eqb, ltb, leb, List, length, refl, sym, ap, ◌∙◌, subst, arith, Option, Some, None, lt-ltb, eq-eqb}
use Rattle.std.specs.List.{Contains}
use Rattle.std.proofs.lemmas.Bool.{cases_lt, cases_eq, le-ltb, le-leb, lt-leb, ne_eqb, or_cases, or_left, or_right, and_parts, and_from, leb-true, eqb-true}
use Rattle.mine_model.specs.declared.item.Item.{Item}
use Rattle.mine_model.specs.Expression.{Tree, rep, unfolded_times, unfolded_leaves}
use Rattle.mine_model.proofs.ListLemmas.{Contains-none}
use Rattle.fst_compile.specs.declared.fragment.Fragment.{Fragment}
use Rattle.fst_compile.specs.Shape.{Shape, nothing, both, maybe, more, between, at_least, repeated, unfold_tree}
use Rattle.fst_compile.specs.Positions.{size, CanBeEmpty, Follows}
use Rattle.fst_compile.specs.Rows.{Adds}
use Rattle.fst_compile.specs.Fragments.{IsFragment, IsWithin, IsJoined, IsBare, IsAlike, IsBuilt, IsCopyAdded, AddsCopy, behind_copy, copies_from, empty_of_copies, is_enough}
use Rattle.fst_compile.proofs.PositionLemmas.{IsIn, First-in, Last-in, Follows-in}
use Rattle.fst_compile.proofs.RowLemmas.{Adds-nothing, Adds-same, Adds-both}
use Rattle.fst_compile.proofs.UnfoldLemmas.{size-unfold}
use Rattle.fst_compile.proofs.FragmentLemmas.{first-joined, last-joined, IsFragment-both, IsWithin-fragment}
use Rattle.std.proofs.Math.Nat.{mul-le-mul_left}
use Rattle.std.proofs.Math.Bool.{or-false}

-- ---- the shape of the copies from an index on

bounded-needed : (shape : Shape) (least most index : ℕ) → index < most → index < least
    → copies_from shape least (Some most) index ≡ both shape (copies_from shape least (Some most) (index + 1))
bounded-needed shape least most index inside needed =
    let n : least - index ≡ suc (least - (index + 1)) = omega arith in
    let m : most - index ≡ suc (most - (index + 1)) = omega arith in
    rw (n, m) refl

bounded-optional : (shape : Shape) (least most index : ℕ) → index < most → least ≤ index
    → copies_from shape least (Some most) index ≡ maybe (both shape (copies_from shape least (Some most) (index + 1)))
bounded-optional shape least most index inside optional =
    let n : least - index ≡ 0 = omega arith in
    let p : least - (index + 1) ≡ 0 = omega arith in
    let m : most - index ≡ suc (most - (index + 1)) = omega arith in
    rw (n, p, m) refl

unbounded-needed : (shape : Shape) (least index : ℕ) → index + 1 < least
    → copies_from shape least None index ≡ both shape (copies_from shape least None (index + 1))
unbounded-needed shape least index needed =
    let here : ltb index (max least 1) ≡ true = lt-ltb index (max least 1) (omega arith) in
    let next : ltb (index + 1) (max least 1) ≡ true = lt-ltb (index + 1) (max least 1) (omega arith) in
    let n : least - index ≡ suc (suc (least - (index + 2))) = omega arith in
    let p : least - (index + 1) ≡ suc (least - (index + 2)) = omega arith in
    rw (here, next, n, p) refl

unbounded-last : (shape : Shape) (least index : ℕ) → index < max least 1 → least ≤ index + 1 → 0 < least → copies_from shape least None index ≡ more shape
unbounded-last shape least index inside last some =
    let here : ltb index (max least 1) ≡ true = lt-ltb index (max least 1) inside in
    let n : least - index ≡ 1 = omega arith in
    rw (here, n) refl

unbounded-only : (shape : Shape) (index : ℕ) → index < max 0 1 → copies_from shape 0 None index ≡ maybe (more shape)
unbounded-only shape index inside =
    let zeroth : index ≡ 0 = omega arith in
    rw zeroth refl

unbounded-behind : (shape : Shape) (least index : ℕ) → max least 1 ≤ index → copies_from shape least None index ≡ nothing
unbounded-behind shape least index behind = rw (le-ltb index (max least 1) behind) refl

-- ---- a copy and those behind it

more-fragment : (shape : Shape) (at : ℕ) (f g : Fragment) → IsFragment shape at f → IsAlike f f.empty g → IsFragment (more shape) at g
more-fragment shape at f g is alike = record {
  size_is = alike.size_is ∙ is.size_is;
  empty = ((λ yes_is. is.empty.0 (sym alike.empty_is ∙ yes_is)), (λ can. alike.empty_is ∙ is.empty.1 can));
  first = λ k. ((λ inside. (is.first k).0 (rw alike.first at inside)), (λ is_first. rw alike.first ((is.first k).1 is_first)));
  last = λ k. ((λ inside. (is.last k).0 (rw alike.last at inside)), (λ is_last. rw alike.last ((is.last k).1 is_last)));
}

alike-as : (f g : Fragment) (empty other : Bool) → empty ≡ other → IsAlike f empty g → IsAlike f other g
alike-as f g empty other same alike = subst (λ (b : Bool). IsAlike f b g) same alike

or-true : (b : Bool) → (b || true) ≡ true
or-true true = refl
or-true false = refl

module _ (shape : Shape) (least index at : ℕ) (copy rest f : Fragment) (is_copy : IsFragment shape at copy) where
  bounded-fragment : (most : ℕ) → index < most → IsFragment (copies_from shape least (Some most) (index + 1)) (at + size shape) rest
      → IsJoined copy rest ((copy.empty && rest.empty) || leb least index) f → IsFragment (copies_from shape least (Some most) index) at f
  bounded-fragment most inside is_rest joined =
      elim (cases_lt index least) [
        | inl needed ↦
            let not_yet : ((copy.empty && rest.empty) || leb least index) ≡ (copy.empty && rest.empty) =
            ap (λ (b : Bool). (copy.empty && rest.empty) || b) (lt-leb least index needed) ∙ or-false (copy.empty && rest.empty) in
            let plainly : IsJoined copy rest (copy.empty && rest.empty) f = subst (λ (b : Bool). IsJoined copy rest b f) not_yet joined in
            subst (λ (s : Shape). IsFragment s at f) (sym (bounded-needed shape least most index inside needed))
            (IsFragment-both shape (copies_from shape least (Some most) (index + 1)) at copy rest f is_copy is_rest plainly)
        | inr optional ↦
            let can_be : ((copy.empty && rest.empty) || leb least index) ≡ true =
            ap (λ (b : Bool). (copy.empty && rest.empty) || b) (le-leb least index optional) ∙ or-true (copy.empty && rest.empty) in
            subst (λ (s : Shape). IsFragment s at f) (sym (bounded-optional shape least most index inside optional))
            (record {
              size_is = omega (arith, joined.size_is, is_copy.size_is, is_rest.size_is);
              empty = ((λ _. tt), (λ _. joined.empty_is ∙ can_be));
              first = λ k. first-joined shape (copies_from shape least (Some most) (index + 1)) at copy rest f is_copy is_rest ((copy.empty && rest.empty) || leb least index) joined k;
              last = λ k. last-joined shape (copies_from shape least (Some most) (index + 1)) at copy rest f is_copy is_rest ((copy.empty && rest.empty) || leb least index) joined k;
            })
      ]

  looped-fragment : index < max least 1 → least ≤ index + 1 → IsAlike copy (copy.empty || eqb least 0) f → IsFragment (copies_from shape least None index) at f
  looped-fragment inside last alike =
      elim (cases_eq least 0) [
        | inl none ↦
            let can_be : (copy.empty || eqb least 0) ≡ true = ap (λ (b : Bool). copy.empty || b) (eq-eqb least 0 none) ∙ or-true copy.empty in
            let same : copies_from shape least None index ≡ maybe (more shape) =
            rw none (unbounded-only shape index (rw none at inside)) in
            subst (λ (s : Shape). IsFragment s at f) (sym same)
            (record {
              size_is = alike.size_is ∙ is_copy.size_is;
              empty = ((λ _. tt), (λ _. alike.empty_is ∙ can_be));
              first = λ k. ((λ listed. (is_copy.first k).0 (rw alike.first at listed)), (λ is_first. rw alike.first ((is_copy.first k).1 is_first)));
              last = λ k. ((λ listed. (is_copy.last k).0 (rw alike.last at listed)), (λ is_last. rw alike.last ((is_copy.last k).1 is_last)));
            })
        | inr some ↦
            let as_copy : (copy.empty || eqb least 0) ≡ copy.empty = ap (λ (b : Bool). copy.empty || b) (ne_eqb least 0 some) ∙ or-false copy.empty in
            subst (λ (s : Shape). IsFragment s at f) (sym (unbounded-last shape least index inside last (omega arith)))
            (more-fragment shape at copy f is_copy (alike-as copy f (copy.empty || eqb least 0) copy.empty as_copy alike))
      ]

  unbounded-fragment : index < max least 1 → IsFragment (copies_from shape least None (index + 1)) (at + size shape) rest
      → IsCopyAdded least None index copy rest f → IsFragment (copies_from shape least None index) at f
  unbounded-fragment inside is_rest added =
      elim (cases_lt (index + 1) least) [
        | inl needed ↦
            subst (λ (s : Shape). IsFragment s at f) (sym (unbounded-needed shape least index needed))
            (IsFragment-both shape (copies_from shape least None (index + 1)) at copy rest f is_copy is_rest (rw (lt-ltb (index + 1) least needed) at added))
        | inr last ↦ looped-fragment inside last (rw (le-ltb (index + 1) least last) at added)
      ]

  pub IsFragment-copy : (most : Option ℕ) → index < unfolded_times least most → IsFragment (copies_from shape least most (index + 1)) (at + size shape) rest
      → IsCopyAdded least most index copy rest f → IsFragment (copies_from shape least most index) at f
  IsFragment-copy (Some most) inside is_rest added = bounded-fragment most inside is_rest added
  IsFragment-copy None inside is_rest added = unbounded-fragment inside is_rest added

-- ---- the edges of a copy and those behind it

-- within the copy, within those behind it, and from the last states of the copy
abbrev pub FromCopy : Shape → ℕ → Option ℕ → ℕ → ℕ → Fragment → Fragment → ℕ → ℕ → Type 0
FromCopy shape least most index at copy rest j k =
    (Follows shape at j k ⊎ Follows (copies_from shape least most (index + 1)) (at + size shape) j k)
    ⊎ (Contains copy.last.items j × Contains (behind_copy least most index copy rest) k)

module _ (shape : Shape) (least index at : ℕ) (copy rest : Fragment) (is_copy : IsFragment shape at copy) (j k : ℕ) where
  -- the shape is a copy, and then others
  joined-to : (behind : Shape) → IsFragment behind (at + size shape) rest
      → ((Follows shape at j k ⊎ Follows behind (at + size shape) j k) ⊎ (Contains copy.last.items j × Contains rest.first.items k)) → Follows (both shape behind) at j k
  joined-to behind is_rest (inl (inl inner)) = inl inner
  joined-to behind is_rest (inl (inr others)) = inr (inl others)
  joined-to behind is_rest (inr over) = inr (inr ((is_copy.last j).0 over.0, (is_rest.first k).0 over.1))

  joined-from : (behind : Shape) → IsFragment behind (at + size shape) rest → Follows (both shape behind) at j k
      → ((Follows shape at j k ⊎ Follows behind (at + size shape) j k) ⊎ (Contains copy.last.items j × Contains rest.first.items k))
  joined-from behind is_rest (inl inner) = inl (inl inner)
  joined-from behind is_rest (inr (inl others)) = inl (inr others)
  joined-from behind is_rest (inr (inr over)) = inr ((is_copy.last j).1 over.0, (is_rest.first k).1 over.1)

  bounded-edges : (most : ℕ) → index < most → IsFragment (copies_from shape least (Some most) (index + 1)) (at + size shape) rest
      → FromCopy shape least (Some most) index at copy rest j k ↔ Follows (copies_from shape least (Some most) index) at j k
  bounded-edges most inside is_rest =
      elim (cases_lt index least) [
        | inl needed ↦ rw (bounded-needed shape least most index inside needed)
            (joined-to (copies_from shape least (Some most) (index + 1)) is_rest, joined-from (copies_from shape least (Some most) (index + 1)) is_rest)
        | inr optional ↦ rw (bounded-optional shape least most index inside optional)
            (joined-to (copies_from shape least (Some most) (index + 1)) is_rest, joined-from (copies_from shape least (Some most) (index + 1)) is_rest)
      ]

  looped-to : ((Follows shape at j k ⊎ ⊥) ⊎ (Contains copy.last.items j × Contains copy.first.items k)) → Follows (more shape) at j k
  looped-to (inl (inl inner)) = inl inner
  looped-to (inl (inr none)) = absurd none
  looped-to (inr over) = inr ((is_copy.last j).0 over.0, (is_copy.first k).0 over.1)

  looped-from : Follows (more shape) at j k → ((Follows shape at j k ⊎ ⊥) ⊎ (Contains copy.last.items j × Contains copy.first.items k))
  looped-from (inl inner) = inl (inl inner)
  looped-from (inr over) = inr ((is_copy.last j).1 over.0, (is_copy.first k).1 over.1)

  looped-edges : index < max least 1 → least ≤ index + 1 → FromCopy shape least None index at copy rest j k ↔ Follows (copies_from shape least None index) at j k
  looped-edges inside last =
      let test : ltb (index + 1) least ≡ false = le-ltb (index + 1) least last in
      let behind : copies_from shape least None (index + 1) ≡ nothing = unbounded-behind shape least (index + 1) (omega arith) in
      elim (cases_eq least 0) [
        | inl none ↦
            let same : copies_from shape least None index ≡ maybe (more shape) = rw none (unbounded-only shape index (rw none at inside)) in
            rw (test, behind, same) (looped-to, looped-from)
        | inr some ↦
            rw (test, behind, unbounded-last shape least index inside last (omega arith)) (looped-to, looped-from)
      ]

  unbounded-edges : index < max least 1 → IsFragment (copies_from shape least None (index + 1)) (at + size shape) rest
      → FromCopy shape least None index at copy rest j k ↔ Follows (copies_from shape least None index) at j k
  unbounded-edges inside is_rest =
      elim (cases_lt (index + 1) least) [
        | inl needed ↦
            rw (lt-ltb (index + 1) least needed, unbounded-needed shape least index needed)
            (joined-to (copies_from shape least None (index + 1)) is_rest, joined-from (copies_from shape least None (index + 1)) is_rest)
        | inr last ↦ looped-edges inside last
      ]

  pub copy-edges : (most : Option ℕ) → index < unfolded_times least most → IsFragment (copies_from shape least most (index + 1)) (at + size shape) rest
      → FromCopy shape least most index at copy rest j k ↔ Follows (copies_from shape least most index) at j k
  copy-edges (Some most) inside is_rest = bounded-edges most inside is_rest
  copy-edges None inside is_rest = unbounded-edges inside is_rest

-- ---- the ends

pub copies_from-all : (shape : Shape) (least : ℕ) (most : Option ℕ) → copies_from shape least most 0 ≡ repeated shape least most
copies_from-all shape least (Some most) =
    let n : least - 0 ≡ least = omega arith in
    let m : most - 0 ≡ most = omega arith in
    rw (n, m) refl
copies_from-all shape least None =
    let n : least - 0 ≡ least = omega arith in
    rw (lt-ltb 0 (max least 1) (omega arith), n) refl

bare-fragment : (shape : Shape) (at : ℕ) (empty : Bool) (f : Fragment) → IsBare empty f → size shape ≡ 0 → ((empty ≡ true) ↔ CanBeEmpty shape) → IsFragment shape at f
bare-fragment shape at empty f is none can = record {
  size_is = is.size_is ∙ sym none;
  empty = ((λ yes_is. can.0 (sym is.empty_is ∙ yes_is)), (λ c. is.empty_is ∙ can.1 c));
  first = λ k. ((λ inside. absurd (Contains-none k (rw is.first at inside))), (λ is_first. absurd (let h : IsIn at (size shape) k = First-in shape at k is_first in omega arith)));
  last = λ k. ((λ inside. absurd (Contains-none k (rw is.last at inside))), (λ is_last. absurd (let h : IsIn at (size shape) k = Last-in shape at k is_last in omega arith)));
}

none-left : (shape : Shape) (least most : ℕ) → (size (between (least - most) 0 shape) ≡ 0) × ((leb least most ≡ true) ↔ CanBeEmpty (between (least - most) 0 shape))
none-left shape least most =
    elim (cases_lt most least) [
      | inl short ↦
          let n : least - most ≡ suc (least - most - 1) = omega arith in
          rw (n, lt-leb least most short) (refl, ((λ no_is. absurd (cc)), (λ can. absurd can)))
      | inr enough ↦
          let n : least - most ≡ 0 = omega arith in
          rw (n, le-leb least most enough) (refl, ((λ _. tt), (λ _. refl)))
    ]

behind-all : (shape : Shape) (least : ℕ) (most : Option ℕ)
    → (size (copies_from shape least most (unfolded_times least most)) ≡ 0) × ((is_enough least most ≡ true) ↔ CanBeEmpty (copies_from shape least most (unfolded_times least most)))
behind-all shape least (Some most) =
    let m : most - most ≡ 0 = omega arith in
    rw m (none-left shape least most)
behind-all shape least None =
    rw (unbounded-behind shape least (max least 1) (omega arith)) (refl, ((λ _. tt), (λ _. refl)))

no-edges : (shape : Shape) (at : ℕ) → size shape ≡ 0 → (j k : ℕ) → Follows shape at j k → ⊥
no-edges shape at none j k follows = let h : IsIn at (size shape) j × IsIn at (size shape) k = Follows-in shape at j k follows in omega arith

pub IsFragment-behind : (shape : Shape) (least : ℕ) (most : Option ℕ) (at : ℕ) (f : Fragment) → IsBare (is_enough least most) f
    → IsFragment (copies_from shape least most (unfolded_times least most)) at f
IsFragment-behind shape least most at f is =
    let ends = behind-all shape least most in
    bare-fragment (copies_from shape least most (unfolded_times least most)) at (is_enough least most) f is ends.0 ends.1

pub Adds-behind : (shape : Shape) (least : ℕ) (most : Option ℕ) (at : ℕ) (rows : List ℕ) → Adds rows rows (Follows (copies_from shape least most (unfolded_times least most)) at)
Adds-behind shape least most at rows =
    Adds-nothing rows (Follows (copies_from shape least most (unfolded_times least most)) at)
    (no-edges (copies_from shape least most (unfolded_times least most)) at (behind-all shape least most).0)

pub IsBuilt-none : (tree : Tree Item) (least : ℕ) (most : Option ℕ) (at : ℕ) (rows : List ℕ) (f : Fragment) → IsBare (is_enough least most) f
    → unfolded_times least most ≡ 0 → IsBuilt (rep tree least most) at rows rows f
IsBuilt-none tree least most at rows f bare none = record {
  fragment_is = λ captured.
      let S = unfold_tree tree captured in
      let whole : copies_from S least most (unfolded_times least most) ≡ repeated S least most = ap (λ (n : ℕ). copies_from S least most n) none ∙ copies_from-all S least most in
      subst (λ (s : Shape). IsFragment s at f) whole (IsFragment-behind S least most at f bare);
  edges = λ captured.
      let S = unfold_tree tree captured in
      let whole : copies_from S least most (unfolded_times least most) ≡ repeated S least most = ap (λ (n : ℕ). copies_from S least most n) none ∙ copies_from-all S least most in
      subst (λ (s : Shape). Adds rows rows (Follows s at)) whole (Adds-behind S least most at rows);
}

-- ---- a repetition of what has no state

empty-between : (n m : ℕ) (shape : Shape) → CanBeEmpty (between n m shape) ↔ ((n ≤ m) × ((n ≡ 0) ⊎ CanBeEmpty shape))
empty-between zero zero shape = ((λ _. (omega arith, inl refl)), (λ _. tt))
empty-between zero (suc m) shape = ((λ _. (omega arith, inl refl)), (λ _. tt))
empty-between (suc n) zero shape = ((λ can. absurd can), (λ (below, _). absurd (omega arith)))
empty-between (suc n) (suc m) shape = (
  (λ can. let (below, _) = (empty-between n m shape).0 can.1 in (omega arith, inr can.0)),
  (λ (below, or_empty). elim or_empty [
    | inl none ↦ absurd (omega arith)
    | inr can ↦ (can, (empty-between n m shape).1 (omega arith, inr can))
  ]),
)

empty-at_least : (n : ℕ) (shape : Shape) → CanBeEmpty (at_least n shape) ↔ ((n ≡ 0) ⊎ CanBeEmpty shape)
empty-at_least zero shape = ((λ _. inl refl), (λ _. tt))
empty-at_least (suc zero) shape = ((λ can. inr can), (λ or_empty. elim or_empty [ inl none ↦ absurd (omega arith) | inr can ↦ can ]))
empty-at_least (suc (suc n)) shape = (
  (λ can. inr can.0),
  (λ or_empty. elim or_empty [ inl none ↦ absurd (omega arith) | inr can ↦ (can, (empty-at_least (suc n) shape).1 (inr can)) ]),
)

either-or : (least : ℕ) (f_empty : Bool) (shape : Shape) → ((f_empty ≡ true) ↔ CanBeEmpty shape) → ((eqb least 0 || f_empty) ≡ true) ↔ ((least ≡ 0) ⊎ CanBeEmpty shape)
either-or least f_empty shape is = (
  (λ passes. elim (or_cases (eqb least 0) f_empty passes) [ inl none ↦ inl (eqb-true least 0 none) | inr can ↦ inr (is.0 can) ]),
  (λ or_empty. elim or_empty [ inl none ↦ or_left (eqb least 0) f_empty (eq-eqb least 0 none) | inr can ↦ or_right (eqb least 0) f_empty (is.1 can) ]),
)

empty-repeated : (shape : Shape) (least : ℕ) (most : Option ℕ) (f_empty : Bool) → ((f_empty ≡ true) ↔ CanBeEmpty shape)
    → (empty_of_copies least most f_empty ≡ true) ↔ CanBeEmpty (repeated shape least most)
empty-repeated shape least None f_empty is =
    let two = either-or least f_empty shape is in
    let ends = empty-at_least least shape in
    ((λ passes. ends.1 (two.0 passes)), (λ can. two.1 (ends.0 can)))
empty-repeated shape least (Some most) f_empty is =
    let two = either-or least f_empty shape is in
    let ends = empty-between least most shape in (
      (λ passes. let (enough, other) = and_parts (leb least most) (eqb least 0 || f_empty) passes in ends.1 (leb-true least most enough, two.0 other)),
      (λ can. let (below, or_empty) = ends.0 can in and_from (leb least most) (eqb least 0 || f_empty) (le-leb least most below) (two.1 or_empty)),
    )

no-size : (tree : Tree Item) (least : ℕ) (most : Option ℕ) (captured : Bool) → size (unfold_tree tree captured) ≡ 0 → size (unfold_tree (rep tree least most) captured) ≡ 0
no-size tree least most captured none =
    let leaves : unfolded_leaves tree ≡ 0 = sym (size-unfold tree captured) ∙ none in
    size-unfold (rep tree least most) captured ∙ ap (λ (n : ℕ). unfolded_times least most * n) leaves ∙ omega arith

pub IsBuilt-bare : (tree : Tree Item) (least : ℕ) (most : Option ℕ) (at : ℕ) (before after : List ℕ) (f g : Fragment)
    → IsBuilt tree at before after f → f.size ≡ 0 → IsAlike f (empty_of_copies least most f.empty) g → IsBuilt (rep tree least most) at before after g
IsBuilt-bare tree least most at before after f g built none alike = record {
  fragment_is = λ captured.
      let is = built.fragment_is captured in
      let inner_none : size (unfold_tree tree captured) ≡ 0 = sym is.size_is ∙ none in
      let whole_none = no-size tree least most captured inner_none in
      let can = empty-repeated (unfold_tree tree captured) least most f.empty is.empty in
      record {
        size_is = alike.size_is ∙ none ∙ sym whole_none;
        empty = ((λ passes. can.0 (sym alike.empty_is ∙ passes)), (λ c. alike.empty_is ∙ can.1 c));
        first = λ k. (
          (λ inside. absurd (let h : IsIn at (size (unfold_tree tree captured)) k = First-in (unfold_tree tree captured) at k ((is.first k).0 (rw alike.first at inside)) in omega arith)),
          (λ is_first. absurd (let h : IsIn at (size (unfold_tree (rep tree least most) captured)) k = First-in (unfold_tree (rep tree least most) captured) at k is_first in omega arith)),
        );
        last = λ k. (
          (λ inside. absurd (let h : IsIn at (size (unfold_tree tree captured)) k = Last-in (unfold_tree tree captured) at k ((is.last k).0 (rw alike.last at inside)) in omega arith)),
          (λ is_last. absurd (let h : IsIn at (size (unfold_tree (rep tree least most) captured)) k = Last-in (unfold_tree (rep tree least most) captured) at k is_last in omega arith)),
        );
      };
  edges = λ captured.
      let is = built.fragment_is captured in
      let inner_none : size (unfold_tree tree captured) ≡ 0 = sym is.size_is ∙ none in
      let whole_none = no-size tree least most captured inner_none in
      Adds-same before after (Follows (unfold_tree tree captured) at) (Follows (unfold_tree (rep tree least most) captured) at) (built.edges captured)
      (λ j k follows. absurd (no-edges (unfold_tree tree captured) at inner_none j k follows))
      (λ j k follows. absurd (no-edges (unfold_tree (rep tree least most) captured) at whole_none j k follows));
}

-- ---- all copies, the first of them at the end

-- the copies from this index on were added behind the first
pub record IsCopied (tree : Tree Item) (least : ℕ) (most : Option ℕ) (index at width : ℕ) (before after : List ℕ) (rest : Fragment) : Type 0 where
  pub low : 1 ≤ index
  pub high : index ≤ unfolded_times least most
  pub few : rest.size + index * width ≤ unfolded_times least most * width
  pub long : length after ≡ length before
  pub fragment_is : (captured : Bool) → IsFragment (copies_from (unfold_tree tree captured) least most index) (at + index * width) rest
  pub edges : (captured : Bool) → Adds before after (Follows (copies_from (unfold_tree tree captured) least most index) (at + index * width))

pub IsCopied-start : (tree : Tree Item) (least : ℕ) (most : Option ℕ) (at width : ℕ) (rows : List ℕ) (rest : Fragment) → IsBare (is_enough least most) rest
    → 1 ≤ unfolded_times least most → IsCopied tree least most (unfolded_times least most) at width rows rows rest
IsCopied-start tree least most at width rows rest bare some = record {
  low = some;
  high = omega arith;
  few = omega (arith, bare.size_is);
  long = refl;
  fragment_is = λ captured. IsFragment-behind (unfold_tree tree captured) least most (at + unfolded_times least most * width) rest bare;
  edges = λ captured. Adds-behind (unfold_tree tree captured) least most (at + unfolded_times least most * width) rows;
}

module _ (tree : Tree Item) (least : ℕ) (most : Option ℕ) (at width : ℕ) (is_width : width ≡ unfolded_leaves tree) where
  next_place : (index : ℕ) (captured : Bool) → at + (index + 1) * width ≡ at + index * width + size (unfold_tree tree captured)
  next_place index captured =
      let leaves = size-unfold tree captured in
      let product : (index + 1) * width ≡ index * width + width = omega arith in
      omega arith

  -- the fragment of the copies from one index before
  module _ (index : ℕ) (before middle grown after : List ℕ) (copy rest f : Fragment) (inside : index < unfolded_times least most)
      (so_far : IsCopied tree least most (index + 1) at width before middle rest) (built : IsBuilt tree (at + index * width) middle grown copy)
      (added : IsCopyAdded least most index copy rest f) (crossed : AddsCopy least most index copy rest grown after) where
    rest_at : (captured : Bool) → IsFragment (copies_from (unfold_tree tree captured) least most (index + 1)) (at + index * width + size (unfold_tree tree captured)) rest
    rest_at captured =
        subst (λ (n : ℕ). IsFragment (copies_from (unfold_tree tree captured) least most (index + 1)) n rest) (next_place index captured) (so_far.fragment_is captured)

    rest_edges : (captured : Bool) → Adds before middle (Follows (copies_from (unfold_tree tree captured) least most (index + 1)) (at + index * width + size (unfold_tree tree captured)))
    rest_edges captured =
        subst (λ (n : ℕ). Adds before middle (Follows (copies_from (unfold_tree tree captured) least most (index + 1)) n)) (next_place index captured) (so_far.edges captured)

    pub stepped-fragment : (captured : Bool) → IsFragment (copies_from (unfold_tree tree captured) least most index) (at + index * width) f
    stepped-fragment captured =
        IsFragment-copy (unfold_tree tree captured) least index (at + index * width) copy rest f (built.fragment_is captured) most inside (rest_at captured) added

    pub stepped-edges : (captured : Bool) → Adds before after (Follows (copies_from (unfold_tree tree captured) least most index) (at + index * width))
    stepped-edges captured =
        let S = unfold_tree tree captured in
        let place = at + index * width in
        let both = λ (j k : ℕ). copy-edges S least index place copy rest (built.fragment_is captured) j k most inside (rest_at captured) in
        Adds-same before after _ (Follows (copies_from S least most index) place)
        (Adds-both before grown after _ _
        (Adds-both before middle grown (Follows (copies_from S least most (index + 1)) (place + size S)) (Follows S place) (rest_edges captured) (built.edges captured)) crossed)
        (λ j k has. (both j k).0 (elim has [ inl inner ↦ elim inner [ inl others ↦ inl (inr others) | inr own ↦ inl (inl own) ] | inr over ↦ inr over ]))
        (λ j k follows. elim ((both j k).1 follows) [ inl inner ↦ elim inner [ inl own ↦ inl (inr own) | inr others ↦ inl (inl others) ] | inr over ↦ inr over ])

  added-size : (index : ℕ) (copy rest f : Fragment) (most' : Option ℕ) → IsCopyAdded least most' index copy rest f → f.size ≤ copy.size + rest.size
  added-size index copy rest f (Some m) added = omega (arith, added.size_is)
  added-size index copy rest f None added =
      elim (cases_lt (index + 1) least) [
        | inl needed ↦ let joined : IsJoined copy rest (copy.empty && rest.empty) f = rw (lt-ltb (index + 1) least needed) at added in omega (arith, joined.size_is)
        | inr last ↦ let alike : IsAlike copy (copy.empty || eqb least 0) f = rw (le-ltb (index + 1) least last) at added in omega (arith, alike.size_is)
      ]

  pub IsCopied-step : (index later : ℕ) (before middle grown after : List ℕ) (copy rest f : Fragment) → later ≡ index + 1 → 1 ≤ index
      → IsCopied tree least most later at width before middle rest → IsBuilt tree (at + index * width) middle grown copy
      → IsCopyAdded least most index copy rest f → AddsCopy least most index copy rest grown after → IsCopied tree least most index at width before after f
  IsCopied-step index later before middle grown after copy rest f next low so_far built added crossed =
      let so_far' : IsCopied tree least most (index + 1) at width before middle rest = subst (λ (n : ℕ). IsCopied tree least most n at width before middle rest) next so_far in
      let inside : index < unfolded_times least most = omega (arith, so_far'.high) in
      let copy_size : copy.size ≡ width = (built.fragment_is true).size_is ∙ size-unfold tree true ∙ sym is_width in
      let product : (index + 1) * width ≡ index * width + width = omega arith in
      record {
        low = low;
        high = omega arith;
        few = omega (arith, added-size index copy rest f most added, so_far'.few);
        long = crossed.long ∙ (built.edges true).long ∙ so_far'.long;
        fragment_is = stepped-fragment index before middle grown after copy rest f inside so_far' built added crossed;
        edges = stepped-edges index before middle grown after copy rest f inside so_far' built added crossed;
      }

  -- the first copy, which was added before the others
  pub IsBuilt-rep : (rows0 rows1 rows2 rows3 : List ℕ) (front rest f : Fragment) → IsBuilt tree at rows0 rows1 front → IsCopied tree least most 1 at width rows1 rows2 rest
      → IsCopyAdded least most 0 front rest f → AddsCopy least most 0 front rest rows2 rows3 → IsBuilt (rep tree least most) at rows0 rows3 f
  IsBuilt-rep rows0 rows1 rows2 rows3 front rest f built so_far added crossed = record {
    fragment_is = λ captured.
        subst (λ (s : Shape). IsFragment s at f) (copies_from-all (unfold_tree tree captured) least most)
        (IsFragment-copy (unfold_tree tree captured) least 0 at front rest f (built.fragment_is captured) most so_far.high (rest_behind captured) added);
    edges = λ captured.
        let S = unfold_tree tree captured in
        let both = λ (j k : ℕ). copy-edges S least 0 at front rest (built.fragment_is captured) j k most so_far.high (rest_behind captured) in
        subst (λ (s : Shape). Adds rows0 rows3 (Follows s at)) (copies_from-all S least most)
        (Adds-same rows0 rows3 _ (Follows (copies_from S least most 0) at)
        (Adds-both rows0 rows2 rows3 _ _ (Adds-both rows0 rows1 rows2 (Follows S at) (Follows (copies_from S least most 1) (at + size S)) (built.edges captured) (edges_behind captured)) crossed)
        (λ j k has. (both j k).0 has)
        (λ j k follows. (both j k).1 follows));
  }
    where
      place_behind : (captured : Bool) → at + 1 * width ≡ at + size (unfold_tree tree captured)
      place_behind captured = let leaves = size-unfold tree captured in omega arith

      rest_behind : (captured : Bool) → IsFragment (copies_from (unfold_tree tree captured) least most 1) (at + size (unfold_tree tree captured)) rest
      rest_behind captured = subst (λ (n : ℕ). IsFragment (copies_from (unfold_tree tree captured) least most 1) n rest) (place_behind captured) (so_far.fragment_is captured)

      edges_behind : (captured : Bool) → Adds rows1 rows2 (Follows (copies_from (unfold_tree tree captured) least most 1) (at + size (unfold_tree tree captured)))
      edges_behind captured = subst (λ (n : ℕ). Adds rows1 rows2 (Follows (copies_from (unfold_tree tree captured) least most 1) n)) (place_behind captured) (so_far.edges captured)

-- ---- room for the states

pub built_size : {tree : Tree Item} {at : ℕ} {before after : List ℕ} {f : Fragment} → IsBuilt tree at before after f → f.size ≡ unfolded_leaves tree
built_size {tree} built = (built.fragment_is true).size_is ∙ size-unfold tree true

pub built_long : {tree : Tree Item} {at : ℕ} {before after : List ℕ} {f : Fragment} → IsBuilt tree at before after f → length after ≡ length before
built_long built = (built.edges true).long

pub built_within : {tree : Tree Item} {at : ℕ} {before after : List ℕ} {f : Fragment} (n : ℕ) → IsBuilt tree at before after f → at + f.size ≤ n → IsWithin n f
built_within {tree} {at} {f = f} n built room =
    let is = built.fragment_is true in
    IsWithin-fragment (unfold_tree tree true) at n f is (omega (arith, is.size_is))

pub copied_within : {tree : Tree Item} {least : ℕ} {most : Option ℕ} {index at width : ℕ} {before after : List ℕ} {rest : Fragment} (n : ℕ)
    → IsCopied tree least most index at width before after rest → at + unfolded_times least most * width ≤ n → IsWithin n rest
copied_within {tree} {least} {most} {index} {at} {width} {rest = rest} n so_far room =
    let is = so_far.fragment_is true in
    IsWithin-fragment (copies_from (unfold_tree tree true) least most index) (at + index * width) n rest is (omega (arith, is.size_is, so_far.few))

-- a copy has its place among all
pub copy_room : (times index width : ℕ) → index < times → index * width + width ≤ times * width
copy_room times index width inside =
    let product : width * (index + 1) ≤ width * times = mul-le-mul_left width inside_more in
    omega arith
  where
    inside_more : index + 1 ≤ times
    inside_more = omega arith
