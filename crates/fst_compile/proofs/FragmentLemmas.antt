-- The fragment of an expression from those of its parts.
use Rattle.std.proofs.Common.{◌≡◌, ℕ, ◌+◌, ◌≤◌, ◌↔◌, inl, inr, Bool, true, false, cond, ◌&&◌, List, [], ◌∷◌, ◌++◌, refl, sym, ap, ◌∙◌, subst, arith, Result, Ok, Err, IfOk, OnOk}
use Rattle.std.specs.List.{Contains}
use Rattle.std.proofs.lemmas.Bool.{and_parts, and_from, or_cases, or_left, or_right, cases_Bool}
use Rattle.std.proofs.lemmas.List.Elements.{Contains-append_left, Contains-append_right, Contains-append_cases, Contains-get_or}
use Rattle.mine_model.specs.declared.item.Item.{Item}
use Rattle.mine_model.specs.Expression.{Leaf, Tree, leaf, cat, alt, cap}
use Rattle.mine_model.proofs.ListLemmas.{Contains-cases, Contains-first, Contains-none}
use Rattle.fst_compile.specs.declared.fragment.Fragment.{Fragment}
use Rattle.fst_compile.specs.Shape.{Shape, one, both, either, unfold_tree}
use Rattle.fst_compile.specs.Positions.{size, First, Last, Follows}
use Rattle.fst_compile.specs.Rows.{Adds}
use Rattle.fst_compile.specs.Fragments.{IsFragment, IsWithin, IsJoined, IsEither, IsBuilt}
use Rattle.fst_compile.proofs.PositionLemmas.{IsIn, First-in, Last-in}
use Rattle.fst_compile.proofs.RowLemmas.{Adds-nothing, Adds-same, Adds-both}

-- the list is that of the states that fit the test, for a list that may be left out
Contains-cond : (test : Bool) (xs : List ℕ) (k : ℕ) → Contains (cond test xs []) k → (test ≡ true) × Contains xs k
Contains-cond true xs k inside = (refl, inside)
Contains-cond false xs k inside = absurd (Contains-none k inside)

from-cond : (test : Bool) (xs : List ℕ) (k : ℕ) → test ≡ true → Contains xs k → Contains (cond test xs []) k
from-cond test xs k yes_is inside = rw yes_is inside

-- a fragment's states are among its positions
pub IsWithin-fragment : (shape : Shape) (at n : ℕ) (f : Fragment) → IsFragment shape at f → at + size shape ≤ n → IsWithin n f
IsWithin-fragment shape at n f is room = record {
  first = λ i d inside.
      let h : IsIn at (size shape) _ = First-in shape at _ ((is.first _).0 (Contains-get_or f.first.items i d inside)) in omega arith;
  last = λ i d inside.
      let h : IsIn at (size shape) _ = Last-in shape at _ ((is.last _).0 (Contains-get_or f.last.items i d inside)) in omega arith;
}

module _ (a b : Shape) (at : ℕ) (f g h : Fragment) (first : IsFragment a at f) (second : IsFragment b (at + size a) g) where
  -- one behind the other, but for whether they take the empty piece
  pub first-joined : (empty : Bool) → IsJoined f g empty h → (k : ℕ) → Contains h.first.items k ↔ First (both a b) at k
  first-joined empty is k = (
    (λ inside. elim (Contains-append_cases f.first.items (cond f.empty g.first.items []) k (rw is.first at inside)) [
      | inl front ↦ inl ((first.first k).0 front)
      | inr back ↦
          let (passes, other) = Contains-cond f.empty g.first.items k back in
          inr (first.empty.0 passes, (second.first k).0 other)
    ]),
    (λ is_first. rw is.first (elim is_first [
      | inl front ↦ Contains-append_left f.first.items (cond f.empty g.first.items []) k ((first.first k).1 front)
      | inr back ↦ Contains-append_right f.first.items (cond f.empty g.first.items []) k (from-cond f.empty g.first.items k (first.empty.1 back.0) ((second.first k).1 back.1))
    ])),
  )

  pub last-joined : (empty : Bool) → IsJoined f g empty h → (k : ℕ) → Contains h.last.items k ↔ Last (both a b) at k
  last-joined empty is k =
      elim (cases_Bool g.empty) [
        | inl passes ↦
            let all : h.last.items ≡ f.last.items ++ g.last.items = is.last ∙ ap (λ (t : Bool). cond t (f.last.items ++ g.last.items) g.last.items) passes in (
              (λ inside. elim (Contains-append_cases f.last.items g.last.items k (rw all at inside)) [
                | inl front ↦ inr (second.empty.0 passes, (first.last k).0 front)
                | inr back ↦ inl ((second.last k).0 back)
              ]),
              (λ is_last. rw all (elim is_last [
                | inl back ↦ Contains-append_right f.last.items g.last.items k ((second.last k).1 back)
                | inr front ↦ Contains-append_left f.last.items g.last.items k ((first.last k).1 front.1)
              ])),
            )
        | inr fails ↦
            let all : h.last.items ≡ g.last.items = is.last ∙ ap (λ (t : Bool). cond t (f.last.items ++ g.last.items) g.last.items) fails in (
              (λ inside. inl ((second.last k).0 (rw all at inside))),
              (λ is_last. rw all (elim is_last [
                | inl back ↦ (second.last k).1 back
                | inr front ↦ absurd (let yes_is = second.empty.1 front.0 in cc)
              ])),
            )
      ]

  pub IsFragment-both : IsJoined f g (f.empty && g.empty) h → IsFragment (both a b) at h
  IsFragment-both is = record {
    size_is = omega (arith, is.size_is, first.size_is, second.size_is);
    empty = (
      (λ yes_is. let (front, back) = and_parts f.empty g.empty (sym is.empty_is ∙ yes_is) in (first.empty.0 front, second.empty.0 back)),
      (λ can. is.empty_is ∙ and_from f.empty g.empty (first.empty.1 can.0) (second.empty.1 can.1)),
    );
    first = first-joined (f.empty && g.empty) is;
    last = last-joined (f.empty && g.empty) is;
  }

  pub IsFragment-either : IsEither f g h → IsFragment (either a b) at h
  IsFragment-either is = record {
    size_is = omega (arith, is.size_is, first.size_is, second.size_is);
    empty = (
      (λ yes_is. elim (or_cases f.empty g.empty (sym is.empty_is ∙ yes_is)) [ inl front ↦ inl (first.empty.0 front) | inr back ↦ inr (second.empty.0 back) ]),
      (λ can. is.empty_is ∙ elim can [ inl front ↦ or_left f.empty g.empty (first.empty.1 front) | inr back ↦ or_right f.empty g.empty (second.empty.1 back) ]),
    );
    first = λ k. (
      (λ inside. elim (Contains-append_cases f.first.items g.first.items k (rw is.first at inside)) [ inl front ↦ inl ((first.first k).0 front) | inr back ↦ inr ((second.first k).0 back) ]),
      (λ is_first. rw is.first (elim is_first [
        | inl front ↦ Contains-append_left f.first.items g.first.items k ((first.first k).1 front)
        | inr back ↦ Contains-append_right f.first.items g.first.items k ((second.first k).1 back)
      ])),
    );
    last = λ k. (
      (λ inside. elim (Contains-append_cases f.last.items g.last.items k (rw is.last at inside)) [ inl front ↦ inl ((first.last k).0 front) | inr back ↦ inr ((second.last k).0 back) ]),
      (λ is_last. rw is.last (elim is_last [
        | inl front ↦ Contains-append_left f.last.items g.last.items k ((first.last k).1 front)
        | inr back ↦ Contains-append_right f.last.items g.last.items k ((second.last k).1 back)
      ])),
    );
  }

-- ---- trees

only : (at k : ℕ) (xs : List ℕ) → xs ≡ at ∷ [] → Contains xs k ↔ (k ≡ at)
only at k xs same = (
  (λ inside. elim (Contains-cases at [] k (rw same at inside)) [ inl is ↦ is | inr none ↦ absurd (Contains-none k none) ]),
  (λ is. rw (same, is) (Contains-first at [])),
)

pub IsBuilt-leaf : (l : Leaf Item) (at : ℕ) (rows : List ℕ) (f : Fragment) → f.size ≡ 1 → f.empty ≡ false → f.first.items ≡ at ∷ [] → f.last.items ≡ at ∷ []
    → IsBuilt (leaf l) at rows rows f
IsBuilt-leaf l at rows f size_is empty first last = record {
  fragment_is = λ captured. record {
    size_is = size_is;
    empty = ((λ yes_is. absurd (cc)), (λ can. absurd can));
    first = λ k. only at k f.first.items first;
    last = λ k. only at k f.last.items last;
  };
  edges = λ captured. Adds-nothing rows (Follows (one l captured) at) (λ j k none. none);
}

module _ (left right : Tree Item) (at : ℕ) (rows0 rows1 rows2 : List ℕ) (f g h : Fragment) (first : IsBuilt left at rows0 rows1 f) where
  moved : (captured : Bool) → at + f.size ≡ at + size (unfold_tree left captured)
  moved captured = ap (λ (n : ℕ). at + n) (first.fragment_is captured).size_is

  behind : (captured : Bool) → IsBuilt right (at + f.size) rows1 rows2 g → IsFragment (unfold_tree right captured) (at + size (unfold_tree left captured)) g
  behind captured second = subst (λ (n : ℕ). IsFragment (unfold_tree right captured) n g) (moved captured) (second.fragment_is captured)

  edges-behind : (captured : Bool) → IsBuilt right (at + f.size) rows1 rows2 g → Adds rows1 rows2 (Follows (unfold_tree right captured) (at + size (unfold_tree left captured)))
  edges-behind captured second = subst (λ (n : ℕ). Adds rows1 rows2 (Follows (unfold_tree right captured) n)) (moved captured) (second.edges captured)

  pub IsBuilt-cat : (rows3 : List ℕ) → IsBuilt right (at + f.size) rows1 rows2 g → IsJoined f g (f.empty && g.empty) h
      → Adds rows2 rows3 (λ j k. Contains f.last.items j × Contains g.first.items k) → IsBuilt (cat left right) at rows0 rows3 h
  IsBuilt-cat rows3 second joined crossed = record {
    fragment_is = λ captured. IsFragment-both (unfold_tree left captured) (unfold_tree right captured) at f g h (first.fragment_is captured) (behind captured second) joined;
    edges = λ captured.
        let A = unfold_tree left captured in
        let B = unfold_tree right captured in
        let is_first = first.fragment_is captured in
        let is_second = behind captured second in
        Adds-same rows0 rows3 _ (Follows (both A B) at)
        (Adds-both rows0 rows2 rows3 _ _ (Adds-both rows0 rows1 rows2 (Follows A at) (Follows B (at + size A)) (first.edges captured) (edges-behind captured second)) crossed)
        (λ j k added. elim added [
          | inl inner ↦ elim inner [ inl in_a ↦ inl in_a | inr in_b ↦ inr (inl in_b) ]
          | inr over ↦ inr (inr ((is_first.last j).0 over.0, (is_second.first k).0 over.1))
        ])
        (λ j k follows. elim follows [
          | inl in_a ↦ inl (inl in_a)
          | inr others ↦ elim others [ inl in_b ↦ inl (inr in_b) | inr over ↦ inr ((is_first.last j).1 over.0, (is_second.first k).1 over.1) ]
        ]);
  }

  pub IsBuilt-alt : IsBuilt right (at + f.size) rows1 rows2 g → IsEither f g h → IsBuilt (alt left right) at rows0 rows2 h
  IsBuilt-alt second is = record {
    fragment_is = λ captured. IsFragment-either (unfold_tree left captured) (unfold_tree right captured) at f g h (first.fragment_is captured) (behind captured second) is;
    edges = λ captured.
        Adds-both rows0 rows1 rows2 (Follows (unfold_tree left captured) at) (Follows (unfold_tree right captured) (at + size (unfold_tree left captured)))
        (first.edges captured) (edges-behind captured second);
  }

pub IsBuilt-cap : (inner : Tree Item) (at : ℕ) (before after : List ℕ) (f : Fragment) → IsBuilt inner at before after f → IsBuilt (cap inner) at before after f
IsBuilt-cap inner at before after f is = record { fragment_is = λ captured. is.fragment_is true; edges = λ captured. is.edges true }

-- what an `Ok` has by two clauses together
pub if_both : {T E : Type 0} (r : Result T E) (P Q : T → Type 0) (R : Type 0) → ((v : T) → P v → R → Q v) → IfOk r P → OnOk r R → IfOk r Q
if_both (Ok v) P Q R step p q = step v p q
if_both (Err e) P Q R step p q = tt
