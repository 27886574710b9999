-- The transducer of a whole expression.
use Rattle.std.proofs.Common.{◌≡◌, ◌≢◌, ℕ, zero, suc, ◌+◌, ◌<◌, ◌≤◌, ◌⊎◌, ◌↔◌, inl, inr, Bool, true, false, IsTrue, List, [], ◌∷◌, ◌++◌, map, length, set, get_or, Result, Ok, Err, IfOk, refl, sym, ap, ◌∙◌, subst, arith, get_or-set_other, get_or-set_same}
use Rattle.std.specs.List.{Contains}
use Rattle.std.proofs.Math.ListN.{length-set}
use Rattle.std.proofs.lemmas.List.{length-map}
use Rattle.std.proofs.lemmas.Bool.{cases_eq}
use Rattle.mine_model.specs.declared.item.Item.{Item}
use Rattle.mine_model.specs.Expression.{Tree, unfolded_leaves}
use Rattle.state_bits.specs.Members.{Has}
use Rattle.fst_compile.specs.declared.edge.Label.{Label}
use Rattle.fst_compile.specs.declared.fragment.Fragment.{Fragment}
use Rattle.fst_compile.specs.Shape.{Shape, labels_of, unfold_tree}
use Rattle.fst_compile.specs.Positions.{size, CanBeEmpty, First, Last, Follows}
use Rattle.fst_compile.specs.Rows.{HasEdge, IsSetOf}
use Rattle.fst_compile.specs.Fragments.{IsBuilt}
use Rattle.fst_compile.specs.declared.edge.Edge.{Edge}
use Rattle.fst_compile.specs.Transducers.{IsWhole}
use Rattle.fst_compile.specs.Transducer.{Transducer, Enters, Leads, IsPositionAutomaton, edges_from, entry_of}
use Rattle.fst_compile.proofs.PositionLemmas.{IsIn, First-in, Last-in, Follows-in}
use Rattle.fst_compile.proofs.UnfoldLemmas.{size-unfold}
use Rattle.fst_compile.proofs.AutomatonLemmas.{length-labels}
use Rattle.state_bits.proofs.NeighbourLemmas.{Has-none}

-- rows of empty sets have no edge
pub no_edge : (rows : List ℕ) → ((from : ℕ) → get_or rows from 0 ≡ 0) → (from to : ℕ) → HasEdge rows from to → ⊥
no_edge rows none from to has = Has-none to (rw (none from) at has)

-- one more row of no edge
pub none-more : (rows : List ℕ) → ((from : ℕ) → get_or rows from 0 ≡ 0) → (from : ℕ) → get_or (rows ++ 0 ∷ []) from 0 ≡ 0
none-more [] none zero = refl
none-more [] none (suc from) = refl
none-more (row ∷ rows) none zero = none 0
none-more (row ∷ rows) none (suc from) = none-more rows (λ k. none (suc k)) from

-- there is a label for each leaf
pub labels_length : (tree : Tree Item) (captured : Bool) (labels : List Label) → map entry_of labels ≡ labels_of (unfold_tree tree captured) → length labels ≡ unfolded_leaves tree
labels_length tree captured labels same =
    sym (length-map labels entry_of) ∙ ap length same ∙ length-labels (unfold_tree tree captured) ∙ size-unfold tree captured

module _ (tree : Tree Item) (start finals : ℕ) (before rows : List ℕ) (whole : Fragment) (none : (from : ℕ) → get_or before from 0 ≡ 0) (built : IsBuilt tree 1 before rows whole)
    (some : length before ≡ unfolded_leaves tree + 1) (starts : IsSetOf start whole.first.items) where
  abbrev S : Shape
  S = unfold_tree tree false

  abbrev Rows : List ℕ
  Rows = set rows 0 start

  at_start : get_or Rows 0 0 ≡ start
  at_start = get_or-set_same rows 0 start 0 (omega (arith, (built.edges true).long))

  behind_start : (from : ℕ) → from ≢ 0 → get_or Rows from 0 ≡ get_or rows from 0
  behind_start from other = get_or-set_other rows 0 from start 0 other

  inner : (from to : ℕ) → HasEdge rows from to → Follows S 1 from to
  inner from to has = elim (((built.edges false).edges from to).0 has) [ inl earlier ↦ absurd (no_edge before none from to earlier) | inr follows ↦ follows ]

  pub whole-edges : (from to : ℕ) → HasEdge Rows from to ↔ (((from ≡ 0) × First S 1 to) ⊎ Follows S 1 from to)
  whole-edges from to =
      elim (cases_eq from 0) [
        | inl here ↦ (
          (λ has. inl (here, ((built.fragment_is false).first to).0 ((starts to).0 (subst (λ (x : ℕ). Has x to) at_start (rw here at has))))),
          (λ is. elim is [
            | inl first ↦ rw here (subst (λ (x : ℕ). Has x to) (sym at_start) ((starts to).1 (((built.fragment_is false).first to).1 first.1)))
            | inr follows ↦ absurd (let h : IsIn 1 (size S) from × IsIn 1 (size S) to = Follows-in S 1 from to follows in omega arith)
          ]),
        )
        | inr later ↦ (
          (λ has. inr (inner from to (subst (λ (x : ℕ). Has x to) (behind_start from later) has))),
          (λ is. elim is [
            | inl first ↦ absurd (later first.0)
            | inr follows ↦ subst (λ (x : ℕ). Has x to) (sym (behind_start from later)) (((built.edges false).edges from to).1 (inr follows))
          ]),
        )
      ]

  pub whole-targets : (from to : ℕ) → HasEdge Rows from to → (0 < to) × (to ≤ unfolded_leaves tree)
  whole-targets from to has =
      let leaves = size-unfold tree false in
      elim ((whole-edges from to).0 has) [
        | inl first ↦ let h : IsIn 1 (size S) to = First-in S 1 to first.1 in (omega arith, omega arith)
        | inr follows ↦ let h : IsIn 1 (size S) from × IsIn 1 (size S) to = Follows-in S 1 from to follows in (omega arith, omega arith)
      ]

  module _ (ends : (k : ℕ) → Has finals k ↔ (((k ≡ 0) × IsTrue whole.empty) ⊎ Contains whole.last.items k)) where
    pub whole-finals : (k : ℕ) → Has finals k ↔ (((k ≡ 0) × CanBeEmpty S) ⊎ Last S 1 k)
    whole-finals k =
        let is = built.fragment_is false in (
          (λ has. elim ((ends k).0 has) [ inl start ↦ inl (start.0, is.empty.0 start.1) | inr last ↦ inr ((is.last k).0 last) ]),
          (λ is_final. (ends k).1 (elim is_final [ inl start ↦ inl (start.0, is.empty.1 start.1) | inr last ↦ inr ((is.last k).1 last) ])),
        )

    pub whole-final-states : (k : ℕ) → Has finals k → k ≤ unfolded_leaves tree
    whole-final-states k has =
        let leaves = size-unfold tree false in
        elim ((whole-finals k).0 has) [ inl start ↦ omega (arith, start.0) | inr last ↦ let h : IsIn 1 (size S) k = Last-in S 1 k last in omega arith ]

    pub IsWhole-built : IsWhole tree Rows finals
    IsWhole-built = record {
      edges = whole-edges;
      ends = whole-finals;
      targets = whole-targets;
      end_states = whole-final-states;
      long = length-set rows 0 start ∙ (built.edges true).long ∙ some;
    }

-- what an `Ok` has by three clauses together
pub if_three : {T E : Type 0} (r : Result T E) (P Q R S : T → Type 0) → ((v : T) → P v → Q v → R v → S v) → IfOk r P → IfOk r Q → IfOk r R → IfOk r S
if_three (Ok v) P Q R S step p q s = step v p q s
if_three (Err e) P Q R S step p q s = tt

-- the transducer made of the edges of all states
pub IsPositionAutomaton-made : (tree : Tree Item) (rows : List ℕ) (finals : ℕ) (labels : List Label) (transducer : Transducer) → IsWhole tree rows finals
    → map entry_of labels ≡ labels_of (unfold_tree tree false) → transducer.labels ≡ labels → transducer.finals ≡ finals
    → ((from to : ℕ) → Leads transducer from to ↔ HasEdge rows from to) → ((state : ℕ) (edge : Edge) → Contains (edges_from transducer state) edge → Enters transducer.labels edge)
    → IsPositionAutomaton transducer tree
IsPositionAutomaton-made tree rows finals labels transducer whole entries same_labels same_finals leads labelled = record {
  labels = ap (λ ls. map entry_of ls) same_labels ∙ entries;
  labelled = labelled;
  edges = λ from to. ((λ has. (whole.edges from to).0 ((leads from to).0 has)), (λ is. (leads from to).1 ((whole.edges from to).1 is)));
  finals = λ state. rw same_finals (whole.ends state);
}
