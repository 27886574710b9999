-- Paths of an expression over other things named.
use Rattle.std.proofs.Common.{◌≡◌, ℕ, zero, suc, ◌-◌, Bool, Some, List, [], ◌∷◌, ◌++◌, map, refl, sym, ap, ◌∙◌, subst}
use Rattle.std.specs.List.{AllByRecursion, slice_get}
use Rattle.std.proofs.lemmas.List.{map-append}
use Rattle.mine_model.specs.Hierarchy.{Link}
use Rattle.mine_model.specs.Expression.{Leaf, leaf, named_by, leaf_by}
use Rattle.mine_model.specs.Generation.{Matches, WritesAt}
use Rattle.mine_model.proofs.ElementLemmas.{get-held, slice_get-mapped_by}
use Rattle.mine_model.proofs.ListLemmas.{AllByRecursion-contained, of_both}
use Rattle.mine_model.proofs.NumberingLemmas.{Renames, Generates-forth, Generates-back, generated-in}
use Rattle.fst_compile.specs.Shape.{ShapeOf, EntryOf, labels_of}
use Rattle.pattern_proof.specs.Runs.{Passes}
use Rattle.proof_names.proofs.ShapeLemmas.{shape_by, entry_by, next-by, end-by, labels-by, AreLabelsOf}

-- what stands in a mapped list is mapped from what stands there
pub mapped-from : {X Y : Type 0} (f : X → Y) (xs : List X) (i : ℕ) (y : Y) → slice_get (map f xs) i ≡ Some y → (x : X) × (slice_get xs i ≡ Some x) × (f x ≡ y)
mapped-from f [] i y found = absurd (cc)
mapped-from f (x ∷ xs) zero y found = (x, refl, (cc))
mapped-from f (x ∷ xs) (suc i) y found = mapped-from f xs i y found

module _ {A B : Type 0} (links : List (Link A)) (others : List (Link B)) (P : A → Type 0) (f : A → B) (renames : Renames links others P f) where
  reads-forth : (l : Leaf A) (captured : Bool) (t : A) (output : List A) → AllByRecursion P (named_by l) → P t
      → Matches links l t → WritesAt links l captured t output
      → Matches others (leaf_by f l) (f t) × WritesAt others (leaf_by f l) captured (f t) (map f output)
  reads-forth l captured t output named p matches writes =
      let (b, same, is, written) = Generates-forth links others P f renames (leaf l) captured (t ∷ []) output named (p, tt) (t, refl, matches, writes) in
      let one : b ≡ f t = cc in
      (subst (Matches others (leaf_by f l)) one is, subst (λ x. WritesAt others (leaf_by f l) captured x (map f output)) one written)

  reads-back : (l : Leaf A) (captured : Bool) (t : A) (output : List B) → AllByRecursion P (named_by l) → P t
      → Matches others (leaf_by f l) (f t) → WritesAt others (leaf_by f l) captured (f t) output
      → (own : List A) × (output ≡ map f own) × Matches links l t × WritesAt links l captured t own × AllByRecursion P own
  reads-back l captured t output named p matches writes =
      let (own, same, made) = Generates-back links others P f renames (leaf l) captured (t ∷ []) output named (p, tt) (f t, refl, matches, writes) in
      let (x, is, own_matches, own_writes) = made in
      let one : x ≡ t = cc in (
        own,
        same,
        subst (Matches links l) one own_matches,
        subst (λ y. WritesAt links l captured y own) one own_writes,
        generated-in links others P f renames (leaf l) captured (t ∷ []) own made (p, tt),
      )

  module _ (s : ShapeOf A) (named : AreLabelsOf P s) where
    label-named : (place : ℕ) (entry : EntryOf A) → slice_get (labels_of s) place ≡ Some entry → AllByRecursion P (named_by entry.leaf)
    label-named place entry found =
        AllByRecursion-contained (λ (e : EntryOf A). AllByRecursion P (named_by e.leaf)) (labels_of s) entry named (get-held (labels_of s) place entry found)

    labels-at : (place : ℕ) → slice_get (map (entry_by f) (labels_of s)) place ≡ slice_get (labels_of (shape_by f s)) place
    labels-at place = ap (λ l. slice_get l place) (sym (labels-by f s))

    pub passes-forth : (at : ℕ) (states : List ℕ) (items output : List A) → AllByRecursion P items
        → Passes links s at states items output → Passes others (shape_by f s) at states (map f items) (map f output)
    passes-forth at [] [] output all (ends, none) = ((end-by f s at).0 ends, ap (map f) none)
    passes-forth at [] (t ∷ items) output all passes = absurd passes
    passes-forth at (next ∷ states) [] output all passes = absurd passes
    passes-forth at (next ∷ states) (t ∷ items) output all (entry, here, there, may, found, matches, writes, joined, rest) =
        let read = reads-forth entry.leaf entry.captured t here (label-named (next - 1) entry found) all.0 matches writes in (
          entry_by f entry,
          map f here,
          map f there,
          (next-by f s at next).0 may,
          subst (λ o. o ≡ Some (entry_by f entry)) (labels-at (next - 1)) (slice_get-mapped_by (entry_by f) (labels_of s) (next - 1) entry found),
          read.0,
          read.1,
          ap (map f) joined ∙ map-append f here there,
          passes-forth next states items there all.1 rest,
        )

    pub passes-back : (at : ℕ) (states : List ℕ) (items : List A) (output : List B) → AllByRecursion P items
        → Passes others (shape_by f s) at states (map f items) output
        → (own : List A) × (output ≡ map f own) × Passes links s at states items own × AllByRecursion P own
    passes-back at [] [] output all (ends, none) = ([], none, ((end-by f s at).1 ends, refl), tt)
    passes-back at [] (t ∷ items) output all passes = absurd passes
    passes-back at (next ∷ states) [] output all passes = absurd passes
    passes-back at (next ∷ states) (t ∷ items) output all (other, here, there, may, found, matches, writes, joined, rest) =
        let (entry, own_found, is) = mapped-from (entry_by f) (labels_of s) (next - 1) other (labels-at (next - 1) ∙ found) in
        let (first, same, own_matches, own_writes, inside) = reads-back entry.leaf entry.captured t here (label-named (next - 1) entry own_found) all.0
        (subst (λ (e : EntryOf B). Matches others e.leaf (f t)) (sym is) matches) (subst (λ (e : EntryOf B). WritesAt others e.leaf e.captured (f t) here) (sym is) writes) in
        let (later, alike, passes, also) = passes-back next states items there all.1 rest in (
          first ++ later,
          joined ∙ (λ i. same i ++ alike i) ∙ sym (map-append f first later),
          (entry, first, later, (next-by f s at next).1 may, own_found, own_matches, own_writes, refl, passes),
          of_both P first later inside also,
        )
