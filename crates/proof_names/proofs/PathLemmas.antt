-- Paths of an expression write what it generates.
use Rattle.std.proofs.Common.{◌≡◌, ℕ, zero, suc, ◌-◌, ◌≤◌, inl, inr, false, Some, List, [], ◌∷◌, map, refl, sym, ap, ◌∙◌, subst, arith}
use Rattle.std.specs.List.{slice_get}
use Rattle.std.proofs.lemmas.List.{append-nil}
use Rattle.std.proofs.lemmas.Option.{slice_get-get_or, slice_get_within, get_or_from_slice_get}
use Rattle.mine_model.specs.declared.item.Item.{Item}
use Rattle.mine_model.specs.Expression.{Tree, named_in, tree_by}
use Rattle.mine_model.specs.Generation.{Matches, WritesAt, Generates}
use Rattle.mine_model.specs.Hierarchy.{Link}
use Rattle.mine_model.specs.Names.{link_by}
use Rattle.mine_model.proofs.NumberingLemmas.{Generates-forth, Generates-back, one_to_one-lists}
use Rattle.fst_compile.specs.Shape.{Shape, Entry, labels_of, unfold_tree}
use Rattle.fst_compile.specs.Positions.{Last, Follows, Chain, Accepts, Spells, IsLabelled}
use Rattle.fst_compile.proofs.AutomatonLemmas.{ReadsAt, labelled}
use Rattle.fst_compile.proofs.PositionLemmas.{First-in, Last-in, Follows-in, positions-sound, positions-complete}
use Rattle.fst_compile.proofs.UnfoldLemmas.{unfold-sound, unfold-complete}
use Rattle.pattern_proof.specs.Runs.{Passes}
use Rattle.proof_names.proofs.EncodingLemmas.{item_of, Any, all-any, encodes}
use Rattle.proof_names.proofs.ShapeLemmas.{shape_by, unfold-by, unfold-named}
use Rattle.proof_names.proofs.PassLemmas.{passes-forth, passes-back}

module _ (links : List (Link Item)) (s : Shape) where
  abbrev Reads : ℕ → Item → List Item → Type 0
  Reads = ReadsAt links (labels_of s)

  reads-at : (next : ℕ) (t : Item) (here : List Item) (entry : Entry) → 1 ≤ next → slice_get (labels_of s) (next - 1) ≡ Some entry
      → Matches links entry.leaf t → WritesAt links entry.leaf entry.captured t here → Reads next t here
  reads-at zero t here entry some found matches writes = absurd (omega (arith, some))
  reads-at (suc k) t here entry some found matches writes =
      let place : suc k - 1 ≡ k = omega arith in
      let there = subst (λ n. slice_get (labels_of s) n ≡ Some entry) place found in
      (entry, slice_get_within (labels_of s) k entry there, get_or_from_slice_get (labels_of s) k entry entry there, matches, writes)

  reads-from : (next : ℕ) (t : Item) (here : List Item) → Reads next t here
      → (entry : Entry) × (slice_get (labels_of s) (next - 1) ≡ Some entry) × Matches links entry.leaf t × WritesAt links entry.leaf entry.captured t here
  reads-from zero t here reads = absurd reads
  reads-from (suc k) t here (entry, below, is, matches, writes) =
      let place : suc k - 1 ≡ k = omega arith in
      (entry, subst (λ n. slice_get (labels_of s) n ≡ Some entry) (sym place) (slice_get-get_or (labels_of s) k entry below ∙ ap Some is), matches, writes)

  -- behind a position

  chain-of : (at : ℕ) (states : List ℕ) (items output : List Item) → 1 ≤ at → Passes links s at states items output
      → Chain (Last s 1) (Follows s 1) at states × Spells Reads states items output
  chain-of at [] [] output some (ends, is) = elim ends [
    | inl start ↦ absurd (let none = start.0 in omega (arith, some, none))
    | inr last ↦ (last, (refl, is))
  ]
  chain-of at [] (t ∷ items) output some passes = absurd passes
  chain-of at (next ∷ states) [] output some passes = absurd passes
  chain-of at (next ∷ states) (t ∷ items) output some (entry, here, there, may, found, matches, writes, joined, rest) = elim may [
    | inl start ↦ absurd (let none = start.0 in omega (arith, some, none))
    | inr follows ↦
        let least : 1 ≤ next = (Follows-in s 1 at next follows).1.0 in
        let (chain, spells) = chain-of next states items there least rest in
        ((follows, chain), (t, items, here, there, refl, joined, reads-at next t here entry least found matches writes, spells))
  ]

  of-chain : (at : ℕ) (states : List ℕ) (items output : List Item) → Chain (Last s 1) (Follows s 1) at states → Spells Reads states items output
      → Passes links s at states items output
  of-chain at [] items output last spells = subst (λ l. Passes links s at [] l output) (sym spells.0) (inr last, spells.1)
  of-chain at (next ∷ states) items output (follows, chain) (t, rest, here, there, cut, joined, reads, spells) =
      let (entry, found, matches, writes) = reads-from next t here reads in
      subst (λ l. Passes links s at (next ∷ states) l output) (sym cut)
      (entry, here, there, inr follows, found, matches, writes, joined, of-chain next states rest there chain spells)

  -- from the start

  word-of : (states : List ℕ) (items output : List Item) → Passes links s 0 states items output → Accepts s 1 states × Spells Reads states items output
  word-of [] [] output (ends, is) = elim ends [
    | inl start ↦ (start.1, (refl, is))
    | inr last ↦ absurd (let inside = (Last-in s 1 0 last).0 in omega (arith, inside))
  ]
  word-of [] (t ∷ items) output passes = absurd passes
  word-of (next ∷ states) [] output passes = absurd passes
  word-of (next ∷ states) (t ∷ items) output (entry, here, there, may, found, matches, writes, joined, rest) = elim may [
    | inl start ↦
        let least : 1 ≤ next = (First-in s 1 next start.1).0 in
        let (chain, spells) = chain-of next states items there least rest in
        ((start.1, chain), (t, items, here, there, refl, joined, reads-at next t here entry least found matches writes, spells))
    | inr follows ↦ absurd (let inside = (Follows-in s 1 0 next follows).0.0 in omega (arith, inside))
  ]

  of-word : (states : List ℕ) (items output : List Item) → Accepts s 1 states → Spells Reads states items output → Passes links s 0 states items output
  of-word [] items output empty spells = subst (λ l. Passes links s 0 [] l output) (sym spells.0) (inl (refl, empty), spells.1)
  of-word (next ∷ states) items output (first, chain) (t, rest, here, there, cut, joined, reads, spells) =
      let (entry, found, matches, writes) = reads-from next t here reads in
      subst (λ l. Passes links s 0 (next ∷ states) l output) (sym cut)
      (entry, here, there, inl (refl, first), found, matches, writes, joined, of-chain next states rest there chain spells)

  labels-read : IsLabelled links Reads s 1
  labels-read = labelled links s (labels_of s) [] [] 1 (sym (append-nil (labels_of s))) refl

module _ (links : List (Link Item)) (tree : Tree Item) where
  path-generates : (states : List ℕ) (items output : List Item) → Passes links (unfold_tree tree false) 0 states items output → Generates links tree false items output
  path-generates states items output passes =
      let s : Shape = unfold_tree tree false in
      let (accepts, spells) = word-of links s states items output passes in
      unfold-sound links tree false items output
      (positions-sound links (ReadsAt links (labels_of s)) s 1 (labels-read links s) states items output accepts spells)

  generates-path : (items output : List Item) → Generates links tree false items output → (states : List ℕ) × Passes links (unfold_tree tree false) 0 states items output
  generates-path items output generates =
      let s : Shape = unfold_tree tree false in
      let (word, accepts, spells) = positions-complete links (ReadsAt links (labels_of s)) s 1 (labels-read links s) items output (unfold-complete links tree false items output generates) in
      (word, of-word links s word items output accepts spells)

-- The same of names

module _ (links : List (Link (List ℕ))) (tree : Tree (List ℕ)) where
  abbrev Others : List (Link Item)
  Others = map (link_by item_of) links

  pub named-path-generates : (states : List ℕ) (items output : List (List ℕ)) → Passes links (unfold_tree tree false) 0 states items output → Generates links tree false items output
  named-path-generates states items output passes =
      let own : Passes Others (shape_by item_of (unfold_tree tree false)) 0 states (map item_of items) (map item_of output) =
      passes-forth links Others Any item_of (encodes links) (unfold_tree tree false) (unfold-named Any tree false (all-any (named_in tree))) 0 states items output (all-any items) passes in
      let made : Generates Others (tree_by item_of tree) false (map item_of items) (map item_of output) =
      path-generates Others (tree_by item_of tree) states (map item_of items) (map item_of output)
      (subst (λ shape. Passes Others shape 0 states (map item_of items) (map item_of output)) (sym (unfold-by item_of tree false)) own) in
      let (written, same, generates) = Generates-back links Others Any item_of (encodes links) tree false items (map item_of output) (all-any (named_in tree)) (all-any items) made in
      subst (Generates links tree false items)
      (sym (one_to_one-lists links Others Any item_of (encodes links) output written (all-any output) (all-any written) same)) generates

  pub named-generates-path : (items output : List (List ℕ)) → Generates links tree false items output → (states : List ℕ) × Passes links (unfold_tree tree false) 0 states items output
  named-generates-path items output generates =
      let made = Generates-forth links Others Any item_of (encodes links) tree false items output (all-any (named_in tree)) (all-any items) generates in
      let (states, passes) = generates-path Others (tree_by item_of tree) (map item_of items) (map item_of output) made in
      let (written, same, own, inside) = passes-back links Others Any item_of (encodes links) (unfold_tree tree false) (unfold-named Any tree false (all-any (named_in tree)))
      0 states items (map item_of output) (all-any items)
      (subst (λ shape. Passes Others shape 0 states (map item_of items) (map item_of output)) (unfold-by item_of tree false) passes) in (
        states,
        subst (Passes links (unfold_tree tree false) 0 states items)
            (sym (one_to_one-lists links Others Any item_of (encodes links) output written (all-any output) (all-any written) same)) own,
      )
