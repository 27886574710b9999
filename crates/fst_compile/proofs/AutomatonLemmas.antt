-- Paths of the position automaton are words of positions.
use Rattle.std.proofs.Common.{◌≡◌, ℕ, zero, suc, get_or, map, ◌<◌, ◌+◌, ◌≤◌, inl, inr, false, List, [], ◌∷◌, ◌++◌, length, refl, sym, ap, ◌∙◌, subst, arith, append_assoc}
use Rattle.std.specs.List.{Contains}
use Rattle.std.proofs.Math.ListN.{get_or-map}
use Rattle.std.proofs.lemmas.List.{append-nil, length-append, length-map, get_or_default}
use Rattle.std.proofs.Math.Seq.{get_or-append_seam}
use Rattle.mine_model.specs.declared.item.Item.{Item}
use Rattle.mine_model.specs.Hierarchy.{Link}
use Rattle.mine_model.specs.Expression.{Tree}
use Rattle.mine_model.specs.Generation.{Matches, WritesAt}
use Rattle.state_bits.specs.Members.{Has}
use Rattle.mine_model.specs.Numbered.{leaf_of}
use Rattle.fst_compile.specs.declared.edge.Edge.{Edge}
use Rattle.fst_compile.specs.Shape.{Shape, Entry, labels_of, one, nothing, never, both, either, maybe, more, Makes, unfold_tree}
use Rattle.fst_compile.specs.Positions.{size, Last, Follows, Chain, Accepts, Spells, IsLabelled}
use Rattle.fst_compile.specs.Transducer.{Transducer, IsPath, Enters, Leads, entry_of, edges_from, IsPositionAutomaton, IsTransducerOf}
use Rattle.fst_compile.proofs.ChainLemmas.{Chain-stay, Chain-map}
use Rattle.fst_compile.proofs.PositionLemmas.{IsIn, First-in, Last-in, Follows-in, positions-sound, positions-complete}
use Rattle.fst_compile.proofs.UnfoldLemmas.{unfold-sound, unfold-complete}

-- into the position an edge may read t and write the output
abbrev pub ReadsAt : List (Link Item) → List Entry → ℕ → Item → List Item → Type 0
ReadsAt links entries zero t output = ⊥
ReadsAt links entries (suc k) t output =
    (entry : Entry) × (k < length entries) × (get_or entries k entry ≡ entry)
    × Matches links entry.leaf t × WritesAt links entry.leaf entry.captured t output

pub length-labels : (a : Shape) → length (labels_of a) ≡ size a
length-labels (one l captured) = refl
length-labels nothing = refl
length-labels never = refl
length-labels (both a b) = let p : length (labels_of a) ≡ size a = length-labels a in let q : length (labels_of b) ≡ size b = length-labels b in
    let r : length (labels_of a ++ labels_of b) ≡ length (labels_of a) + length (labels_of b) = length-append (labels_of a) (labels_of b) in omega arith
length-labels (either a b) = let p : length (labels_of a) ≡ size a = length-labels a in let q : length (labels_of b) ≡ size b = length-labels b in
    let r : length (labels_of a ++ labels_of b) ≡ length (labels_of a) + length (labels_of b) = length-append (labels_of a) (labels_of b) in omega arith
length-labels (maybe a) = length-labels a
length-labels (more a) = length-labels a

module _ (links : List (Link Item)) where
  one-labelled : (entry : Entry) (before after : List Entry)
      → IsLabelled links (ReadsAt links (before ++ entry ∷ after)) (one entry.leaf entry.captured) (suc (length before))
  one-labelled entry before after = (
    (λ t output reads.
        let (other, inside, is, matches, writes) = reads in
        let e : entry ≡ other = sym (get_or-append_seam before entry after other) ∙ is in (
          subst (λ (x : Entry). Matches links x.leaf t) (sym e) matches,
          subst (λ (x : Entry). WritesAt links x.leaf x.captured t output) (sym e) writes,
        )),
    (λ t output matches writes.
        let r : length (before ++ entry ∷ after) ≡ length before + length (entry ∷ after) = length-append before (entry ∷ after) in
        (entry, omega arith, get_or-append_seam before entry after entry, matches, writes)),
  )

  -- the positions of a shape whose labels stand in the table at the offset are labelled
  pub labelled : (a : Shape) (table before after : List Entry) (o : ℕ) → table ≡ before ++ (labels_of a ++ after) → o ≡ suc (length before)
      → IsLabelled links (ReadsAt links table) a o
  labelled (one l captured) table before after o same at =
      subst (λ x. IsLabelled links (ReadsAt links table) (one l captured) x) (sym at)
      (subst (λ x. IsLabelled links (ReadsAt links x) (one l captured) (suc (length before))) (sym same)
      (one-labelled (record { leaf = l; captured = captured }) before after))
  labelled nothing table before after o same at = tt
  labelled never table before after o same at = tt
  labelled (both a b) table before after o same at =
      let p : length (labels_of a) ≡ size a = length-labels a in
      let r : length (before ++ labels_of a) ≡ length before + length (labels_of a) = length-append before (labels_of a) in (
        labelled a table before (labels_of b ++ after) o (same ∙ ap (λ x. before ++ x) (append_assoc (labels_of a) (labels_of b) after)) at,
        labelled b table (before ++ labels_of a) after (o + size a)
            (same ∙ ap (λ x. before ++ x) (append_assoc (labels_of a) (labels_of b) after) ∙ sym (append_assoc before (labels_of a) (labels_of b ++ after))) (omega arith),
      )
  labelled (either a b) table before after o same at =
      let p : length (labels_of a) ≡ size a = length-labels a in
      let r : length (before ++ labels_of a) ≡ length before + length (labels_of a) = length-append before (labels_of a) in (
        labelled a table before (labels_of b ++ after) o (same ∙ ap (λ x. before ++ x) (append_assoc (labels_of a) (labels_of b) after)) at,
        labelled b table (before ++ labels_of a) after (o + size a)
            (same ∙ ap (λ x. before ++ x) (append_assoc (labels_of a) (labels_of b) after) ∙ sym (append_assoc before (labels_of a) (labels_of b ++ after))) (omega arith),
      )
  labelled (maybe a) table before after o same at = labelled a table before after o same at
  labelled (more a) table before after o same at = labelled a table before after o same at

  module _ (transducer : Transducer) (labelled_all : (state : ℕ) (edge : Edge) → Contains (edges_from transducer state) edge → Enters transducer.labels edge) where
    abbrev Entries : List Entry
    Entries = map entry_of transducer.labels

    abbrev Ends : ℕ → Type 0
    Ends state = Has transducer.finals state

    abbrev Steps : ℕ → ℕ → Type 0
    Steps from to = Leads transducer from to

    entry_at : (edge : Edge) (enters : Enters transducer.labels edge)
        → get_or Entries enters.number (record { leaf = leaf_of edge.leaf; captured = edge.captured }) ≡ record { leaf = leaf_of edge.leaf; captured = edge.captured }
    entry_at edge enters =
        get_or-map entry_of transducer.labels enters.number (record { leaf = edge.leaf; captured = edge.captured })
        ∙ ap entry_of (enters.label (record { leaf = edge.leaf; captured = edge.captured }))

    edge_reads : (edge : Edge) → Enters transducer.labels edge → (t : Item) (here : List Item)
        → Matches links (leaf_of edge.leaf) t → WritesAt links (leaf_of edge.leaf) edge.captured t here → ReadsAt links Entries edge.to.0 t here
    edge_reads edge enters t here matches writes =
        subst (λ (k : ℕ). ReadsAt links Entries k t here) (sym enters.to)
        (record { leaf = leaf_of edge.leaf; captured = edge.captured }, omega (arith, length-map transducer.labels entry_of, enters.within), entry_at edge enters, matches, writes)

    edge_read : (edge : Edge) → Enters transducer.labels edge → (k : ℕ) (t : Item) (here : List Item) → edge.to.0 ≡ k → ReadsAt links Entries k t here
        → Matches links (leaf_of edge.leaf) t × WritesAt links (leaf_of edge.leaf) edge.captured t here
    edge_read edge enters zero t here to reads = absurd reads
    edge_read edge enters (suc k) t here to (entry, inside, is, matches, writes) =
        let number : enters.number ≡ k = omega (arith, enters.to) in
        let same : entry ≡ record { leaf = leaf_of edge.leaf; captured = edge.captured } =
        sym is ∙ get_or_default Entries k entry (record { leaf = leaf_of edge.leaf; captured = edge.captured }) inside
        ∙ rw number at (entry_at edge enters) in (
          subst (λ (x : Entry). Matches links x.leaf t) same matches,
          subst (λ (x : Entry). WritesAt links x.leaf x.captured t here) same writes,
        )

    -- a path is a chain that spells
    path-chain : (state : ℕ) (input output : List Item) → IsPath links transducer state input output
        → (word : List ℕ) × Chain Ends Steps state word × Spells (ReadsAt links Entries) word input output
    path-chain state [] output path = ([], path.0, (refl, path.1))
    path-chain state (t ∷ rest) output (edge, here, there, inside, matches, writes, joined, path) =
        let (word, chain, spells) = path-chain edge.to.0 rest there path in (
          edge.to.0 ∷ word,
          ((edge, inside, refl), chain),
          (t, rest, here, there, refl, joined, edge_reads edge (labelled_all state edge inside) t here matches writes, spells),
        )

    chain-path : (state : ℕ) (word : List ℕ) (input output : List Item)
        → Chain Ends Steps state word → Spells (ReadsAt links Entries) word input output → IsPath links transducer state input output
    chain-path state [] input output chain spells =
        subst (λ x. IsPath links transducer state x output) (sym spells.0) (chain, spells.1)
    chain-path state (k ∷ word) input output ((edge, inside, to), chain) (t, rest, here, there, cut, joined, reads, spells) =
        let (matches, writes) = edge_read edge (labelled_all state edge inside) k t here to reads in
        let path : IsPath links transducer edge.to.0 rest there =
        subst (λ (x : ℕ). IsPath links transducer x rest there) (sym to) (chain-path k word rest there chain spells) in
        subst (λ x. IsPath links transducer state x output) (sym cut)
        (edge, here, there, inside, matches, writes, joined, path)

  module _ (transducer : Transducer) (tree : Tree Item) (is : IsPositionAutomaton transducer tree) where
    abbrev Whole : Shape
    Whole = unfold_tree tree false

    ends-in : (j : ℕ) → 1 ≤ j → Has transducer.finals j → Last Whole 1 j
    ends-in j inside final = elim ((is.finals j).0 final) [ inl start ↦ absurd (omega arith) | inr last ↦ last ]

    steps-in : (j k : ℕ) → 1 ≤ j → Leads transducer j k → (1 ≤ k) × Follows Whole 1 j k
    steps-in j k inside edge = elim ((is.edges j k).0 edge) [
      | inl start ↦ absurd (omega arith)
      | inr follows ↦ ((Follows-in Whole 1 j k follows).1.0, follows)
    ]

    chain-accepts : (word : List ℕ) → Chain (λ j. Has transducer.finals j) (λ j k. Leads transducer j k) 0 word → Accepts Whole 1 word
    chain-accepts [] final = elim ((is.finals 0).0 final) [ inl start ↦ start.1 | inr last ↦ absurd (let h : IsIn 1 (size Whole) 0 = Last-in Whole 1 0 last in omega arith) ]
    chain-accepts (k ∷ word) (edge, chain) = elim ((is.edges 0 k).0 edge) [
      | inl start ↦ (
        start.1,
        Chain-stay (λ j. 1 ≤ j) (λ j. Has transducer.finals j) (Last Whole 1) (λ i j. Leads transducer i j) (Follows Whole 1) ends-in steps-in k word
            (First-in Whole 1 k start.1).0 chain,
      )
      | inr follows ↦ absurd (let h : IsIn 1 (size Whole) 0 × IsIn 1 (size Whole) k = Follows-in Whole 1 0 k follows in omega arith)
    ]

    accepts-chain : (word : List ℕ) → Accepts Whole 1 word → Chain (λ j. Has transducer.finals j) (λ j k. Leads transducer j k) 0 word
    accepts-chain [] empty = (is.finals 0).1 (inl (refl, empty))
    accepts-chain (k ∷ word) (first, chain) = (
      (is.edges 0 k).1 (inl (refl, first)),
      Chain-map (Last Whole 1) (λ j. Has transducer.finals j) (Follows Whole 1) (λ i j. Leads transducer i j)
          (λ j end. (is.finals j).1 (inr end)) (λ i j step. (is.edges i j).1 (inr step)) k word chain,
    )

    reads : IsLabelled links (ReadsAt links (map entry_of transducer.labels)) Whole 1
    reads = labelled Whole (map entry_of transducer.labels) [] [] 1 (is.labels ∙ sym (append-nil (labels_of Whole))) refl

    pub path-sound : (input output : List Item) → IsPath links transducer 0 input output → Makes links Whole input output
    path-sound input output path =
        let (word, chain, spells) = path-chain transducer is.labelled 0 input output path in
        positions-sound links (ReadsAt links (map entry_of transducer.labels)) Whole 1 reads word input output (chain-accepts word chain) spells

    pub path-complete : (input output : List Item) → Makes links Whole input output → IsPath links transducer 0 input output
    path-complete input output made =
        let (word, accepts, spells) = positions-complete links (ReadsAt links (map entry_of transducer.labels)) Whole 1 reads input output made in
        chain-path transducer is.labelled 0 word input output (accepts-chain word accepts) spells

-- the paths of the position automaton are what the expression generates
pub automaton-generates : (transducer : Transducer) (tree : Tree Item) → IsPositionAutomaton transducer tree → IsTransducerOf transducer tree
automaton-generates transducer tree is links input output = (
  (λ path. unfold-sound links tree false input output (path-sound links transducer tree is input output path)),
  (λ made. path-complete links transducer tree is input output (unfold-complete links tree false input output made)),
)
