-- A proof of the answer is good.
use Rattle.std.proofs.Common.{◌≡◌, ◌≢◌, ℕ, ◌+◌, ◌-◌, ◌^◌, ◌≤◌, ◌<◌, ◌↔◌, false, List, [], ◌∷◌, map, length, refl, sym, ap, ◌∙◌, subst, arith, Contains}
use Rattle.std.specs.List.{AllByRecursion, flat_map, slice_index_or}
use Rattle.std.proofs.lemmas.List.{length-map}
use Rattle.std.proofs.lemmas.Option.{slice_get_within}
use Rattle.mine_model.specs.Answer.{Data, NamedRow, Rises, IsFrequent, IsAnswer}
use Rattle.mine_model.specs.Expression.{Tree, unfolded_leaves, tree_by}
use Rattle.mine_model.specs.Generation.{IsPatternOf}
use Rattle.mine_model.specs.Hierarchy.{Link}
use Rattle.mine_model.specs.Limits.{most_sequences, most_weight, most_leaves}
use Rattle.mine_model.specs.Names.{name_of, IsFileName}
use Rattle.mine_model.specs.Support.{Sequence}
use Rattle.mine_model.specs.Text.{lines_of}
use Rattle.mine_model.proofs.ListLemmas.{Contains-by, AllByRecursion-from, AllByRecursion-contained, AllByRecursion-weaker}
use Rattle.mine_model.proofs.NumberingLemmas.{unfolded_leaves-by}
use Rattle.fst_compile.specs.Shape.{ShapeOf, labels_of, unfold_tree}
use Rattle.fst_compile.proofs.AutomatonLemmas.{length-labels}
use Rattle.fst_compile.proofs.UnfoldLemmas.{size-unfold}
use Rattle.pattern_proof.specs.ProofLines.{Cited, Entry, Say, AreFileNames, text_of_entry}
use Rattle.pattern_proof.specs.Runs.{Passes}
use Rattle.pattern_proof.proofs.WrittenLemmas.{IsWritable, written-say}
use Rattle.proof_names.specs.NamedProofs.{ProofRow, SayRows, Shows, shown_weight, IsProvedRow, IsGoodProof, IsFullRow, IsProofText, proof_text}
use Rattle.proof_names.specs.Numberings.{AreKnown}
use Rattle.proof_names.proofs.EncodingLemmas.{item_of}
use Rattle.proof_names.proofs.FullLemmas.{text-named}
use Rattle.proof_names.proofs.FullWeightLemmas.{counted-most, full-weigh, weights}
use Rattle.proof_names.proofs.KnownLemmas.{distinct-names, frequent-known}
use Rattle.proof_names.proofs.NamedSayLemmas.{named_entry, names-back, say-forth}
use Rattle.proof_names.proofs.ShapeLemmas.{entry_by, labels-by, unfold-by}
use Rattle.proof_names.proofs.ShowLemmas.{sequence-found}

-- The states of a path are among the item expressions

labels-count : (tree : Tree (List ℕ)) → length (labels_of (unfold_tree tree false)) ≡ unfolded_leaves tree
labels-count tree =
    let shape = unfold_tree tree false in
    sym (length-map (labels_of shape) (entry_by item_of)) ∙ ap length (sym (labels-by item_of shape))
    ∙ ap (λ s. length (labels_of s)) (sym (unfold-by item_of tree false))
    ∙ length-labels (unfold_tree (tree_by item_of tree) false) ∙ size-unfold (tree_by item_of tree) false ∙ unfolded_leaves-by item_of tree

states-within : {A : Type 0} (links : List (Link A)) (shape : ShapeOf A) (at : ℕ) (states : List ℕ) (items output : List A)
    → Passes links shape at states items output → AllByRecursion (λ n. n ≤ length (labels_of shape)) states
states-within links shape at [] items output passes = tt
states-within links shape at (next ∷ states) [] output passes = absurd passes
states-within links shape at (next ∷ states) (t ∷ items) output (entry, here, there, may, found, matches, writes, joined, rest) =
    (let below = slice_get_within (labels_of shape) (next - 1) entry found in omega (arith, below), states-within links shape next states items there rest)

-- what is cited for it can be written
pub path-small : (d : Data (List ℕ)) → length d.sequences ≤ most_sequences → unfolded_leaves d.expression ≤ most_leaves
    → (pattern : List (List ℕ)) (path : Cited) → Shows d pattern path → (path.place + 1 < 2 ^ 64) × AllByRecursion (λ n. n < 2 ^ 64) path.states
path-small d few small pattern path (s, found, passes) = (
  (let below = slice_get_within d.sequences path.place s found in omega (arith, below, few)),
  AllByRecursion-weaker (λ n. n ≤ length (labels_of (unfold_tree d.expression false))) (λ n. n < 2 ^ 64)
      (λ n less. let count = labels-count d.expression in omega (arith, less, count, small)) path.states
      (states-within d.links (unfold_tree d.expression false) 0 path.states s.items pattern passes),
)

module _ (d : Data (List ℕ)) (few : length d.sequences ≤ most_sequences)
    (light : AllByRecursion (λ (s : Sequence (List ℕ)). s.weight ≤ most_weight) d.sequences) (small : unfolded_leaves d.expression ≤ most_leaves) where
  -- a full row of the answer is proved

  row-proved : (row : ProofRow) → IsFullRow d row → IsFrequent d row.row.pattern row.row.support → IsProvedRow d row
  row-proved row full is = record {
    claim = (is.enough, (let all = counted-most (λ items. IsPatternOf d.links d.expression items row.row.pattern) d.sequences row.row.support light is.exact in omega (arith, all, few)));
    each = full.each;
    rise = full.rise;
    enough = subst (λ n. row.row.support ≤ n) (shown row.paths)
        (full-weigh (λ items. IsPatternOf d.links d.expression items row.row.pattern) weight_at 0 d.sequences row.paths row.row.support (record {
          rise = full.rise;
          least = AllByRecursion-weaker (Shows d row.row.pattern) (λ (path : Cited). 0 ≤ path.place) (λ path shows. omega arith) row.paths full.each;
          weighs = λ k s found. (let e : k ≡ 0 + k = omega arith in
              subst (λ n. weight_at n ≡ s.weight) e (ap (λ (t : Sequence (List ℕ)). t.weight) (sequence-found d.sequences k s found)));
          all = λ k s found has. (let e : k ≡ 0 + k = omega arith in
              subst (Contains (map (λ (path : Cited). path.place) row.paths)) e (full.all k s found has));
        }) is.exact);
  }
    where
      weight_at : ℕ → ℕ
      weight_at place = (slice_index_or d.sequences place (record { items = []; weight = 0 })).weight

      shown : (paths : List Cited) → weights (λ items. IsPatternOf d.links d.expression items row.row.pattern) weight_at paths ≡ shown_weight d paths
      shown [] = refl
      shown (path ∷ paths) = ap (λ n. weight_at path.place + n) (shown paths)

  module _ (known names : List (List ℕ)) (sound : AreFileNames names) (held : (name : List ℕ) → (Contains known name ↔ Contains names name)) where
    -- rows with known names, by the numbers of these
    entries-of : (rows : List ProofRow) → AllByRecursion (λ (row : ProofRow). AllByRecursion (Contains known) row.row.pattern) rows
        → AllByRecursion (IsProvedRow d) rows → AllByRecursion (λ (row : ProofRow). row.row.pattern ≢ []) rows
        → (entries : List Entry) × (map (named_entry names) entries ≡ rows) × AllByRecursion (IsWritable names) entries
    entries-of [] have proved some = ([], refl, tt)
    entries-of (row ∷ rows) have proved some =
        let (items, same, inside) = names-back names known held row.row.pattern have.0 in
        let (entries, rest, writable) = entries-of rows have.1 proved.1 some.1 in (
          (record { row = record { pattern = items; support = row.row.support }; paths = row.paths }) ∷ entries,
          (λ i. (let made : ProofRow = record { row = record { pattern = same i; support = row.row.support }; paths = row.paths } in made) ∷ rest i),
          (
            record {
              small = (let most = proved.0.claim.1 in omega (arith, most));
              some = λ none. some.0 (sym same ∙ ap (map (name_of names)) none);
              known = inside;
              paths = AllByRecursion-weaker (Shows d row.row.pattern) (λ (path : Cited). (path.place + 1 < 2 ^ 64) × AllByRecursion (λ n. n < 2 ^ 64) path.states)
                  (λ path shows. path-small d few small row.row.pattern path shows) row.paths proved.0.each;
            },
            writable,
          ),
        )

    rows-said : (rows : List ProofRow) → AllByRecursion (λ (row : ProofRow). AllByRecursion (Contains known) row.row.pattern) rows
        → AllByRecursion (IsProvedRow d) rows → AllByRecursion (λ (row : ProofRow). row.row.pattern ≢ []) rows → SayRows known (lines_of (proof_text rows)) rows
    rows-said rows have proved some =
        let (entries, same, writable) = entries-of rows have proved some in
        let said : Say names (lines_of (flat_map (text_of_entry names) entries)) entries = written-say names sound entries writable in
        let own : SayRows known (lines_of (flat_map (text_of_entry names) entries)) (map (named_entry names) entries) =
        say-forth names known held [] (lines_of (flat_map (text_of_entry names) entries)) entries said in
        let text : flat_map (text_of_entry names) entries ≡ proof_text rows = text-named names entries ∙ ap proof_text same in
        subst (λ b. SayRows known (lines_of b) rows) text (subst (SayRows known (lines_of (flat_map (text_of_entry names) entries))) same own)

  pub answer-good : (known : List (List ℕ)) → AllByRecursion IsFileName known → AreKnown known d → 1 ≤ d.threshold
      → (answer : List NamedRow) (bytes : List ℕ) → IsAnswer d answer → IsProofText d answer bytes → IsGoodProof d known (lines_of bytes) (length answer)
  answer-good known files are least answer bytes is proof =
      let (names, sound, held) = distinct-names known files in
      let frequent : (row : ProofRow) → Contains proof.rows row → IsFrequent d row.row.pattern row.row.support =
      λ row inside. (is.frequent row.row).0 (subst (λ l. Contains l row.row) proof.same (Contains-by (λ (r : ProofRow). r.row) proof.rows row inside)) in
      let proved : AllByRecursion (IsProvedRow d) proof.rows =
      AllByRecursion-from (IsProvedRow d) proof.rows
      (λ row inside. row-proved row (AllByRecursion-contained (IsFullRow d) proof.rows row proof.full inside) (frequent row inside)) in
      let have = AllByRecursion-from (λ (row : ProofRow). AllByRecursion (Contains known) row.row.pattern) proof.rows
      (λ row inside. frequent-known known d are least row.row.pattern row.row.support (frequent row inside)) in
      let some = AllByRecursion-from (λ (row : ProofRow). row.row.pattern ≢ []) proof.rows (λ row inside. (frequent row inside).not_empty) in
      record {
        rows = proof.rows;
        said = subst (λ b. SayRows known (lines_of b) proof.rows) (sym proof.written) (rows-said known names sound held proof.rows have proved some);
        ordered = subst Rises (sym proof.same) is.ordered;
        proved = proved;
        counted = ap length (sym proof.same) ∙ length-map proof.rows (λ (row : ProofRow). row.row);
      }
