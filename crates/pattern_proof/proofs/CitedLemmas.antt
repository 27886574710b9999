-- The paths of a row, one after another.
use Rattle.std.proofs.Common.{◌≡◌, ℕ, ◌-◌, ◌≤◌, ◌<◌, ◌⊎◌, inl, inr, zero, suc, List, [], ◌∷◌, ◌++◌, map, length, Some, sym, ap, ◌∙◌, subst, arith, Contains, append_assoc}
use Rattle.std.specs.List.{AllByRecursion, flat_map, slice_get, slice_index_or}
use Rattle.std.proofs.lemmas.List.{append-nil}
use Rattle.std.proofs.lemmas.List.Concat.{flat_map-append}
use Rattle.std.proofs.lemmas.List.Elements.{Contains-append_left, Contains-append_right}
use Rattle.mine_model.specs.declared.row.Row.{Row}
use Rattle.mine_model.specs.Answer.{IsFrequent}
use Rattle.mine_model.specs.Generation.{IsPatternOf}
use Rattle.mine_model.specs.Numbered.{tree_of}
use Rattle.mine_model.specs.Support.{Sequence, Counts}
use Rattle.mine_model.proofs.ListLemmas.{Contains-first, Contains-none, Contains-cases, Contains-by, Contains-from, AllByRecursion-weaker, of_both}
use Rattle.mining_job.specs.Problems.{Problem, IsWhole, data_of}
use Rattle.pattern_proof.specs.declared.listing.Listed.{Listed}
use Rattle.pattern_proof.specs.Listing.{Has, IsChain, ListsAll}
use Rattle.pattern_proof.specs.ProofLines.{Cited, path_line_of}
use Rattle.pattern_proof.specs.Proofs.{IsFull}
use Rattle.pattern_proof.specs.Putting.{entry_of, ArePathsSoFar}
use Rattle.pattern_proof.specs.Runs.{Writes}
use Rattle.pattern_proof.proofs.ListingLemmas.{chain-first}
use Rattle.pattern_proof.proofs.RiseLemmas.{places-snoc}
use Rattle.pattern_proof.proofs.RunLemmas.{generates-writes}

-- where it is counted which sequences have a property, each has it or has it not
pub counts-decide : {A : Type 0} (Holds : List A → Type 0) (none : Sequence A) (sequences : List (Sequence A)) (n : ℕ) → Counts Holds sequences n → (i : ℕ) → i < length sequences
    → Holds (slice_index_or sequences i none).items ⊎ (Holds (slice_index_or sequences i none).items → ⊥)
counts-decide Holds none [] n counts i inside = absurd (omega (arith, inside))
counts-decide Holds none (s ∷ sequences) n (inl counts) zero inside = inl counts.0
counts-decide Holds none (s ∷ sequences) n (inr counts) zero inside = inr counts.0
counts-decide Holds none (s ∷ sequences) n (inl counts) (suc i) inside = counts-decide Holds none sequences counts.1.0 counts.1.2 i (omega (arith, inside))
counts-decide Holds none (s ∷ sequences) n (inr counts) (suc i) inside = counts-decide Holds none sequences n counts.1 i (omega (arith, inside))

module _ (problem : Problem) (whole : IsWhole problem) (listed : List Listed) (row : Row) where
  abbrev SoFar : ℕ → List Cited → List ℕ → Type 0
  SoFar at paths places = ArePathsSoFar problem listed row at paths places

  -- at first no path is cited
  pub none-cited : (first : ℕ) (lists : ListsAll problem listed first row.pattern) → SoFar first [] lists.places
  none-cited first lists = record {
    chain = lists.chain;
    rise = lists.rise;
    within = lists.within;
    good = tt;
    paths_rise = tt;
    before = tt;
    all = λ place inside has. inl (lists.all place inside has);
  }

  -- behind the last of the list the paths are all
  pub all-cited : (paths : List Cited) (places : List ℕ) → SoFar 0 paths places → IsFull problem (entry_of row paths)
  all-cited paths [] are = record {
    paths = record { each = are.good; rise = are.paths_rise };
    all = λ place inside has. elim (are.all place inside has) [
      | inl left ↦ absurd (Contains-none place left)
      | inr cited ↦ cited
    ];
  }
  all-cited paths (place ∷ places) are = let (entry, some, rest) = chain-some (are.chain) in absurd (omega (arith, some))
    where
      chain-some : IsChain listed 0 (place ∷ places) → (entry : Listed) × (1 ≤ 0) × Unit {0}
      chain-some (entry, some, found, is, less, chain) = (entry, some, tt)

  -- a path over the next sequence
  pub one-cited : (at next place : ℕ) (others : List ℕ) (paths : List Cited) → SoFar at paths (place ∷ others) → IsChain listed next others
      → (states : List ℕ) → Writes problem place states row.pattern → SoFar next (paths ++ (record { place = place; states = states }) ∷ []) others
  one-cited at next place others paths are chain states writes =
      let path : Cited = record { place = place; states = states } in record {
        chain = chain;
        rise = are.rise.1;
        within = are.within.1;
        good = of_both _ paths (path ∷ []) are.good (record { there = are.within.0; run = writes }, tt);
        paths_rise = places-snoc paths path are.paths_rise (AllByRecursion-weaker (λ (p : Cited). AllByRecursion (λ q. p.place < q) (place ∷ others)) (λ (p : Cited). p.place < place) (λ p before. before.0) paths are.before);
        before = of_both (λ (p : Cited). AllByRecursion (λ q. p.place < q) others) paths (path ∷ [])
            (AllByRecursion-weaker (λ (p : Cited). AllByRecursion (λ q. p.place < q) (place ∷ others)) (λ (p : Cited). AllByRecursion (λ q. p.place < q) others) (λ p before. before.1) paths are.before)
            (are.rise.0, tt);
        all = λ q inside has. elim (are.all q inside has) [
          | inl left ↦ elim (Contains-cases place others q left) [
            | inl same ↦ inr (subst (λ n. Contains (map (λ (p : Cited). p.place) (paths ++ path ∷ [])) n) (sym same) (Contains-by (λ (p : Cited). p.place) (paths ++ path ∷ []) path (Contains-append_right paths (path ∷ []) path (Contains-first path []))))
            | inr other ↦ inl other
          ]
          | inr cited ↦
              let (p, held, is) = Contains-from (λ (p : Cited). p.place) paths q cited in
              inr (subst (λ n. Contains (map (λ (p : Cited). p.place) (paths ++ path ∷ [])) n) (sym is) (Contains-by (λ (p : Cited). p.place) (paths ++ path ∷ []) p (Contains-append_left paths (path ∷ []) p held)))
        ];
      }

  -- the next sequence does not have the pattern
  pub none-passed : (at next place : ℕ) (others : List ℕ) (paths : List Cited) → SoFar at paths (place ∷ others) → IsChain listed next others
      → (Has problem row.pattern place → ⊥) → SoFar next paths others
  none-passed at next place others paths are chain never = record {
    chain = chain;
    rise = are.rise.1;
    within = are.within.1;
    good = are.good;
    paths_rise = are.paths_rise;
    before = AllByRecursion-weaker (λ (p : Cited). AllByRecursion (λ q. p.place < q) (place ∷ others)) (λ (p : Cited). AllByRecursion (λ q. p.place < q) others) (λ p before. before.1) paths are.before;
    all = λ q inside has. elim (are.all q inside has) [
      | inl left ↦ elim (Contains-cases place others q left) [
        | inl same ↦ absurd (never (subst (Has problem row.pattern) same has))
        | inr other ↦ inl other
      ]
      | inr cited ↦ inr cited
    ];
  }

  -- a sequence has the pattern where it has a path that writes it
  pub has-writes : (place : ℕ) → Has problem row.pattern place → (states : List ℕ) × Writes problem place states row.pattern
  has-writes place has = generates-writes problem whole place row.pattern has.1

  -- the next of the list
  module _ (at : ℕ) (entry : Listed) (some : 1 ≤ at) (found : slice_get listed (at - 1) ≡ Some entry) (paths : List Cited) (places : List ℕ) (are : SoFar at paths places) where
    cut : (others : List ℕ) × (places ≡ entry.place ∷ others) × (entry.next < at) × IsChain listed entry.next others
    cut = chain-first listed at places entry some found are.chain

    pub next-within : entry.place < length problem.sequences
    next-within = (subst (λ l. AllByRecursion (λ place. place < length problem.sequences) l) cut.1 are.within).0

    pub next-less : entry.next < at
    next-less = cut.2

    pub next-cited : (states : List ℕ) → Writes problem entry.place states row.pattern → (others : List ℕ) × SoFar entry.next (paths ++ (record { place = entry.place; states = states }) ∷ []) others
    next-cited states writes = (cut.0, one-cited at entry.next entry.place cut.0 paths (subst (SoFar at paths) cut.1 are) cut.3 states writes)

    pub next-passed : ((states : List ℕ) → Writes problem entry.place states row.pattern → ⊥) → (others : List ℕ) × SoFar entry.next paths others
    next-passed never =
        (cut.0, none-passed at entry.next entry.place cut.0 paths (subst (SoFar at paths) cut.1 are) cut.3 (λ has. let (states, writes) = has-writes entry.place has in never states writes))

  -- there are paths over the sequences that are left
  module _ (frequent : IsFrequent (data_of problem) row.pattern row.support) where
    decided : (place : ℕ) → place < length problem.sequences → Has problem row.pattern place ⊎ (Has problem row.pattern place → ⊥)
    decided place inside =
        counts-decide (λ items. IsPatternOf problem.hierarchy.links (tree_of problem.transducer.expression) items row.pattern) (record { items = []; weight = 0 }) problem.sequences row.support frequent.exact place inside

    pub rest-cited : (at : ℕ) (paths : List Cited) (places : List ℕ) → SoFar at paths places → (more : List Cited) × IsFull problem (entry_of row (paths ++ more))
    rest-cited at paths [] are =
        ([], subst (λ l. IsFull problem (entry_of row l)) (sym (append-nil paths)) (all-cited paths [] (subst (λ n. SoFar n paths []) are.chain are)))
    rest-cited at paths (place ∷ others) are =
        let (entry, some, found, is, less, chain) = are.chain in
        elim (decided place are.within.0) [
          | inl has ↦
              (let (states, writes) = has-writes place has in
              let path : Cited = record { place = place; states = states } in
              let (more, full) = rest-cited entry.next (paths ++ path ∷ []) others (one-cited at entry.next place others paths are chain states writes) in
              (path ∷ more, subst (λ l. IsFull problem (entry_of row l)) (append_assoc paths (path ∷ []) more) full))
          | inr never ↦ rest-cited entry.next paths others (none-passed at entry.next place others paths are chain never)
        ]

    pub all-there : (first : ℕ) → ListsAll problem listed first row.pattern → (paths : List Cited) × IsFull problem (entry_of row paths)
    all-there first lists = rest-cited first [] lists.places (none-cited first lists)

-- ---- texts of paths

-- one line more
pub line-more : (front : List ℕ) (paths : List Cited) (path : Cited) → (front ++ flat_map path_line_of paths) ++ path_line_of path ≡ front ++ flat_map path_line_of (paths ++ path ∷ [])
line-more front paths path =
    append_assoc front (flat_map path_line_of paths) (path_line_of path)
    ∙ ap (λ l. front ++ l) (ap (λ l. flat_map path_line_of paths ++ l) (sym (append-nil (path_line_of path))) ∙ sym (flat_map-append path_line_of paths (path ∷ [])))

-- lines more
pub lines-more : (front : List ℕ) (paths more : List Cited) → (front ++ flat_map path_line_of paths) ++ flat_map path_line_of more ≡ front ++ flat_map path_line_of (paths ++ more)
lines-more front paths more =
    append_assoc front (flat_map path_line_of paths) (flat_map path_line_of more) ∙ ap (λ l. front ++ l) (sym (flat_map-append path_line_of paths more))
