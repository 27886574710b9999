-- Each list of rows has a proof, where it is decided of each sequence whether it has a pattern.
use Rattle.std.proofs.Common.{◌≡◌, ℕ, zero, suc, ◌+◌, ◌≤◌, ◌<◌, ◌⊎◌, inl, inr, Some, List, [], ◌∷◌, map, refl, sym, subst, arith, Contains}
use Rattle.std.specs.List.{AllByRecursion, slice_get}
use Rattle.mine_model.specs.Answer.{Data, NamedRow}
use Rattle.mine_model.specs.Generation.{IsPatternOf}
use Rattle.mine_model.specs.Support.{Sequence}
use Rattle.mine_model.proofs.ListLemmas.{Contains-first, Contains-other, AllByRecursion-weaker}
use Rattle.pattern_proof.specs.ProofLines.{Cited}
use Rattle.pattern_proof.specs.Proofs.{RiseByPlace}
use Rattle.proof_names.specs.NamedProofs.{ProofRow, Shows, IsFullRow, IsProofText, proof_text}
use Rattle.proof_names.proofs.PathLemmas.{named-generates-path}

-- it is so or it is not
abbrev pub Decided : Data (List ℕ) → Type 0
Decided d = (items pattern : List (List ℕ)) → IsPatternOf d.links d.expression items pattern ⊎ (IsPatternOf d.links d.expression items pattern → ⊥)

module _ (d : Data (List ℕ)) (decided : Decided d) where
  module _ (pattern : List (List ℕ)) where
    -- one path over each of the sequences from a number on that has the pattern
    record AreAll (from : ℕ) (sequences : List (Sequence (List ℕ))) : Type 0 where
      pub paths : List Cited
      pub each : AllByRecursion (Shows d pattern) paths
      pub rise : RiseByPlace paths
      pub least : AllByRecursion (λ (path : Cited). from ≤ path.place) paths
      pub all : (k : ℕ) (s : Sequence (List ℕ)) → slice_get sequences k ≡ Some s → IsPatternOf d.links d.expression s.items pattern
          → Contains (map (λ (path : Cited). path.place) paths) (from + k)

    -- they stand from this number on among those of the data
    abbrev StandFrom : ℕ → List (Sequence (List ℕ)) → Type 0
    StandFrom from sequences = (k : ℕ) (s : Sequence (List ℕ)) → slice_get sequences k ≡ Some s → slice_get d.sequences (from + k) ≡ Some s

    stand-later : (from : ℕ) (s : Sequence (List ℕ)) (sequences : List (Sequence (List ℕ))) → StandFrom from (s ∷ sequences) → StandFrom (suc from) sequences
    stand-later from s sequences stand k t found =
        let there : from + suc k ≡ suc from + k = omega arith in
        subst (λ n. slice_get d.sequences n ≡ Some t) there (stand (suc k) t found)

    with-first : (from : ℕ) (s : Sequence (List ℕ)) (sequences : List (Sequence (List ℕ))) → slice_get d.sequences (from + 0) ≡ Some s
        → IsPatternOf d.links d.expression s.items pattern → AreAll (suc from) sequences → AreAll from (s ∷ sequences)
    with-first from s sequences at has later =
        let (states, passes) = named-generates-path d.links d.expression s.items pattern has.1 in
        record {
          paths = (record { place = from + 0; states = states }) ∷ later.paths;
          each = ((s, at, passes), later.each);
          rise = (
            AllByRecursion-weaker (λ (path : Cited). suc from ≤ path.place) (λ (path : Cited). from + 0 < path.place) (λ path less. omega (arith, less)) later.paths later.least,
            later.rise,
          );
          least = (
            omega arith,
            AllByRecursion-weaker (λ (path : Cited). suc from ≤ path.place) (λ (path : Cited). from ≤ path.place) (λ path less. omega (arith, less)) later.paths later.least,
          );
          all = by;
        }
      where
        by : (k : ℕ) (t : Sequence (List ℕ)) → slice_get (s ∷ sequences) k ≡ Some t → IsPatternOf d.links d.expression t.items pattern
            → Contains ((from + 0) ∷ map (λ (path : Cited). path.place) later.paths) (from + k)
        by zero t found own = Contains-first (from + 0) (map (λ (path : Cited). path.place) later.paths)
        by (suc k) t found own =
            let there : suc from + k ≡ from + suc k = omega arith in
            Contains-other (from + 0) (map (λ (path : Cited). path.place) later.paths) (from + suc k)
            (subst (Contains (map (λ (path : Cited). path.place) later.paths)) there (later.all k t found own))

    without-first : (from : ℕ) (s : Sequence (List ℕ)) (sequences : List (Sequence (List ℕ)))
        → (IsPatternOf d.links d.expression s.items pattern → ⊥) → AreAll (suc from) sequences → AreAll from (s ∷ sequences)
    without-first from s sequences none later = record {
      paths = later.paths;
      each = later.each;
      rise = later.rise;
      least = AllByRecursion-weaker (λ (path : Cited). suc from ≤ path.place) (λ (path : Cited). from ≤ path.place) (λ path less. omega (arith, less)) later.paths later.least;
      all = by;
    }
      where
        by : (k : ℕ) (t : Sequence (List ℕ)) → slice_get (s ∷ sequences) k ≡ Some t → IsPatternOf d.links d.expression t.items pattern
            → Contains (map (λ (path : Cited). path.place) later.paths) (from + k)
        by zero t found own = absurd (let same : s ≡ t = cc in none (subst (λ (u : Sequence (List ℕ)). IsPatternOf d.links d.expression u.items pattern) (sym same) own))
        by (suc k) t found own =
            let there : suc from + k ≡ from + suc k = omega arith in
            subst (Contains (map (λ (path : Cited). path.place) later.paths)) there (later.all k t found own)

    all-from : (from : ℕ) (sequences : List (Sequence (List ℕ))) → StandFrom from sequences → AreAll from sequences
    all-from from [] stand = record { paths = []; each = tt; rise = tt; least = tt; all = λ k s found has. absurd (cc) }
    all-from from (s ∷ sequences) stand =
        let later = all-from (suc from) sequences (stand-later from s sequences stand) in
        elim (decided s.items pattern) [
          | inl has ↦ with-first from s sequences (stand 0 s refl) has later
          | inr none ↦ without-first from s sequences none later
        ]

  full-row : (row : NamedRow) → (full : ProofRow) × (full.row ≡ row) × IsFullRow d full
  full-row row =
      let are = all-from row.pattern 0 d.sequences (λ k s found. (let e : k ≡ 0 + k = omega arith in subst (λ n. slice_get d.sequences n ≡ Some s) e found)) in (
        record { row = row; paths = are.paths },
        refl,
        record {
          each = are.each;
          rise = are.rise;
          all = λ place s found has. (let e : 0 + place ≡ place = omega arith in
              subst (Contains (map (λ (path : Cited). path.place) are.paths)) e (are.all place s found has));
        },
      )

  full-rows : (rows : List NamedRow) → (full : List ProofRow) × (map (λ (r : ProofRow). r.row) full ≡ rows) × AllByRecursion (IsFullRow d) full
  full-rows [] = ([], refl, tt)
  full-rows (row ∷ rows) =
      let (first, same, is) = full-row row in
      let (later, rest, are) = full-rows rows in
      (first ∷ later, (λ i. same i ∷ rest i), (is, are))

  pub has-proof : (rows : List NamedRow) → (text : List ℕ) × IsProofText d rows text
  has-proof rows =
      let (full, same, are) = full-rows rows in
      (proof_text full, record { rows = full; same = same; full = are; written = refl })
