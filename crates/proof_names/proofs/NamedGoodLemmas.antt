-- A proof is good by the numbers of names where it is good by names.
use Rattle.std.proofs.Common.{◌≡◌, ℕ, ◌≤◌, ◌↔◌, List, [], ◌∷◌, map, length, refl, sym, ap, ◌∙◌, subst, Contains}
use Rattle.std.specs.List.{AllByRecursion}
use Rattle.std.proofs.lemmas.List.{length-map}
use Rattle.mine_model.specs.declared.row.Row.{Row}
use Rattle.mine_model.specs.Answer.{Data, Rises}
use Rattle.mine_model.specs.Hierarchy.{Link}
use Rattle.mine_model.specs.Names.{name_of, HasName, AreNamed, named_row}
use Rattle.mine_model.proofs.NamedAnswer.{named_data}
use Rattle.mine_model.proofs.NumberingLemmas.{Renames}
use Rattle.mining_job.specs.Problems.{Problem, data_of}
use Rattle.pattern_proof.specs.ProofLines.{Entry}
use Rattle.pattern_proof.specs.Proofs.{IsInRange, IsEnough, IsProved, IsGood}
use Rattle.proof_names.specs.NamedProofs.{ProofRow, IsClaim, IsShown, IsProvedRow, IsGoodProof}
use Rattle.proof_names.proofs.NamedSayLemmas.{named_entry, IsKnown, say-forth, say-back, say-known}
use Rattle.proof_names.proofs.ShowLemmas.{weights-same, all-forth, all-same}

pub rows-named : (names : List (List ℕ)) (entries : List Entry)
    → map (λ (row : ProofRow). row.row) (map (named_entry names) entries) ≡ map (λ (entry : Entry). named_row names entry.row) entries
rows-named names [] = refl
rows-named names (entry ∷ entries) = ap (λ l. named_row names entry.row ∷ l) (rows-named names entries)

module _ (names : List (List ℕ)) (others : List (Link (List ℕ))) (problem : Problem)
    (renames : Renames problem.hierarchy.links others (HasName names) (name_of names)) (named : AreNamed names (data_of problem)) where
  abbrev D : Data (List ℕ)
  D = named_data names others (data_of problem)

  pub claim-forth : (row : Row) → IsInRange problem row → IsClaim D (named_row names row)
  claim-forth row range = (range.least, range.most)

  pub claim-back : (row : Row) → IsClaim D (named_row names row) → IsInRange problem row
  claim-back row claim = record { least = claim.0; most = claim.1 }

  pub shown-forth : (entry : Entry) → IsEnough problem entry → IsShown D (named_entry names entry)
  shown-forth entry enough = subst (λ n. entry.row.support ≤ n) (sym (weights-same names others problem renames named entry.paths)) enough

  pub shown-back : (entry : Entry) → IsShown D (named_entry names entry) → IsEnough problem entry
  shown-back entry shown = subst (λ n. entry.row.support ≤ n) (weights-same names others problem renames named entry.paths) shown

  proved-forth : (entries : List Entry) → AllByRecursion (IsProved problem) entries → AllByRecursion (IsProvedRow D) (map (named_entry names) entries)
  proved-forth [] all = tt
  proved-forth (entry ∷ entries) all = (
    record {
      claim = claim-forth entry.row all.0.range;
      each = all-forth names others problem renames named entry.row entry.paths all.0.paths.each;
      rise = all.0.paths.rise;
      enough = shown-forth entry all.0.enough;
    },
    proved-forth entries all.1,
  )

  proved-back : (entries : List Entry) → AllByRecursion (IsKnown names) entries → AllByRecursion (IsProvedRow D) (map (named_entry names) entries)
      → AllByRecursion (IsProved problem) entries
  proved-back [] have all = tt
  proved-back (entry ∷ entries) have all = (
    record {
      range = claim-back entry.row all.0.claim;
      paths = record { each = all-same names others problem renames named entry.row entry.paths have.0 all.0.each; rise = all.0.rise };
      enough = shown-back entry all.0.enough;
    },
    proved-back entries have.1 all.1,
  )

  module _ (known : List (List ℕ)) (held : (name : List ℕ) → (Contains known name ↔ Contains names name)) (lines : List (List ℕ)) (count : ℕ) where
    pub good-forth : IsGood problem names lines count → IsGoodProof D known lines count
    good-forth good = record {
      rows = map (named_entry names) good.entries;
      said = say-forth names known held [] lines good.entries good.said;
      ordered = subst Rises (sym (rows-named names good.entries)) good.rise;
      proved = proved-forth good.entries good.proved;
      counted = good.counted ∙ sym (length-map good.entries (named_entry names));
    }

    -- the rows of a good proof are those of a good proof by numbers
    pub good-from : (good : IsGoodProof D known lines count) → (own : IsGood problem names lines count) × (map (named_entry names) own.entries ≡ good.rows)
    good-from good =
        let (entries, same, said) = say-back names known held [] lines good.rows good.said in (
          record {
            entries = entries;
            said = said;
            rise = subst Rises (rows-named names entries) (subst (λ rows. Rises (map (λ (row : ProofRow). row.row) rows)) (sym same) good.ordered);
            proved = proved-back entries (say-known names known held [] lines entries said tt) (subst (AllByRecursion (IsProvedRow D)) (sym same) good.proved);
            counted = good.counted ∙ ap length (sym same) ∙ length-map entries (named_entry names);
          },
          same,
        )
