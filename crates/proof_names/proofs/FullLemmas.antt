-- Proofs of an answer by the numbers of names, and by names.
use Rattle.std.proofs.Common.{◌≡◌, ℕ, List, [], ◌∷◌, ◌++◌, map, refl, sym, ap, ◌∙◌, subst}
use Rattle.std.specs.List.{AllByRecursion, flat_map}
use Rattle.std.proofs.lemmas.Option.{slice_get_within}
use Rattle.std.proofs.lemmas.Simd.{map-map}
use Rattle.mine_model.specs.declared.item.Item.{Item}
use Rattle.mine_model.specs.declared.row.Row.{Row}
use Rattle.mine_model.specs.Answer.{Data}
use Rattle.mine_model.specs.Generation.{IsPatternOf}
use Rattle.mine_model.specs.Hierarchy.{Link}
use Rattle.mine_model.specs.Names.{name_of, HasName, AreNamed, named_row, sequence_by}
use Rattle.mine_model.specs.Numbered.{tree_of}
use Rattle.mine_model.specs.Support.{Sequence}
use Rattle.mine_model.proofs.ElementLemmas.{get-some, slice_get-mapped_by}
use Rattle.mine_model.proofs.NamedAnswer.{named_data}
use Rattle.mine_model.proofs.NumberingLemmas.{Renames, pattern-forth, pattern-same}
use Rattle.mining_job.specs.Problems.{Problem, data_of}
use Rattle.pattern_proof.specs.ProofLines.{Entry, text_of_entry}
use Rattle.pattern_proof.specs.Proofs.{IsFull, IsProofOf}
use Rattle.proof_names.specs.NamedProofs.{ProofRow, IsFullRow, IsProofText, proof_text}
use Rattle.proof_names.proofs.NamedSayLemmas.{named_entry, IsKnown}
use Rattle.proof_names.proofs.NamedGoodLemmas.{rows-named}
use Rattle.proof_names.proofs.PassLemmas.{mapped-from}
use Rattle.proof_names.proofs.ShowLemmas.{sequence-found, items-named, all-forth, all-same}

-- the text of a proof is that by names
pub text-named : (names : List (List ℕ)) (entries : List Entry) → flat_map (text_of_entry names) entries ≡ proof_text (map (named_entry names) entries)
text-named names [] = refl
text-named names (entry ∷ entries) = ap (λ l. text_of_entry names entry ++ l) (text-named names entries)

answer-named : (names : List (List ℕ)) (entries : List Entry)
    → map (λ (row : ProofRow). row.row) (map (named_entry names) entries) ≡ map (named_row names) (map (λ (entry : Entry). entry.row) entries)
answer-named names entries = rows-named names entries ∙ sym (map-map (named_row names) (λ (entry : Entry). entry.row) entries)

-- what holds of all rows holds of those of the entries
of-rows : (P : Row → Type 0) (entries : List Entry) → AllByRecursion P (map (λ (entry : Entry). entry.row) entries) → AllByRecursion (λ (entry : Entry). P entry.row) entries
of-rows P [] all = tt
of-rows P (entry ∷ entries) all = (all.0, of-rows P entries all.1)

module _ (names : List (List ℕ)) (others : List (Link (List ℕ))) (problem : Problem)
    (renames : Renames problem.hierarchy.links others (HasName names) (name_of names)) (named : AreNamed names (data_of problem)) where
  abbrev D : Data (List ℕ)
  D = named_data names others (data_of problem)

  abbrev HasOwn : List Item → List Item → Type 0
  HasOwn pattern items = IsPatternOf problem.hierarchy.links (tree_of problem.transducer.expression) items pattern

  -- Proofs that are full

  full-forth : (entry : Entry) → IsKnown names entry → IsFull problem entry → IsFullRow D (named_entry names entry)
  full-forth entry have full = record {
    each = all-forth names others problem renames named entry.row entry.paths full.paths.each;
    rise = full.paths.rise;
    all = λ place sequence at is.
        let (s, found, same) = mapped-from (sequence_by (name_of names)) problem.sequences place sequence at in
        let own = pattern-same problem.hierarchy.links others (HasName names) (name_of names) renames (tree_of problem.transducer.expression) named.expression
        s.items entry.row.pattern (items-named names others problem renames named place s found) have
        (subst (λ (t : Sequence (List ℕ)). IsPatternOf others D.expression t.items (map (name_of names) entry.row.pattern)) (sym same) is) in
        full.all place (slice_get_within problem.sequences place s found)
        (subst (λ (t : Sequence Item). HasOwn entry.row.pattern t.items) (sym (sequence-found problem.sequences place s found)) own);
  }

  full-back : (entry : Entry) → IsKnown names entry → IsFullRow D (named_entry names entry) → IsFull problem entry
  full-back entry have full = record {
    paths = record { each = all-same names others problem renames named entry.row entry.paths have full.each; rise = full.rise };
    all = λ place less is.
        let (s, found) = get-some problem.sequences place less in
        full.all place (sequence_by (name_of names) s) (slice_get-mapped_by (sequence_by (name_of names)) problem.sequences place s found)
        (pattern-forth problem.hierarchy.links others (HasName names) (name_of names) renames (tree_of problem.transducer.expression) named.expression
        s.items entry.row.pattern (items-named names others problem renames named place s found)
        (subst (λ (t : Sequence Item). HasOwn entry.row.pattern t.items) (sequence-found problem.sequences place s found) is));
  }

  all-full-forth : (entries : List Entry) → AllByRecursion (IsKnown names) entries → AllByRecursion (IsFull problem) entries
      → AllByRecursion (IsFullRow D) (map (named_entry names) entries)
  all-full-forth [] have all = tt
  all-full-forth (entry ∷ entries) have all = (full-forth entry have.0 all.0, all-full-forth entries have.1 all.1)

  all-full-back : (entries : List Entry) → AllByRecursion (IsKnown names) entries → AllByRecursion (IsFullRow D) (map (named_entry names) entries)
      → AllByRecursion (IsFull problem) entries
  all-full-back [] have all = tt
  all-full-back (entry ∷ entries) have all = (full-back entry have.0 all.0, all-full-back entries have.1 all.1)

  -- a proof of rows is one of the rows by names
  pub proof-named : (rows : List Row) (bytes : List ℕ) → AllByRecursion (λ row. AllByRecursion (HasName names) row.pattern) rows
      → IsProofOf problem names rows bytes → IsProofText D (map (named_row names) rows) bytes
  proof-named rows bytes have proof = record {
    rows = map (named_entry names) proof.entries;
    same = answer-named names proof.entries ∙ ap (map (named_row names)) proof.same;
    full = all-full-forth proof.entries
        (of-rows (λ (row : Row). AllByRecursion (HasName names) row.pattern) proof.entries
        (subst (AllByRecursion (λ (row : Row). AllByRecursion (HasName names) row.pattern)) (sym proof.same) have)) proof.full;
    written = proof.text ∙ text-named names proof.entries;
  }
