-- A proof of the answer is good.
use Rattle.std.proofs.Common.{◌≢◌, ℕ, zero, suc, ◌+◌, ◌*◌, ◌^◌, ◌<◌, ◌≤◌, inl, inr, List, [], ◌∷◌, map, length, get_or, sym, ap, ◌∙◌, subst, arith}
use Rattle.std.specs.List.{AllByRecursion, AllPairs, Contains}
use Rattle.std.proofs.lemmas.List.{length-map}
use Rattle.std.proofs.lemmas.Simd.{map-map}
use Rattle.std.proofs.lemmas.List.Kept.{AllPairs-cons}
use Rattle.mine_model.specs.declared.item.Item.{Item}
use Rattle.mine_model.specs.declared.row.Row.{Row}
use Rattle.mine_model.specs.Answer.{Rises}
use Rattle.mine_model.specs.Database.{sequence_at}
use Rattle.mine_model.specs.Limits.{most_support, most_sequences, most_weight, most_leaves}
use Rattle.mine_model.specs.Names.{HasName, named_row}
use Rattle.mine_model.specs.Numbered.{AreFrequent}
use Rattle.mine_model.specs.Support.{Sequence, Counts}
use Rattle.mine_model.specs.Text.{lines_of}
use Rattle.mine_model.proofs.AliveLemmas.{Counts-part}
use Rattle.mine_model.proofs.ListLemmas.{AllByRecursion-from, Contains-by, Contains-from, AllByRecursion-contained, AllByRecursion-weaker}
use Rattle.mining_job.specs.Problems.{Problem, IsWhole, data_of}
use Rattle.pattern_proof.proofs.RunLemmas.{path-states}
use Rattle.pattern_proof.specs.ProofLines.{Cited, Entry, Say, AreFileNames}
use Rattle.pattern_proof.specs.Proofs.{IsGoodPath, IsEnough, IsProved, IsFull, IsGood, IsProofOf, RiseByPlace, weight_of}
use Rattle.pattern_proof.proofs.SoundLemmas.{HasPattern}
use Rattle.pattern_proof.proofs.WrittenLemmas.{IsWritable, written-say}

-- what is counted weighs no more than all
counts-most : (Has : List Item → Type 0) (sequences : List (Sequence Item)) (n : ℕ) → AllByRecursion (λ s. s.weight ≤ most_weight) sequences
    → Counts Has sequences n → n ≤ length sequences * most_weight
counts-most Has [] n light counted = omega (arith, counted)
counts-most Has (s ∷ sequences) n light (inl p) =
    let rest = counts-most Has sequences p.1.0 light.1 p.1.2 in let first = light.0 in let sum = p.1.1 in omega (arith, rest, first, sum)
counts-most Has (s ∷ sequences) n light (inr p) = let rest = counts-most Has sequences n light.1 p.1 in omega (arith, rest)

rise-pairs : (paths : List Cited) → RiseByPlace paths → AllPairs (λ low high. low < high) (map (λ (path : Cited). path.place) paths)
rise-pairs [] rise = λ i j d less within. absurd (omega (arith, less, within))
rise-pairs (path ∷ paths) rise =
    AllPairs-cons (λ low high. low < high) path.place (map (λ (p : Cited). p.place) paths)
    (λ k d below. at paths rise.0 k d below) (rise-pairs paths rise.1)
  where
    at : (others : List Cited) → AllByRecursion (λ (o : Cited). path.place < o.place) others → (k d : ℕ) → k < length (map (λ (p : Cited). p.place) others)
        → path.place < get_or (map (λ (p : Cited). p.place) others) k d
    at [] all k d below = absurd (omega (arith, below))
    at (o ∷ others) all zero d below = all.0
    at (o ∷ others) all (suc k) d below = at others all.1 k d (omega (arith, below))

module _ (problem : Problem) (whole : IsWhole problem) (names : List (List ℕ)) (sound : AreFileNames names)
    (few : length problem.sequences ≤ most_sequences) (light : AllByRecursion (λ s. s.weight ≤ most_weight) problem.sequences) (small : length problem.transducer.labels ≤ most_leaves) where
  part-most : (Has : List Item → Type 0) (paths : List Cited) (n : ℕ)
      → Counts Has (map (λ i. sequence_at problem.sequences i) (map (λ (path : Cited). path.place) paths)) n → n ≤ weight_of problem paths
  part-most Has [] n counted = omega (arith, counted)
  part-most Has (path ∷ paths) n (inl p) = let rest = part-most Has paths p.1.0 p.1.2 in let sum = p.1.1 in omega (arith, rest, sum)
  part-most Has (path ∷ paths) n (inr p) = let rest = part-most Has paths n p.1 in omega (arith, rest)

  -- paths over all sequences that have the pattern weigh its support
  full-enough : (entry : Entry) → entry.row.pattern ≢ [] → IsFull problem entry → Counts (HasPattern problem entry.row) problem.sequences entry.row.support → IsEnough problem entry
  full-enough entry some full support =
      part-most (HasPattern problem entry.row) entry.paths entry.row.support
      ((Counts-part (HasPattern problem entry.row) problem.sequences (map (λ (path : Cited). path.place) entry.paths) (rise-pairs entry.paths full.paths.rise)
      (λ i held. (let (path, inside, is) = Contains-from (λ (p : Cited). p.place) entry.paths i held in
      let good : IsGoodPath problem entry.row path = AllByRecursion-contained (IsGoodPath problem entry.row) entry.paths path full.paths.each inside in
      subst (λ n. n < length problem.sequences) (sym is) good.there))
      (λ i below has. full.all i below has)
      entry.row.support).1 support)

  module _ (rows : List Row) (frequent : AreFrequent (data_of problem) rows) (known : AllByRecursion (λ row. AllByRecursion (HasName names) row.pattern) rows)
      (bytes : List ℕ) (proof : IsProofOf problem names rows bytes) where
    of-entry : (entry : Entry) → Contains proof.entries entry → IsProved problem entry × IsWritable names entry
    of-entry entry held =
        let full : IsFull problem entry = AllByRecursion-contained (IsFull problem) proof.entries entry proof.full held in
        let row_held = subst (λ l. Contains l entry.row) proof.same (Contains-by (λ (e : Entry). e.row) proof.entries entry held) in
        let is = (frequent.frequent entry.row).0 row_held in
        let most : entry.row.support ≤ most_support = (let all = counts-most (HasPattern problem entry.row) problem.sequences entry.row.support light is.exact in omega (arith, all, few)) in (
          record {
            range = record { least = is.enough; most = most };
            paths = full.paths;
            enough = full-enough entry is.not_empty full is.exact;
          },
          record {
            small = omega (arith, most);
            some = is.not_empty;
            known = AllByRecursion-contained (λ (row : Row). AllByRecursion (HasName names) row.pattern) rows entry.row known row_held;
            paths = AllByRecursion-weaker (IsGoodPath problem entry.row) (λ (path : Cited). (path.place + 1 < 2 ^ 64) × AllByRecursion (λ n. n < 2 ^ 64) path.states)
                (λ path good. (
                  (let there = good.there in omega (arith, there, few)),
                  AllByRecursion-weaker (λ n. n ≤ length problem.transducer.labels) (λ n. n < 2 ^ 64) (λ n less. omega (arith, less, small)) path.states
                      (path-states problem whole path.place path.states entry.row.pattern good.run),
                )) entry.paths full.paths.each;
          },
        )

    -- a proof of the answer is good
    pub proof-good : Rises (map (named_row names) rows) → IsGood problem names (lines_of bytes) (length rows)
    proof-good rise = record {
      entries = proof.entries;
      said = subst (λ b. Say names (lines_of b) proof.entries) (sym proof.text)
          (written-say names sound proof.entries (AllByRecursion-from (IsWritable names) proof.entries (λ entry held. (of-entry entry held).1)));
      rise = subst Rises (ap (map (named_row names)) (sym proof.same) ∙ map-map (named_row names) (λ (entry : Entry). entry.row) proof.entries) rise;
      proved = AllByRecursion-from (IsProved problem) proof.entries (λ entry held. (of-entry entry held).0);
      counted = ap length (sym proof.same) ∙ length-map proof.entries (λ (entry : Entry). entry.row);
    }
