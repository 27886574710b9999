-- What a good proof proves.
use Rattle.std.proofs.Common.{◌≡◌, ◌≢◌, ℕ, ◌≤◌, ◌<◌, List, [], ◌∷◌, length, ◌+◌, refl, ap, subst, arith}
use Rattle.std.specs.List.{Contains}
use Rattle.mine_model.specs.declared.item.Item.{Item}
use Rattle.mine_model.specs.declared.row.Row.{Row}
use Rattle.mine_model.specs.Database.{sequence_at}
use Rattle.mine_model.specs.Numbered.{tree_of}
use Rattle.mine_model.specs.Generation.{IsPatternOf}
use Rattle.mine_model.specs.Support.{HasSupport}
use Rattle.mine_model.specs.Growth.{WeighAtLeast}
use Rattle.mine_model.proofs.AliveLemmas.{WeighAtLeast-less, WeighAtLeast-counted}
use Rattle.mine_model.proofs.ListLemmas.{AllByRecursion-contained, AllByRecursion-weaker}
use Rattle.mining_job.specs.Problems.{Problem, IsWhole}
use Rattle.pattern_proof.specs.ProofLines.{Cited, Entry}
use Rattle.pattern_proof.specs.Proofs.{IsGoodPath, AreGoodPaths, weight_of, IsEnough, IsProved, IsGood}
use Rattle.pattern_proof.proofs.SayLemmas.{say-some}
use Rattle.pattern_proof.proofs.RunLemmas.{writes-generates}
use Rattle.pattern_proof.proofs.WeightLemmas.{summed, weigh-from}

-- the sequence has the pattern of the row
abbrev pub HasPattern : Problem → Row → List Item → Type 0
HasPattern problem row items = IsPatternOf problem.hierarchy.links (tree_of problem.transducer.expression) items row.pattern

module _ (problem : Problem) (whole : IsWhole problem) where
  weight-summed : (row : Row) (paths : List Cited) → summed (HasPattern problem row) (λ i. sequence_at problem.sequences i) paths ≡ weight_of problem paths
  weight-summed row [] = refl
  weight-summed row (path ∷ paths) = ap (λ n. (sequence_at problem.sequences path.place).weight + n) (weight-summed row paths)

  -- the sequences with the pattern weigh at least what the sequences of good paths weigh
  pub paths-weigh : (entry : Entry) → entry.row.pattern ≢ [] → AreGoodPaths problem entry
      → WeighAtLeast (HasPattern problem entry.row) problem.sequences (weight_of problem entry.paths)
  paths-weigh entry some good =
      subst (WeighAtLeast (HasPattern problem entry.row) problem.sequences) (weight-summed entry.row entry.paths)
      (weigh-from (HasPattern problem entry.row) 0 problem.sequences (λ i. sequence_at problem.sequences i) entry.paths (record {
        rise = good.rise;
        least = AllByRecursion-weaker (IsGoodPath problem entry.row) (λ (path : Cited). 0 ≤ path.place) (λ path is. omega arith) entry.paths good.each;
        most = AllByRecursion-weaker (IsGoodPath problem entry.row) (λ (path : Cited). path.place < 0 + length problem.sequences) (λ path is. (let there = is.there in omega (arith, there))) entry.paths good.each;
        has = AllByRecursion-weaker (IsGoodPath problem entry.row) (λ (path : Cited). HasPattern problem entry.row (sequence_at problem.sequences path.place).items)
            (λ path is. (some, writes-generates problem whole path.place path.states entry.row.pattern is.run)) entry.paths good.each;
        looked = λ k less. (let e : 0 + k ≡ k = omega arith in ap (λ n. sequence_at problem.sequences n) e);
      }))

  -- so the support of a row whose paths are enough is at least what the row says
  pub enough-weigh : (entry : Entry) → entry.row.pattern ≢ [] → AreGoodPaths problem entry → IsEnough problem entry
      → WeighAtLeast (HasPattern problem entry.row) problem.sequences entry.row.support
  enough-weigh entry some good enough =
      WeighAtLeast-less (HasPattern problem entry.row) problem.sequences (weight_of problem entry.paths) entry.row.support enough (paths-weigh entry some good)

  pub enough-support : (entry : Entry) (n : ℕ) → entry.row.pattern ≢ [] → AreGoodPaths problem entry → IsEnough problem entry
      → HasSupport problem.hierarchy.links (tree_of problem.transducer.expression) problem.sequences entry.row.pattern n → entry.row.support ≤ n
  enough-support entry n some good enough support =
      (WeighAtLeast-counted (HasPattern problem entry.row) problem.sequences n entry.row.support support).0 (enough-weigh entry some good enough)

-- the rows of a good proof are patterns, and their supports are at least what they say
pub good-proves : (problem : Problem) → IsWhole problem → (names : List (List ℕ)) (lines : List (List ℕ)) (rows : ℕ) → (good : IsGood problem names lines rows)
    → (entry : Entry) → Contains good.entries entry
    → (entry.row.pattern ≢ []) × WeighAtLeast (HasPattern problem entry.row) problem.sequences entry.row.support
    × ((n : ℕ) → HasSupport problem.hierarchy.links (tree_of problem.transducer.expression) problem.sequences entry.row.pattern n → entry.row.support ≤ n)
good-proves problem whole names lines rows good entry held =
    let proved : IsProved problem entry = AllByRecursion-contained (IsProved problem) good.entries entry good.proved held in
    let some : entry.row.pattern ≢ [] = AllByRecursion-contained (λ (e : Entry). e.row.pattern ≢ []) good.entries entry (say-some names [] lines good.entries good.said tt) held in
    (some, enough-weigh problem whole entry some proved.paths proved.enough, (λ n support. enough-support problem whole entry n some proved.paths proved.enough support))
