-- What all workers found is the answer and its work.
use Rattle.std.proofs.Common.{◌≡◌, ◌↔◌, ℕ, ◌≤◌, ◌<◌, Some, Result, Ok, List, [], length, sym, ap, ◌∙◌, subst}
use Rattle.std.specs.List.{All, AllByRecursion, Contains, slice_get}
use Rattle.std.proofs.lemmas.List.{length-map}
use Rattle.mine_model.specs.declared.item.Item.{Item}
use Rattle.mine_model.specs.declared.memory.NoMemory.{NoMemory}
use Rattle.mine_model.specs.declared.row.Row.{Row}
use Rattle.mine_model.specs.Numbered.{AreFrequent}
use Rattle.mine_model.specs.Pivots.{IsAliveLabel}
use Rattle.mine_model.proofs.ElementLemmas.{slice_get-mapped_by}
use Rattle.mining_job.specs.declared.part_seed.PartSeed.{PartSeed}
use Rattle.mining_job.specs.Problems.{Problem, data_of, IsWhole}
use Rattle.mining_job.proofs.ItemLemmas.{items-known, frequent-within}
use Rattle.pivot_partition.specs.Pivots.{pivots_in}
use Rattle.automaton_model.specs.Work.{IsAutomatonWork}
use Rattle.cand_automaton.specs.declared.parts.Done.{Done}
use Rattle.cand_automaton.specs.Pivots.{AreRowsOfPivots, AreSetsOfPivots}
use Rattle.cand_automaton.specs.Workers.{AreSeeds, IsDone, AreTried, AreGathered}
use Rattle.cand_automaton.proofs.PivotsLemmas.{rows-all, sets-all}
use Rattle.cand_automaton.proofs.WorkerLemmas.{found-all}

module _ (problem : Problem) (whole : IsWhole problem)
    (ends : All (λ link. (link.child.0 < problem.hierarchy.items) × (link.parent.0 < problem.hierarchy.items)) problem.hierarchy.links) where
  module _ (seeds : List PartSeed) (are : AreSeeds problem seeds) (workers : ℕ) (some : 1 ≤ workers)
      (results : List (Result Done NoMemory)) (tried : AreTried problem seeds workers results) (all : Done) (gathered : AreGathered results all) where
    each-done : (k : ℕ) (done : Done) → slice_get gathered.found k ≡ Some done → IsDone problem seeds workers k done
    each-done k done at =
        let answered : Done → Result Done NoMemory = λ (x : Done). Ok x in
        tried.each k done (ap (λ (l : List (Result Done NoMemory)). slice_get l k) gathered.each ∙ slice_get-mapped_by answered gathered.found k done at)

    -- what was found is that of all seeds
    all-found : AreRowsOfPivots (data_of problem) problem.ranking.order (pivots_in seeds) all.rows.items × AreSetsOfPivots (data_of problem) problem.ranking.order (pivots_in seeds) all.sets
    all-found =
        let answered : Done → Result Done NoMemory = λ (x : Done). Ok x in
        let long : length gathered.found ≡ workers = sym (length-map gathered.found answered) ∙ sym (ap (λ (l : List (Result Done NoMemory)). length l) gathered.each) ∙ tried.all in
        let (rows, sets) = found-all (data_of problem) problem.ranking.order whole.ranks.once (pivots_in seeds) are.rising (λ pivot held. (are.alive pivot held).0) workers gathered.found some long each-done in (
          subst (AreRowsOfPivots (data_of problem) problem.ranking.order (pivots_in seeds)) (sym gathered.rows) rows,
          subst (AreSetsOfPivots (data_of problem) problem.ranking.order (pivots_in seeds)) (sym gathered.sets) sets,
        )

    module _ (alive : (pivot : ℕ) → Contains (pivots_in seeds) pivot ↔ ((1 ≤ pivot) × IsAliveLabel (data_of problem) problem.ranking.order pivot [])) where
      -- THE ROWS are the frequent patterns
      pub mined-rows : AreFrequent (data_of problem) all.rows.items
      mined-rows = rows-all (data_of problem) problem.ranking whole.ranks (pivots_in seeds) alive (items-known problem whole ends) all.rows.items all-found.0

      pub mined-items : (row : Row) → Contains all.rows.items row → AllByRecursion (λ (t : Item). t.0 < problem.hierarchy.items) row.pattern
      mined-items row held = frequent-within problem whole ends row ((mined-rows.frequent row).0 held)

      -- THE WORK is the number of the sets
      pub mined-work : IsAutomatonWork (data_of problem) problem.ranking.order (record { nodes = 0; parts = all.sets; candidates = 0 })
      mined-work = sets-all (data_of problem) problem.ranking whole.ranks (pivots_in seeds) alive all.sets all-found.1
