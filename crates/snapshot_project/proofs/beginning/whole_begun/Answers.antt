use Rattle.std.proofs.Common.{◌≡◌, ℕ, ◌<◌, false, None, List, length, refl, sym, subst}
use Rattle.std.specs.List.{AllByRecursion}
use Rattle.std.proofs.lemmas.Result.{IfOk-weaker}
use Rattle.mining_job.specs.declared.bound.Bound.{Bound}
use Rattle.mining_job.specs.Problems.{items_of}
use Rattle.sequence_grids.specs.Grids.{GridList, Completes}
use Rattle.snapshot_project.specs.Snapshots.{bound_of}
use Rattle.snapshot_project.specs.Terrains.{IsTerrainOf, AreStarts, AreAll, IsWholePart}
use Rattle.snapshot_project.proofs.PartLemmas.{part-begun, all-within, all-complete}
use Rattle.snapshot_project.proofs.beginning.whole_begun.Goals as goal

pub starts_of_all-requires : goal.starts_of_all-requires
starts_of_all-requires c =
    let job = c.args.job.now in
    subst (AllByRecursion (λ i. i < length job.sequences)) (sym c.as_slice.ensures.value)
    (all-within job (bound_of (length job.ranking.order) None) c.args.sequences.items c.requires.all)

pub begun_at-requires : goal.begun_at-requires
begun_at-requires c =
    let job = c.args.job.now in
    let numbers = c.args.sequences.items in
    let bound : c.whole_bound-bound.result ≡ bound_of (length job.ranking.order) None = c.whole_bound-bound.ensures.bound in
    let part : GridList = record { problem = job; bound = c.whole_bound-bound.result; sequences = numbers } in
    let all : AreAll job part.bound numbers = subst (λ (b : Bound). AreAll job b numbers) (sym bound) c.requires.all in
    let slice : c.as_slice.result.now ≡ numbers = c.as_slice.ensures.value in
    let complete : AllByRecursion (λ i. Completes job part.bound (items_of job i) 0 false) c.as_slice.result.now =
    subst (AllByRecursion (λ i. Completes job part.bound (items_of job i) 0 false)) (sym slice) (all-complete job part.bound numbers all) in
    record {
      part = part-begun job c.whole_bound-bound.ensures.whole part.bound None bound tt numbers all.rising (all-within job part.bound numbers all);
      terrain = subst (λ (b : Bound). IsTerrainOf (record part { bound = b }) c.args.terrain) (sym bound) c.requires.terrain;
      starts = subst (λ (l : List ℕ). AreStarts (record part { sequences = l }) (length l) c.in_ok-starts.starts.items) slice (c.in_ok-starts.ensures part.bound complete);
    }

pub returns-clause-part : goal.returns-clause-part
returns-clause-part c =
    let job = c.args.job.now in
    let bound : c.whole_bound-bound.result ≡ bound_of (length job.ranking.order) None = c.whole_bound-bound.ensures.bound in
    let part : GridList = record { problem = job; bound = c.whole_bound-bound.result; sequences = c.args.sequences.items } in
    let whole : IsWholePart job part = record {
      problem_is = refl;
      bound_is = bound;
      sequences_are = subst (λ (b : Bound). AreAll job b c.args.sequences.items) (sym bound) c.requires.all;
    } in
    IfOk-weaker c.begun_at.result (λ begun. begun.0 ≡ part) (λ begun. IsWholePart job begun.0)
    (λ begun same. subst (IsWholePart job) (sym same) whole) c.begun_at.ensures.part
