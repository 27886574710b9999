use Rattle.std.proofs.Common.{rules, ◌≡◌, ℕ, ◌-◌, ◌≤◌, ◌<◌, false, None, List, length, get_or, sym, ap, ◌∙◌, subst, arith}
use Rattle.std.specs.Arc.{arc_value}
use Rattle.stand_sums.specs.Runs.{RunValue}
use Rattle.std.specs.List.{AllByRecursion, slice_range}
use Rattle.std.proofs.lemmas.List.{take_all}
use Rattle.sequence_grids.specs.Grids.{GridList}
use Rattle.place_walk.specs.declared.stand.Stand.{Stand}
use Rattle.snapshot_project.specs.Snapshots.{bound_of}
use Rattle.snapshot_project.specs.Grouped.{AreWeights}
use Rattle.snapshot_project.specs.Layouts.{MayHaveStarts}
use Rattle.snapshot_project.specs.Terrains.{IsTerrainOf, AreStarts}
use Rattle.snapshot_project.proofs.PartLemmas.{rising-few, part-begun}
use Rattle.snapshot_project.proofs.BeginLemmas.{all-by-place, starts-projected}
use Rattle.snapshot_project.proofs.beginning.begin.Goals as goal

pub starts_of-requires : goal.starts_of-requires
starts_of-requires c =
    let part : GridList = record { problem = c.args.job.now; bound = c.bound_by-bound.result; sequences = c.args.sequences.items } in
    let grids : c.in_ok-grids.grids ≡ part = c.in_ok-grids.ensures ∙ ap (λ (l : List ℕ). record part { sequences = l }) c.as_slice.ensures.value in
    let fit : (k : ℕ) → k < length part.sequences → get_or part.sequences k 0 < 4294967296 = λ k inside. search rules in
    let few : length part.sequences ≤ 4294967296 = rising-few part.sequences 4294967296 c.requires.rising (all-by-place (λ (i : ℕ). i < 4294967296) part.sequences fit) in
    record {
      problem = ap (λ (g : GridList). g.problem) grids;
      within = subst (λ (g : GridList). AllByRecursion (λ (i : ℕ). i < length c.args.job.now.sequences) g.sequences) (sym grids) c.requires.within;
      few = subst (λ (g : GridList). length g.sequences ≤ 4294967296) (sym grids) few;
    }

pub part_of-requires : goal.part_of-requires
part_of-requires c =
    let job = c.args.job.now in
    let part : GridList = record { problem = job; bound = c.bound_by-bound.result; sequences = c.args.sequences.items } in
    let count : c.count.result ≡ length job.ranking.order = c.count.ensures.count ∙ ap (λ r. length r.order) c.ranks.ensures.ranking in
    let bound : part.bound ≡ bound_of (length job.ranking.order) c.args.pivot = c.bound_by-bound.ensures ∙ ap (λ (n : ℕ). bound_of n c.args.pivot) count in
    let grids : c.in_ok-grids.grids ≡ part = c.in_ok-grids.ensures ∙ ap (λ (l : List ℕ). record part { sequences = l }) c.as_slice.ensures.value in
    let weights : AreWeights (record part { sequences = c.as_slice-2.result.now }) c.in_ok-weights.weights.items = c.in_ok-weights.ensures part.bound in
    record {
      kept = record {
        part_is = part-begun job c.ranks.ensures.whole part.bound c.args.pivot bound c.requires.most part.sequences c.requires.rising c.requires.within;
        terrain_is = subst (λ (g : GridList). IsTerrainOf g c.in_ok-terrain.terrain) grids c.in_ok-terrain.ensures;
        weights_are = subst (λ (l : List ℕ). AreWeights (record part { sequences = l }) c.in_ok-weights.weights.items) c.as_slice-2.ensures.value weights;
        starts_are = subst (λ (l : List ℕ). MayHaveStarts (record part { sequences = l }) c.in_ok-firsts.firsts.items) c.as_slice-3.ensures.value (c.in_ok-firsts.ensures part.bound);
      };
    }

pub returns-clause-part : goal.returns-clause-part
returns-clause-part c =
    let job = c.args.job.now in
    let part : GridList = record { problem = job; bound = c.bound_by-bound.result; sequences = c.args.sequences.items } in
    let count : c.count.result ≡ length job.ranking.order = c.count.ensures.count ∙ ap (λ r. length r.order) c.ranks.ensures.ranking in
    let bound : part.bound ≡ bound_of (length job.ranking.order) c.args.pivot = c.bound_by-bound.ensures ∙ ap (λ (n : ℕ). bound_of n c.args.pivot) count in
    c.in_ok-part.ensures ∙ ap (λ b. record part { bound = b }) bound

pub returns-clause-start : goal.returns-clause-start
returns-clause-start c =
    let job = c.args.job.now in
    let part : GridList = record { problem = job; bound = c.bound_by-bound.result; sequences = c.args.sequences.items } in
    let count : c.count.result ≡ length job.ranking.order = c.count.ensures.count ∙ ap (λ r. length r.order) c.ranks.ensures.ranking in
    let bound : part.bound ≡ bound_of (length job.ranking.order) c.args.pivot = c.bound_by-bound.ensures ∙ ap (λ (n : ℕ). bound_of n c.args.pivot) count in
    let grids : c.in_ok-grids.grids ≡ part = c.in_ok-grids.ensures ∙ ap (λ (l : List ℕ). record part { sequences = l }) c.as_slice.ensures.value in
    let starts : List Stand = c.in_ok-starts.starts.items in
    let are : AreStarts part (length part.sequences) starts = subst (λ (g : GridList). AreStarts g (length g.sequences) starts) grids c.in_ok-starts.ensures in
    let run : (arc_value c.in_ok-run.run').stands ≡ starts = ap (λ (v : RunValue). v.stands) (c.in_ok-run.ensures.ok ∙ c.of.ensures) in
    let last : c.len-last.result ≡ length starts = omega (arith, c.len-last.ensures, c.in_ok-starts.starts.ok) in
    let whole : slice_range (arc_value c.in_ok-run.run').stands 0 c.len-last.result ≡ starts =
    ap (λ (l : List Stand). slice_range l 0 c.len-last.result) run ∙ take_all (c.len-last.result - 0) starts (omega arith) in
    let list : c.new-2.result ≡ record { seen = false; support = 0; stands = starts; next = None; bytes = None } = c.new-2.ensures
    ∙ ap (λ (l : List Stand). record { seen = false; support = 0; stands = l; next = None; bytes = None }) whole in
    rw c.in_ok-part.ensures (starts-projected part (part-begun job c.ranks.ensures.whole part.bound c.args.pivot bound c.requires.most part.sequences c.requires.rising c.requires.within)
    starts are c.new-2.result list)
