use Rattle.std.proofs.Common.{◌≡◌, ℕ, ◌-◌, false, None, List, length, ap, ◌∙◌, subst, arith}
use Rattle.std.specs.Arc.{arc_value}
use Rattle.stand_sums.specs.Runs.{RunValue}
use Rattle.std.specs.List.{slice_range}
use Rattle.std.proofs.lemmas.List.{take_all}
use Rattle.sequence_grids.specs.Grids.{GridList}
use Rattle.place_walk.specs.declared.stand.Stand.{Stand}
use Rattle.snapshot_project.specs.Grouped.{AreWeights}
use Rattle.snapshot_project.specs.Layouts.{MayHaveStarts}
use Rattle.snapshot_project.proofs.BeginLemmas.{starts-projected}
use Rattle.snapshot_project.proofs.beginning.begun_at.Goals as goal

pub part_of-requires : goal.part_of-requires
part_of-requires c =
    let part : GridList = record { problem = c.args.job.now; bound = c.args.bound; sequences = c.args.sequences.items } in
    let weights : AreWeights (record part { sequences = c.as_slice.result.now }) c.in_ok-weights.weights.items = c.in_ok-weights.ensures part.bound in
    record {
      kept = record {
        part_is = c.requires.part;
        terrain_is = c.requires.terrain;
        weights_are = subst (λ (l : List ℕ). AreWeights (record part { sequences = l }) c.in_ok-weights.weights.items) c.as_slice.ensures.value weights;
        starts_are = subst (λ (l : List ℕ). MayHaveStarts (record part { sequences = l }) c.in_ok-firsts.firsts.items) c.as_slice-2.ensures.value (c.in_ok-firsts.ensures part.bound);
      };
    }

pub returns-clause-start : goal.returns-clause-start
returns-clause-start c =
    let part : GridList = record { problem = c.args.job.now; bound = c.args.bound; sequences = c.args.sequences.items } in
    let starts : List Stand = c.args.starts.items in
    let run : (arc_value c.in_ok-run.run').stands ≡ starts = ap (λ (v : RunValue). v.stands) (c.in_ok-run.ensures.ok ∙ c.of.ensures) in
    let last : c.len-last.result ≡ length starts = omega (arith, c.len-last.ensures, c.args.starts.ok) in
    let whole : slice_range (arc_value c.in_ok-run.run').stands 0 c.len-last.result ≡ starts =
    ap (λ (l : List Stand). slice_range l 0 c.len-last.result) run ∙ take_all (c.len-last.result - 0) starts (omega arith) in
    let list : c.new-2.result ≡ record { seen = false; support = 0; stands = starts; next = None; bytes = None } = c.new-2.ensures
    ∙ ap (λ (l : List Stand). record { seen = false; support = 0; stands = l; next = None; bytes = None }) whole in
    rw c.in_ok-part.ensures (starts-projected part c.requires.part starts c.requires.starts c.new-2.result list)
