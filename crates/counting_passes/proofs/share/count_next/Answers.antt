use Rattle.std.proofs.Common.{◌≡◌, ◌∙◌, ◌+◌, ◌∷◌, ◌++◌, [], ℕ, Option, length, sym, ap, subst, arith, slice_index}
use Rattle.std.proofs.lemmas.List.{length_push}
use Rattle.mine_model.specs.declared.item.Item.{Item}
use Rattle.mine_model.specs.Database.{sequence_at}
use Rattle.mine_model.specs.Limits.{most_weight}
use Rattle.mine_model.specs.Support.{Sequence}
use Rattle.mining_job.specs.Problems.{data_of}
use Rattle.sequence_grids.specs.Grids.{GridList}
use Rattle.sequence_candidates.specs.Candidates.{AreCandidates}
use Rattle.sieved_counts.specs.Counted.{HasCounted, AreShort}
use Rattle.sieve_passes.specs.Branches.{part_of}
use Rattle.sieve_passes.proofs.LeadLemmas.{begun-nodes}
use Rattle.counting_passes.specs.Counts.{GrowsUpTo}
use Rattle.counting_passes.proofs.SumLemmas.{grown-by, grown-more}
use Rattle.counting_passes.proofs.share.count_next.Goals as goal

pub returns-clause-grown : goal.returns-clause-grown
returns-clause-grown c =
    grown-more c.args.weight most_weight c.args.counts.now c.count.new.counts c.requires.light
    (grown-by c.args.sieve.now c.args.weight c.args.longest c.count.new.branches.nodes c.args.counts.now c.count.new.counts c.in_ok-count.ensures.counted)

pub returns-clause-counted : goal.returns-clause-counted
returns-clause-counted c =
    let problem = c.args.branches.now.part.problem in
    let sequences = c.args.branches.now.part.sequences in
    let levels = c.args.sieve.now in
    let sequence : Sequence Item = sequence_at problem.sequences (slice_index sequences c.args.index) in
    let value = c.count.new.branches in
    let before = c.args.counts.now in
    let after = c.count.new.counts in
    let part : value.part ≡ part_of problem sequences = ap (λ (p : GridList × Option ℕ). p.0) c.count.ensures.ground ∙ c.begin.ensures.part ∙ c.requires.part in
    let begun : value.begun ≡ c.begin.new.self.begun = ap (λ (p : GridList × Option ℕ). p.1) c.count.ensures.ground in
    let are : AreCandidates (part_of problem sequences) sequence.items value.nodes =
    begun-nodes (part_of problem sequences) c.begin.new.self.begun c.args.index value part begun c.in_ok-begin.ensures.begun.begun c.count.ensures.begun in
    let leads = c.graphs_lead_to_candidates.ensures.leads problem sequences sequence.items value.nodes c.requires.whole are in
    let short : AreShort (data_of problem) problem.ranking.order sequence.items c.args.longest =
    subst (AreShort (data_of problem) problem.ranking.order sequence.items) (sym c.requires.longest) (c.graphs_lead_to_candidates.ensures.short problem sequence.items) in
    let has : HasCounted levels sequence.weight c.args.longest value.nodes before after =
    subst (λ (w : ℕ). HasCounted levels w c.args.longest value.nodes before after) c.requires.weight c.in_ok-count.ensures.counted in
    let grown : GrowsUpTo c.args.weight before after =
    grown-by levels c.args.weight c.args.longest value.nodes before after c.in_ok-count.ensures.counted in
    λ some sums. record {
      counted = c.one_more_sequence_is_counted.ensures (data_of problem) problem.ranking.order levels some sequence c.args.longest value.nodes before after sums.counted has short leads;
      most = λ list.
          let old = sums.most list in
          let more = grown list in
          let long : length (some ++ sequence ∷ []) ≡ length some + 1 = length_push some sequence in
          omega (arith, old, more, long, c.requires.light);
    }
