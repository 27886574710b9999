use Rattle.std.proofs.Common.{◌≡◌, ◌∙◌, ◌+◌, ℕ, Option, length, ap, subst, slice_index}
use Rattle.mine_model.specs.declared.item.Item.{Item}
use Rattle.mine_model.specs.Database.{sequence_at}
use Rattle.mine_model.specs.Support.{Sequence}
use Rattle.mining_job.specs.Problems.{data_of}
use Rattle.sequence_grids.specs.Grids.{GridList}
use Rattle.sequence_candidates.specs.Candidates.{AreCandidates}
use Rattle.prefix_sieve.specs.Fronts.{IsPassed}
use Rattle.prefix_sieve.specs.Hashes.{hash_of}
use Rattle.sieve_passes.specs.Branches.{part_of}
use Rattle.sieve_passes.proofs.LeadLemmas.{begun-nodes}
use Rattle.sieve_passes.proofs.passing.pass_over.Goals as goal

pub returns-clause-added : goal.returns-clause-added
returns-clause-added c =
    let problem = c.args.branches.now.part.problem in
    let sequences = c.args.branches.now.part.sequences in
    let levels = c.args.sieve.now in
    let sequence : Sequence Item = sequence_at problem.sequences (slice_index sequences c.args.index) in
    let value = c.pass.new.branches in
    let part : value.part ≡ part_of problem sequences = ap (λ (p : GridList × Option ℕ). p.0) c.pass.ensures.ground ∙ c.begin.ensures.part ∙ c.requires.part in
    let begun : value.begun ≡ c.begin.new.self.begun = ap (λ (p : GridList × Option ℕ). p.1) c.pass.ensures.ground in
    let are : AreCandidates (part_of problem sequences) sequence.items value.nodes =
    begun-nodes (part_of problem sequences) c.begin.new.self.begun c.args.index value part begun c.in_ok-begin.ensures.begun.begun c.pass.ensures.begun in
    let leads = c.candidates_lead_to_all.ensures problem sequences sequence.items value.nodes c.requires.whole are in
    let passed : IsPassed levels sequence.weight value.nodes c.args.buckets.now c.pass.new.buckets =
    subst (λ (w : ℕ). IsPassed levels w value.nodes c.args.buckets.now c.pass.new.buckets) c.requires.weight c.in_ok-pass.ensures.passed in
    let raised = c.a_pass_raises_what_it_has_to.ensures (data_of problem) problem.ranking.order levels sequence value.nodes c.args.buckets.now c.pass.new.buckets leads passed in
    λ some has. c.one_more_sequence.ensures.more (data_of problem) problem.ranking.order hash_of levels (length levels + 1) some sequence c.args.buckets.now c.pass.new.buckets has raised
