use Rattle.std.proofs.Common.{◌≡◌, ◌∙◌, ◌<◌, ℕ, List, length, refl, ap, slice_index, subst, arith}
use Rattle.mine_model.specs.declared.item.Item.{Item}
use Rattle.mine_model.specs.Counted.{HasCandidates, HasPairs, IsTold}
use Rattle.mine_model.specs.Support.{Sequence}
use Rattle.mining_job.specs.Problems.{Problem, data_of, items_of}
use Rattle.sequence_grids.specs.Grids.{GridList, items_at}
use Rattle.worker_shares.proofs.ShareLemmas.{sequences-all}
use Rattle.candidate_pairs.proofs.TellingLemmas.{told-next}
use Rattle.candidate_pairs.proofs.share.pairs_of_entered.Goals as goal

pub loop-index-init : goal.loop-index-init
loop-index-init c = record { part = refl; told = (0, refl, refl) }

pub candidates_of_next-requires-clause-problem : goal.candidates_of_next-requires-clause-problem
candidates_of_next-requires-clause-problem c = ap (λ (p : GridList). p.problem) c.loop-index.invariant.part ∙ c.requires.problem

pub candidates_of_next-requires-clause-bound : goal.candidates_of_next-requires-clause-bound
candidates_of_next-requires-clause-bound c = ap (λ (p : GridList). p.bound) c.loop-index.invariant.part ∙ c.requires.bound

pub candidates_of_next-requires-clause-index : goal.candidates_of_next-requires-clause-index
candidates_of_next-requires-clause-index c =
    let same : length c.loop-index.candidates.part.sequences ≡ length c.args.candidates.now.part.sequences = ap (λ (p : GridList). length p.sequences) c.loop-index.invariant.part in
    omega (arith, same, c.loop-index-test.true, c.requires.count)

pub loop-index-preserved : goal.loop-index-preserved
loop-index-preserved c =
    let problem = c.args.job.now in
    let part = c.args.candidates.now.part in
    let index = c.loop-index.index in
    let told = c.in_ok-told.told in
    let below : index < length part.sequences = omega (arith, c.loop-index-test.true, c.requires.count) in
    let there : IsTold (HasCandidates (data_of problem) (items_at part index)) told =
    subst (λ (p : GridList). IsTold (HasCandidates (data_of problem) (items_at p index)) told) c.loop-index.invariant.part c.in_ok-told.ensures.told in
    let here = subst (λ (p : Problem). IsTold (HasCandidates (data_of problem) (items_of p (slice_index part.sequences index))) told) c.requires.problem there in
    record {
      part = c.candidates_of_next.ensures.part ∙ c.loop-index.invariant.part;
      told = told-next problem part.sequences index c.loop-index.sum told c.saturating_add-sum.result below c.loop-index.invariant.told here c.saturating_add-sum.ensures;
    }

pub returns : goal.returns
returns c =
    let problem = c.args.job.now in
    let numbers : List ℕ = c.args.candidates.now.part.sequences in
    let all : c.loop-index.index ≡ length numbers = omega (arith, c.loop-index-test.false, c.loop-index.auto.index-end, c.requires.count) in
    subst (λ (ss : List (Sequence Item)). IsTold (HasPairs (data_of problem) ss) c.loop-index.sum)
    (sequences-all problem.sequences numbers c.loop-index.index (omega (arith, all))) c.loop-index.invariant.told
