use Rattle.std.proofs.Common.{List, sym, subst}
use Rattle.mining_job.specs.declared.part_seed.PartSeed.{PartSeed}
use Rattle.cand_automaton.specs.Workers.{AreSeeds, AreTried}
use Rattle.cand_automaton.proofs.MinedLemmas.{mined-rows, mined-items, mined-work}
use Rattle.cand_automaton.proofs.mining.mine.Goals as goal

pub tried-requires-clause-seeds : goal.tried-requires-clause-seeds
tried-requires-clause-seeds g c κs within =
    subst (AreSeeds c.args.job.now) (sym c.as_slice.ensures.value)
    (record { complete = c.in_ok-seeds.ensures.complete; rising = c.in_ok-seeds.ensures.rising; alive = λ pivot held. (c.in_ok-seeds.ensures.alive pivot).0 held })

pub returns-clause-frequent : goal.returns-clause-frequent
returns-clause-frequent g c =
    let ends = rw c.hierarchy.ensures.hierarchy at c.items-items.ensures.within in
    let are : AreSeeds c.args.job.now c.in_ok-seeds.seeds.items = record { complete = c.in_ok-seeds.ensures.complete; rising = c.in_ok-seeds.ensures.rising; alive = λ pivot held. (c.in_ok-seeds.ensures.alive pivot).0 held } in
    let tried = subst (λ (l : List PartSeed). AreTried c.args.job.now l c.args.workers c.in_ok-results.results.items) c.as_slice.ensures.value c.in_ok-results.ensures in
    mined-rows c.args.job.now c.hierarchy.ensures.whole ends c.in_ok-seeds.seeds.items are c.args.workers c.requires.some c.in_ok-results.results.items tried c.in_ok-done.done c.in_ok-done.ensures c.in_ok-seeds.ensures.alive

pub returns-clause-items : goal.returns-clause-items
returns-clause-items g c =
    let ends = rw c.hierarchy.ensures.hierarchy at c.items-items.ensures.within in
    let are : AreSeeds c.args.job.now c.in_ok-seeds.seeds.items = record { complete = c.in_ok-seeds.ensures.complete; rising = c.in_ok-seeds.ensures.rising; alive = λ pivot held. (c.in_ok-seeds.ensures.alive pivot).0 held } in
    let tried = subst (λ (l : List PartSeed). AreTried c.args.job.now l c.args.workers c.in_ok-results.results.items) c.as_slice.ensures.value c.in_ok-results.ensures in
    mined-items c.args.job.now c.hierarchy.ensures.whole ends c.in_ok-seeds.seeds.items are c.args.workers c.requires.some c.in_ok-results.results.items tried c.in_ok-done.done c.in_ok-done.ensures c.in_ok-seeds.ensures.alive

pub returns-clause-work : goal.returns-clause-work
returns-clause-work g c =
    let ends = rw c.hierarchy.ensures.hierarchy at c.items-items.ensures.within in
    let are : AreSeeds c.args.job.now c.in_ok-seeds.seeds.items = record { complete = c.in_ok-seeds.ensures.complete; rising = c.in_ok-seeds.ensures.rising; alive = λ pivot held. (c.in_ok-seeds.ensures.alive pivot).0 held } in
    let tried = subst (λ (l : List PartSeed). AreTried c.args.job.now l c.args.workers c.in_ok-results.results.items) c.as_slice.ensures.value c.in_ok-results.ensures in
    mined-work c.args.job.now c.hierarchy.ensures.whole ends c.in_ok-seeds.seeds.items are c.args.workers c.requires.some c.in_ok-results.results.items tried c.in_ok-done.done c.in_ok-done.ensures c.in_ok-seeds.ensures.alive
