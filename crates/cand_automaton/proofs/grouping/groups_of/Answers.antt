use Rattle.std.proofs.Common.{◌<◌, length, sum_by, ap, arith}
use Rattle.std.proofs.lemmas.Result.{IfOk-weaker}
use Rattle.mining_job.specs.Problems.{data_of}
use Rattle.mining_job.specs.Parts.{pivot_of}
use Rattle.automaton_model.specs.declared.groups.Group.{Group}
use Rattle.automaton_model.specs.Groups.{AreGroups, part_of}
use Rattle.automaton_model.specs.Merges.{AreMerged}
use Rattle.cand_automaton.proofs.GroupLemmas.{coded-sum}
use Rattle.cand_automaton.proofs.SeedLemmas.{seed-weight}
use Rattle.cand_automaton.proofs.grouping.groups_of.Goals as goal

pub returns : goal.returns
returns c =
    let job = c.args.job.now in
    let seed = c.args.seed.now in
    let d = data_of job in
    let pivot = pivot_of seed.pivot in
    let sequences = part_of d seed.sequences.items in
    let parts = c.in_ok-parts.parts.items in
    let limits = rw c.db.ensures.sequences at c.sequences-sequences.ensures.limits in
    let most = seed-weight job seed c.requires.complete limits (omega (arith, c.sequences-sequences.ensures.count, c.sequences-sequences.ensures.most, ap length c.db.ensures.sequences)) in
    let sum = coded-sum d job.ranking.order pivot sequences parts c.in_ok-parts.ensures in
    let few : sum_by (λ (part : Group). part.count) parts < 18446744073709551616 = omega (arith, most, sum) in
    IfOk-weaker c.groups_of.result (λ groups. AreMerged parts groups.items) (λ groups. AreGroups d job.ranking.order pivot sequences groups.items)
    (λ groups are. c.merged_codes_are_the_groups_of_the_sequences.ensures d job.ranking.order pivot sequences parts groups.items c.in_ok-parts.ensures few are) c.groups_of.ensures
