use Rattle.std.proofs.Common.{◌<◌, ℕ, length, sym, ap, subst, arith}
use Rattle.std.specs.List.{Contains}
use Rattle.std.specs.Prelude.{IfOk}
use Rattle.mine_model.specs.Limits.{most_length}
use Rattle.mine_model.specs.Ranks.{Ranking}
use Rattle.mining_job.specs.Problems.{data_of}
use Rattle.automaton_model.specs.Groups.{AreGroupRows, part_of}
use Rattle.group_search.specs.Searched.{IsSearched}
use Rattle.cand_automaton.proofs.GroupLemmas.{part-held, held-limits, groups-most, part-few}
use Rattle.cand_automaton.proofs.searching.rows.Goals as goal

pub rows-requires-clause-least : goal.rows-requires-clause-least
rows-requires-clause-least c = omega (arith, c.threshold.ensures.threshold, c.threshold.ensures.whole.least)

pub rows-requires-clause-searched : goal.rows-requires-clause-searched
rows-requires-clause-searched c = λ group held.
    let d = data_of c.args.job.now in
    let order = c.args.job.now.ranking.order in
    let (pivot, of) = c.requires in
    let limits = rw c.db.ensures.sequences at c.sequences-sequences.ensures.limits in
    let within : (i : ℕ) → Contains of.numbers i → i < length d.sequences = λ i inside. ((of.of_pivot.exact i).0 inside).0 in
    subst (λ (r : Ranking). IsSearched (length r.order) most_length group.automaton) (sym c.ranks.ensures.ranking)
    (c.groups_are_searched.ensures d order pivot most_length (part_of d of.numbers) c.args.groups.now of.are
    (λ s inside. (held-limits d.sequences limits s (part-held d of.numbers within s inside)).short) group held)

pub rows-requires-clause-fits : goal.rows-requires-clause-fits
rows-requires-clause-fits c =
    let d = data_of c.args.job.now in
    let order = c.args.job.now.ranking.order in
    let (pivot, of) = c.requires in
    let limits = rw c.db.ensures.sequences at c.sequences-sequences.ensures.limits in
    let within : (i : ℕ) → Contains of.numbers i → i < length d.sequences = λ i inside. ((of.of_pivot.exact i).0 inside).0 in
    let most = groups-most d order pivot (part_of d of.numbers) c.args.groups.now of.are (λ s inside. (held-limits d.sequences limits s (part-held d of.numbers within s inside)).most) in
    let few = part-few d order pivot of.numbers of.of_pivot in
    omega (arith, most, few, c.sequences-sequences.ensures.count, c.sequences-sequences.ensures.most, ap length c.db.ensures.sequences)

pub returns : goal.returns
returns c =
    let groups = c.args.groups.now in
    subst (λ (n : ℕ). IfOk c.rows.result (λ rows. AreGroupRows c.args.job.now.ranking.order n groups rows.items)) c.threshold.ensures.threshold
    (subst (λ (r : Ranking). IfOk c.rows.result (λ rows. AreGroupRows r.order c.threshold.result groups rows.items)) c.ranks.ensures.ranking c.rows.ensures)
