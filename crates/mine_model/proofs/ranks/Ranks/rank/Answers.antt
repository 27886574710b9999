use Rattle.std.proofs.Common.{◌≡◌, ◌∙◌, ap, subst}
use Rattle.std.specs.List.{slice_index}
use Rattle.mine_model.specs.Ranks.{HasRank, Ranking}
use Rattle.mine_model.proofs.RankLemmas.{HasRank-held, HasRank-most}
use Rattle.mine_model.proofs.ranks.Ranks.rank.Goals as goal
use Rattle.mine_model.proofs.ranks.Ranks.rank.Goals.{Else-rank-eq0}

ranked : (c : Else-rank-eq0) → HasRank c.args.self.now.order c.args.item c.entry-rank.result
ranked c =
    let value : c.entry-rank.result ≡ slice_index c.self.inside.table.items c.args.item.0 = c.entry-rank.ensures ∙ ap (λ table. slice_index table c.args.item.0) c.as_slice.ensures.value in
    let Has : Ranking → Type 0 = λ r. HasRank r.order c.args.item c.entry-rank.result in
    subst Has c.self.view_is (rw value (c.self.invariant.ranks.ranked c.args.item (λ none. c.if-rank-eq0.false (value ∙ none))))

pub returns-else-rank-eq0-clause-none : goal.returns-else-rank-eq0-clause-none
returns-else-rank-eq0-clause-none c = ((λ no' held. cc), (λ none. absurd (none (HasRank-held _ _ _ (ranked (goal.at.returns-else-rank-eq0-clause-none c).Else-rank-eq0)))))

pub returns-else-rank-eq0-clause-rank : goal.returns-else-rank-eq0-clause-rank
returns-else-rank-eq0-clause-rank c = ranked (goal.at.returns-else-rank-eq0-clause-rank c).Else-rank-eq0

pub returns-else-rank-eq0-clause-most : goal.returns-else-rank-eq0-clause-most
returns-else-rank-eq0-clause-most c = HasRank-most _ _ _ (ranked (goal.at.returns-else-rank-eq0-clause-most c).Else-rank-eq0)
