use Rattle.std.proofs.Common.{◌≡◌, ◌∙◌, ◌<◌, Some, List, [], ◌∷◌, length, sym, ap, subst, arith}
use Rattle.std.specs.List.{slice_get}
use Rattle.std.proofs.lemmas.List.{length-replicate}
use Rattle.std.proofs.lemmas.Option.{slice_get_within}
use Rattle.std.proofs.lemmas.Result.{IfOk-weaker}
use Rattle.stand_sums.specs.Sums.{Tally, empty_tally, AreNext}
use Rattle.candidate_graph.specs.Kept.{AreFound}
use Rattle.candidate_graph.proofs.FoundLemmas.{one-sequence, found-are, empty-at}
use Rattle.candidate_graph.proofs.finding.find.Goals as goal

pub returns-clause-found : goal.returns-clause-found
returns-clause-found g c =
    let ranks = g.T.Outputs.ranks c.args.table.now in
    let end = length c.args.sums.now in
    let cleared : length c.clear.new.self ≡ length c.args.sums.now = ap (λ (l : List Tally). length l) c.clear.ensures ∙ length-replicate end empty_tally in
    let long : length c.add.new.self ≡ end = c.in_ok-add.ensures.room ∙ cleared in
    IfOk-weaker c.reaching.result (λ found. AreNext 1 1 c.add.new.self found.items) (λ found. AreFound ranks c.args.aim end c.args.visits.now found.items)
    (λ found next.
    found-are ranks (g.T.Outputs.CanAsk c.args.table.now) end c.args.aim c.args.visits.now c.requires.readable c.add.new.self long
    (λ rank tally at.
    let inside : rank < length c.add.new.self = slice_get_within c.add.new.self rank tally at in
    let before : slice_get c.clear.new.self rank ≡ Some empty_tally =
    subst (λ (l : List Tally). slice_get l rank ≡ Some empty_tally) (sym c.clear.ensures) (empty-at end rank (omega (arith, inside, long))) in
    c.in_ok-add.ensures.counted (c.args.visits.now ∷ []) (one-sequence c.args.visits.now c.requires.marked) rank empty_tally tally before at)
    found.items next)
    c.reaching.ensures
