use Rattle.std.proofs.Common.{◌≡◌, ◌∙◌, Some, List, length, map, sym, ap, subst}
use Rattle.std.specs.List.{slice_get}
use Rattle.std.specs.Vec.{with_items}
use Rattle.std.proofs.lemmas.List.{with_items_is}
use Rattle.std.proofs.lemmas.Result.{on_ok_weaker}
use Rattle.stand_sums.specs.declared.sum.Sum.{Sum}
use Rattle.stand_sums.specs.Sums.{Tally, AreCounted}
use Rattle.stand_sums.specs.Kept.{tally_of}
use Rattle.stand_sums.proofs.SumLemmas.{tally-at}
use Rattle.stand_sums.proofs.sums.Sums.add.Goals as goal

pub returns-clause-counted : goal.returns-clause-counted
returns-clause-counted g c =
    let ranks = g.T.Outputs.ranks c.args.table.now in
    on_ok_weaker c.count_all.result
    (λ counted sequences are rank before after at also.
    let at' : slice_get (map tally_of c.self.inside.sums.items) rank ≡ Some before = ap (λ (l : List Tally). slice_get l rank) c.self.view_is ∙ at in
    let (sum, there, is) = tally-at c.self.inside.sums.items rank before at' in
    let long : length c.count_all.new.sums ≡ c.self.inside.sums.len = c.count_all.ensures.room ∙ c.as_mut_slice.ensures.len in
    let kept : (with_items c.self.inside.sums c.count_all.new.sums).items ≡ c.count_all.new.sums = with_items_is c.self.inside.sums c.count_all.new.sums long in
    let (now, there', is') = tally-at c.count_all.new.sums rank after (ap (λ (l : List Sum). slice_get (map tally_of l) rank) (sym kept) ∙ also) in
    let all : AreCounted ranks c.args.aim c.args.weights.now rank c.args.visits.now sequences (tally_of sum) (tally_of now) = counted sequences are rank sum now (ap (λ (l : List Sum). slice_get l rank) c.as_mut_slice.ensures.value ∙ there) there' in
    subst (λ (t : Tally). AreCounted ranks c.args.aim c.args.weights.now rank c.args.visits.now sequences t after) (sym is)
    (subst (AreCounted ranks c.args.aim c.args.weights.now rank c.args.visits.now sequences (tally_of sum)) (sym is') all))
    c.count_all.ensures.counted
