use Rattle.std.proofs.Common.{◌≡◌, ◌∙◌, ℕ, ◌<◌, Option, Some, List, [], length, get_or, sym, ap, subst, arith}
use Rattle.std.specs.List.{slice_get}
use Rattle.std.proofs.lemmas.Option.{same_Some, slice_get_within}
use Rattle.std.proofs.lemmas.Result.{on_ok_weaker}
use Rattle.stand_sums.specs.Sums.{Tally, AreCounted}
use Rattle.mask_sums.specs.Sets.{masked_at, plus, together}
use Rattle.mask_sums.specs.Kept.{lacks}
use Rattle.mask_sums.proofs.RoomLemmas.{together-long, at-together, first-counted, second-counted, none-long, lacking-counted, readable-more}
use Rattle.mask_sums.proofs.sums.MaskedSums.add.Goals as goal

pub count_all-requires-clause-readable : goal.count_all-requires-clause-readable
count_all-requires-clause-readable g c k d inside =
    let long : length c.args.self.now ≡ length c.self.inside.sums =
    ap (λ (l : List Tally). length l) (sym c.self.view_is) ∙ together-long c.self.inside.masked 0 c.self.inside.sums in
    let ranks_long = c.self.invariant.long in
    let few = c.if-self-le256.true in
    readable-more (g.T.Outputs.ranks c.args.table.now) (g.T.Outputs.CanAsk c.args.table.now) (length c.args.self.now) 256 (get_or c.args.visits.now k d) (omega arith) (c.requires k d inside)

pub add-requires : goal.add-requires
add-requires g c k d inside =
    let long : length c.args.self.now ≡ length c.self.inside.sums =
    ap (λ (l : List Tally). length l) (sym c.self.view_is) ∙ together-long c.self.inside.masked 0 c.self.inside.sums in
    readable-more (g.T.Outputs.ranks c.args.table.now) (g.T.Outputs.CanAsk c.args.table.now) (length c.args.self.now) (length c.self.inside.sums) (get_or c.args.visits.now k d) (omega arith) (c.requires k d inside)

pub returns-then-has_masks-clause-room : goal.returns-then-has_masks-clause-room
returns-then-has_masks-clause-room g c =
    together-long c.count_all.new.masked 0 c.self.inside.sums ∙ sym (together-long c.self.inside.masked 0 c.self.inside.sums)
    ∙ ap (λ (l : List Tally). length l) c.self.view_is

pub returns-then-has_masks-clause-counted : goal.returns-then-has_masks-clause-counted
returns-then-has_masks-clause-counted g c =
    let ranks = g.T.Outputs.ranks c.args.table.now in
    on_ok_weaker c.count_all.result
    (λ counted sequences are rank before after at also.
    let at' : slice_get (together c.self.inside.masked 0 c.self.inside.sums) rank ≡ Some before = ap (λ (l : List Tally). slice_get l rank) c.self.view_is ∙ at in
    let (tally, there, before_is) = at-together c.self.inside.masked c.self.inside.sums rank before at' in
    let (tally', there', after_is') = at-together c.count_all.new.masked c.self.inside.sums rank after also in
    let after_is : after ≡ plus tally (masked_at c.count_all.new.masked rank) =
    after_is' ∙ ap (λ (t : Tally). plus t (masked_at c.count_all.new.masked rank)) (same_Some tally' tally (sym there' ∙ there)) in
    let inside : rank < length c.self.inside.sums = slice_get_within c.self.inside.sums rank tally there in
    let ranks_long = c.self.invariant.long in
    let few = c.if-self-le256.true in
    let low : Tally = masked_at c.self.inside.masked rank in
    let high : Tally = masked_at c.count_all.new.masked rank in
    let plain : AreCounted ranks c.args.aim c.args.weights.now rank c.args.visits.now sequences low high =
    lacking-counted ranks c.args.aim c.args.weights.now rank c.args.visits.now sequences low high (none-long c.args.weights.now (sym c.is_empty.ensures ∙ c.if-is_empty.true))
    (subst (λ (need : Option ℕ). AreCounted ranks (lacks need) [] rank c.args.visits.now sequences low high) c.lacking.ensures (counted sequences are rank (omega arith))) in
    subst (λ (t : Tally). AreCounted ranks c.args.aim c.args.weights.now rank c.args.visits.now sequences t after) (sym before_is)
    (subst (AreCounted ranks c.args.aim c.args.weights.now rank c.args.visits.now sequences (plus tally low)) (sym after_is)
    (second-counted ranks c.args.aim c.args.weights.now rank c.args.visits.now sequences low high tally plain)))
    c.count_all.ensures

pub returns-else-is_empty-clause-room : goal.returns-else-is_empty-clause-room
returns-else-is_empty-clause-room g c =
    together-long c.self.inside.masked 0 c.add.new.self ∙ c.add.ensures.room ∙ sym (together-long c.self.inside.masked 0 c.self.inside.sums)
    ∙ ap (λ (l : List Tally). length l) c.self.view_is

pub returns-else-is_empty-clause-counted : goal.returns-else-is_empty-clause-counted
returns-else-is_empty-clause-counted g c =
    let ranks = g.T.Outputs.ranks c.args.table.now in
    on_ok_weaker c.add.result
    (λ counted sequences are rank before after at also.
    let at' : slice_get (together c.self.inside.masked 0 c.self.inside.sums) rank ≡ Some before = ap (λ (l : List Tally). slice_get l rank) c.self.view_is ∙ at in
    let (low, there, before_is) = at-together c.self.inside.masked c.self.inside.sums rank before at' in
    let (high, there', after_is) = at-together c.self.inside.masked c.add.new.self rank after also in
    let by_sets : Tally = masked_at c.self.inside.masked rank in
    subst (λ (t : Tally). AreCounted ranks c.args.aim c.args.weights.now rank c.args.visits.now sequences t after) (sym before_is)
    (subst (AreCounted ranks c.args.aim c.args.weights.now rank c.args.visits.now sequences (plus low by_sets)) (sym after_is)
    (first-counted ranks c.args.aim c.args.weights.now rank c.args.visits.now sequences low high by_sets (counted sequences are rank low high there there'))))
    c.add.ensures.counted
