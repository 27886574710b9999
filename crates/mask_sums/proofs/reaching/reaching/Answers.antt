use Rattle.std.proofs.Common.{◌≡◌, ◌∙◌, ◌+◌, ◌<◌, ◌++◌, [], ◌∷◌, ℕ, Some, List, length, sym, ap, subst, arith}
use Rattle.std.specs.List.{slice_get}
use Rattle.std.proofs.lemmas.Option.{same_Some}
use Rattle.mine_model.proofs.ElementLemmas.{get-some}
use Rattle.stand_sums.specs.declared.next_rank.NextRank.{NextRank}
use Rattle.stand_sums.specs.Sums.{Tally}
use Rattle.mask_sums.specs.Sets.{masked_at, plus, together}
use Rattle.mask_sums.specs.Kept.{IsNext, IsNextOrNone}
use Rattle.mask_sums.proofs.RoomLemmas.{together-long, together-at}
use Rattle.mask_sums.proofs.NextLemmas.{AreFound, found-skip, found-more, found-all}
use Rattle.mask_sums.proofs.reaching.reaching.Goals.{then-has+in_ok-next+in-Some+in_ok-push, then-has+in_ok-next+in_default, else-has}
use Rattle.mask_sums.proofs.reaching.reaching.Goals as goal

pub loop-rank-preserved : goal.loop-rank-preserved
loop-rank-preserved c =
    let tallies : List Tally = together c.args.masked.now 0 c.args.sums.now in
    let rank : ℕ = c.loop-rank.rank in
    let before = c.loop-rank.invariant in
    let inside : rank < length c.args.sums.now = (let below = c.loop-rank-test.true in let long = c.requires.ranks in omega arith) in
    let (one, there) = get-some c.args.sums.now rank inside in
    let all : Tally = plus one (masked_at c.args.masked.now rank) in
    let at : slice_get tallies rank ≡ Some all = together-at c.args.masked.now c.args.sums.now rank one there in
    elim c.if-has.branch [
      | then-has+in_ok-next+in-Some+in_ok-push w ↦
          let next : NextRank = w.in-Some.next in
          let is : IsNext c.args.least c.args.longer rank c.loop-rank.end all next =
          subst (IsNextOrNone c.args.least c.args.longer rank c.loop-rank.end all) w.in-Some.is (w.in_ok-next.ensures one there) in
          let more : AreFound c.args.least c.args.longer tallies (rank + 1) next.last (c.loop-rank.found.items ++ next ∷ []) =
          found-more c.args.least c.args.longer tallies rank c.loop-rank.end c.loop-rank.found.items before all next at is in
          rw (w.end-is, w.found-is)
          (subst (AreFound c.args.least c.args.longer tallies (rank + 1) next.last) (sym w.in_ok-push.ensures.items) more)
      | then-has+in_ok-next+in_default w ↦
          let short : all.weight < c.args.least =
          subst (IsNextOrNone c.args.least c.args.longer rank c.loop-rank.end all) w.in_default.is (w.in_ok-next.ensures one there) in
          let skip : AreFound c.args.least c.args.longer tallies (rank + 1) c.loop-rank.end c.loop-rank.found.items =
          found-skip c.args.least c.args.longer tallies rank c.loop-rank.end c.loop-rank.found.items before (λ tally some is reached.
          let same : tally.weight ≡ all.weight = ap (λ (t : Tally). t.weight) (same_Some tally all (sym is ∙ at)) in absurd (omega (arith, same, short, reached))) in
          rw (w.end-is, w.found-is) skip
      | else-has w ↦
          let skip : AreFound c.args.least c.args.longer tallies (rank + 1) c.loop-rank.end c.loop-rank.found.items =
          found-skip c.args.least c.args.longer tallies rank c.loop-rank.end c.loop-rank.found.items before (λ tally some is reached.
          let has = c.has.ensures.1 (c.requires.looked_for rank tally some is reached) in
          let lacks = w.if-has.false in absurd (cc)) in
          rw (w.end-is, w.found-is) skip
    ]

pub returns : goal.returns
returns c =
    let long = together-long c.args.masked.now 0 c.args.sums.now in
    let sums_long = c.requires.ranks in
    let past = c.loop-rank-test.false in
    found-all c.args.least c.args.longer (together c.args.masked.now 0 c.args.sums.now) c.loop-rank.rank c.loop-rank.end c.loop-rank.found.items c.loop-rank.invariant (omega arith)
