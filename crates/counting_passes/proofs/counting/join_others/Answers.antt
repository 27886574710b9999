use Rattle.std.proofs.Common.{◌≡◌, ◌∙◌, ℕ, suc, ◌+◌, List, Some, length, slice_get, refl, sym, ap, subst, arith}
use Rattle.std.proofs.lemmas.Option.{slice_get-get_or}
use Rattle.mine_model.specs.declared.item.Item.{Item}
use Rattle.mine_model.specs.Support.{Sequence}
use Rattle.worker_shares.specs.Shares.{share_of}
use Rattle.worker_shares.proofs.ShareLemmas.{takes_below, shares_to, share-first, shares-all, taken-few, share-few}
use Rattle.counting_passes.specs.Counts.{AreSumsOf}
use Rattle.counting_passes.proofs.SumLemmas.{sums-more}
use Rattle.counting_passes.proofs.counting.join_others.Goals as goal

pub loop-share-init : goal.loop-share-init
loop-share-init c = λ levels have.
    subst (λ (ss : List (Sequence Item)). AreSumsOf c.args.job.now levels ss c.args.counts.now) (share-first c.args.job.now.sequences c.args.workers)
    (have.each 0 c.args.counts.now refl)

pub join-requires : goal.join-requires
join-requires c = λ list.
    let problem = c.args.job.now in
    let sequences = problem.sequences in
    let index = c.loop-share.share-index in
    let at : slice_get c.args.others.now index ≡ Some c.share-item.result =
    slice_get-get_or c.args.others.now index c.share-item.result c.loop-share-test.true ∙ sym (ap (λ s. Some s) c.share-item.is) in
    let (levels, have) = c.requires in
    let mine = (c.loop-share.invariant levels have).most list in
    let theirs = (have.each (suc index) c.share-item.result at).most list in
    let few = taken-few (takes_below c.args.workers (index + 1)) sequences (length sequences) in
    let also = share-few sequences c.args.workers (suc index) in
    let whole : length c.db.result.now ≡ length sequences = ap length c.db.ensures.sequences in
    omega (arith, mine, theirs, few, also, whole, c.sequences-few.ensures.count, c.sequences-few.ensures.most)

pub loop-share-preserved : goal.loop-share-preserved
loop-share-preserved c = λ levels have.
    let problem = c.args.job.now in
    let index = c.loop-share.share-index in
    let at : slice_get c.args.others.now index ≡ Some c.share-item.result =
    slice_get-get_or c.args.others.now index c.share-item.result c.loop-share-test.true ∙ sym (ap (λ s. Some s) c.share-item.is) in
    let next : suc index ≡ index + 1 = omega arith in
    sums-more c.joined_shares_are_counted.ensures problem levels c.args.workers (index + 1) c.loop-share.counts c.share-item.result c.join.new.self c.in_ok-join.ensures
    (c.loop-share.invariant levels have)
    (subst (λ (w : ℕ). AreSumsOf problem levels (share_of problem.sequences c.args.workers w) c.share-item.result) next (have.each (suc index) c.share-item.result at))

pub returns : goal.returns
returns c = λ levels have.
    let problem = c.args.job.now in
    let all : c.loop-share.share-index + 1 ≡ c.args.workers = omega (arith, have.all, c.loop-share-test.false, c.loop-share.auto.share-index-end) in
    subst (λ (ss : List (Sequence Item)). AreSumsOf problem levels ss c.loop-share.counts)
    (ap (shares_to problem.sequences c.args.workers) all ∙ shares-all problem.sequences c.args.workers (omega (arith, all))) (c.loop-share.invariant levels have)
