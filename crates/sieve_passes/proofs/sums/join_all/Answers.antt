use Rattle.std.proofs.Common.{◌≡◌, ◌∙◌, ◌+◌, List, Some, slice_get, refl, sym, ap, subst, arith}
use Rattle.std.proofs.lemmas.Option.{slice_get-get_or}
use Rattle.mine_model.specs.declared.item.Item.{Item}
use Rattle.mine_model.specs.Support.{Sequence}
use Rattle.sieve_passes.specs.Shares.{IsShareOf}
use Rattle.sieve_passes.specs.Sums.{HasAll}
use Rattle.worker_shares.proofs.ShareLemmas.{shares_to, share-first, shares-all}
use Rattle.sieve_passes.proofs.SumLemmas.{has-more}
use Rattle.sieve_passes.proofs.sums.join_all.Goals as goal

pub loop-share-init : goal.loop-share-init
loop-share-init c = record {
  own = λ problem workers worker is. is;
  long = refl;
  joined = λ problem levels workers first others. subst (λ (ss : List (Sequence Item)). HasAll problem levels ss c.args.first.now.buckets) (share-first problem.sequences workers) first;
}

pub join-requires : goal.join-requires
join-requires c =
    let others = c.args.others.now in
    let at : slice_get others c.loop-share.share-index ≡ Some c.share-item.result =
    slice_get-get_or others c.loop-share.share-index c.share-item.result c.loop-share-test.true ∙ sym (ap (λ s. Some s) c.share-item.is) in
    c.requires c.loop-share.share-index c.share-item.result at ∙ sym c.loop-share.invariant.long

pub loop-share-preserved : goal.loop-share-preserved
loop-share-preserved c =
    let index = c.loop-share.share-index in
    let at : slice_get c.args.others.now index ≡ Some c.share-item.result =
    slice_get-get_or c.args.others.now index c.share-item.result c.loop-share-test.true ∙ sym (ap (λ s. Some s) c.share-item.is) in
    record {
      own = λ problem workers worker is.
          let was : IsShareOf problem workers worker c.loop-share.first = c.loop-share.invariant.own problem workers worker is in
          record { number = was.number; numbers = was.numbers; part = was.part };
      long = c.join.ensures.long ∙ c.loop-share.invariant.long;
      joined = λ problem levels workers first others.
          has-more c.shares_join.ensures problem levels workers (index + 1) c.loop-share.first.buckets c.share-item.result.buckets c.join.new.self c.join.ensures
          (c.loop-share.invariant.joined problem levels workers first others) (others index c.share-item.result at);
    }

pub returns-clause-own : goal.returns-clause-own
returns-clause-own c = c.loop-share.invariant.own

pub returns-clause-long : goal.returns-clause-long
returns-clause-long c = c.loop-share.invariant.long

pub returns-clause-joined : goal.returns-clause-joined
returns-clause-joined c = λ problem levels workers count first others.
    let all : c.loop-share.share-index + 1 ≡ workers = omega (arith, count, c.loop-share-test.false, c.loop-share.auto.share-index-end) in
    subst (λ (ss : List (Sequence Item)). HasAll problem levels ss c.loop-share.first.buckets) (ap (shares_to problem.sequences workers) all ∙ shares-all problem.sequences workers (omega (arith, count)))
    (c.loop-share.invariant.joined problem levels workers first others)
