use Rattle.std.proofs.Common.{◌≡◌, ◌∙◌, ◌<◌, ◌≤◌, ◌++◌, [], ◌∷◌, ℕ, List, map, get_or, sym, ap}
use Rattle.std.proofs.lemmas.List.{map-append}
use Rattle.level_ahead.specs.declared.next_of.NextOf.{NextOf}
use Rattle.level_ahead.proofs.GatherLemmas.{left-start, left-more}
use Rattle.level_ahead.proofs.RoomLemmas.{next_at, reached-all}
use Rattle.level_ahead.proofs.ahead.reaching.Goals as goal

pub loop-rank-init : goal.loop-rank-init
loop-rank-init c =
    rw c.into_iter-rank-iterator.ensures.into_iter_gives (record {
      left = left-start (λ rank. (rank < 256) × (c.args.least ≤ get_or c.args.counts.now rank 0)) c.iter-rank-items.result c.iter-rank-items.ensures.rising (λ rank. (
        (λ held. (c.reaching.ensures rank).0 ((c.iter-rank-items.ensures.members rank).0 held)),
        (λ is. (c.iter-rank-items.ensures.members rank).1 ((c.reaching.ensures rank).1 is)),
      ));
      found = c.new-found.ensures.items;
    })

pub loop-rank-preserved : goal.loop-rank-preserved
loop-rank-preserved c =
    let counts : List ℕ = c.args.counts.now in
    let rank : ℕ = c.in-Some.rank in
    let next : NextOf = record { rank = rank; count = c.count.result } in
    let same : next ≡ next_at counts rank = λ i. record { rank = rank; count = c.count.ensures i } in
    record {
      left = left-more (λ r. (r < 256) × (c.args.least ≤ get_or counts r 0)) c.loop-rank.yielded c.loop-rank.rank-iterator c.next.new.self rank c.loop-rank.invariant.left c.in-Some.ensures.steps;
      found = c.in_ok-push.ensures.items ∙ ap (λ (l : List NextOf). l ++ next ∷ []) c.loop-rank.invariant.found ∙ ap (λ (n : NextOf). map (next_at counts) c.loop-rank.yielded ++ n ∷ []) same
          ∙ sym (map-append (next_at counts) c.loop-rank.yielded (rank ∷ []));
    }

pub returns : goal.returns
returns c =
    reached-all c.args.least c.args.counts.now c.loop-rank.yielded c.loop-rank.rank-iterator c.loop-rank.found.items c.loop-rank.invariant.left c.in-None.ensures.steps.0 c.loop-rank.invariant.found
