use Rattle.std.proofs.Common.{◌<◌, arith}
use Rattle.std.proofs.lemmas.List.Elements.{All-contains}
use Rattle.state_bits.specs.Members.{Has}
use Rattle.level_ahead.proofs.GatherLemmas.{left-start, left-more, left-member, gathered-none, gathered-more, gathered-all}
use Rattle.level_ahead.proofs.gathered.Gathered.gather.Goals as goal

pub loop-rank-init : goal.loop-rank-init
loop-rank-init c =
    rw c.into_iter-rank-iterator.ensures.into_iter_gives (record {
      left = left-start (Has c.args.wanted.now) c.iter-rank-items.result c.iter-rank-items.ensures.rising c.iter-rank-items.ensures.members;
      gathered = gathered-none c.args.self.now c.args.next.now;
    })

pub gather_one-requires-clause-room : goal.gather_one-requires-clause-room
gather_one-requires-clause-room c =
    let inside = c.requires c.in-Some.rank (left-member (Has c.args.wanted.now) c.loop-rank.yielded c.loop-rank.rank-iterator c.next.new.self c.in-Some.rank c.loop-rank.invariant.left c.in-Some.ensures.steps) in
    let room = c.loop-rank.invariant.gathered.room in
    omega arith

pub gather_one-requires-clause-few : goal.gather_one-requires-clause-few
gather_one-requires-clause-few c =
    let member = left-member (Has c.args.wanted.now) c.loop-rank.yielded c.loop-rank.rank-iterator c.next.new.self c.in-Some.rank c.loop-rank.invariant.left c.in-Some.ensures.steps in
    All-contains (λ q. q < 256) c.iter-rank-items.result c.in-Some.rank c.iter-rank-items.ensures.within ((c.iter-rank-items.ensures.members c.in-Some.rank).1 member)

pub loop-rank-preserved : goal.loop-rank-preserved
loop-rank-preserved c = record {
  left = left-more (Has c.args.wanted.now) c.loop-rank.yielded c.loop-rank.rank-iterator c.next.new.self c.in-Some.rank c.loop-rank.invariant.left c.in-Some.ensures.steps;
  gathered = gathered-more c.args.self.now c.loop-rank.self c.gather_one.new.self c.args.next.now c.loop-rank.yielded c.in-Some.rank c.loop-rank.invariant.gathered
      c.gather_one.ensures.room c.gather_one.ensures.touched c.gather_one.ensures.gathered;
}

pub returns-clause-touched : goal.returns-clause-touched
returns-clause-touched c =
    let all = gathered-all c.args.self.now c.loop-rank.self c.args.wanted.now c.args.next.now c.loop-rank.yielded c.loop-rank.rank-iterator c.loop-rank.invariant.left c.in-None.ensures.steps.0 c.loop-rank.invariant.gathered in
    all.0

pub returns-clause-gathered : goal.returns-clause-gathered
returns-clause-gathered c =
    let all = gathered-all c.args.self.now c.loop-rank.self c.args.wanted.now c.args.next.now c.loop-rank.yielded c.loop-rank.rank-iterator c.loop-rank.invariant.left c.in-None.ensures.steps.0 c.loop-rank.invariant.gathered in
    all.1
