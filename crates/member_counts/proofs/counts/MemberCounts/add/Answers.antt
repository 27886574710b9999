use Rattle.std.proofs.Common.{◌+◌, arith}
use Rattle.member_counts.proofs.CountLemmas.{wait-more, added-more, more-members, more-others, AreCounts-more}
use Rattle.member_counts.proofs.counts.MemberCounts.add.Goals as goal

pub returns-then-self-lt-WAITING-clause-members : goal.returns-then-self-lt-WAITING-clause-members
returns-then-self-lt-WAITING-clause-members g c =
    let was = c.self.inside in
    more-members {W = g.row.W} was.waiting was.filled was.low was.digits.items _ (was.filled + 1) was.low was.digits.items c.args.set.now c.args.self.now
    (wait-more {W = g.row.W} was.waiting was.filled was.low was.digits.items c.args.set.now (omega arith)) c.self.view_is

pub returns-then-self-lt-WAITING-clause-others : goal.returns-then-self-lt-WAITING-clause-others
returns-then-self-lt-WAITING-clause-others g c =
    let was = c.self.inside in
    more-others {W = g.row.W} was.waiting was.filled was.low was.digits.items _ (was.filled + 1) was.low was.digits.items c.args.set.now c.args.self.now
    (wait-more {W = g.row.W} was.waiting was.filled was.low was.digits.items c.args.set.now (omega arith)) c.self.view_is

pub invariant_of-self-2 : goal.invariant_of-self-2
invariant_of-self-2 g c = AreCounts-more c.self.inside.waiting c.args.set.now c.self.invariant (omega arith) (omega arith) c.in_ok-add_eight.ensures.ok

pub returns-clause-members : goal.returns-clause-members
returns-clause-members g c =
    let was = c.self.inside in
    more-members {W = g.row.W} was.waiting was.filled was.low was.digits.items was.waiting 0 c.add_eight.new.low c.add_eight.new.digits.items c.args.set.now c.args.self.now
    (added-more {W = g.row.W} was.waiting was.filled was.low was.digits.items c.add_eight.new.low c.add_eight.new.digits.items c.args.set.now (omega arith) c.in_ok-add_eight.ensures.ok) c.self.view_is

pub returns-clause-others : goal.returns-clause-others
returns-clause-others g c =
    let was = c.self.inside in
    more-others {W = g.row.W} was.waiting was.filled was.low was.digits.items was.waiting 0 c.add_eight.new.low c.add_eight.new.digits.items c.args.set.now c.args.self.now
    (added-more {W = g.row.W} was.waiting was.filled was.low was.digits.items c.add_eight.new.low c.add_eight.new.digits.items c.args.set.now (omega arith) c.in_ok-add_eight.ensures.ok) c.self.view_is
