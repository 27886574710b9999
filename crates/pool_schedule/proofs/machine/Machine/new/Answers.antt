use Rattle.std.proofs.Common.{◌≡◌, ◌≤◌, [], length, sym, ◌∙◌, subst, arith}
use Rattle.std.proofs.lemmas.List.Elements.{All-nil}
use Rattle.pool_schedule.specs.State.{State, IsBalanced}
use Rattle.pool_schedule.proofs.BalanceLemmas.{start-balance}
use Rattle.pool_schedule.proofs.StartLemmas.{IsNew, ready-more, ready-count, ready-start, own-more, rows-more}
use Rattle.pool_schedule.proofs.machine.Machine.new.Goals as goal

pub loop-preserved : goal.loop-preserved
loop-preserved g c =
    let new : IsNew c.new-in-loop-2.result [] = record {
      deque = c.new-in-loop-2.ensures.deque ∙ c.new-in-loop.ensures.items;
      stack = c.new-in-loop-2.ensures.stack;
      pending = c.new-in-loop-2.ensures.pending;
    } in
    record {
      ready = ready-more (g.G.Grow.label_of c.args.g.now) c.loop.all.items c.push-in-loop.new.self.items c.new-in-loop-2.result (g.G.Grow.roots_of c.args.g.now) c.loop.counter
          c.loop.auto.counter c.in_ok-push-2.ensures.items new c.loop.invariant.ready;
      own = own-more (g.G.Grow.IsOwn c.args.g.now) c.loop.all.items c.push-in-loop.new.self.items c.new-in-loop-2.result [] c.in_ok-push-2.ensures.items new
          (All-nil (g.G.Grow.IsOwn c.args.g.now)) c.loop.invariant.own;
      rows = rows-more (g.G.Grow.row_of c.args.g.now) c.loop.all.items c.push-in-loop.new.self.items c.new-in-loop-2.result [] c.in_ok-push-2.ensures.items new c.loop.invariant.rows;
    }

pub invariant_of-result : goal.invariant_of-result
invariant_of-result g c =
    let size : length c.loop.all.items ≡ c.loop.counter =
    ready-count (g.G.Grow.label_of c.args.g.now) (g.G.Grow.roots_of c.args.g.now) c.loop.counter c.loop.all.items c.loop.auto.counter c.loop.invariant.ready in
    let few : length c.loop.all.items ≤ 64 = omega (arith, c.loop.auto.counter-end c.requires.some, c.requires.few) in
    record { few = few }

pub returns-clause-balance : goal.returns-clause-balance
returns-clause-balance g c =
    let end : c.loop.counter ≡ c.args.workers = omega (arith, c.loop.auto.counter-end c.requires.some, c.loop-test.false) in
    let is = ready-start (g.G.Grow.label_of c.args.g.now) (g.G.Grow.roots_of c.args.g.now) c.loop.counter c.args.workers c.loop.all.items c.new-2.result c.loop.invariant.ready end c.new-2.ensures in
    subst (λ (s : State). IsBalanced (g.G.Grow.roots_of c.args.g.now) (g.G.Grow.kids_of c.args.g.now) s) (sym is)
    (start-balance (g.G.Grow.roots_of c.args.g.now) (g.G.Grow.kids_of c.args.g.now) c.args.workers)
