use Rattle.std.proofs.Common.{◌<◌, length, arith, subst}
use Rattle.std.specs.Prelude.{All}
use Rattle.std.proofs.lemmas.Option.{slice_get_within}
use Rattle.std.proofs.lemmas.Result.{on_ok_weaker}
use Rattle.pool_schedule.specs.Worker.{IsBusy, IsFilled}
use Rattle.pool_schedule.specs.declared.worker.Worker.{Worker}
use Rattle.pool_schedule.proofs.OwnLemmas.{owns-at, posts-own, puts-own, takes-own, grows-own, steals-own, posts-rows, steals-rows}
use Rattle.pool_schedule.proofs.StepLemmas.{now-is, at-now, busy-at, growing-at, taking-at, post-done, put-done, take-done, grow-done, steal-done}
use Rattle.pool_schedule.proofs.stepping.perform.Goals as goal

pub grow-requires-clause-own : goal.grow-requires-clause-own
grow-requires-clause-own g c =
    let there = growing-at c.args.machine.now.workers.items c.args.event c.in-Grow.w c.in-Grow.is c.requires.enabled in
    let same = now-is c.args.machine.now.workers.items c.in-Grow.w there.0 c.index_mut.result.now there.1 c.index_mut.ensures.value in
    subst (λ (x : Worker g.row.G-Node.Denot). All (g.G.Grow.IsOwn c.args.g.now) x.stack.items) same (owns-at (g.G.Grow.IsOwn c.args.g.now) c.args.machine.now.workers.items c.in-Grow.w there.0 there.1 c.requires.own).1

pub index_mut-requires-in-Put : goal.index_mut-requires-in-Put
index_mut-requires-in-Put g c =
    let there = busy-at c.args.machine.now.workers.items c.args.event c.in-Put.w c.in-Put.is c.requires.enabled in
    let within : c.in-Put.w < length c.args.machine.now.workers.items = slice_get_within c.args.machine.now.workers.items c.in-Put.w there.0 there.1 in
    omega (arith, c.args.machine.now.workers.ok)

pub put-requires : goal.put-requires
put-requires g c =
    let there = busy-at c.args.machine.now.workers.items c.args.event c.in-Put.w c.in-Put.is c.requires.enabled in
    (subst IsBusy (now-is c.args.machine.now.workers.items c.in-Put.w there.0 c.index_mut-in-Put.result.now there.1 c.index_mut-in-Put.ensures.value) there.2).1

pub index_mut-requires-in-Take : goal.index_mut-requires-in-Take
index_mut-requires-in-Take g c =
    let there = taking-at c.args.machine.now.workers.items c.args.event c.in-Take.w c.in-Take.is c.requires.enabled in
    let within : c.in-Take.w < length c.args.machine.now.workers.items = slice_get_within c.args.machine.now.workers.items c.in-Take.w there.0 there.1 in
    omega (arith, c.args.machine.now.workers.ok)

pub take-requires : goal.take-requires
take-requires g c =
    let there = taking-at c.args.machine.now.workers.items c.args.event c.in-Take.w c.in-Take.is c.requires.enabled in
    subst IsFilled (now-is c.args.machine.now.workers.items c.in-Take.w there.0 c.index_mut-in-Take.result.now there.1 c.index_mut-in-Take.ensures.value) there.3

pub returns-in-Post-clause-done : goal.returns-in-Post-clause-done
returns-in-Post-clause-done g c =
    on_ok_weaker c.post.result (post-done (g.G.Grow.label_of c.args.g.now) (g.G.Grow.kids_of c.args.g.now) c.args.machine.now c.post.new.machine c.args.event c.in-Post.w c.in-Post.is) c.post.ensures

pub returns-in-Post-clause-own : goal.returns-in-Post-clause-own
returns-in-Post-clause-own g c =
    on_ok_weaker c.post.result (λ s. posts-own (g.G.Grow.IsOwn c.args.g.now) c.in-Post.w c.args.machine.now c.post.new.machine s c.requires.own) c.post.ensures

pub returns-in-Post-clause-rows : goal.returns-in-Post-clause-rows
returns-in-Post-clause-rows g c =
    on_ok_weaker c.post.result (λ s has. posts-rows (g.G.Grow.row_of c.args.g.now) c.in-Post.w c.args.machine.now c.post.new.machine s has) c.post.ensures

pub returns-in-Grow-clause-done : goal.returns-in-Grow-clause-done
returns-in-Grow-clause-done g c =
    on_ok_weaker c.grow.result (grow-done (g.G.Grow.label_of c.args.g.now) (g.G.Grow.kids_of c.args.g.now) (g.G.Grow.row_of c.args.g.now) (g.G.Grow.IsOwn c.args.g.now)
    c.args.machine.now c.args.event c.in-Grow.w c.index_mut.result.now c.grow.new.self c.in-Grow.is c.requires.enabled c.index_mut.ensures.value) c.grow.ensures.grown

pub returns-in-Grow-clause-own : goal.returns-in-Grow-clause-own
returns-in-Grow-clause-own g c =
    let there = growing-at c.args.machine.now.workers.items c.args.event c.in-Grow.w c.in-Grow.is c.requires.enabled in
    on_ok_weaker c.grow.result (λ p. grows-own (g.G.Grow.IsOwn c.args.g.now) (g.G.Grow.label_of c.args.g.now) (g.G.Grow.kids_of c.args.g.now) (g.G.Grow.row_of c.args.g.now)
    c.args.machine.now.workers.items c.in-Grow.w c.index_mut.result.now c.grow.new.self (at-now c.args.machine.now.workers.items c.in-Grow.w there.0 c.index_mut.result.now there.1 c.index_mut.ensures.value) p c.requires.own) c.grow.ensures.grown

pub returns-in-Put-clause-done : goal.returns-in-Put-clause-done
returns-in-Put-clause-done g c =
    on_ok_weaker c.put.result (put-done (g.G.Grow.label_of c.args.g.now) (g.G.Grow.kids_of c.args.g.now)
    c.args.machine.now c.args.event c.in-Put.w c.index_mut-in-Put.result.now c.put.new.self c.in-Put.is c.requires.enabled c.index_mut-in-Put.ensures.value) c.put.ensures

pub returns-in-Put-clause-own : goal.returns-in-Put-clause-own
returns-in-Put-clause-own g c =
    let there = busy-at c.args.machine.now.workers.items c.args.event c.in-Put.w c.in-Put.is c.requires.enabled in
    on_ok_weaker c.put.result (λ p. puts-own (g.G.Grow.IsOwn c.args.g.now)
    c.args.machine.now.workers.items c.in-Put.w c.index_mut-in-Put.result.now c.put.new.self (at-now c.args.machine.now.workers.items c.in-Put.w there.0 c.index_mut-in-Put.result.now there.1 c.index_mut-in-Put.ensures.value) p c.requires.own) c.put.ensures

pub returns-in-Take-clause-done : goal.returns-in-Take-clause-done
returns-in-Take-clause-done g c =
    on_ok_weaker c.take.result (take-done (g.G.Grow.label_of c.args.g.now) (g.G.Grow.kids_of c.args.g.now)
    c.args.machine.now c.args.event c.in-Take.w c.index_mut-in-Take.result.now c.take.new.self c.in-Take.is c.requires.enabled c.index_mut-in-Take.ensures.value) c.take.ensures

pub returns-in-Take-clause-own : goal.returns-in-Take-clause-own
returns-in-Take-clause-own g c =
    let there = taking-at c.args.machine.now.workers.items c.args.event c.in-Take.w c.in-Take.is c.requires.enabled in
    on_ok_weaker c.take.result (λ p. takes-own (g.G.Grow.IsOwn c.args.g.now)
    c.args.machine.now.workers.items c.in-Take.w c.index_mut-in-Take.result.now c.take.new.self (at-now c.args.machine.now.workers.items c.in-Take.w there.0 c.index_mut-in-Take.result.now there.1 c.index_mut-in-Take.ensures.value) p c.requires.own) c.take.ensures

pub returns-in-Steal-clause-done : goal.returns-in-Steal-clause-done
returns-in-Steal-clause-done g c =
    on_ok_weaker c.steal.result (steal-done (g.G.Grow.label_of c.args.g.now) (g.G.Grow.kids_of c.args.g.now) c.args.machine.now c.steal.new.machine c.args.event c.in-Steal.w c.in-Steal.from c.in-Steal.is c.requires.enabled) c.steal.ensures

pub returns-in-Steal-clause-own : goal.returns-in-Steal-clause-own
returns-in-Steal-clause-own g c =
    on_ok_weaker c.steal.result (λ s. steals-own (g.G.Grow.IsOwn c.args.g.now) c.in-Steal.w c.in-Steal.from c.args.machine.now c.steal.new.machine s c.requires.own) c.steal.ensures

pub returns-in-Steal-clause-rows : goal.returns-in-Steal-clause-rows
returns-in-Steal-clause-rows g c =
    on_ok_weaker c.steal.result (λ s has. steals-rows (g.G.Grow.row_of c.args.g.now) c.in-Steal.w c.in-Steal.from c.args.machine.now c.steal.new.machine s has) c.steal.ensures
