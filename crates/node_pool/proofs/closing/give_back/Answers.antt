use Rattle.std.proofs.Common.{◌≡◌, length, arith}
use Rattle.node_pool.proofs.Steps.{returns}
use Rattle.node_pool.proofs.Returning.{returning_can, returning_step, returning_ends}
use Rattle.node_pool.proofs.closing.give_back.Goals as goal

pub absorb-requires-clause-rule : goal.absorb-requires-clause-rule
absorb-requires-clause-rule g c =
    let place : c.len.result ≡ length c.pop.new.self.items = omega (arith, c.len.ensures, c.pop.new.self.ok.0) in
    let can = returning_can c.args.owners.now.items c.args.ways.items c.ways.owners.items c.ways.ways.items c.pop.new.self.items c.in-Some.way c.index_mut.result.now c.len.result
    c.requires.rights place c.in-Some.ensures.items c.index_mut.ensures.value c.ways.invariant in
    returns g.T.Task.label_of g.T.Task.ground_of _ _ _ _ can.1 can.2

pub ways-preserved : goal.ways-preserved
ways-preserved g c =
    let place : c.len.result ≡ length c.pop.new.self.items = omega (arith, c.len.ensures, c.pop.new.self.ok.0) in
    returning_step c.args.owners.now.items c.args.ways.items c.ways.owners.items c.ways.ways.items c.pop.new.self.items c.in-Some.way c.index_mut.result.now c.absorb.new.self c.len.result
    place c.in-Some.ensures.items c.index_mut.ensures.value (c.absorb.ensures.same.0.0, c.absorb.ensures.rule) c.ways.invariant

pub returns-clause-returned : goal.returns-clause-returned
returns-clause-returned g c = returning_ends c.args.owners.now.items c.args.ways.items c.ways.owners.items c.ways.ways.items (omega (arith, c.in_default.ensures.cases, c.ways.ways.ok.0)) c.ways.invariant
