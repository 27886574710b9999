use Rattle.std.proofs.Common.{◌≡◌, ◌+◌, ◌-◌, Some, get_or, subst, arith}
use Rattle.std.specs.List.{slice_get}
use Rattle.std.proofs.lemmas.Option.{slice_get-get_or}
use Rattle.graph_order.specs.declared.order.Turn.{Turn}
use Rattle.graph_order.proofs.StepLemmas.{no-turn, turn-there}
use Rattle.candidate_states.proofs.AskLemmas.{AreClosedFrom, keeps-through, closed-more, closed-all}
use Rattle.candidate_states.proofs.asking.ask_all.Goals as goal

pub ask_behind-requires-clause-node : goal.ask_behind-requires-clause-node
ask_behind-requires-clause-node c =
    let place = c.loop-index.index - 1 in
    c.requires.order.inside (get_or c.args.order.now place no-turn) (turn-there c.args.order.now place (omega arith))

pub loop-index-preserved : goal.loop-index-preserved
loop-index-preserved c =
    let nodes = c.args.graph.now.nodes in
    let order = c.args.order.now in
    let place = c.loop-index.index - 1 in
    let turn : Turn = get_or order place no-turn in
    let at : slice_get order place ≡ Some turn = slice_get-get_or order place no-turn (omega arith) in
    let before = c.loop-index.asked.items in
    let now = c.ask_behind.new.asked.items in
    let index : c.loop-index.index ≡ place + 1 = omega arith in
    record {
      long = c.ask_behind.ensures.long;
      keeps = keeps-through c.args.asked.now.items before now c.loop-index.invariant.keeps c.ask_behind.ensures.keeps;
      closed = closed-more nodes c.args.pivot order c.requires.order before now place turn at c.ask_behind.ensures.keeps c.ask_behind.ensures.others c.ask_behind.ensures.closed
          (subst (AreClosedFrom nodes c.args.pivot order c.requires.order before) index c.loop-index.invariant.closed);
    }

pub returns-clause-closed : goal.returns-clause-closed
returns-clause-closed c =
    closed-all c.args.graph.now.nodes c.args.pivot c.args.order.now c.requires.order c.loop-index.asked.items c.loop-index.index (omega arith) c.loop-index.invariant.closed
