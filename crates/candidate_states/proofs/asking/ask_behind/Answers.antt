use Rattle.candidate_states.proofs.AskLemmas.{keeps-through, others-through, stages-closed}
use Rattle.candidate_states.proofs.asking.ask_behind.Goals as goal

pub returns-clause-keeps : goal.returns-clause-keeps
returns-clause-keeps c =
    keeps-through c.args.asked.now.items c.ask_at-2.new.asked.items c.ask_at-3.new.asked.items
    (keeps-through c.args.asked.now.items c.ask_at.new.asked.items c.ask_at-2.new.asked.items c.ask_at.ensures.keeps c.ask_at-2.ensures.keeps) c.ask_at-3.ensures.keeps

pub returns-clause-others : goal.returns-clause-others
returns-clause-others c =
    let nodes = c.args.graph.now.nodes in
    others-through nodes c.args.pivot c.args.node c.args.asked.now.items c.ask_at-2.new.asked.items c.ask_at-3.new.asked.items
    (others-through nodes c.args.pivot c.args.node c.args.asked.now.items c.ask_at.new.asked.items c.ask_at-2.new.asked.items c.ask_at.ensures.others c.ask_at-2.ensures.others)
    c.ask_at-3.ensures.others

pub returns-clause-closed : goal.returns-clause-closed
returns-clause-closed c =
    stages-closed c.args.graph.now.nodes c.args.pivot c.args.node c.args.asked.now.items c.ask_at.new.asked.items c.ask_at-2.new.asked.items c.ask_at-3.new.asked.items
    c.ask_at.ensures.keeps c.ask_at-2.ensures.keeps c.ask_at-3.ensures.keeps c.ask_at.ensures.others c.ask_at-2.ensures.others c.ask_at-3.ensures.others
    c.ask_at.ensures.closed c.ask_at-2.ensures.closed c.ask_at-3.ensures.closed
