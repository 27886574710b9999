use Rattle.candidate_states.proofs.LinkLemmas.{all-settled-keep, numbers-through, stages-settled}
use Rattle.candidate_states.proofs.pivot_making.number_node.Goals as goal

pub number_at-requires-2-clause-targets : goal.number_at-requires-2-clause-targets
number_at-requires-2-clause-targets c = λ rank edge has.
    all-settled-keep c.args.graph.now.nodes c.args.pivot c.args.asked.now c.args.numbers.now.items c.number_at.new.numbers.items edge.next c.number_at.ensures.keeps (c.requires.targets rank edge has)

pub number_at-requires-3-clause-targets : goal.number_at-requires-3-clause-targets
number_at-requires-3-clause-targets c = λ rank edge has.
    all-settled-keep c.args.graph.now.nodes c.args.pivot c.args.asked.now c.args.numbers.now.items c.number_at-2.new.numbers.items edge.next
    (numbers-through c.args.numbers.now.items c.number_at.new.numbers.items c.number_at-2.new.numbers.items c.number_at.ensures.keeps c.number_at-2.ensures.keeps) (c.requires.targets rank edge has)

pub returns-clause-settled : goal.returns-clause-settled
returns-clause-settled c =
    stages-settled c.args.graph.now.nodes c.args.pivot c.args.asked.now c.number_at.new.numbers.items c.number_at-2.new.numbers.items c.number_at-3.new.numbers.items c.args.node
    c.number_at-2.ensures.keeps c.number_at-3.ensures.keeps c.in_ok-number_at.ensures.settled c.in_ok-number_at-2.ensures.settled c.in_ok-number_at-3.ensures.settled
