use Rattle.automaton_model.specs.Automata.{Accepts}
use Rattle.automaton_model.proofs.SearchLemmas.{moved-weigh, weigh-added}
use Rattle.automaton_model.proofs.laws.loads_go_along_edges.Goals as goal

pub returns : goal.returns
returns c = record {
  moved = λ states registry rank ranks loads others are n weigh. moved-weigh states registry rank ranks loads others are n weigh;
  added = λ states ranks state a b loads n weigh. weigh-added (λ k. Accepts states k ranks) state a b loads n weigh;
}
