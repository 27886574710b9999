use Rattle.std.specs.List.{Contains}
use Rattle.automaton_model.proofs.LanguageLemmas.{node-found, node-pushed, registry-pushed, nodes-same}
use Rattle.automaton_model.proofs.laws.a_registry_grows.Goals as goal

pub returns : goal.returns
returns c = record {
  found = λ states registry lists state is number at. node-found states registry (Contains lists) state is number at;
  pushed = λ states registry lists state is. node-pushed states registry (Contains lists) state is;
  stays = λ states registry lists state is new. registry-pushed states registry (Contains lists) state is new;
  same = λ states registry first second i j low high p q. nodes-same states registry (Contains first) (Contains second) i j low high p q;
}
