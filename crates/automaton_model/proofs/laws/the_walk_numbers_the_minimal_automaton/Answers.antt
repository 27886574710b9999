use Rattle.automaton_model.proofs.WalkLemmas.{walk-begin, walk-skip, walk-visit, walk-end}
use Rattle.automaton_model.proofs.laws.the_walk_numbers_the_minimal_automaton.Goals as goal

pub returns : goal.returns
returns c = record {
  begin = λ states registry root. walk-begin states registry root;
  pass = λ states registry root visits waiting path walk seen. walk-skip states registry root visits path waiting walk seen;
  visit = λ states registry root visits waiting path state walk fresh is. walk-visit states registry root visits path waiting walk fresh state is;
  finish = λ states registry root visits state new walk is zip. walk-end states registry root visits walk state is new zip;
}
