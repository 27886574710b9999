use Rattle.std.specs.List.{Contains}
use Rattle.automaton_model.specs.Members.{IsPivotMember}
use Rattle.automaton_model.proofs.AutomatonLemmas.{code-unique, code-also}
use Rattle.automaton_model.proofs.laws.sets_have_one_code.Goals as goal

pub returns : goal.returns
returns c = record {
  one = λ d order pivot items code other p q. code-unique (IsPivotMember d order pivot items) code other p q;
  same = λ d order pivot items others code alike p. code-also (IsPivotMember d order pivot items) (IsPivotMember d order pivot others) alike code p;
  lists = λ lists code other p q. code-unique (Contains lists) code other p q;
}
