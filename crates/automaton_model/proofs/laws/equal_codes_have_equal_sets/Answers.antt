use Rattle.std.specs.List.{Contains}
use Rattle.automaton_model.specs.Members.{IsPivotMember}
use Rattle.automaton_model.proofs.AutomatonLemmas.{equal-codes}
use Rattle.automaton_model.proofs.laws.equal_codes_have_equal_sets.Goals as goal

pub returns : goal.returns
returns c = record {
  sequences = λ d e order others pivot top items more code p q ranks.
      equal-codes (IsPivotMember d order pivot items) (IsPivotMember e others top more) code p q ranks;
  lists = λ first second code p q ranks. equal-codes (Contains first) (Contains second) code p q ranks;
}
