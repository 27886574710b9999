use Rattle.std.proofs.Common.{◌≡◌, ◌-◌, ◌≤◌, ◌==◌, ◌++◌, length, drop}
use Rattle.candidate_graph.specs.Words.{point_of, stands_from}
use Rattle.candidate_graph.proofs.words.read_stands.Given as goal

-- the stands so far, and those of the words that are left
abbrev pub invariant-words : goal.invariant-words
invariant-words l = record {
  begun : 1 ≤ l.at;
  left : l.stands.items ++ stands_from (l.at == 1) (drop l.at l.words) ≡ (point_of l.words).stands;
}

abbrev pub decreases-words : goal.decreases-words
decreases-words l = length l.words - l.at
