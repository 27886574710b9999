use Rattle.std.proofs.Common.{◌≡◌, ◌<◌, ◌∷◌, if◌then◌else◌, take}
use Rattle.std.specs.List.{All}
use Rattle.candidate_graph.specs.Words.{words_of}
use Rattle.candidate_graph.proofs.words.write_key.Given as goal

-- the words of the stands so far
abbrev pub invariant-loop-index : goal.invariant-loop-index
invariant-loop-index l = record {
  written : l.words.items ≡ (if l.seen then 1 else 0) ∷ words_of (take l.index l.stands);
  small : All (λ stand. stand.state < 65536) (take l.index l.stands);
}
