-- The counted work of a run: the pairs of a sequence and one of its candidates. The candidates are those of
-- the DESQ article.
use Rattle.std.specs.Prelude.{◌≡◌, ℕ, ◌+◌, min, List, [], ◌∷◌}
use Rattle.mine_model.specs.declared.mined.Work.{Work}
use Rattle.mine_model.specs.Limits.{most_told_pairs}
use Rattle.mine_model.specs.Support.{Sequence}
use Rattle.mine_model.specs.Answer.{Data}
use Rattle.mine_model.specs.Candidates.{IsCandidate}
use Rattle.mine_model.specs.Numbers.{IsNumberOf}

-- the items have so many candidates: patterns of frequent items that the expression generates from them
abbrev pub HasCandidates : {A : Type 0} → Data A → List A → ℕ → Type 0
HasCandidates d items count = IsNumberOf (IsCandidate d items) count

-- n is the number of pairs of one of these sequences and one of its candidates
abbrev pub HasPairs : {A : Type 0} → Data A → List (Sequence A) → ℕ → Type 0
HasPairs d [] n = n ≡ 0
HasPairs d (sequence ∷ sequences) n =
    (first : ℕ) × (rest : ℕ) × (n ≡ first + rest)
    × HasCandidates d sequence.items first × HasPairs d sequences rest

-- the number that is told: a greater one than the most is told as that
abbrev pub told_of : ℕ → ℕ
told_of n = min n most_told_pairs

-- it is what is told of the number that has the property
abbrev pub IsTold : (ℕ → Type 0) → ℕ → Type 0
IsTold Has told = (n : ℕ) × Has n × (told ≡ told_of n)

-- the work of a run that counts candidates: there is no search tree
pub record IsCountingWork {A : Type 0} (d : Data A) (work : Work) : Type 0 where
  pub nodes : work.nodes ≡ 0
  pub parts : work.parts ≡ 0
  pub pairs : IsTold (HasPairs d d.sequences) work.candidates
