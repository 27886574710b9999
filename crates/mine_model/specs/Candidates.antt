-- Frequent items, and the candidates of a sequence. From the DESQ article.
use Rattle.std.specs.Prelude.{ℕ, ◌≤◌, List}
use Rattle.std.specs.List.{AllByRecursion}
use Rattle.mine_model.specs.Hierarchy.{Link}
use Rattle.mine_model.specs.Expression.{Tree}
use Rattle.mine_model.specs.Generation.{IsPatternOf}
use Rattle.mine_model.specs.Support.{Sequence, HasFrequency}
use Rattle.mine_model.specs.Answer.{Data}

-- the frequency of the item reaches the threshold
pub record IsFrequentItem {A : Type 0} (links : List (Link A)) (sequences : List (Sequence A)) (threshold : ℕ)
    (w : A) : Type 0 where
  pub frequency : ℕ
  pub exact : HasFrequency links sequences w frequency
  pub enough : threshold ≤ frequency

-- a pattern of the sequence all of whose items have the property, as that of being frequent
pub record IsCandidateOf {A : Type 0} (links : List (Link A)) (expression : Tree A) (Allowed : A → Type 0)
    (sequence pattern : List A) : Type 0 where
  pub generated : IsPatternOf links expression sequence pattern
  pub allowed : AllByRecursion Allowed pattern

-- a pattern that the expression generates from the items, all of whose items are frequent
abbrev pub IsCandidate : {A : Type 0} → Data A → List A → List A → Type 0
IsCandidate d items pattern =
    IsCandidateOf d.links d.expression (IsFrequentItem d.links d.sequences d.threshold) items pattern
