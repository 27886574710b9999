-- Growth by prefixes. From the DESQ article; that a prefix may grow though it is no pattern is its own point.
use Rattle.std.specs.Prelude.{◌≡◌, ℕ, ◌-◌, ◌⊎◌, List, [], ◌∷◌, ◌++◌}
use Rattle.std.specs.List.{AllByRecursion}
use Rattle.mine_model.specs.declared.mined.Work.{Work}
use Rattle.mine_model.specs.Generation.{IsPatternOf}
use Rattle.mine_model.specs.Support.{Sequence}
use Rattle.mine_model.specs.Answer.{Data}
use Rattle.mine_model.specs.Candidates.{IsFrequentItem}
use Rattle.mine_model.specs.Numbers.{IsNumberOf}

-- the sequences that have the property weigh n or more together; no other sequence has to be known not to
-- have it
abbrev pub WeighAtLeast : {A : Type 0} → (List A → Type 0) → List (Sequence A) → ℕ → Type 0
WeighAtLeast Has [] n = n ≡ 0
WeighAtLeast Has (sequence ∷ sequences) n =
    (Has sequence.items × WeighAtLeast Has sequences (n - sequence.weight)) ⊎ WeighAtLeast Has sequences n

-- the items have a pattern within the bound that begins with the prefix
abbrev pub HasPatternBehind : {A : Type 0} → Data A → (List A → Type 0) → List A → List A → Type 0
HasPatternBehind {A} d IsWithin prefix items =
    (more : List A) × IsPatternOf d.links d.expression items (prefix ++ more) × IsWithin (prefix ++ more)

-- the prefix is alive: the sequences that have such a pattern weigh at least the threshold
abbrev pub IsAlive : {A : Type 0} → Data A → (List A → Type 0) → List A → Type 0
IsAlive d IsWithin prefix = WeighAtLeast (HasPatternBehind d IsWithin prefix) d.sequences d.threshold

-- all items are frequent
abbrev pub AreFrequentItems : {A : Type 0} → Data A → List A → Type 0
AreFrequentItems d items = AllByRecursion (IsFrequentItem d.links d.sequences d.threshold) items

-- the work of a search by prefixes: its nodes are the alive prefixes, and it has one root where there is a
-- node
pub record IsSearchWork {A : Type 0} (d : Data A) (work : Work) : Type 0 where
  pub nodes : IsNumberOf (IsAlive d (AreFrequentItems d)) work.nodes
  pub parts : ((work.parts ≡ 1) × IsAlive d (AreFrequentItems d) [])
      ⊎ ((work.parts ≡ 0) × (IsAlive d (AreFrequentItems d) [] → ⊥))
  pub candidates : work.candidates ≡ 0
