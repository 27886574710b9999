-- The counted work of the engine over candidate automata, without ranks. Pivots are from the article on
-- pivots; that sets are counted is own.
use Rattle.std.specs.Prelude.{◌≡◌, ℕ, ◌↔◌, List, [], length, AllPairs, Contains}
use Rattle.mine_model.specs.declared.mined.Work.{Work}
use Rattle.mine_model.specs.Generation.{IsPatternOf}
use Rattle.mine_model.specs.Support.{Sequence}
use Rattle.mine_model.specs.Answer.{Data}
use Rattle.mine_model.specs.Growth.{IsAlive}
use Rattle.mine_model.specs.PartitionWork.{IsPivotOf}

-- n is the number of classes of the things with the property, of which those that are alike are one: a list
-- holds one thing of each class
pub record IsNumberOfClasses {X : Type 0} (Has : X → Type 0) (AreAlike : X → X → Type 0) (n : ℕ)
    : Type 0 where
  pub things : List X
  pub apart : AllPairs (λ first second. AreAlike first second → ⊥) things
  pub has : (x : X) → Contains things x → Has x
  pub all : (x : X) → Has x → (thing : X) × Contains things thing × AreAlike thing x
  pub counted : n ≡ length things

-- a pivot and a sequence, which stand for the candidates of the sequence with this pivot
pub record PivotCandidates (A : Type 0) : Type 0 where
  pub pivot : A
  pub sequence : Sequence A

-- the pattern is one of them
pub record IsPivotCandidate {A : Type 0} (Ties : A → A → Type 0) (d : Data A) (of : PivotCandidates A)
    (pattern : List A) : Type 0 where
  pub generated : IsPatternOf d.links d.expression of.sequence.items pattern
  pub bounded : IsPivotOf Ties d of.pivot pattern

-- the pivot is alive, and the sequence is one of the data and has candidates with it
pub record AreOfPart {A : Type 0} (Ties : A → A → Type 0) (d : Data A) (of : PivotCandidates A) : Type 0 where
  pub alive : IsAlive d (IsPivotOf Ties d of.pivot) []
  pub held : Contains d.sequences of.sequence
  pub some : (pattern : List A) × IsPivotCandidate Ties d of pattern

-- the pivot is the same, and so is the set of candidates
pub record AreSameSet {A : Type 0} (Ties : A → A → Type 0) (d : Data A) (first second : PivotCandidates A)
    : Type 0 where
  pub pivot : first.pivot ≡ second.pivot
  pub same : (pattern : List A)
      → IsPivotCandidate Ties d first pattern ↔ IsPivotCandidate Ties d second pattern

-- each set of candidates with an alive pivot is counted once for this pivot, if it has a member; there is
-- no search tree
pub record IsCandidateSetWork {A : Type 0} (Ties : A → A → Type 0) (d : Data A) (work : Work) : Type 0 where
  pub nodes : work.nodes ≡ 0
  pub parts : IsNumberOfClasses (AreOfPart Ties d) (AreSameSet Ties d) work.parts
  pub candidates : work.candidates ≡ 0
