-- The work of a search by pivots. From the article on pivots; the order of items of one frequency is own.
use Rattle.std.specs.Prelude.{◌≡◌, ℕ, ◌<◌, ◌⊎◌, List, [], Contains}
use Rattle.std.specs.List.{AllByRecursion}
use Rattle.std.specs.Ordering.{nat_cmp}
use Rattle.std.specs.Cmp.Lexicographic.{slice_cmp}
use Rattle.std.specs.declared.cmp.Ordering.TheVariants.{Less}
use Rattle.mine_model.specs.declared.item.Item.{Item}
use Rattle.mine_model.specs.declared.mined.Work.{Work}
use Rattle.mine_model.specs.Support.{HasFrequency}
use Rattle.mine_model.specs.Answer.{Data}
use Rattle.mine_model.specs.Numbers.{IsNumberOf}
use Rattle.mine_model.specs.Growth.{IsAlive, AreFrequentItems}
use Rattle.mine_model.specs.Names.{name_of}

-- v ranks before w: its frequency is greater, or it is the same and the ties say so
pub record RanksBefore {A : Type 0} (Ties : A → A → Type 0) (d : Data A) (v w : A) : Type 0 where
  pub first : ℕ
  pub second : ℕ
  pub of_first : HasFrequency d.links d.sequences v first
  pub of_second : HasFrequency d.links d.sequences w second
  pub before : (second < first) ⊎ ((first ≡ second) × Ties v w)

-- the pivot of the items, which are all frequent: the one before which each other one ranks
pub record IsPivotOf {A : Type 0} (Ties : A → A → Type 0) (d : Data A) (pivot : A) (items : List A)
    : Type 0 where
  pub frequent : AreFrequentItems d items
  pub held : Contains items pivot
  pub last : AllByRecursion (λ v. (v ≡ pivot) ⊎ RanksBefore Ties d v pivot) items

-- the work of a search by pivots: its nodes are the pairs of a pivot and a prefix that is alive within the
-- bound of this pivot, and each pivot under which the empty prefix is alive has a part
pub record IsPartitionWork {A : Type 0} (Ties : A → A → Type 0) (d : Data A) (work : Work) : Type 0 where
  pub nodes : IsNumberOf (λ (label : A × List A). IsAlive d (IsPivotOf Ties d label.0) label.1) work.nodes
  pub parts : IsNumberOf (λ (pivot : A). IsAlive d (IsPivotOf Ties d pivot) []) work.parts
  pub candidates : work.candidates ≡ 0

-- names in byte order, a proper prefix first
abbrev pub IsBytewiseBefore : List ℕ → List ℕ → Type 0
IsBytewiseBefore name other = slice_cmp nat_cmp name other ≡ Less

-- items in the byte order of their names
abbrev pub IsNamedBefore : List (List ℕ) → Item → Item → Type 0
IsNamedBefore names v w = IsBytewiseBefore (name_of names v) (name_of names w)
