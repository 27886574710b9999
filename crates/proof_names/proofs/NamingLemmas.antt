-- The names of a numbering, and what stands above them.
use Rattle.std.proofs.Common.{◌≡◌, ℕ, zero, suc, ◌<◌, List, [], ◌∷◌, length, Contains, subst, arith}
use Rattle.std.specs.List.{AllByRecursion, slice_index_or}
use Rattle.mine_model.specs.declared.item.Item.{Item}
use Rattle.mine_model.specs.Answer.{Data}
use Rattle.mine_model.specs.Hierarchy.{Link, IsWalk, IsAncestor}
use Rattle.mine_model.specs.Names.{name_of, HasName}
use Rattle.mine_model.proofs.AncestryLemmas.{Item-same}
use Rattle.mine_model.proofs.ListLemmas.{Contains-first, Contains-other, AllByRecursion-contained, AllByRecursion-weaker}
use Rattle.mine_model.proofs.NamedAnswer.{named_data}
use Rattle.mine_model.proofs.NumberingLemmas.{Renames}
use Rattle.mine_model.proofs.NameLemmas.{number-of}
use Rattle.mining_job.specs.Problems.{Problem, data_of}
use Rattle.proof_names.specs.Numberings.{IsNumbering}

-- and what has a number is a name
pub index-held : (names : List (List ℕ)) (n : ℕ) → n < length names → Contains names (slice_index_or names n [])
index-held [] n less = absurd (omega (arith, less))
index-held (first ∷ names) zero less = Contains-first first names
index-held (first ∷ names) (suc n) less = Contains-other first names (slice_index_or names n []) (index-held names n (omega (arith, less)))

pub name-held : (names : List (List ℕ)) (w : Item) → HasName names w → Contains names (name_of names w)
name-held names w held = index-held names w.0 held

-- what stands above a thing that P holds of has P, where each parent has it
pub above-has : {A : Type 0} (P : A → Type 0) (links : List (Link A)) → AllByRecursion (λ link. P link.parent) links
    → (t w : A) → P t → IsAncestor links w t → P w
above-has {A} P links parents t w p (steps, walk) = by t steps p walk
  where
    by : (t : A) (steps : List A) → P t → IsWalk links t steps w → P w
    by t [] p same = subst P same p
    by t (next ∷ steps) p walk =
        by next steps (AllByRecursion-contained (λ (link : Link A). P link.parent) links (record { child = t; parent = next }) parents walk.0) walk.1

module _ (d : Data (List ℕ)) (known names : List (List ℕ)) (problem : Problem) (numbering : IsNumbering d known names problem) where
  -- numbers of names are renamed by their names
  pub renames-of : Renames problem.hierarchy.links d.links (HasName names) (name_of names)
  renames-of = record {
    one_to_one = λ x y x_held y_held same. Item-same x y (numbering.files.distinct x.0 y.0 x_held y_held same);
    forth = λ w t w_held t_held up. (numbering.above w t w_held t_held).0 up;
    back = λ w t w_held t_held up. (numbering.above w t w_held t_held).1 up;
    up = λ v t up held. above-has (HasName names) problem.hierarchy.links
        (AllByRecursion-weaker (λ (link : Link Item). HasName names link.child × HasName names link.parent) (λ (link : Link Item). HasName names link.parent)
        (λ link both. both.1) problem.hierarchy.links numbering.named.links) t v held up;
    upward = λ v t held up. number-of names v (above-has (Contains names) d.links numbering.parents (name_of names t) v (name-held names t held) up);
  }

  -- and the data are those of the problem under the names
  pub data-named : named_data names d.links (data_of problem) ≡ d
  data-named = λ i. record {
    links = d.links;
    sequences = numbering.sequences i;
    expression = numbering.expression i;
    threshold = numbering.threshold i;
  }
