-- Walks over links, and what follows from them.
use Rattle.std.proofs.Common.{◌≡◌, ◌⊎◌, inl, inr, List, [], ◌∷◌, ◌++◌, refl, sym, ap, subst}
use Rattle.std.specs.List.{Contains}
use Rattle.mine_model.specs.Hierarchy.{Link, IsWalk, IsAncestor, HasCycle, IsAcyclic}
use Rattle.mine_model.proofs.ListLemmas.{Contains-cases, Contains-first, Contains-other}

module _ {A : Type 0} (links : List (Link A)) where
  pub IsAncestor-itself : (t : A) → IsAncestor links t t
  IsAncestor-itself t = ([], refl)

  pub IsWalk-join : (t : A) (steps : List A) (w : A) (more : List A) (v : A) → IsWalk links t steps w → IsWalk links w more v → IsWalk links t (steps ++ more) v
  IsWalk-join t [] w more v same walk = subst (λ t. IsWalk links t more v) (sym same) walk
  IsWalk-join t (next ∷ steps) w more v walk walk' = (walk.0, IsWalk-join next steps w more v walk.1 walk')

  -- what stands above what stands above t stands above t
  pub IsAncestor-chain : (v w t : A) → IsAncestor links v w → IsAncestor links w t → IsAncestor links v t
  IsAncestor-chain v w t up down = (down.0 ++ up.0, IsWalk-join t down.0 w up.0 v down.1 up.1)

  -- what stands above each other is the same, or there is a cycle
  pub same_or_cycle : (t w : A) → IsAncestor links w t → IsAncestor links t w → (w ≡ t) ⊎ HasCycle links
  same_or_cycle t w ([], same) down = inl (sym same)
  same_or_cycle t w (next ∷ steps, walk) down = inr (t, next, steps ++ down.0, IsWalk-join t (next ∷ steps) w down.0 t walk down.1)

  -- with more links there are more walks
  module _ (others : List (Link A)) (more : (link : Link A) → Contains links link → Contains others link) where
    pub IsWalk-more : (t : A) (steps : List A) (w : A) → IsWalk links t steps w → IsWalk others t steps w
    IsWalk-more t [] w same = same
    IsWalk-more t (next ∷ steps) w walk = (more (record { child = t; parent = next }) walk.0, IsWalk-more next steps w walk.1)

    pub IsAncestor-more : (w t : A) → IsAncestor links w t → IsAncestor others w t
    IsAncestor-more w t up = (up.0, IsWalk-more t up.0 w up.1)

    pub HasCycle-more : HasCycle links → HasCycle others
    HasCycle-more (t, next, steps, walk) = (t, next, steps, IsWalk-more t (next ∷ steps) t walk)

    pub IsAcyclic-fewer : IsAcyclic others → IsAcyclic links
    IsAcyclic-fewer acyclic cycle = acyclic (HasCycle-more cycle)

-- One link more

module _ {A : Type 0} (links : List (Link A)) (link : Link A) where
  -- a walk over one more link need not take it more than once
  pub IsWalk-without : (t : A) (steps : List A) (w : A) → IsWalk (link ∷ links) t steps w
      → IsAncestor links w t ⊎ (IsAncestor links link.child t × IsAncestor links w link.parent)
  IsWalk-without t [] w same = inl ([], same)
  IsWalk-without t (up ∷ steps) w walk = elim (Contains-cases link links (record { child = t; parent = up }) walk.0) [
    | inl here ↦
        let child : t ≡ link.child = ap (λ l. l.child) here in
        let parent : up ≡ link.parent = ap (λ l. l.parent) here in
        elim (IsWalk-without up steps w walk.1) [
          | inl above ↦ inr (([], child), subst (IsAncestor links w) parent above)
          | inr again ↦ inr (([], child), again.1)
        ]
    | inr there ↦ elim (IsWalk-without up steps w walk.1) [
      | inl above ↦ inl (up ∷ above.0, (there, above.1))
      | inr again ↦ inr ((up ∷ again.0.0, (there, again.0.1)), again.1)
    ]
  ]

  more : (other : Link A) → Contains links other → Contains (link ∷ links) other
  more other held = Contains-other link links other held

  pub IsAncestor-with : (w t : A) → IsAncestor links w t ⊎ (IsAncestor links link.child t × IsAncestor links w link.parent) → IsAncestor (link ∷ links) w t
  IsAncestor-with w t (inl above) = IsAncestor-more links (link ∷ links) more w t above
  IsAncestor-with w t (inr over) =
      let step : IsAncestor (link ∷ links) link.parent link.child = (link.parent ∷ [], (Contains-first link links, refl)) in
      IsAncestor-chain (link ∷ links) w link.parent t (IsAncestor-more links (link ∷ links) more w link.parent over.1)
      (IsAncestor-chain (link ∷ links) link.parent link.child t step (IsAncestor-more links (link ∷ links) more link.child t over.0))
