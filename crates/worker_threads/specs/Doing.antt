-- What is made of each element of a list.
use Rattle.std.specs.Prelude.{List, [], ◌∷◌}

module _ {A B : Type 0} (Does : A → B → Type 0) where
  -- each of the one is done as the other in its place
  abbrev pub AreDone : List A → List B → Type 0
  AreDone [] [] = Unit {0}
  AreDone (start ∷ starts) (done ∷ dones) = Does start done × AreDone starts dones
  AreDone _ _ = ⊥
