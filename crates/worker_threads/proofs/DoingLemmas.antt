-- What is made of each element of a list, one place after another.
use Rattle.std.proofs.Common.{◌≡◌, ℕ, zero, suc, ◌<◌, ◌≤◌, List, [], ◌∷◌, map, length, refl, sym, ap, subst, arith, get_or, slice_get, slice_index_or, Some, Result, Ok}
use Rattle.std.specs.List.{remove}
use Rattle.std.proofs.lemmas.Option.{same_Some}
use Rattle.worker_threads.specs.Doing.{AreDone}

module _ {A B : Type 0} (Does : A → B → Type 0) where
  -- by places
  pub done-by_place : (starts : List A) (dones : List B) → length dones ≡ length starts
      → ((k : ℕ) (d : B) → k < length starts → (start : A) × (get_or starts k start ≡ start) × Does start (get_or dones k d))
      → AreDone Does starts dones
  done-by_place [] [] many each = tt
  done-by_place [] (done ∷ dones) many each = absurd (omega (arith, many))
  done-by_place (start ∷ starts) [] many each = absurd (omega (arith, many))
  done-by_place (start ∷ starts) (done ∷ dones) many each =
      let (job, is, does) = each 0 done (omega arith) in (
        subst (λ (a : A). Does a done) (sym is) does,
        done-by_place starts dones (omega (arith, many)) (λ k d within. each (suc k) d (omega (arith, within))),
      )

module _ {A B E : Type 0} (Does : A → Result B E → Type 0) where
  -- those of which all came back
  pub done-all_ok : (starts : List A) (dones : List B) → AreDone Does starts (map Ok dones) → AreDone (λ start done. Does start (Ok done)) starts dones
  done-all_ok [] [] are = tt
  done-all_ok [] (done ∷ dones) are = absurd are
  done-all_ok (start ∷ starts) [] are = absurd are
  done-all_ok (start ∷ starts) (done ∷ dones) are = (are.0, done-all_ok starts dones are.1)

-- the first of a list, and the rest
pub first-apart : {A : Type 0} (xs : List A) (first : A) → 1 ≤ length xs → first ≡ slice_index_or xs 0 first → first ∷ remove xs 0 ≡ xs
first-apart [] first some is = absurd (omega (arith, some))
first-apart (x ∷ xs) first some is = (λ i. is i ∷ xs)

module _ {A B : Type 0} (Does Did : A → B → Type 0) where
  -- what says less
  pub done-weaker : ((start : A) (done : B) → Does start done → Did start done) → (starts : List A) (dones : List B) → AreDone Does starts dones → AreDone Did starts dones
  done-weaker says [] [] are = tt
  done-weaker says [] (done ∷ dones) are = absurd are
  done-weaker says (start ∷ starts) [] are = absurd are
  done-weaker says (start ∷ starts) (done ∷ dones) are = (says start done are.0, done-weaker says starts dones are.1)

module _ {A B : Type 0} (Does : A → B → Type 0) where
  -- one place
  pub done-at : (starts : List A) (dones : List B) → AreDone Does starts dones → (k : ℕ) (done : B) → slice_get dones k ≡ Some done
      → (start : A) × (slice_get starts k ≡ Some start) × Does start done
  done-at [] [] are k done at = absurd (cc)
  done-at [] (other ∷ dones) are k done at = absurd are
  done-at (start ∷ starts) [] are k done at = absurd are
  done-at (start ∷ starts) (other ∷ dones) are zero done at = (start, refl, subst (Does start) (same_Some other done at) are.0)
  done-at (start ∷ starts) (other ∷ dones) are (suc k) done at = done-at starts dones are.1 k done at

  pub done-long : (starts : List A) (dones : List B) → AreDone Does starts dones → length dones ≡ length starts
  done-long [] [] are = refl
  done-long [] (done ∷ dones) are = absurd are
  done-long (start ∷ starts) [] are = absurd are
  done-long (start ∷ starts) (done ∷ dones) are = ap suc (done-long starts dones are.1)
