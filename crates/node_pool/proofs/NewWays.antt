-- The ways of a new seat, one by one.
use Rattle.std.proofs.Common.{◌≡◌, ℕ, zero, suc, ◌+◌, ◌<◌, ◌≤◌, List, [], ◌∷◌, ◌++◌, Option, Some, refl, ap, sym, ◌∙◌, subst, slice_get, get_or, length, map, take, arith, add-one}
use Rattle.std.proofs.lemmas.List.{length-map, length-take-le, length_push, map_push}
use Rattle.std.proofs.lemmas.Option.{slice_get-map, slice_get_read}
use Rattle.std.specs.Option.{option_map}
use Rattle.std.specs.declared.vec.Vec.{Vec}
use Rattle.std.specs.declared.alloc.Global.{Global}
use Rattle.crossbeam_deque.specs.Handles.{view, worker_deque, stealer_deque}
use Rattle.node_pool.specs.declared.way.Way.{Way}
use Rattle.node_pool.specs.Rule.{account}
use Rattle.node_pool.specs.Deques.{Deque, pool_by}
use Rattle.node_pool.specs.Ways.{share}
use Rattle.node_pool.specs.Opening.{Owner, AreNewWays, AreRows}
use Rattle.node_pool.proofs.Lists.{everywhere_snoc}

take_snoc : {X : Type 0} (xs : List X) (k : ℕ) (x : X) → slice_get xs k ≡ Some x → take (suc k) xs ≡ take k xs ++ x ∷ []
take_snoc [] k x e = absurd (cc)
take_snoc (y ∷ ys) zero x e = let is : y ≡ x = cc in ap (λ z. z ∷ []) is
take_snoc (y ∷ ys) (suc k) x e = ap (λ l. y ∷ l) (take_snoc ys k x e)

-- lists with the same images have the same length
pub same_length : {X Y Z : Type 0} (f : X → Z) (g : Y → Z) (xs : List X) (ys : List Y) → map f xs ≡ map g ys → length xs ≡ length ys
same_length f g xs ys e = sym (length-map xs f) ∙ ap length e ∙ length-map ys g

module _ {T G : Type 0} where
  -- which owner is next
  pub owner_at : (k : ℕ) (owners : List (Owner T G)) (o : Owner T G) → k < length owners → o ≡ get_or owners k o → slice_get owners k ≡ Some o
  owner_at k owners o within is = slice_get_read owners (length owners) k o refl within is

  pub pool_next : (k : ℕ) (first owners : List (Owner T G)) (o : Owner T G) (ways : List (Way T G)) (r : Way T G)
      → map (λ (w : Owner T G). worker_deque w) owners ≡ map (λ (w : Owner T G). worker_deque w) first → pool_by ways ≡ take k (map (λ (w : Owner T G). worker_deque w) first) → slice_get owners k ≡ Some o → stealer_deque r.thief ≡ worker_deque o
      → pool_by (ways ++ r ∷ []) ≡ take (k + 1) (map (λ (w : Owner T G). worker_deque w) first)
  pool_next k first owners o ways r same so_far at there =
      let deques = map (λ (w : Owner T G). worker_deque w) first in
      let here : slice_get deques k ≡ Some (worker_deque o) = ap (λ l. slice_get l k) (sym same) ∙ slice_get-map (λ (w : Owner T G). worker_deque w) owners k ∙ ap (option_map (λ (w : Owner T G). worker_deque w)) at in
      map_push (λ (r : Way T G). stealer_deque r.thief) ways r ∙ ap (λ l. l ++ stealer_deque r.thief ∷ []) so_far ∙ ap (λ d. take k deques ++ d ∷ []) there ∙ sym (take_snoc deques k (worker_deque o) here)
      ∙ ap (λ n. take n deques) (sym (add-one k))

  pub ways_next : (known_ground : Option G) (number k : ℕ) (first : List (Owner T G)) (ways : List (Way T G)) (r : Way T G) → k ≤ length first → pool_by ways ≡ take k (map (λ (w : Owner T G). worker_deque w) first)
      → AreNewWays known_ground number ways → view r.right ≡ account (share number k) [] [] known_ground → AreNewWays known_ground number (ways ++ r ∷ [])
  ways_next known_ground number k first ways r within so_far old new =
      let n = length-map ways (λ (r : Way T G). stealer_deque r.thief) in
      let m = length-map first (λ (w : Owner T G). worker_deque w) in
      let front = length-take-le k (map (λ (w : Owner T G). worker_deque w) first) (omega arith) in
      let count : length ways ≡ k = sym n ∙ ap length so_far ∙ front in
      everywhere_snoc (λ j (r : Way T G). view r.right ≡ account (share number j) [] [] known_ground) ways r old (new ∙ ap (λ j. account (share number j) [] [] known_ground) (sym count))

  pub rows_next : (known_ground : Option G) (deques : List Deque) (number : ℕ) (rows : List (Vec (Way T G) Global)) (ways : Vec (Way T G) Global)
      → AreRows known_ground deques number rows → pool_by ways.items ≡ deques → AreNewWays known_ground number ways.items → AreRows known_ground deques (number + 1) (rows ++ ways ∷ [])
  rows_next known_ground deques number rows ways old pool new = (
    omega (arith, length_push rows ways, old.0),
    everywhere_snoc (λ k (w : Vec (Way T G) Global). (pool_by w.items ≡ deques) × AreNewWays known_ground k w.items) rows ways old.1
        (pool, subst (λ k. AreNewWays known_ground k ways.items) (sym old.0) new),
  )
