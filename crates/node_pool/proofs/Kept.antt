-- The parts of the deques, seat by seat.
use Rattle.std.proofs.Common.{◌≡◌, ◌≢◌, ℕ, suc, ◌+◌, ◌-◌, ◌<◌, ◌≤◌, true, false, refl, ap, sym, ◌∙◌, eq-eqb, ne_eqb, arith, eqb, ltb, lt_of_not-le, subst, List, [], ◌∷◌, ◌++◌, Option, None, Some, slice_get, set, length, map}
use Rattle.std.proofs.lemmas.Bool.{lt-ltb, le-ltb}
use mathlib.Core.Logic.{dite}
use native.Mathlib.Decide.{dec_le, ℕ_discrete}
use Rattle.node_pool.specs.Deques.{Deque}
use Rattle.node_pool.specs.Ways.{share}
use Rattle.std.proofs.lemmas.Option.{slice_get_within}
use Rattle.crossbeam_deque.specs.Handles.{worker_view, worker_deque}
use Rattle.node_pool.specs.declared.way.Way.{Way}
use Rattle.node_pool.specs.Rule.{account}
use Rattle.node_pool.specs.Opening.{kept, Owner, AreFresh, AreRows}
use Rattle.std.specs.declared.vec.Vec.{Vec}
use Rattle.std.specs.declared.alloc.Global.{Global}
use Rattle.node_pool.proofs.Lists.{Everywhere, everywhere_snoc, everywhere_set, map_kept}

share_own : (number k : ℕ) → k ≡ number → share number k ≡ 0
share_own number k is = let e : eqb k number ≡ true = eq-eqb k number is in rw e refl

share_other : (number k : ℕ) → k ≢ number → share number k ≡ 1
share_other number k other = let e : eqb k number ≡ false = ne_eqb k number other in rw e refl

pub two_left : (number k parts : ℕ) → k ≢ number → share number k < parts → 1 < parts
two_left number k parts other room = let one = share_other number k other in omega arith

pub kept_below : (seats k : ℕ) → k < seats → kept seats k ≡ 64 - seats + 1
kept_below seats k below = let e : ltb k seats ≡ true = lt-ltb k seats below in rw e refl

kept_from : (seats k : ℕ) → seats ≤ k → kept seats k ≡ 64 - seats + 0
kept_from seats k from = let e : ltb k seats ≡ false = le-ltb k seats from in rw e refl

pub kept_none : (k : ℕ) → kept 0 k ≡ 64
kept_none k = kept_from 0 k (omega arith)

-- the next seat takes its share
pub kept_next : (number k : ℕ) → number < 64 → kept (number + 1) k ≡ kept number k - share number k
kept_next number k few = dite (ℕ_discrete k number)
    (λ is. let a = kept_below (number + 1) k (omega arith) in let b = kept_from number k (omega arith) in let c = share_own number k is in omega arith)
    (λ other. let c = share_other number k other in dite (dec_le (suc k) number)
    (λ below. let a = kept_below (number + 1) k (omega arith) in let b = kept_below number k below in omega arith)
    (λ no. let after : number < suc k = lt_of_not-le no in let from : number ≤ k = omega arith in let a = kept_from (number + 1) k (omega arith) in let b = kept_from number k from in omega arith))

-- which leaves the owner a part
pub kept_room : (number k : ℕ) → number < 64 → k < 64 → share number k < kept number k
kept_room number k few within = dite (ℕ_discrete k number)
    (λ is. let b = kept_from number k (omega arith) in let c = share_own number k is in omega arith)
    (λ other. let c = share_other number k other in dite (dec_le (suc k) number)
    (λ below. let b = kept_below number k below in omega arith)
    (λ no. let after : number < suc k = lt_of_not-le no in let from : number ≤ k = omega arith in let b = kept_from number k from in omega arith))

-- and each owner has a part
pub kept_some : (seats k : ℕ) → seats ≤ 64 → k < 64 → 0 < kept seats k
kept_some seats k few within = dite (dec_le (suc k) seats)
    (λ below. let b = kept_below seats k below in omega arith)
    (λ no. let after : seats < suc k = lt_of_not-le no in let from : seats ≤ k = omega arith in let b = kept_from seats k from in omega arith)

module _ {T G : Type 0} where
  pub fresh_snoc : (known_ground : Option G) (owners : List (Owner T G)) (o : Owner T G) → AreFresh known_ground 0 owners → worker_view o ≡ account 64 [] [] known_ground → AreFresh known_ground 0 (owners ++ o ∷ [])
  fresh_snoc known_ground owners o old new = everywhere_snoc (λ k (o : Owner T G). worker_view o ≡ account (kept 0 k) [] [] known_ground) owners o old (new ∙ ap (λ n. account n [] [] known_ground) (sym (kept_none (length owners))))

  -- the owners below k gave the seat of this number its part
  abbrev pub Partly : Option G → ℕ → ℕ → List (Owner T G) → Type 0
  Partly known_ground number k owners = Everywhere (λ j (o : Owner T G). (j < k → worker_view o ≡ account (kept (number + 1) j) [] [] known_ground) × (k ≤ j → worker_view o ≡ account (kept number j) [] [] known_ground)) owners

  pub partly_none : (known_ground : Option G) (number : ℕ) (owners : List (Owner T G)) → AreFresh known_ground number owners → Partly known_ground number 0 owners
  partly_none known_ground number owners all j o e = ((λ no. absurd (omega arith)), λ _. all j o e)

  pub partly_all : (known_ground : Option G) (number k : ℕ) (owners : List (Owner T G)) → length owners ≤ k → Partly known_ground number k owners → AreFresh known_ground (number + 1) owners
  partly_all known_ground number k owners end all j o e = let within = slice_get_within owners j o e in (all j o e).0 (omega arith)

  pub partly_next : (known_ground : Option G) (number k : ℕ) (owners : List (Owner T G)) (o p : Owner T G) → number < 64 → slice_get owners k ≡ Some o → Partly known_ground number k owners
      → worker_view p ≡ account ((worker_view o).parts - share number k) (worker_view o).given (worker_view o).got (worker_view o).known_ground → Partly known_ground number (k + 1) (set owners k p)
  partly_next known_ground number k owners o p few at all new =
      let was : worker_view o ≡ account (kept number k) [] [] known_ground = (all k o at).1 (omega arith) in
      let is : worker_view p ≡ account (kept number k - share number k) [] [] known_ground = new ∙ ap (λ v. account (v.parts - share number k) v.given v.got v.known_ground) was in
      everywhere_set
      (λ j (o : Owner T G). (j < k → worker_view o ≡ account (kept (number + 1) j) [] [] known_ground) × (k ≤ j → worker_view o ≡ account (kept number j) [] [] known_ground))
      (λ j (o : Owner T G). (j < k + 1 → worker_view o ≡ account (kept (number + 1) j) [] [] known_ground) × (k + 1 ≤ j → worker_view o ≡ account (kept number j) [] [] known_ground))
      owners k p all
      ((λ _. is ∙ ap (λ n. account n [] [] known_ground) (sym (kept_next number k few))), λ no. absurd (omega arith))
      (λ j u other old. ((λ below. old.0 (omega arith)), λ from. old.1 (omega arith)))

  pub partly_room : (known_ground : Option G) (number k : ℕ) (owners : List (Owner T G)) (o : Owner T G) → number < 64 → length owners ≤ 64 → slice_get owners k ≡ Some o → Partly known_ground number k owners → share number k < (worker_view o).parts
  partly_room known_ground number k owners o few size at all =
      let within = slice_get_within owners k o at in
      let is : (worker_view o).parts ≡ kept number k = ap (λ v. v.parts) ((all k o at).1 (omega arith)) in
      let room = kept_room number k few (omega arith) in omega arith

  pub partly_ground : (known_ground : Option G) (number k : ℕ) (owners : List (Owner T G)) (o : Owner T G) → slice_get owners k ≡ Some o → Partly known_ground number k owners → (worker_view o).known_ground ≡ known_ground
  partly_ground known_ground number k owners o at all = ap (λ v. v.known_ground) ((all k o at).1 (omega arith))

  -- the deques stay
  pub same_deques : (k : ℕ) (owners : List (Owner T G)) (o p : Owner T G) → slice_get owners k ≡ Some o → worker_deque p ≡ worker_deque o → map (λ (w : Owner T G). worker_deque w) (set owners k p) ≡ map (λ (w : Owner T G). worker_deque w) owners
  same_deques k owners o p at same = map_kept (λ (w : Owner T G). worker_deque w) owners k o p at same

  -- the ground that the first of these deques has
  abbrev pub first_ground : List (Owner T G) → Option G
  first_ground [] = None
  first_ground (o ∷ os) = (worker_view o).known_ground

  pub first_fresh : (known_ground : Option G) (seats : ℕ) (owners : List (Owner T G)) → AreFresh known_ground seats owners → AreFresh (first_ground owners) seats owners
  first_fresh known_ground seats [] all k o e = absurd (cc)
  first_fresh known_ground seats (x ∷ xs) all k o e = subst (λ (h : Option G). AreFresh h seats (x ∷ xs)) (sym (ap (λ v. v.known_ground) (all 0 x refl))) all k o e

  pub first_ground_is : (known_ground : Option G) (seats : ℕ) (owners : List (Owner T G)) → 0 < length owners → AreFresh known_ground seats owners → first_ground owners ≡ known_ground
  first_ground_is known_ground seats [] some all = absurd (omega arith)
  first_ground_is known_ground seats (x ∷ xs) some all = ap (λ v. v.known_ground) (all 0 x refl)

  pub fresh_for : (h i : Option G) (n m : ℕ) (owners : List (Owner T G)) → h ≡ i → n ≡ m → AreFresh h n owners → AreFresh i m owners
  fresh_for h i n m owners e f all = subst (λ (p : Option G × ℕ). AreFresh p.0 p.1 owners) (λ j. (e j, f j)) all

  pub rows_for : (h i : Option G) (d e : List Deque) (n m : ℕ) (rows : List (Vec (Way T G) Global)) → h ≡ i → d ≡ e → n ≡ m → AreRows h d n rows → AreRows i e m rows
  rows_for h i d e n m rows p q r all = subst (λ (t : Option G × List Deque × ℕ). AreRows t.0 t.1 t.2 rows) (λ j. (p j, q j, r j)) all
