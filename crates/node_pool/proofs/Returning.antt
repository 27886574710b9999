-- The passes of one seat come back, from the last deque to the first.
use Rattle.std.proofs.Common.{◌≡◌, ℕ, suc, ◌+◌, ◌<◌, ◌≤◌, List, [], ◌∷◌, ◌++◌, Some, refl, ap, sym, ◌∙◌, subst, slice_get, get_or, set, length, map, arith, sum_by}
use Rattle.std.proofs.lemmas.List.{length_push}
use Rattle.std.proofs.lemmas.Option.{slice_get_within, slice_get_read, same_Some}
use Rattle.std.proofs.Common.{length-set}
use mathlib.Core.Logic.{dite}
use native.Mathlib.Decide.{ℕ_discrete}
use Rattle.crossbeam_deque.specs.Handles.{view, worker_view, worker_deque}
use Rattle.node_pool.specs.declared.way.Way.{Way}
use Rattle.node_pool.specs.Opening.{Owner}
use Rattle.node_pool.specs.Closing.{CanReturn, Returned, AllCanReturn, AllReturned, given_weight, got_weight, stolen_weight}
use Rattle.std.proofs.lemmas.List.Sums.{sum_by-cons, sum_by-append}
use Rattle.node_pool.proofs.Lists.{Everywhere, everywhere_front}
use Rattle.mine_model.proofs.ElementLemmas.{get_set_same, get_set_other}

module _ {T G : Type 0} where
  -- the passes of the ways that are left have yet to come back
  pub record Returning (first : List (Owner T G)) (ways : List (Way T G)) (owners : List (Owner T G)) (left : List (Way T G)) : Type 0 where
    pub size : length owners ≡ length first
    pub room : length left ≤ length owners
    pub todo : Everywhere (λ k (r : Way T G). slice_get ways k ≡ Some r) left
    pub untouched : (k : ℕ) → k < length left → slice_get owners k ≡ slice_get first k
    pub done : (k : ℕ) (o : Owner T G) (r : Way T G) → length left ≤ k → slice_get first k ≡ Some o → slice_get ways k ≡ Some r → (p : Owner T G) × (slice_get owners k ≡ Some p) × Returned o r p

  pub returning_begins : (first : List (Owner T G)) (ways : List (Way T G)) → length ways ≡ length first → Returning first ways first ways
  returning_begins first ways size = record {
    size = refl;
    room = omega arith;
    todo = λ k r e. e;
    untouched = λ k h. refl;
    done = λ k o r past e f. let within = slice_get_within ways k r f in absurd (omega arith);
  }

  -- the owner and the way at the place of the last way that is left
  pub returning_at : (first : List (Owner T G)) (ways : List (Way T G)) (owners : List (Owner T G)) (before front : List (Way T G)) (r : Way T G) (o : Owner T G) (i : ℕ)
      → i ≡ length front → before ≡ front ++ r ∷ [] → o ≡ get_or owners i o → Returning first ways owners before → slice_get owners i ≡ Some o
  returning_at first ways owners before front r o i place is value s =
      let n = length_push front r in
      let size : length before ≡ length (front ++ r ∷ []) = ap length is in
      slice_get_read owners (length owners) i o refl (omega (arith, s.room)) value

  pub returning_can : (first : List (Owner T G)) (ways : List (Way T G)) (owners : List (Owner T G)) (before front : List (Way T G)) (r : Way T G) (o : Owner T G) (i : ℕ)
      → AllCanReturn first ways → i ≡ length front → before ≡ front ++ r ∷ [] → o ≡ get_or owners i o → Returning first ways owners before → CanReturn o r
  returning_can first ways owners before front r o i can place is value s =
      let t : Returning first ways owners (front ++ r ∷ []) = subst (λ (l : List (Way T G)). Returning first ways owners l) is s in
      let n = length_push front r in
      let at : slice_get owners (length front) ≡ Some o = ap (slice_get owners) (sym place) ∙ returning_at first ways owners before front r o i place is value s in
      let way = (everywhere_front (λ k (r : Way T G). slice_get ways k ≡ Some r) front r t.todo).1 in
      can (length front) o r (sym (t.untouched (length front) (omega arith)) ∙ at) way

  pub returning_next : (first : List (Owner T G)) (ways : List (Way T G)) (owners : List (Owner T G)) (before front : List (Way T G)) (r : Way T G) (o p : Owner T G)
      → before ≡ front ++ r ∷ [] → slice_get owners (length front) ≡ Some o → Returned o r p → Returning first ways owners before → Returning first ways (set owners (length front) p) front
  returning_next first ways owners before front r o p is at back s =
      let t : Returning first ways owners (front ++ r ∷ []) = subst (λ (l : List (Way T G)). Returning first ways owners l) is s in
      let n = length_push front r in
      let m = length-set owners (length front) p in
      let todo = everywhere_front (λ k (r : Way T G). slice_get ways k ≡ Some r) front r t.todo in
      let was : slice_get first (length front) ≡ Some o = sym (t.untouched (length front) (omega arith)) ∙ at in record {
        size = omega (arith, t.size);
        room = omega (arith, t.room);
        todo = todo.0;
        untouched = λ k h. get_set_other owners (length front) k p (λ e. omega arith) ∙ t.untouched k (omega arith);
        done = λ k u w past e f. dite (ℕ_discrete k (length front))
            (λ here.
            let same : u ≡ o = same_Some u o (sym e ∙ ap (slice_get first) here ∙ was) in
            let way : w ≡ r = same_Some w r (sym f ∙ ap (slice_get ways) here ∙ todo.1) in (
              p,
              ap (slice_get (set owners (length front) p)) here ∙ get_set_same owners (length front) o p at,
              subst (λ (q : Owner T G × Way T G). Returned q.0 q.1 p) (λ i. (sym same i, sym way i)) back,
            ))
            (λ other.
            let old = t.done k u w (omega (arith, other)) e f in
            (old.0, get_set_other owners (length front) k p other ∙ old.1, old.2));
      }

  pub returning_step : (first : List (Owner T G)) (ways : List (Way T G)) (owners : List (Owner T G)) (before front : List (Way T G)) (r : Way T G) (o p : Owner T G) (i : ℕ)
      → i ≡ length front → before ≡ front ++ r ∷ [] → o ≡ get_or owners i o → Returned o r p → Returning first ways owners before → Returning first ways (set owners i p) front
  returning_step first ways owners before front r o p i place is value back s =
      subst (λ (k : ℕ). Returning first ways (set owners k p) front) (sym place)
      (returning_next first ways owners before front r o p is (ap (slice_get owners) (sym place) ∙ returning_at first ways owners before front r o i place is value s) back s)

  pub returning_ends : (first : List (Owner T G)) (ways : List (Way T G)) (owners : List (Owner T G)) (left : List (Way T G)) → length left ≡ 0 → Returning first ways owners left → AllReturned first ways owners
  returning_ends first ways owners left none s k o r e f = s.done k o r (omega arith) e f

  -- the sums after one seat's passes came back
  pub returned_given : (weight : List ℕ → ℕ) (owners : List (Owner T G)) (ways : List (Way T G)) (after : List (Owner T G)) → length ways ≡ length owners → length after ≡ length owners → AllReturned owners ways after
      → given_weight weight after ≡ given_weight weight owners
  returned_given weight [] ways [] m n all = refl
  returned_given weight [] ways (p ∷ ps) m n all = absurd (omega arith)
  returned_given weight (o ∷ os) [] after m n all = absurd (omega arith)
  returned_given weight (o ∷ os) (r ∷ rs) [] m n all = absurd (omega arith)
  returned_given weight (o ∷ os) (r ∷ rs) (p ∷ ps) m n all =
      let here = all 0 o r refl refl in
      let same : p ≡ here.0 = same_Some p here.0 here.1 in
      let is : sum_by weight (worker_view p).given ≡ sum_by weight (worker_view o).given = ap (λ (q : Owner T G). sum_by weight (worker_view q).given) same ∙ ap (λ v. sum_by weight v.given) here.2.1 in
      let rest = returned_given weight os rs ps (omega arith) (omega arith) (λ k. all (suc k)) in
      omega (arith, sum_by-cons (λ (q : Owner T G). sum_by weight (worker_view q).given) p ps, sum_by-cons (λ (q : Owner T G). sum_by weight (worker_view q).given) o os)

  pub returned_got : (weight : List ℕ → ℕ) (owners : List (Owner T G)) (ways : List (Way T G)) (after : List (Owner T G)) → length ways ≡ length owners → length after ≡ length owners → AllReturned owners ways after
      → got_weight weight after ≡ got_weight weight owners + stolen_weight weight ways
  returned_got weight [] [] [] m n all = refl
  returned_got weight [] (r ∷ rs) after m n all = absurd (omega arith)
  returned_got weight [] [] (p ∷ ps) m n all = absurd (omega arith)
  returned_got weight (o ∷ os) [] after m n all = absurd (omega arith)
  returned_got weight (o ∷ os) (r ∷ rs) [] m n all = absurd (omega arith)
  returned_got weight (o ∷ os) (r ∷ rs) (p ∷ ps) m n all =
      let here = all 0 o r refl refl in
      let same : p ≡ here.0 = same_Some p here.0 here.1 in
      let is : sum_by weight (worker_view p).got ≡ sum_by weight ((worker_view o).got ++ (view r.right).got) = ap (λ (q : Owner T G). sum_by weight (worker_view q).got) same ∙ ap (λ v. sum_by weight v.got) here.2.1 in
      let rest = returned_got weight os rs ps (omega arith) (omega arith) (λ k. all (suc k)) in
      omega (
        arith,
        sum_by-append weight (worker_view o).got (view r.right).got,
        sum_by-cons (λ (q : Owner T G). sum_by weight (worker_view q).got) p ps,
        sum_by-cons (λ (q : Owner T G). sum_by weight (worker_view q).got) o os,
        sum_by-cons (λ (w : Way T G). sum_by weight (view w.right).got) r rs,
      )

  pub returned_deques : (owners : List (Owner T G)) (ways : List (Way T G)) (after : List (Owner T G)) → length ways ≡ length owners → length after ≡ length owners → AllReturned owners ways after
      → map (λ (o : Owner T G). worker_deque o) after ≡ map (λ (o : Owner T G). worker_deque o) owners
  returned_deques [] ways [] m n all = refl
  returned_deques [] ways (p ∷ ps) m n all = absurd (omega arith)
  returned_deques (o ∷ os) [] after m n all = absurd (omega arith)
  returned_deques (o ∷ os) (r ∷ rs) [] m n all = absurd (omega arith)
  returned_deques (o ∷ os) (r ∷ rs) (p ∷ ps) m n all =
      let here = all 0 o r refl refl in
      let same : p ≡ here.0 = same_Some p here.0 here.1 in
      let is : worker_deque p ≡ worker_deque o = ap (λ (q : Owner T G). worker_deque q) same ∙ here.2.0 in
      let rest = returned_deques os rs ps (omega arith) (omega arith) (λ k. all (suc k)) in
      ap (λ d. d ∷ map (λ (o : Owner T G). worker_deque o) ps) is ∙ ap (λ l. worker_deque o ∷ l) rest
