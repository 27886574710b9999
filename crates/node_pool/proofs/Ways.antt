-- What the calls of a seat leave as it was.
use Rattle.std.proofs.Common.{◌≡◌, ◌≢◌, ℕ, zero, suc, ◌+◌, ◌<◌, inl, inr, List, [], ◌∷◌, ◌++◌, set, sym, refl, ap, ◌∙◌, subst, arith, sum_by, length, Option, None, Some, MatchOption, IfSome, IfNone, flat_map, slice_get, get_or, ◌==◌, ne_eqb, false, if◌then◌else◌}
use Rattle.std.proofs.lemmas.List.Sums.{sum_by-append, sum_by_push}
use Rattle.mine_model.specs.Labels.{SameLabels}
use Rattle.crossbeam_deque.specs.Handles.{view, stealer_deque}
use Rattle.node_pool.specs.declared.rule.Account.{Account}
use Rattle.node_pool.specs.declared.way.Way.{Way}
use Rattle.std.specs.Option.{option_map_or}
use Rattle.node_pool.specs.Pool.{stolen_by}
use Rattle.node_pool.specs.Rule.{account, Got}
use Rattle.node_pool.specs.Deques.{Deque, pool_by}
use Rattle.node_pool.specs.Ways.{share, AreRights}
use Rattle.std.proofs.lemmas.List.{length-map}
use Rattle.std.proofs.lemmas.Option.{slice_get_within, slice_get_read}
use Rattle.mine_model.proofs.ElementLemmas.{flat_map_set}
use Rattle.node_pool.proofs.Lists.{get_set, map_kept, flat_map_kept}
use Rattle.mine_model.proofs.ElementLemmas.{get_set_same, get_set_other}
use mathlib.Core.Logic.{dite}
use native.Mathlib.Decide.{ℕ_discrete}

-- the own deque is one of the pool's
pub own_within : {T G : Type 0} (number : ℕ) (d : Deque) (ways : List (Way T G)) → slice_get (pool_by ways) number ≡ Some d → number < length ways
own_within {T} {G} number d ways own = let in_pool = slice_get_within (pool_by ways) number d own in let n = length-map ways (λ (r : Way T G). stealer_deque r.thief) in omega arith

-- which way was taken
pub way_at : {T G : Type 0} (from : ℕ) (r : Way T G) (ways : List (Way T G)) → from < length (pool_by ways) → r ≡ get_or ways from r → slice_get ways from ≡ Some r
way_at {T} {G} from r ways within is = let n = length-map ways (λ (r : Way T G). stealer_deque r.thief) in slice_get_read ways (length ways) from r refl (omega arith) is

-- two facts where nothing came
pub none_both : {T : Type 0} (result : Option T) (A B : Type 0) → IfNone result A → IfNone result B → IfNone result (A × B)
none_both None A B a b = (a, b)
none_both (Some x) A B a b = tt

module _ {T G : Type 0} (label : T → List ℕ) (ground_of : T → G) where
  -- a task came out with its label, or nothing changed
  abbrev pub Came : Option T → Account G → Account G → Type 0
  Came result v w = MatchOption result (w ≡ v) (λ task. w ≡ account v.parts v.given (v.got ++ label task ∷ []) v.known_ground)

  pub came_keeps : (result : Option T) (v w : Account G) → Came result v w → (w.parts ≡ v.parts) × (w.given ≡ v.given) × (w.known_ground ≡ v.known_ground)
  came_keeps None v w e = (ap (λ (u : Account G). u.parts) e, ap (λ (u : Account G). u.given) e, ap (λ (u : Account G). u.known_ground) e)
  came_keeps (Some x) v w e = (ap (λ (u : Account G). u.parts) e, ap (λ (u : Account G). u.given) e, ap (λ (u : Account G). u.known_ground) e)

  -- what came has the ground of its deque
  pub came_ground : (result : Option T) (v : Account G) (known_ground : Option G) → v.known_ground ≡ known_ground → IfSome result (λ x. v.known_ground ≡ Some (ground_of x)) → IfSome result (λ x. known_ground ≡ Some (ground_of x))
  came_ground None v known_ground is e = e
  came_ground (Some x) v known_ground is e = sym is ∙ e

  pub took_ground : (result : Option T) (v w : Account G) (E : Type 0) → MatchOption result ((w ≡ v) × E) (λ x. Got label ground_of v (x ∷ []) w) → IfSome result (λ x. v.known_ground ≡ Some (ground_of x))
  took_ground None v w E e = tt
  took_ground (Some x) v w E e = sym (e.1 0 x (omega arith))

  -- a seat alone in its pool steals nothing
  alone_steals_nothing : (number : ℕ) (known_ground : Option G) (ways : List (Way T G)) → AreRights number known_ground ways → number < length ways → length ways ≡ 1
      → flat_map (λ (r : Way T G). (view r.right).got) ways ≡ []
  alone_steals_nothing number known_ground [] rights own one = absurd (omega arith)
  alone_steals_nothing zero known_ground (r ∷ []) rights own one = ap (λ l. l ++ []) ((rights 0 r refl).3 refl)
  alone_steals_nothing (suc k) known_ground (r ∷ []) rights own one = absurd (omega arith)
  alone_steals_nothing number known_ground (r ∷ s ∷ rs) rights own one = absurd (omega arith)

  pub took_alone : (result : Option T) (v w : Account G) (F : T → Type 0) (number : ℕ) (ways : List (Way T G))
      → MatchOption result ((w ≡ v) × (v.parts ≡ 64 → SameLabels v.given v.got)) F → AreRights number v.known_ground ways → number < length ways → v.parts + length ways ≡ 65
      → IfNone result (length (pool_by ways) ≡ 1 → SameLabels v.given (v.got ++ flat_map (λ (r : Way T G). (view r.right).got) ways))
  took_alone (Some x) v w F number ways e rights own parts = tt
  took_alone None v w F number ways e rights own parts = λ one weight.
      let n = length-map ways (λ (r : Way T G). stealer_deque r.thief) in
      let nothing : flat_map (λ (r : Way T G). (view r.right).got) ways ≡ [] = alone_steals_nothing number v.known_ground ways rights own (omega arith) in
      let z : sum_by weight (flat_map (λ (r : Way T G). (view r.right).got) ways) ≡ 0 = ap (sum_by weight) nothing in
      let s = e.1 (omega arith) weight in
      omega (arith, sum_by-append weight v.got (flat_map (λ (r : Way T G). (view r.right).got) ways))

  -- the part of what a seat got that came from deque k
  abbrev pub part_from : ℕ → List (List ℕ) → List (Way T G) → ℕ → List (List ℕ)
  part_from number mine ways k = if k == number then mine else option_map_or stolen_by (slice_get ways k) []

  module _ (ways : List (Way T G)) (i : ℕ) (r s : Way T G) (at : slice_get ways i ≡ Some r) where
    pub stole_pool : stealer_deque s.thief ≡ stealer_deque r.thief → pool_by (set ways i s) ≡ pool_by ways
    stole_pool same = map_kept (λ (r : Way T G). stealer_deque r.thief) ways i r s at same

    pub stole_rights : (number : ℕ) (known_ground : Option G) (result : Option T) → Came result (view r.right) (view s.right) → AreRights number known_ground ways → i ≢ number → AreRights number known_ground (set ways i s)
    stole_rights number known_ground result came rights other k t e = elim (get_set ways i s k t e) [
      | inl h ↦
          let keeps = came_keeps result (view r.right) (view s.right) came in
          let old = rights i r at in
          subst (λ (p : ℕ × Way T G). ((view p.1.right).parts ≡ share number p.0) × ((view p.1.right).given ≡ []) × ((view p.1.right).known_ground ≡ known_ground) × (p.0 ≡ number → (view p.1.right).got ≡ []))
          (λ j. (sym h.0 j, h.1 j)) (keeps.0 ∙ old.0, keeps.1 ∙ old.1, keeps.2 ∙ old.2, λ is. absurd (other is))
      | inr h ↦ rights k t h.1
    ]

    pub stole_some : (result : Option T) (mine : List (List ℕ)) → Came result (view r.right) (view s.right)
        → IfSome result (λ task. SameLabels (mine ++ flat_map (λ (r : Way T G). (view r.right).got) (set ways i s)) ((mine ++ flat_map (λ (r : Way T G). (view r.right).got) ways) ++ label task ∷ []))
    stole_some None mine came = tt
    stole_some (Some x) mine came = λ weight.
        let old = flat_map (λ (r : Way T G). (view r.right).got) ways in
        let new = flat_map (λ (r : Way T G). (view r.right).got) (set ways i s) in
        let m = flat_map_set (λ (r : Way T G). (view r.right).got) weight ways i r s at in
        let is : sum_by weight (view s.right).got ≡ sum_by weight ((view r.right).got ++ label x ∷ []) = ap (λ (w : Account G). sum_by weight w.got) came in
        omega (arith, sum_by-append weight mine old, sum_by-append weight mine new, sum_by_push weight (mine ++ old) (label x), sum_by_push weight (view r.right).got (label x))

    pub stole_none : (result : Option T) (mine : List (List ℕ)) → Came result (view r.right) (view s.right)
        → IfNone result (mine ++ flat_map (λ (r : Way T G). (view r.right).got) (set ways i s) ≡ mine ++ flat_map (λ (r : Way T G). (view r.right).got) ways)
    stole_none None mine came = ap (λ l. mine ++ l) (flat_map_kept (λ (r : Way T G). (view r.right).got) ways i r s at (ap (λ (w : Account G). w.got) came))
    stole_none (Some x) mine came = tt

    -- the part of the deque that was robbed
    stole_there : option_map_or stolen_by (slice_get (set ways i s) i) [] ≡ (view s.right).got
    stole_there = ap (λ (o : Option (Way T G)). option_map_or stolen_by o []) (get_set_same ways i r s at)

    stole_before : option_map_or stolen_by (slice_get ways i) [] ≡ (view r.right).got
    stole_before = ap (λ (o : Option (Way T G)). option_map_or stolen_by o []) at

    -- and the parts of the others
    stole_other : (number : ℕ) (mine : List (List ℕ)) (k : ℕ) → k ≢ i → part_from number mine (set ways i s) k ≡ part_from number mine ways k
    stole_other number mine k other = ap (λ (o : Option (Way T G)). if k == number then mine else option_map_or stolen_by o []) (get_set_other ways i k s other)

    pub stole_from : (number : ℕ) (result : Option T) (mine : List (List ℕ)) → Came result (view r.right) (view s.right) → i ≢ number
        → IfSome result (λ task. (part_from number mine (set ways i s) i ≡ part_from number mine ways i ++ label task ∷ []) × ((k : ℕ) → k ≢ i → part_from number mine (set ways i s) k ≡ part_from number mine ways k))
    stole_from number None mine came other = tt
    stole_from number (Some x) mine came other =
        let f : (i == number) ≡ false = ne_eqb i number other in
        let grew : (view s.right).got ≡ (view r.right).got ++ label x ∷ [] = ap (λ (w : Account G). w.got) came in
        (rw f (stole_there ∙ grew ∙ ap (λ l. l ++ label x ∷ []) (sym stole_before)), stole_other number mine)

    pub stole_nothing : (number : ℕ) (result : Option T) (mine : List (List ℕ)) → Came result (view r.right) (view s.right)
        → IfNone result ((k : ℕ) → part_from number mine (set ways i s) k ≡ part_from number mine ways k)
    stole_nothing number None mine came = λ k. dite (ℕ_discrete k i)
        (λ is. subst (λ (j : ℕ). part_from number mine (set ways i s) j ≡ part_from number mine ways j) (sym is)
        (ap (λ l. if i == number then mine else l) (stole_there ∙ ap (λ (w : Account G). w.got) came ∙ sym stole_before)))
        (stole_other number mine k)
    stole_nothing number (Some x) mine came = tt
