-- Each step of a deque keeps its rule.
use Rattle.std.proofs.Common.{◌≡◌, ℕ, zero, suc, ◌+◌, ◌-◌, ◌<◌, List, [], ◌∷◌, ◌++◌, set, sym, refl, ap, ◌∙◌, subst, arith, sum_by, map, length, Option, None, Some, All}
use Rattle.std.proofs.lemmas.List.Sums.{sum_by-cons, sum_by-append, sum_by_push}
use Rattle.std.proofs.lemmas.List.Elements.{All-push, All-take, All-drop}
use lib.Seq.{take-append_seam, drop-append_seam}
use mathlib.Core.Option.{some, some-injective, some-ne-none}
use lib.ListN.{get_elem?}
use Rattle.mine_model.specs.Labels.{SameLabels}
use Rattle.mine_model.proofs.SumLemmas.{sum_by_set}
use Rattle.crossbeam_deque.specs.Tasks.{Pushes, Takes, Pops, Finds, Forks, Merges}
use Rattle.node_pool.specs.declared.rule.Account.{Account}
use Rattle.node_pool.specs.Rule.{account, Fits, Balanced, Got}
use Rattle.node_pool.proofs.Views.{set_there, alone, others_idle, Each, each_set, each_snoc}

pub sum_by_map : {X Y : Type 0} (weight : Y → ℕ) (f : X → Y) (xs : List X) → sum_by weight (map f xs) ≡ sum_by (λ x. weight (f x)) xs
sum_by_map weight f [] = refl
sum_by_map weight f (x ∷ xs) = omega (arith, sum_by-cons weight (f x) (map f xs), sum_by-cons (λ x. weight (f x)) x xs, sum_by_map weight f xs)

pub sum_by_ones : {X : Type 0} (xs : List X) → sum_by (λ _. 1) xs ≡ length xs
sum_by_ones [] = refl
sum_by_ones (x ∷ xs) = omega (arith, sum_by-cons (λ _. 1) x xs, sum_by_ones xs)

all_left : {X : Type 0} (P : X → Type 0) (xs ys : List X) → All P (xs ++ ys) → All P xs
all_left P xs ys h = subst (All P) (take-append_seam xs ys) (All-take P (length xs) (xs ++ ys) h)

all_right : {X : Type 0} (P : X → Type 0) (xs ys : List X) → All P (xs ++ ys) → All P ys
all_right P xs ys h = subst (All P) (drop-append_seam xs ys) (All-drop P (length xs) (xs ++ ys) h)

module _ {T G : Type 0} (label : T → List ℕ) (ground_of : T → G) where
  nothing_at_none : (tasks : List T) (known_ground : Option G) → known_ground ≡ None → All (λ t. Some (ground_of t) ≡ known_ground) tasks → tasks ≡ []
  nothing_at_none [] known_ground none all = refl
  nothing_at_none (x ∷ xs) known_ground none all = let bad : Some (ground_of x) ≡ None = all 0 x (omega arith) ∙ none in absurd (cc)

  pub starts : Balanced label ground_of [] (account 64 [] [] None ∷ [])
  starts = (None, refl, (λ _. refl), alone_fits, λ k d h. absurd (omega arith))
    where
      alone_fits : Each (λ _. Fits {G = G} None) (account 64 [] [] None ∷ [])
      alone_fits zero v e = subst (Fits {G = G} None) (some-injective (account 64 [] [] None) v e) ((λ _. refl), λ no. absurd (omega arith))
      alone_fits (suc j) v e = absurd (some-ne-none v (sym e))

  pub puts : (port : ℕ) (v : Account G) (x : T) → 0 < v.parts → v.known_ground ≡ Some (ground_of x) → Pushes (Balanced label ground_of) port v (x ∷ []) (λ w. w ≡ account v.parts (v.given ++ map label (x ∷ [])) v.got v.known_ground)
  puts port v x part known_ground tasks views h at = let w : Account G = account v.parts (v.given ++ map label (x ∷ [])) v.got v.known_ground in (
    w,
    (
      h.0,
      (let p = sum_by_set (λ (u : Account G). u.parts) views port v w at in let q = h.1 in omega arith),
      (λ weight.
          let g = sum_by_set (λ (u : Account G). sum_by weight u.given) views port v w at in
          let t = sum_by_set (λ (u : Account G). sum_by weight u.got) views port v w at in
          let b = h.2 weight in
          omega (arith, sum_by_push weight v.given (label x), sum_by_push (λ t. weight (label t)) tasks x)),
      each_set (λ _. Fits h.0) views port w ((λ _. (h.3 port v at).0 part), λ none. absurd (omega arith)) (λ j u _. h.3 j u),
      All-push (λ t. Some (ground_of t) ≡ h.0) tasks x h.4 (sym known_ground ∙ (h.3 port v at).0 part),
    ),
    refl,
  )

  -- who has all parts has given as much as it got and the deque holds, however labels are weighed
  settles : (weight : List ℕ → ℕ) (tasks : List T) (views : List (Account G)) (port : ℕ) (v : Account G) → Balanced label ground_of tasks views → get_elem? views port ≡ some v → v.parts ≡ 64
      → sum_by weight v.given ≡ sum_by weight v.got + sum_by (λ t. weight (label t)) tasks
  settles weight tasks views port v h at all = let whole : sum_by (λ (u : Account G). u.parts) views ≡ v.parts = h.1 ∙ sym all in
      let g = alone (λ (u : Account G). u.parts) (λ (u : Account G). sum_by weight u.given) views port v at whole (λ j u e none. ap (sum_by weight) ((h.3 j u e).1 none).0) in
      let t = alone (λ (u : Account G). u.parts) (λ (u : Account G). sum_by weight u.got) views port v at whole (λ j u e none. ap (sum_by weight) ((h.3 j u e).1 none).1) in
      let b = h.2 weight in omega arith

  -- the tasks xs leave the deque, wherever they stood
  leave : (xs left tasks : List T) (views : List (Account G)) (port : ℕ) (v : Account G) → 0 < v.parts → get_elem? views port ≡ some v → Balanced label ground_of tasks views
      → ((f : T → ℕ) → sum_by f tasks ≡ sum_by f xs + sum_by f left) → All (λ t. Some (ground_of t) ≡ v.known_ground) xs → ((P : T → Type 0) → All P tasks → All P left)
      → (w : Account G) × Balanced label ground_of left (set views port w) × Got label ground_of v xs w
  leave xs left tasks views port v part at h split grounds keep = let w : Account G = account v.parts v.given (v.got ++ map label xs) v.known_ground in
      let balance : Balanced label ground_of left (set views port w) = (
        h.0,
        (let p = sum_by_set (λ (u : Account G). u.parts) views port v w at in let q = h.1 in omega arith),
        (λ weight.
            let g = sum_by_set (λ (u : Account G). sum_by weight u.given) views port v w at in
            let t = sum_by_set (λ (u : Account G). sum_by weight u.got) views port v w at in
            let b = h.2 weight in
            omega (arith, sum_by-append weight v.got (map label xs), sum_by_map weight label xs, split (λ t. weight (label t)))),
        each_set (λ _. Fits h.0) views port w ((λ _. (h.3 port v at).0 part), λ none. absurd (omega arith)) (λ j u _. h.3 j u),
        keep (λ t. Some (ground_of t) ≡ h.0) h.4,
      ) in (
        w,
        balance,
        (
          refl,
          grounds,
          λ all. let s = settles (λ _. 1) left (set views port w) port w balance (set_there views port v w at) all in omega (arith, sum_by_ones w.given, sum_by_ones w.got),
        ),
      )

  pub steals : (port : ℕ) (v : Account G) → 0 < v.parts → Takes (Balanced label ground_of) port v 1 (Got label ground_of v)
  steals port v part xs tasks views _ _ h at = leave xs tasks (xs ++ tasks) views port v part at h (λ f. sum_by-append f xs tasks)
      (subst (λ known_ground. All (λ t. Some (ground_of t) ≡ known_ground) xs) (sym ((h.3 port v at).0 part)) (all_left (λ t. Some (ground_of t) ≡ h.0) xs tasks h.4)) (λ P. all_right P xs tasks)

  pub takes : (port : ℕ) (v : Account G) → 0 < v.parts → Pops (Balanced label ground_of) port v (Got label ground_of v)
  takes port v part x tasks views h at = leave (x ∷ []) tasks (tasks ++ x ∷ []) views port v part at h (λ f. omega (arith, sum_by-append f tasks (x ∷ [])))
      (subst (λ known_ground. All (λ t. Some (ground_of t) ≡ known_ground) (x ∷ [])) (sym ((h.3 port v at).0 part)) (all_right (λ t. Some (ground_of t) ≡ h.0) tasks (x ∷ []) h.4)) (λ P. all_left P tasks (x ∷ []))

  pub finds : (port : ℕ) (v : Account G) → Finds (Balanced label ground_of) port v (v.parts ≡ 64 → SameLabels v.given v.got)
  finds port v views h at = λ all weight. let s = settles weight [] views port v h at all in omega arith

  pub founds : (port : ℕ) (v : Account G) (known_ground : Option G) → v.parts ≡ 64 → v.known_ground ≡ None → Forks (Balanced label ground_of) port v (account v.parts v.given v.got known_ground) (account 0 [] [] None)
  founds port v known_ground all none tasks views h at = let l : Account G = account v.parts v.given v.got known_ground in let r : Account G = account 0 [] [] None in let vs : List (Account G) = set views port l in
      let whole : sum_by (λ (u : Account G). u.parts) views ≡ v.parts = h.1 ∙ sym all in
      let empty : tasks ≡ [] = nothing_at_none tasks h.0 (sym ((h.3 port v at).0 (omega arith)) ∙ none) h.4 in (
        known_ground,
        (let p = sum_by_set (λ (u : Account G). u.parts) views port v l at in let q = h.1 in omega (arith, sum_by_push (λ (u : Account G). u.parts) vs r)),
        (λ weight.
            let g = sum_by_set (λ (u : Account G). sum_by weight u.given) views port v l at in
            let t = sum_by_set (λ (u : Account G). sum_by weight u.got) views port v l at in
            let b = h.2 weight in
            omega (arith, sum_by_push (λ (u : Account G). sum_by weight u.given) vs r, sum_by_push (λ (u : Account G). sum_by weight u.got) vs r)),
        each_snoc (Fits known_ground) vs r
            (each_set (λ _. Fits known_ground) views port l ((λ _. refl), λ no. absurd (omega arith))
            (λ j u other e. let idle = others_idle (λ (y : Account G). y.parts) views port v at whole j u other e in ((λ no. absurd (omega arith)), (h.3 j u e).1)))
            ((λ no. absurd (omega arith)), λ _. (refl, refl)),
        subst (All (λ t. Some (ground_of t) ≡ known_ground)) (sym empty) (λ k d no. absurd (omega arith)),
      )

  -- a new pass comes, with the parts that this one gives up
  splits : (port : ℕ) (v : Account G) (kept cut : ℕ) → 0 < kept → kept + cut ≡ v.parts → Forks (Balanced label ground_of) port v (account kept v.given v.got v.known_ground) (account cut [] [] v.known_ground)
  splits port v kept cut stays sum tasks views h at = let l : Account G = account kept v.given v.got v.known_ground in let r : Account G = account cut [] [] v.known_ground in let vs : List (Account G) = set views port l in
      let known_ground : v.known_ground ≡ h.0 = (h.3 port v at).0 (omega arith) in (
        h.0,
        (let p = sum_by_set (λ (u : Account G). u.parts) views port v l at in let q = h.1 in omega (arith, sum_by_push (λ (u : Account G). u.parts) vs r)),
        (λ weight.
            let g = sum_by_set (λ (u : Account G). sum_by weight u.given) views port v l at in
            let t = sum_by_set (λ (u : Account G). sum_by weight u.got) views port v l at in
            let b = h.2 weight in
            omega (arith, sum_by_push (λ (u : Account G). sum_by weight u.given) vs r, sum_by_push (λ (u : Account G). sum_by weight u.got) vs r)),
        each_snoc (Fits h.0) vs r (each_set (λ _. Fits h.0) views port l ((λ _. known_ground), λ no. absurd (omega arith)) (λ j u _. h.3 j u)) ((λ _. known_ground), λ _. (refl, refl)),
        h.4,
      )

  pub lends : (port : ℕ) (v : Account G) → 1 < v.parts → Forks (Balanced label ground_of) port v (account (v.parts - 1) v.given v.got v.known_ground) (account 1 [] [] v.known_ground)
  lends port v two = splits port v (v.parts - 1) 1 (omega arith) (omega arith)

  pub spares : (port : ℕ) (v : Account G) → 0 < v.parts → Forks (Balanced label ground_of) port v v (account 0 [] [] v.known_ground)
  spares port v part = splits port v v.parts 0 part (omega arith)

  pub returns : (port : ℕ) (v : Account G) (other : ℕ) (u : Account G) → 0 < v.parts → u.given ≡ [] → Merges (Balanced label ground_of) port v other u (account (v.parts + u.parts) v.given (v.got ++ u.got) v.known_ground) (account 0 [] [] None)
  returns port v other u part nothing tasks views h at two at' = let both : Account G = account (v.parts + u.parts) v.given (v.got ++ u.got) v.known_ground in let spent : Account G = account 0 [] [] None in let vs : List (Account G) = set views port both in (
    h.0,
    (let p = sum_by_set (λ (y : Account G). y.parts) views port v both at in let p' = sum_by_set (λ (y : Account G). y.parts) vs other u spent at' in let q = h.1 in omega arith),
    (λ weight.
        let g = sum_by_set (λ (y : Account G). sum_by weight y.given) views port v both at in
        let g' = sum_by_set (λ (y : Account G). sum_by weight y.given) vs other u spent at' in
        let t = sum_by_set (λ (y : Account G). sum_by weight y.got) views port v both at in
        let t' = sum_by_set (λ (y : Account G). sum_by weight y.got) vs other u spent at' in
        let b = h.2 weight in
        let z : sum_by weight u.given ≡ 0 = ap (sum_by weight) nothing in
        omega (arith, sum_by-append weight v.got u.got)),
    each_set (λ _. Fits h.0) vs other spent ((λ no. absurd (omega arith)), λ _. (refl, refl))
        (λ j y _ e. each_set (λ _. Fits h.0) views port both ((λ _. (h.3 port v at).0 part), λ no. absurd (omega arith)) (λ i z _. h.3 i z) j y e),
    h.4,
  )
