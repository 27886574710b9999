-- What the deques hold moves into a list.
use Rattle.std.proofs.Common.{◌≡◌, ℕ, ◌+◌, ◌-◌, ◌<◌, List, [], ◌∷◌, ◌++◌, Option, Some, All, refl, ap, sym, ◌∙◌, subst, length, arith, sum_by}
use Rattle.std.proofs.lemmas.List.{length_push}
use Rattle.std.proofs.lemmas.List.Sums.{sum_by_push}
use Rattle.std.proofs.lemmas.List.Elements.{All-push}
use Rattle.mine_model.specs.Labels.{SameLabels}
use Rattle.mine_model.proofs.ElementLemmas.{get-left}
use Rattle.crossbeam_deque.specs.Handles.{worker_view}
use Rattle.node_pool.specs.declared.rule.Account.{Account}
use Rattle.node_pool.specs.Rule.{Got}
use Rattle.node_pool.specs.Opening.{Owner}
use Rattle.node_pool.specs.Closing.{given_weight, got_weight, HaveParts}
use Rattle.mine_model.proofs.ElementLemmas.{get_last}
use Rattle.node_pool.proofs.Kept.{kept_none}

module _ {T G : Type 0} (label : T → List ℕ) (ground_of : T → G) where
  -- as much was taken from the deque as came to the list
  pub record Emptying (first now : Account G) (before left : List T) : Type 0 where
    pub parts : now.parts ≡ 64
    pub known_ground : now.known_ground ≡ first.known_ground
    pub given : now.given ≡ first.given
    pub got : (weight : List ℕ → ℕ) → sum_by weight now.got + sum_by (λ t. weight (label t)) before ≡ sum_by weight first.got + sum_by (λ t. weight (label t)) left
    pub tasks : All (λ t. Some (ground_of t) ≡ first.known_ground) before → All (λ t. Some (ground_of t) ≡ first.known_ground) left

  pub emptying_begins : (first : Account G) (before : List T) → first.parts ≡ 64 → Emptying first first before before
  emptying_begins first before all = record { parts = all; known_ground = refl; given = refl; got = λ weight. refl; tasks = λ h. h }

  pub emptying_next : (first now after : Account G) (before left : List T) (x : T) → Emptying first now before left → Got label ground_of now (x ∷ []) after → Emptying first after before (left ++ x ∷ [])
  emptying_next first now after before left x s got = record {
    parts = ap (λ v. v.parts) got.0 ∙ s.parts;
    known_ground = ap (λ v. v.known_ground) got.0 ∙ s.known_ground;
    given = ap (λ v. v.given) got.0 ∙ s.given;
    got = λ weight.
        let is : sum_by weight after.got ≡ sum_by weight (now.got ++ label x ∷ []) = ap (λ v. sum_by weight v.got) got.0 in
        omega (arith, s.got weight, sum_by_push weight now.got (label x), sum_by_push (λ t. weight (label t)) left x);
    tasks = λ old. All-push (λ t. Some (ground_of t) ≡ first.known_ground) left x (s.tasks old) (got.1 0 x (omega arith) ∙ s.known_ground);
  }

  -- fewer are left to take
  pub emptying_falls : (first now after : Account G) (before left : List T) (x : T) → Emptying first now before left → Got label ground_of now (x ∷ []) after → length after.given - length after.got < length now.given - length now.got
  emptying_falls first now after before left x s got =
      let le = got.2 s.parts in
      let more : length after.got ≡ length (now.got ++ label x ∷ []) = ap (λ v. length v.got) got.0 in
      let same : length after.given ≡ length now.given = ap (λ v. length v.given) got.0 in
      let n = length_push now.got (label x) in omega arith

  pub emptying_ends : (first now : Account G) (before left : List T) → Emptying first now before left → SameLabels now.given now.got
      → (weight : List ℕ → ℕ) → sum_by weight first.given + sum_by (λ t. weight (label t)) before ≡ sum_by weight first.got + sum_by (λ t. weight (label t)) left
  emptying_ends first now before left s settled weight =
      let a : sum_by weight now.given ≡ sum_by weight first.given = ap (sum_by weight) s.given in
      omega (arith, settled weight, s.got weight)

  -- the same over all deques, the last first
  pub record Remaining (known_ground : Option G) (first owners : List (Owner T G)) (left : List T) : Type 0 where
    pub parts : HaveParts known_ground 0 owners
    pub sums : (weight : List ℕ → ℕ) → given_weight weight first + got_weight weight owners ≡ got_weight weight first + given_weight weight owners + sum_by (λ t. weight (label t)) left
    pub tasks : All (λ t. Some (ground_of t) ≡ known_ground) left

  pub remaining_begins : (known_ground : Option G) (first : List (Owner T G)) → HaveParts known_ground 0 first → Remaining known_ground first first []
  remaining_begins known_ground first parts = record { parts = parts; sums = λ weight. omega arith; tasks = λ k d no. absurd (omega arith) }

  pub remaining_whole : (known_ground : Option G) (first before front : List (Owner T G)) (o : Owner T G) (left : List T) → before ≡ front ++ o ∷ [] → Remaining known_ground first before left → ((worker_view o).parts ≡ 64) × ((worker_view o).known_ground ≡ known_ground)
  remaining_whole known_ground first before front o left is s =
      let t : Remaining known_ground first (front ++ o ∷ []) left = subst (λ (l : List (Owner T G)). Remaining known_ground first l left) is s in
      let last = t.parts (length front) o (get_last front o) in
      (last.0 ∙ kept_none (length front), last.1)

  pub remaining_next : (known_ground : Option G) (first before front : List (Owner T G)) (o : Owner T G) (left more : List T) → before ≡ front ++ o ∷ []
      → ((weight : List ℕ → ℕ) → sum_by weight (worker_view o).given + sum_by (λ t. weight (label t)) left ≡ sum_by weight (worker_view o).got + sum_by (λ t. weight (label t)) more)
      → (All (λ t. Some (ground_of t) ≡ (worker_view o).known_ground) left → All (λ t. Some (ground_of t) ≡ (worker_view o).known_ground) more) → Remaining known_ground first before left → Remaining known_ground first front more
  remaining_next known_ground first before front o left more is balance grounds s =
      let t : Remaining known_ground first (front ++ o ∷ []) left = subst (λ (l : List (Owner T G)). Remaining known_ground first l left) is s in
      let last = remaining_whole known_ground first before front o left is s in record {
        parts = λ k u e. t.parts k u (get-left front (o ∷ []) k u e);
        sums = λ weight. omega (arith, balance weight, t.sums weight, sum_by_push (λ (o : Owner T G). sum_by weight (worker_view o).given) front o, sum_by_push (λ (o : Owner T G). sum_by weight (worker_view o).got) front o);
        tasks = subst (λ (h : Option G). All (λ t. Some (ground_of t) ≡ h) more) last.1 (grounds (subst (λ (h : Option G). All (λ t. Some (ground_of t) ≡ h) left) (sym last.1) t.tasks));
      }

  pub remaining_ends : (known_ground : Option G) (first owners : List (Owner T G)) (left : List T) → length owners ≡ 0 → Remaining known_ground first owners left
      → (weight : List ℕ → ℕ) → given_weight weight first ≡ got_weight weight first + sum_by (λ t. weight (label t)) left
  remaining_ends known_ground first [] left none s weight = omega (arith, s.sums weight)
  remaining_ends known_ground first (o ∷ os) left none s weight = absurd (omega arith)
