-- What a worker gets from its seat, and puts into it.
use Rattle.std.proofs.Common.{◌≡◌, ℕ, ◌+◌, Option, Some, None, List, [], ◌∷◌, ◌++◌, length, map, All, Contains, refl, sym, ap, ◌∙◌, subst, arith, append_assoc, sum_by}
use Rattle.std.proofs.lemmas.Option.{same_Some}
use Rattle.std.proofs.lemmas.List.{append-nil, map-append}
use Rattle.std.proofs.lemmas.List.Sums.{sum_by-append, sum_by-cons, sum_by_push}
use Rattle.std.proofs.lemmas.List.Elements.{All-nil, All-pop, All-same, All-contains, Contains-append_right}
use Rattle.mine_model.specs.Labels.{SameLabels}
use Rattle.mine_model.proofs.ListLemmas.{Contains-first}
use Rattle.node_pool.specs.Pool.{given, got}
use Rattle.node_pool.specs.declared.seat.Seat.{Seat}
use Rattle.search_engine.specs.Seats.{HasFound, IsNext, HasNext}

module _ {X : Type 0} where
  pub empty-list : (xs : List X) → length xs ≡ 0 → xs ≡ []
  empty-list [] none = refl
  empty-list (x ∷ xs) none = absurd (omega arith)

  -- what holds of each element holds of the next
  pub All-next : (P : X → Type 0) (all seen rest : List X) (x : X) → seen ++ x ∷ rest ≡ all → All P all → P x
  All-next P all seen rest x is holds = All-contains P all x holds (subst (λ (l : List X). Contains l x) is (Contains-append_right seen (x ∷ rest) x (Contains-first x rest)))

-- the labels of some tasks, and of one more behind them
labels-more : {T : Type 0} (label_of : T → List ℕ) (weight : List ℕ → ℕ) (tasks : List T) (task : T) → sum_by weight (map label_of (tasks ++ task ∷ [])) ≡ sum_by weight (map label_of tasks) + weight (label_of task)
labels-more label_of weight tasks task = ap (sum_by weight) (map-append label_of tasks (task ∷ [])) ∙ sum_by_push weight (map label_of tasks) (label_of task)

module _ {T G : Type 0} (label_of : T → List ℕ) where
  -- these tasks were put, or came to the overflow
  pub record ArePut (seat later : Seat T G) (tasks overflow after : List T) : Type 0 where
    pub put : List (List ℕ)
    pub kept : List (List ℕ)
    pub given_is : given later ≡ given seat ++ put
    pub overflow_is : map label_of after ≡ map label_of overflow ++ kept
    pub same : SameLabels (map label_of tasks) (put ++ kept)

  pub put-none : (seat : Seat T G) (overflow : List T) → ArePut seat seat [] overflow overflow
  put-none seat overflow = record {
    put = [];
    kept = [];
    given_is = sym (append-nil (given seat));
    overflow_is = sym (append-nil (map label_of overflow));
    same = λ weight. refl;
  }

  module _ (seat now later : Seat T G) (tasks overflow after : List T) (task : T) (are : ArePut seat now tasks overflow after) where
    -- one more was put
    pub put-more : given later ≡ given now ++ label_of task ∷ [] → ArePut seat later (tasks ++ task ∷ []) overflow after
    put-more more = record {
      put = are.put ++ label_of task ∷ [];
      kept = are.kept;
      given_is = more ∙ ap (λ (l : List (List ℕ)). l ++ label_of task ∷ []) are.given_is ∙ append_assoc (given seat) are.put (label_of task ∷ []);
      overflow_is = are.overflow_is;
      same = λ weight. omega (
        arith,
        are.same weight,
        labels-more label_of weight tasks task,
        sum_by-append weight are.put are.kept,
        sum_by-append weight (are.put ++ label_of task ∷ []) are.kept,
        sum_by_push weight are.put (label_of task),
      );
    }

    -- one more came to the overflow
    pub put-kept : given later ≡ given now → (last : List T) → last ≡ after ++ task ∷ [] → ArePut seat later (tasks ++ task ∷ []) overflow last
    put-kept same last is = record {
      put = are.put;
      kept = are.kept ++ label_of task ∷ [];
      given_is = same ∙ are.given_is;
      overflow_is = ap (map label_of) is ∙ map-append label_of after (task ∷ []) ∙ ap (λ (l : List (List ℕ)). l ++ label_of task ∷ []) are.overflow_is ∙ append_assoc (map label_of overflow) are.kept (label_of task ∷ []);
      same = λ weight. omega (
        arith,
        are.same weight,
        labels-more label_of weight tasks task,
        sum_by-append weight are.put are.kept,
        sum_by-append weight are.put (are.kept ++ label_of task ∷ []),
        sum_by_push weight are.kept (label_of task),
      );
    }

  module _ (ground_of : T → G) where
    -- the next task is the last of the overflow
    pub next-of_stack : (task : T) (seat : Seat T G) (overflow rest : List T) → overflow ≡ rest ++ task ∷ [] → IsNext label_of ground_of task seat seat overflow rest
    next-of_stack task seat overflow rest is = record {
      came = [];
      got_them = λ weight. omega (arith, sum_by-append weight (got seat) []);
      same = λ weight. omega (
        arith,
        ap (λ (l : List T). sum_by weight (map label_of l)) is,
        labels-more label_of weight rest task,
        sum_by-append weight (map label_of overflow) [],
        sum_by-cons weight (label_of task) (map label_of rest),
      );
      own = λ home seat_is are. let parts = All-pop (λ (t : T). ground_of t ≡ home) overflow rest (Some task) is are in (parts.1, parts.0);
    }

    -- the overflow is empty, and the next task is what the seat found
    pub next-of_seat : (next : Option T) (seat later : Seat T G) (overflow rest : List T) → overflow ≡ [] → rest ≡ [] → HasFound label_of ground_of next seat later → HasNext label_of ground_of next seat later overflow rest
    next-of_seat None seat later overflow rest none still found = (none, still, found)
    next-of_seat (Some task) seat later overflow rest none still found = record {
      came = label_of task ∷ [];
      got_them = found.1;
      same = λ weight. omega (
        arith,
        ap (λ (l : List T). sum_by weight (map label_of l)) none,
        ap (λ (l : List T). sum_by weight (map label_of l)) still,
        sum_by-append weight (map label_of overflow) (label_of task ∷ []),
        sum_by-cons weight (label_of task) [],
        sum_by-cons weight (label_of task) (map label_of rest),
      );
      own = λ home seat_is are. (
        same_Some (ground_of task) home (sym found.0 ∙ seat_is),
        All-same (λ (t : T). ground_of t ≡ home) rest [] still (All-nil (λ (t : T). ground_of t ≡ home)),
      );
    }
