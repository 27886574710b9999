-- All seats of a pool, taken apart, make the pool whole again.
use Rattle.std.proofs.Common.{◌≡◌, ℕ, ◌+◌, ◌<◌, ◌≤◌, List, [], ◌∷◌, ◌++◌, Option, Some, All, refl, ap, sym, ◌∙◌, subst, slice_get, get_or, length, map, arith, sum_by, flat_map}
use Rattle.std.proofs.lemmas.List.{length-map}
use Rattle.std.proofs.lemmas.List.Sums.{sum_by-cons, sum_by-append}
use Rattle.std.proofs.lemmas.Option.{slice_get_within, slice_get-get_or}
use Rattle.std.specs.declared.vec.Vec.{Vec}
use Rattle.std.specs.declared.alloc.Global.{Global}
use Rattle.mine_model.specs.Labels.{SameLabels}
use Rattle.crossbeam_deque.specs.Handles.{view, worker_view, worker_deque, stealer_deque}
use Rattle.node_pool.specs.declared.way.Way.{Way}
use Rattle.node_pool.specs.declared.seat.Seat.{Seat}
use Rattle.node_pool.specs.Deques.{pool_by}
use Rattle.node_pool.specs.Ways.{AreRights}
use Rattle.node_pool.specs.Opening.{Owner}
use Rattle.node_pool.specs.Closing.{given_weight, got_weight, stolen_weight, all_stolen_weight, HaveParts, AreWays}
use Rattle.node_pool.specs.Pool.{seat_ground, given, got, IsWholePool}
use Rattle.mine_model.proofs.SumLemmas.{sum_by-flat_map}
use Rattle.node_pool.proofs.Lists.{get_map, same_lists}
use Rattle.node_pool.proofs.Kept.{kept_below, first_ground}
use Rattle.node_pool.proofs.Steps.{sum_by_map}

module _ {T G : Type 0} where
  abbrev pub owners_of : List (Seat T G) → List (Owner T G)
  owners_of seats = map (λ (s : Seat T G). s.owner) seats

  abbrev pub rows_of : List (Seat T G) → List (Vec (Way T G) Global)
  rows_of seats = map (λ (s : Seat T G). s.ways) seats

  ways_count : (seats : List (Seat T G)) (w : IsWholePool seats) (k : ℕ) (s : Seat T G) → slice_get seats k ≡ Some s → length s.ways.items ≡ length seats
  ways_count seats w k s e =
      let n = length-map s.ways.items (λ (r : Way T G). stealer_deque r.thief) in
      let pool : length (pool_by s.ways.items) ≡ length w.0 = ap length (w.3 k s e).1 in
      let size = w.2 in omega arith

  pub whole_few : (seats : List (Seat T G)) → IsWholePool seats → length seats ≤ 64
  whole_few [] w = omega arith
  whole_few (s ∷ ss) w = let n = ways_count (s ∷ ss) w 0 s refl in let few = s.few in omega arith

  whole_parts : (seats : List (Seat T G)) (w : IsWholePool seats) → HaveParts w.1 (length seats) (owners_of seats)
  whole_parts seats w k o e =
      let from = get_map (λ (s : Seat T G). s.owner) seats k o e in
      let s : Seat T G = from.0 in
      let within = slice_get_within seats k s from.1 in
      let n = ways_count seats w k s from.1 in
      let parts = s.parts in
      let few = whole_few seats w in
      let below = kept_below (length seats) k within in
      let same : (worker_view o).parts ≡ (worker_view s.owner).parts = ap (λ (q : Owner T G). (worker_view q).parts) (sym from.2) in
      (omega arith, ap (λ (q : Owner T G). (worker_view q).known_ground) (sym from.2) ∙ (w.3 k s from.1).2)

  whole_deques : (seats : List (Seat T G)) (w : IsWholePool seats) → map (λ (o : Owner T G). worker_deque o) (owners_of seats) ≡ w.0
  whole_deques seats w = same_lists (map (λ (o : Owner T G). worker_deque o) (owners_of seats)) w.0
      (length-map (owners_of seats) (λ (o : Owner T G). worker_deque o) ∙ length-map seats (λ (s : Seat T G). s.owner) ∙ sym w.2)
      (λ k d e.
      let at = get_map (λ (o : Owner T G). worker_deque o) (owners_of seats) k d e in
      let from = get_map (λ (s : Seat T G). s.owner) seats k at.0 at.1 in
      let s : Seat T G = from.0 in
      let place = w.3 k s from.1 in
      ap (slice_get w.0) (sym place.0) ∙ ap (λ l. slice_get l s.number) (sym place.1) ∙ s.own ∙ ap (λ (o : Owner T G). Some (worker_deque o)) from.2 ∙ ap Some at.2)

  whole_ways : (seats : List (Seat T G)) (w : IsWholePool seats) → AreWays w.1 (map (λ (o : Owner T G). worker_deque o) (owners_of seats)) (rows_of seats)
  whole_ways seats w k ways e =
      let from = get_map (λ (s : Seat T G). s.ways) seats k ways e in
      let s : Seat T G = from.0 in
      let place = w.3 k s from.1 in
      subst (λ (v : Vec (Way T G) Global). (pool_by v.items ≡ map (λ (o : Owner T G). worker_deque o) (owners_of seats)) × AreRights k w.1 v.items) from.2
      (place.1 ∙ sym (whole_deques seats w), subst (λ (p : ℕ × Option G). AreRights p.0 p.1 s.ways.items) (λ i. (place.0 i, place.2 i)) s.rights)

  first_of : (seats : List (Seat T G)) (w : IsWholePool seats) → 0 < length seats → first_ground (owners_of seats) ≡ w.1
  first_of [] w some = absurd (omega arith)
  first_of (s ∷ ss) w some = (w.3 0 s refl).2

  pub have_first : (known_ground : Option G) (seats : ℕ) (owners : List (Owner T G)) → 0 < length owners → HaveParts known_ground seats owners → first_ground owners ≡ known_ground
  have_first known_ground seats [] some all = absurd (omega arith)
  have_first known_ground seats (o ∷ os) some all = (all 0 o refl).1

  pub have_own : (known_ground : Option G) (seats : ℕ) (owners : List (Owner T G)) → HaveParts known_ground seats owners → HaveParts (first_ground owners) seats owners
  have_own known_ground seats [] all k o e = absurd (cc)
  have_own known_ground seats (x ∷ xs) all k o e = ((all k o e).0, (all k o e).1 ∙ sym (all 0 x refl).1)

  -- what the passes owe before they come back
  gathers : (seats : List (Seat T G)) (w : IsWholePool seats) → HaveParts (first_ground (owners_of seats)) (length seats) (owners_of seats) × AreWays (first_ground (owners_of seats)) (map (λ (o : Owner T G). worker_deque o) (owners_of seats)) (rows_of seats)
  gathers [] w = ((λ k o e. absurd (cc)), λ k v e. absurd (cc))
  gathers (s ∷ ss) w = let is = first_of (s ∷ ss) w (omega arith) in (
    have_own w.1 (length (s ∷ ss)) (owners_of (s ∷ ss)) (whole_parts (s ∷ ss) w),
    subst (λ (h : Option G). AreWays h (map (λ (o : Owner T G). worker_deque o) (owners_of (s ∷ ss))) (rows_of (s ∷ ss))) (sym is) (whole_ways (s ∷ ss) w),
  )

  pub can_gather : (seats : List (Seat T G)) (owners : List (Owner T G)) (rows : List (Vec (Way T G) Global)) (n : ℕ) → owners ≡ owners_of seats → rows ≡ rows_of seats → n ≡ length rows → IsWholePool seats
      → (length rows ≡ length owners) × (length rows ≤ 64) × HaveParts (first_ground owners) n owners × AreWays (first_ground owners) (map (λ (o : Owner T G). worker_deque o) owners) rows
  can_gather seats owners rows n e f count w =
      let a : length owners ≡ length seats = ap length e ∙ length-map seats (λ (s : Seat T G). s.owner) in
      let b : length rows ≡ length seats = ap length f ∙ length-map seats (λ (s : Seat T G). s.ways) in
      let few = whole_few seats w in
      let both = gathers seats w in (
        omega arith,
        omega arith,
        subst (λ (p : List (Owner T G) × ℕ). HaveParts (first_ground p.0) p.1 p.0) (λ i. (sym e i, sym (count ∙ b) i)) both.0,
        subst (λ (p : List (Owner T G) × List (Vec (Way T G) Global)). AreWays (first_ground p.0) (map (λ (o : Owner T G). worker_deque o) p.0) p.1) (λ i. (sym e i, sym f i)) both.1,
      )

  got_sum : (weight : List ℕ → ℕ) (seats : List (Seat T G)) → sum_by (λ s. sum_by weight (got s)) seats ≡ got_weight weight (owners_of seats) + all_stolen_weight weight (rows_of seats)
  got_sum weight [] = refl
  got_sum weight (s ∷ ss) = omega (
    arith,
    sum_by-cons (λ (s : Seat T G). sum_by weight (got s)) s ss,
    sum_by-cons (λ (o : Owner T G). sum_by weight (worker_view o).got) s.owner (owners_of ss),
    sum_by-cons (λ (v : Vec (Way T G) Global). stolen_weight weight v.items) s.ways (rows_of ss),
    sum_by-append weight (worker_view s.owner).got (flat_map (λ (r : Way T G). (view r.right).got) s.ways.items),
    sum_by-flat_map weight (λ (r : Way T G). (view r.right).got) s.ways.items,
    got_sum weight ss,
  )

  -- all that was put was taken, or is left
  pub balances : (label : T → List ℕ) (seats : List (Seat T G)) (owners : List (Owner T G)) (rows : List (Vec (Way T G) Global)) (after : List (Owner T G)) (left : List T) → owners ≡ owners_of seats → rows ≡ rows_of seats
      → ((weight : List ℕ → ℕ) → given_weight weight after ≡ given_weight weight owners) → ((weight : List ℕ → ℕ) → got_weight weight after ≡ got_weight weight owners + all_stolen_weight weight rows)
      → ((weight : List ℕ → ℕ) → given_weight weight after ≡ got_weight weight after + sum_by (λ t. weight (label t)) left) → SameLabels (flat_map given seats) (flat_map got seats ++ map label left)
  balances label seats owners rows after left e f put took balance weight =
      let a : given_weight weight owners ≡ given_weight weight (owners_of seats) = ap (given_weight weight) e in
      let b : got_weight weight owners ≡ got_weight weight (owners_of seats) = ap (got_weight weight) e in
      let c : all_stolen_weight weight rows ≡ all_stolen_weight weight (rows_of seats) = ap (all_stolen_weight weight) f in
      omega (
        arith,
        put weight,
        took weight,
        balance weight,
        got_sum weight seats,
        sum_by-flat_map weight (λ (s : Seat T G). given s) seats,
        sum_by_map (λ (o : Owner T G). sum_by weight (worker_view o).given) (λ (s : Seat T G). s.owner) seats,
        sum_by-flat_map weight (λ (s : Seat T G). got s) seats,
        sum_by-append weight (flat_map got seats) (map label left),
        sum_by_map weight label left,
      )

  -- what is left has the ground of each seat
  pub grounds : (ground_of : T → G) (seats : List (Seat T G)) (owners after : List (Owner T G)) (left : List T) → IsWholePool seats → owners ≡ owners_of seats → length after ≡ length owners → HaveParts (first_ground owners) 0 after
      → All (λ t. Some (ground_of t) ≡ first_ground after) left → All (λ t. All (λ s. seat_ground s ≡ Some (ground_of t)) seats) left
  grounds ground_of seats owners after left w e count parts all j t within k s here =
      let a : length owners ≡ length seats = ap length e ∙ length-map seats (λ (s : Seat T G). s.owner) in
      let mine = (w.3 k (get_or seats k s) (slice_get-get_or seats k s here)).2 in
      mine ∙ sym (first_of seats w (omega arith)) ∙ sym (ap first_ground e) ∙ sym (have_first (first_ground owners) 0 after (omega arith) parts) ∙ sym (all j t within)
