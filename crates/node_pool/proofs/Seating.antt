-- Seats are put together from the last to the first.
use Rattle.std.proofs.Common.{◌≡◌, ℕ, suc, ◌+◌, ◌-◌, ◌<◌, ◌≤◌, List, [], ◌∷◌, ◌++◌, Option, Some, refl, ap, sym, ◌∙◌, subst, slice_get, get_or, length, map, arith, reverse, flat_map, ◌==◌, false}
use Rattle.std.specs.Int.{bit_at}
use Rattle.std.proofs.lemmas.Nat.Bits.{bit_at-zero}
use Rattle.std.proofs.lemmas.List.{length-map, length_push, length-reverse, get_or-reverse}
use Rattle.std.proofs.lemmas.Option.{slice_get-map, slice_get_read, slice_get_within, get_or_from_slice_get}
use Rattle.std.specs.Option.{option_map}
use Rattle.std.specs.declared.vec.Vec.{Vec}
use Rattle.std.specs.declared.alloc.Global.{Global}
use Rattle.crossbeam_deque.specs.Handles.{view, worker_view, worker_deque, stealer_deque}
use Rattle.node_pool.specs.declared.way.Way.{Way}
use Rattle.node_pool.specs.declared.seat.Seat.{Seat}
use Rattle.node_pool.specs.Rule.{account}
use Rattle.node_pool.specs.Deques.{Deque, pool_by}
use Rattle.node_pool.specs.Ways.{AreRights}
use Rattle.node_pool.specs.Opening.{Owner, kept, AreFresh, AreRows, AreNewWays, AreSeats}
use Rattle.node_pool.specs.Pool.{number_of, pool_of, seat_ground, IsFresh}
use Rattle.node_pool.proofs.Lists.{Everywhere, everywhere_snoc, everywhere_front}
use Rattle.node_pool.proofs.Kept.{kept_below}

get_reverse : {X : Type 0} (xs : List X) (k : ℕ) (x : X) → slice_get (reverse xs) k ≡ Some x → (k < length xs) × (slice_get xs (length xs - 1 - k) ≡ Some x)
get_reverse {X} xs k x e =
    let n = length-reverse xs in
    let r = slice_get_within (reverse xs) k x e in
    let within : k < length xs = omega arith in
    let is : get_or (reverse xs) k x ≡ x = get_or_from_slice_get (reverse xs) k x x e in
    (within, slice_get_read xs (length xs) (length xs - 1 - k) x refl (omega arith) (sym is ∙ get_or-reverse xs k x within))

module _ {T G : Type 0} where
  pub record Seating (known_ground : Option G) (n : ℕ) (pool : List Deque) (left : List (Owner T G)) (ways : List (Vec (Way T G) Global)) (done : List (Seat T G)) : Type 0 where
    pub count : length left + length done ≡ n
    pub size : length pool ≡ n
    pub few : n ≤ 64
    pub fresh : AreFresh known_ground n left
    pub deques : Everywhere (λ k (o : Owner T G). slice_get pool k ≡ Some (worker_deque o)) left
    pub rows : AreRows known_ground pool (length left) ways
    pub seats : Everywhere (λ i (s : Seat T G). (number_of s + i + 1 ≡ n) × (pool_of s ≡ pool) × (seat_ground s ≡ known_ground) × IsFresh s) done

  pub seating_begins : (known_ground : Option G) (owners : List (Owner T G)) (rows : List (Vec (Way T G) Global)) → length owners ≤ 64 → AreFresh known_ground (length owners) owners → AreRows known_ground (map (λ (o : Owner T G). worker_deque o) owners) (length owners) rows
      → Seating known_ground (length owners) (map (λ (o : Owner T G). worker_deque o) owners) owners rows []
  seating_begins known_ground owners rows few fresh ways = record {
    count = omega arith;
    size = length-map owners (λ (o : Owner T G). worker_deque o);
    few = few;
    fresh = fresh;
    deques = λ k o e. slice_get-map (λ (o : Owner T G). worker_deque o) owners k ∙ ap (option_map (λ (o : Owner T G). worker_deque o)) e;
    rows = ways;
    seats = λ k s e. absurd (cc);
  }

  -- what is known of the last owner and the last ways
  pub record Last (known_ground : Option G) (n : ℕ) (pool : List Deque) (number : ℕ) (owner : Owner T G) (row : List (Way T G)) : Type 0 where
    pub within : number < n
    pub own : slice_get (pool_by row) number ≡ Some (worker_deque owner)
    pub size : length row ≡ n
    pub deques : pool_by row ≡ pool
    pub few : n ≤ 64
    pub knows : worker_view owner ≡ account (65 - n) [] [] known_ground
    pub ways : AreNewWays known_ground number row

  pub seating_last : (known_ground : Option G) (n : ℕ) (deques : List Deque) (owners : List (Owner T G)) (o : Owner T G) (rows : List (Vec (Way T G) Global)) (w : Vec (Way T G) Global) (seats : List (Seat T G))
      → Seating known_ground n deques (owners ++ o ∷ []) (rows ++ w ∷ []) seats → Last known_ground n deques (length owners) o w.items
  seating_last known_ground n deques owners o rows w seats s =
      let k = length_push owners o in
      let j = length_push rows w in
      let same : length rows ≡ length owners = omega (arith, s.rows.0) in
      let below : length owners < n = omega (arith, s.count) in
      let row = (everywhere_front (λ k (v : Vec (Way T G) Global). (pool_by v.items ≡ deques) × AreNewWays known_ground k v.items) rows w s.rows.1).1 in
      let own = (everywhere_front (λ k (o : Owner T G). slice_get deques k ≡ Some (worker_deque o)) owners o s.deques).1 in
      let few = s.few in let sum : 64 - n + 1 ≡ 65 - n = omega arith in
      let fresh = (everywhere_front (λ k (o : Owner T G). worker_view o ≡ account (kept n k) [] [] known_ground) owners o s.fresh).1 in record {
        within = below;
        own = ap (λ l. slice_get l (length owners)) row.0 ∙ own;
        size = sym (length-map w.items (λ (r : Way T G). stealer_deque r.thief)) ∙ ap length row.0 ∙ s.size;
        deques = row.0;
        few = s.few;
        knows = fresh ∙ ap (λ p. account p [] [] known_ground) (kept_below n (length owners) below ∙ sum);
        ways = subst (λ k. AreNewWays known_ground k w.items) same row.1;
      }

  pub seating_next : (known_ground : Option G) (n : ℕ) (deques : List Deque) (owners : List (Owner T G)) (o : Owner T G) (rows : List (Vec (Way T G) Global)) (w : Vec (Way T G) Global) (seats : List (Seat T G)) (s : Seat T G) (more : List (Seat T G))
      → more ≡ seats ++ s ∷ [] → Seating known_ground n deques (owners ++ o ∷ []) (rows ++ w ∷ []) seats → number_of s ≡ length owners → pool_of s ≡ pool_by w.items → seat_ground s ≡ (worker_view o).known_ground → IsFresh s → Seating known_ground n deques owners rows more
  seating_next known_ground n deques owners o rows w seats s more e old number pool is_ground fresh =
      let last = seating_last known_ground n deques owners o rows w seats old in
      let k = length_push owners o in
      let j = length_push rows w in subst (λ (l : List (Seat T G)). Seating known_ground n deques owners rows l) (sym e) (record {
        count = omega (arith, old.count, length_push seats s);
        size = old.size;
        few = old.few;
        fresh = (everywhere_front (λ k (o : Owner T G). worker_view o ≡ account (kept n k) [] [] known_ground) owners o old.fresh).0;
        deques = (everywhere_front (λ k (o : Owner T G). slice_get deques k ≡ Some (worker_deque o)) owners o old.deques).0;
        rows = (omega (arith, old.rows.0), (everywhere_front (λ k (v : Vec (Way T G) Global). (pool_by v.items ≡ deques) × AreNewWays known_ground k v.items) rows w old.rows.1).0);
        seats = everywhere_snoc (λ i (s : Seat T G). (number_of s + i + 1 ≡ n) × (pool_of s ≡ deques) × (seat_ground s ≡ known_ground) × IsFresh s) seats s old.seats
            (omega (arith, old.count, number), pool ∙ last.deques, is_ground ∙ ap (λ v. v.known_ground) last.knows, fresh);
      })

  pub seating_ends : (known_ground : Option G) (n : ℕ) (deques : List Deque) (owners : List (Owner T G)) (rows : List (Vec (Way T G) Global)) (seats : List (Seat T G)) → length owners ≡ 0
      → Seating known_ground n deques owners rows seats → (length (reverse seats) ≡ n) × AreSeats known_ground deques (reverse seats)
  seating_ends known_ground n deques owners rows seats none s = (
    omega (arith, s.count, length-reverse seats),
    λ k t e.
        let at = get_reverse seats k t e in
        let f = s.seats (length seats - 1 - k) t at.1 in
        (omega (arith, s.count, at.0, f.0), f.1, f.2, f.3),
  )

  -- after a pop of the last owner and of the last ways
  pub seating_popped : (known_ground : Option G) (n : ℕ) (pool : List Deque) (before owners : List (Owner T G)) (o : Owner T G) (ways rows : List (Vec (Way T G) Global)) (w : Vec (Way T G) Global) (seats : List (Seat T G))
      → before ≡ owners ++ o ∷ [] → ways ≡ rows ++ w ∷ [] → Seating known_ground n pool before ways seats → Seating known_ground n pool (owners ++ o ∷ []) (rows ++ w ∷ []) seats
  seating_popped known_ground n pool before owners o ways rows w seats e f s =
      subst (λ (p : List (Owner T G) × List (Vec (Way T G) Global)). Seating known_ground n pool p.0 p.1 seats) (λ i. (e i, f i)) s

  -- so what was popped is the last, by whatever number
  pub seating_top : (known_ground : Option G) (pool : List Deque) (before owners : List (Owner T G)) (o : Owner T G) (ways rows : List (Vec (Way T G) Global)) (w : Vec (Way T G) Global) (seats : List (Seat T G)) (n number : ℕ)
      → before ≡ owners ++ o ∷ [] → ways ≡ rows ++ w ∷ [] → number ≡ length owners → Seating known_ground n pool before ways seats → Last known_ground n pool number o w.items
  seating_top known_ground pool before owners o ways rows w seats n number e f place s =
      subst (λ (k : ℕ). Last known_ground n pool k o w.items) (sym place) (seating_last known_ground n pool owners o rows w seats (seating_popped known_ground n pool before owners o ways rows w seats e f s))

  nothing_got : (known_ground : Option G) (number : ℕ) (ways : List (Way T G)) → ((k : ℕ) (r : Way T G) → slice_get ways k ≡ Some r → (view r.right).got ≡ []) → flat_map (λ (r : Way T G). (view r.right).got) ways ≡ []
  nothing_got known_ground number [] none = refl
  nothing_got known_ground number (r ∷ rs) none = ap (λ l. l ++ flat_map (λ (r : Way T G). (view r.right).got) rs) (none 0 r refl) ∙ nothing_got known_ground number rs (λ k. none (suc k))

  -- a new seat is fresh
  pub seat_fresh : (known_ground : Option G) (parts number : ℕ) (o : Owner T G) (ways : List (Way T G)) → worker_view o ≡ account parts [] [] known_ground → AreNewWays known_ground number ways
      → ((worker_view o).given ≡ []) × ((worker_view o).got ++ flat_map (λ (r : Way T G). (view r.right).got) ways ≡ []) × ((k : ℕ) → (bit_at 0 k == 1) ≡ false)
  seat_fresh known_ground parts number o ways knows new = (
    ap (λ v. v.given) knows,
    ap (λ l. l ++ flat_map (λ (r : Way T G). (view r.right).got) ways) (ap (λ v. v.got) knows) ∙ nothing_got known_ground number ways (λ k r e. ap (λ v. v.got) (new k r e)),
    λ k. ap (λ b. b == 1) (bit_at-zero k),
  )

  -- and has its rights
  pub seat_rights : (known_ground : Option G) (number : ℕ) (ways : List (Way T G)) → AreNewWays known_ground number ways → AreRights number known_ground ways
  seat_rights known_ground number ways new k r e = let is = new k r e in (ap (λ v. v.parts) is, ap (λ v. v.given) is, ap (λ v. v.known_ground) is, λ _. ap (λ v. v.got) is)

  -- the last owner and ways make a seat
  pub seat_owner : (known_ground : Option G) (n : ℕ) (pool : List Deque) (number : ℕ) (o : Owner T G) (ways : List (Way T G)) → Last known_ground n pool number o ways → worker_view o ≡ account (65 - length ways) [] [] (worker_view o).known_ground
  seat_owner known_ground n pool number o ways last = last.knows ∙ ap (λ (p : ℕ × Option G). account p.0 [] [] p.1) (λ i. (ap (λ m. 65 - m) (sym last.size) i, sym (ap (λ v. v.known_ground) last.knows) i))

  pub seat_ways : (known_ground : Option G) (n : ℕ) (pool : List Deque) (number : ℕ) (o : Owner T G) (ways : List (Way T G)) → Last known_ground n pool number o ways → AreNewWays (worker_view o).known_ground number ways
  seat_ways known_ground n pool number o ways last = subst (λ (h : Option G). AreNewWays h number ways) (sym (ap (λ v. v.known_ground) last.knows)) last.ways
