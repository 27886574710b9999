-- The passes of all seats come back, from the last seat to the first.
use Rattle.std.proofs.Common.{◌≡◌, ℕ, ◌+◌, ◌<◌, ◌≤◌, List, [], ◌∷◌, ◌++◌, Option, Some, refl, ap, sym, ◌∙◌, subst, slice_get, length, map, arith}
use Rattle.std.proofs.lemmas.List.{length_push}
use Rattle.std.proofs.lemmas.List.Sums.{sum_by_push}
use Rattle.std.proofs.lemmas.Option.{slice_get_within, slice_get-map, same_Some}
use Rattle.std.specs.Option.{option_map}
use Rattle.std.specs.declared.vec.Vec.{Vec}
use Rattle.std.specs.declared.alloc.Global.{Global}
use Rattle.crossbeam_deque.specs.Handles.{view, worker_view, worker_deque, stealer_deque}
use Rattle.node_pool.specs.declared.way.Way.{Way}
use Rattle.node_pool.specs.Deques.{pool_by}
use Rattle.node_pool.specs.Ways.{AreRights}
use Rattle.node_pool.specs.Opening.{Owner}
use Rattle.node_pool.specs.Closing.{given_weight, got_weight, stolen_weight, all_stolen_weight, AllCanReturn, AllReturned, HaveParts, AreWays}
use Rattle.mine_model.proofs.ElementLemmas.{get-some}
use Rattle.node_pool.proofs.Lists.{everywhere_front}
use Rattle.node_pool.proofs.Kept.{kept_next, kept_room, kept_some}
use Rattle.node_pool.proofs.NewWays.{same_length}
use Rattle.node_pool.proofs.Returning.{returned_given, returned_got, returned_deques}

module _ {T G : Type 0} where
  parts_next : (known_ground : Option G) (number : ℕ) (owners : List (Owner T G)) (ways : List (Way T G)) (after : List (Owner T G)) → number < 64 → length owners ≤ 64 → length ways ≡ length owners → length after ≡ length owners
      → HaveParts known_ground (number + 1) owners → AreRights number known_ground ways → AllReturned owners ways after → HaveParts known_ground number after
  parts_next known_ground number owners ways after few size m n parts rights back k p at =
      let within = slice_get_within after k p at in
      let o = get-some owners k (omega arith) in
      let r = get-some ways k (omega arith) in
      let b = back k o.0 r.0 o.1 r.1 in
      let same : p ≡ b.0 = same_Some p b.0 (sym at ∙ b.1) in
      let mine = parts k o.0 o.1 in
      let right = rights k r.0 r.1 in
      let is : (worker_view p).parts ≡ (worker_view o.0).parts + (view r.0.right).parts = ap (λ (q : Owner T G). (worker_view q).parts) same ∙ ap (λ v. v.parts) b.2.1 in
      let knows : (worker_view p).known_ground ≡ (worker_view o.0).known_ground = ap (λ (q : Owner T G). (worker_view q).known_ground) same ∙ ap (λ v. v.known_ground) b.2.1 in
      let next = kept_next number k few in
      let room = kept_room number k few (omega arith) in
      let a = mine.0 in let c = right.0 in
      (omega arith, knows ∙ mine.1)

  -- the passes of the seats that are left have yet to come back
  pub record Gathering (known_ground : Option G) (first : List (Owner T G)) (rows : List (Vec (Way T G) Global)) (owners : List (Owner T G)) (left : List (Vec (Way T G) Global)) : Type 0 where
    pub few : length first ≤ 64
    pub room : length left ≤ length first
    pub size : length owners ≡ length first
    pub deques : map (λ (o : Owner T G). worker_deque o) owners ≡ map (λ (o : Owner T G). worker_deque o) first
    pub parts : HaveParts known_ground (length left) owners
    pub ways : AreWays known_ground (map (λ (o : Owner T G). worker_deque o) first) left
    pub given : (weight : List ℕ → ℕ) → given_weight weight owners ≡ given_weight weight first
    pub got : (weight : List ℕ → ℕ) → got_weight weight owners + all_stolen_weight weight left ≡ got_weight weight first + all_stolen_weight weight rows

  pub gathering_begins : (known_ground : Option G) (first : List (Owner T G)) (rows : List (Vec (Way T G) Global)) → length rows ≡ length first → length rows ≤ 64 → HaveParts known_ground (length rows) first
      → AreWays known_ground (map (λ (o : Owner T G). worker_deque o) first) rows → Gathering known_ground first rows first rows
  gathering_begins known_ground first rows size few parts ways = record {
    few = omega arith;
    room = omega arith;
    size = refl;
    deques = refl;
    parts = parts;
    ways = ways;
    given = λ weight. refl;
    got = λ weight. refl;
  }

  gathering_popped : (known_ground : Option G) (first : List (Owner T G)) (rows : List (Vec (Way T G) Global)) (owners : List (Owner T G)) (before front : List (Vec (Way T G) Global)) (ways : Vec (Way T G) Global)
      → before ≡ front ++ ways ∷ [] → Gathering known_ground first rows owners before → Gathering known_ground first rows owners (front ++ ways ∷ [])
  gathering_popped known_ground first rows owners before front ways is s = subst (λ (l : List (Vec (Way T G) Global)). Gathering known_ground first rows owners l) is s

  last_ways : (known_ground : Option G) (first : List (Owner T G)) (rows : List (Vec (Way T G) Global)) (owners : List (Owner T G)) (front : List (Vec (Way T G) Global)) (ways : Vec (Way T G) Global)
      → Gathering known_ground first rows owners (front ++ ways ∷ []) → (pool_by ways.items ≡ map (λ (o : Owner T G). worker_deque o) first) × AreRights (length front) known_ground ways.items
  last_ways known_ground first rows owners front ways s =
      (everywhere_front (λ k (w : Vec (Way T G) Global). (pool_by w.items ≡ map (λ (o : Owner T G). worker_deque o) first) × AreRights k known_ground w.items) front ways s.ways).1

  pub gathering_count : (known_ground : Option G) (first : List (Owner T G)) (rows : List (Vec (Way T G) Global)) (owners : List (Owner T G)) (before front : List (Vec (Way T G) Global)) (ways : Vec (Way T G) Global)
      → before ≡ front ++ ways ∷ [] → Gathering known_ground first rows owners before → length ways.items ≡ length owners
  gathering_count known_ground first rows owners before front ways is s =
      let t = gathering_popped known_ground first rows owners before front ways is s in
      same_length (λ (r : Way T G). stealer_deque r.thief) (λ (o : Owner T G). worker_deque o) ways.items owners ((last_ways known_ground first rows owners front ways t).0 ∙ sym t.deques)

  pub gathering_can : (known_ground : Option G) (first : List (Owner T G)) (rows : List (Vec (Way T G) Global)) (owners : List (Owner T G)) (before front : List (Vec (Way T G) Global)) (ways : Vec (Way T G) Global)
      → before ≡ front ++ ways ∷ [] → Gathering known_ground first rows owners before → AllCanReturn owners ways.items
  gathering_can known_ground first rows owners before front ways is s k o r at way =
      let t = gathering_popped known_ground first rows owners before front ways is s in
      let last = last_ways known_ground first rows owners front ways t in
      let n = length_push front ways in
      let within = slice_get_within owners k o at in
      let theirs : slice_get (pool_by ways.items) k ≡ Some (stealer_deque r.thief) = slice_get-map (λ (r : Way T G). stealer_deque r.thief) ways.items k ∙ ap (option_map (λ (r : Way T G). stealer_deque r.thief)) way in
      let mine : slice_get (map (λ (o : Owner T G). worker_deque o) owners) k ≡ Some (worker_deque o) = slice_get-map (λ (o : Owner T G). worker_deque o) owners k ∙ ap (option_map (λ (o : Owner T G). worker_deque o)) at in
      let same : stealer_deque r.thief ≡ worker_deque o = same_Some (stealer_deque r.thief) (worker_deque o) (sym theirs ∙ ap (λ l. slice_get l k) (last.0 ∙ sym t.deques) ∙ mine) in
      let parts = (t.parts k o at).0 in
      let room = kept_some (length (front ++ ways ∷ [])) k (omega (arith, t.few, t.room)) (omega (arith, t.few, t.size)) in
      (same, omega arith, (last.1 k r way).1)

  pub gathering_next : (known_ground : Option G) (first : List (Owner T G)) (rows : List (Vec (Way T G) Global)) (owners : List (Owner T G)) (before front : List (Vec (Way T G) Global)) (ways : Vec (Way T G) Global) (after : List (Owner T G))
      → before ≡ front ++ ways ∷ [] → length after ≡ length owners → AllReturned owners ways.items after → Gathering known_ground first rows owners before → Gathering known_ground first rows after front
  gathering_next known_ground first rows owners before front ways after is size back s =
      let t = gathering_popped known_ground first rows owners before front ways is s in
      let last = last_ways known_ground first rows owners front ways t in
      let n = length_push front ways in
      let count : length ways.items ≡ length owners = gathering_count known_ground first rows owners before front ways is s in record {
        few = t.few;
        room = omega (arith, t.room);
        size = size ∙ t.size;
        deques = returned_deques owners ways.items after count size back ∙ t.deques;
        parts = parts_next known_ground (length front) owners ways.items after (omega (arith, t.few, t.room)) (omega (arith, t.few, t.size)) count size (subst (λ (m : ℕ). HaveParts known_ground m owners) n t.parts) last.1 back;
        ways = (everywhere_front (λ k (w : Vec (Way T G) Global). (pool_by w.items ≡ map (λ (o : Owner T G). worker_deque o) first) × AreRights k known_ground w.items) front ways t.ways).0;
        given = λ weight. returned_given weight owners ways.items after count size back ∙ t.given weight;
        got = λ weight. omega (arith, returned_got weight owners ways.items after count size back, t.got weight, sum_by_push (λ (w : Vec (Way T G) Global). stolen_weight weight w.items) front ways);
      }

  pub gathering_ends : (known_ground : Option G) (first : List (Owner T G)) (rows : List (Vec (Way T G) Global)) (owners : List (Owner T G)) (left : List (Vec (Way T G) Global)) → length left ≡ 0 → Gathering known_ground first rows owners left
      → HaveParts known_ground 0 owners × ((weight : List ℕ → ℕ) → given_weight weight owners ≡ given_weight weight first) × ((weight : List ℕ → ℕ) → got_weight weight owners ≡ got_weight weight first + all_stolen_weight weight rows)
  gathering_ends known_ground first rows owners [] none s = (s.parts, s.given, λ weight. omega (arith, s.got weight))
  gathering_ends known_ground first rows owners (w ∷ ws) none s = absurd (omega arith)
