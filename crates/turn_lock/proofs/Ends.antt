-- A lock is made, its passes are dealt out and gathered again, and the lock is closed.
use Rattle.std.proofs.Common.{◌≡◌, ℕ, zero, suc, ◌+◌, ◌-◌, ◌≤◌, ◌<◌, ◌⊎◌, ⊎_elim, List, [], ◌∷◌, ◌++◌, length, set, sym, refl, ap, ◌∙◌, subst, arith, Some, None, length-append, append_assoc, All, Any, sum_by, get_or, lt_of_not-le}
use Rattle.std.proofs.Common as std
use mathlib.Core.Option.{Option, some, none, some-injective, some-ne-none}
use mathlib.Core.Logic.{dite}
use native.Mathlib.Decide.{dec_le, ℕ_discrete}
use lib.ListN.{get_elem?}
use Rattle.atomic_table.specs.Table.{State, opening, Final, Seen, Splits, Joins}
use Rattle.atomic_table.proofs.Lists.{at_set, at_snoc, set_else}
use Rattle.turn_lock.specs.declared.hand.Hand.{Hand}
use Rattle.turn_lock.specs.declared.hand.Stage.{Stage}
use Rattle.turn_lock.specs.declared.hand.Stage.TheVariants.{Idle, Waiting, Turn}
use Rattle.turn_lock.specs.History.{Made, entries_of, Part}
use Rattle.turn_lock.specs.Turns.{times, tickets, tickets_of, numbers, numbers_of, out_with, absent, hand, blank, first_hand, fresh, AtHome, Fits, Turns, AllMade, InStage}
use Rattle.std.proofs.lemmas.Option.{slice_get_within, get_or_from_slice_get, slice_get-get_or}
use Rattle.std.proofs.lemmas.List.Sums.{sum_by-cons, sum_by_push}
use Rattle.std.proofs.lemmas.List.Elements.{All-push, All-nil, All-cons}
use Rattle.std.proofs.lemmas.List.{map-append, get_or_append_left}
use Rattle.std.proofs.Math.Seq.{get_or-append_seam}
use Rattle.turn_lock.specs.declared.lock.Pass.{Pass}
use Rattle.turn_lock.specs.Passes.{number, made, parts_of, AreFresh}
use Rattle.turn_lock.specs.Plays.{Seated, first_part, other_parts}
use Rattle.mine_model.proofs.SumLemmas.{sum_by_set, sum_by_at}
use Rattle.turn_lock.proofs.Sums.{sum_by_le_beside}
use Rattle.turn_lock.proofs.Hands.{other_hands}
use Rattle.turn_lock.proofs.Parts.{entries_hit, log_weighs, parts_weigh, entries_rest, not_empty, times_hit, times_miss, times_append, made_append, fresh_once, fresh_length, fresh_made, cut_times, cut_length, cut_others, cut_first}

module _ {T : Type 0} where
  -- a hand without one pass, and a new hand with it
  abbrev cut_left : Hand T → Hand T
  cut_left v = hand v.start (other_parts v.parts) v.stage

  abbrev cut_right : Hand T → Hand T
  cut_right v = hand v.start (first_part v.parts) v.stage

  -- a hand with the passes of another, too
  abbrev gathered : Hand T → Hand T → Hand T
  gathered v w = hand v.start (w.parts ++ v.parts) v.stage

  -- a sum stays, where the two hands share what the one had
  sum_by_cut : (f : Hand T → ℕ) (l : List (Hand T)) (id : ℕ) (v : Hand T) → get_elem? l id ≡ some v → f (cut_left v) + f (cut_right v) ≡ f v
      → sum_by f (set l id (cut_left v) ++ cut_right v ∷ []) ≡ sum_by f l
  sum_by_cut f l id v at shares = let p = sum_by_set f l id v (cut_left v) at in let q = sum_by_push f (set l id (cut_left v)) (cut_right v) in omega arith

  -- a sum stays, where the one has what both had
  sum_by_join : (f : Hand T → ℕ) (l : List (Hand T)) (id other : ℕ) (v w : Hand T) → get_elem? l id ≡ some v → get_elem? (set l id (gathered v w)) other ≡ some w
      → f (gathered v w) + f blank ≡ f v + f w → sum_by f (set (set l id (gathered v w)) other blank) ≡ sum_by f l
  sum_by_join f l id other v w at at' shares =
      let p = sum_by_set f l id v (gathered v w) at in let q = sum_by_set f (set l id (gathered v w)) other w blank at' in omega arith

module _ {T G : Type 0} (history : T → List Made) (ground_at : T → G) (start : T) (count : ℕ) where
  -- a new lock
  opens : history start ≡ [] → count < 4294967296 → Turns history ground_at start count (opening (0 ∷ 0 ∷ []) (start ∷ []) (first_hand start count))
  opens none_yet few = record {
    served = 0;
    flight = 0;
    log = [];
    home = some start;
    few = few;
    words = refl;
    slot = refl;
    value = (none_yet, refl);
    gone = refl;
    busy = refl;
    given = λ n low high. absurd (omega arith);
    others = λ n away. refl;
    passes = (let p = fresh_length 0 count in omega arith);
    once = λ x. (let p = fresh_once x 0 count in omega arith);
    strangers = λ x away. refl;
    hands = λ id v at. first_fits id v at;
  }
    where
      first_fits : (id : ℕ) (v : Hand T) → get_elem? (first_hand start count ∷ []) id ≡ some v → Fits history ground_at start 0 [] v
      first_fits zero v at = subst (Fits history ground_at start 0 []) (some-injective _ _ at) (record { knows = refl; made = fresh_made 0 count; stage = tt })
      first_fits (suc id) v at = absurd (some-ne-none v (sym at))

  pub opens_with : (items : List T) → items ≡ start ∷ [] → history start ≡ [] → count < 4294967296 → Turns history ground_at start count (opening (0 ∷ 0 ∷ []) items (first_hand start count))
  opens_with items one none_yet few = subst (λ l. Turns history ground_at start count (opening (0 ∷ 0 ∷ []) l (first_hand start count))) (sym one) (opens none_yet few)

  -- one pass gets a seat of its own
  pub cuts : (id : ℕ) (v : Hand T) → v.stage ≡ Idle → Splits (Turns history ground_at start count) id v (cut_left v) (cut_right v)
  cuts id v idle s r at =
      let fits = r.hands id v at in
      let no_ticket : tickets v ≡ [] = ap tickets_of idle in
      let not_out : out_with v.stage ≡ 0 = ap out_with idle in
      let rests : (parts : ℕ) → InStage r.served r.log parts v.stage = λ parts. subst (InStage r.served r.log parts) (sym idle) tt in
      other_hands history ground_at start count s r (set s.views id (cut_left v) ++ cut_right v ∷ [])
      (record {
        out = sum_by_cut (λ (u : Hand T). out_with u.stage) s.views id v at (omega arith);
        busy = sum_by_cut (λ (u : Hand T). length (tickets u)) s.views id v at (let z : length (tickets v) ≡ 0 = ap length no_ticket in omega arith);
        ticket = λ n. sum_by_cut (λ (u : Hand T). times n (tickets u)) s.views id v at (let z : times n (tickets v) ≡ 0 = ap (times n) no_ticket in omega arith);
        passes = sum_by_cut (λ (u : Hand T). length u.parts) s.views id v at (cut_length v.parts);
        number = λ x. sum_by_cut (λ (u : Hand T). times x (numbers u)) s.views id v at (cut_times x v.parts);
      })
      (λ j u here. ⊎_elim
      (λ there. ⊎_elim
      (λ same. subst (Fits history ground_at start r.served r.log) same.1 (record { knows = fits.knows; made = cut_others r.log v.parts fits.made; stage = rests _ }))
      (λ other. r.hands j u other.1)
      (at_set s.views id j (cut_left v) u there))
      (λ new. subst (Fits history ground_at start r.served r.log) new (record { knows = fits.knows; made = cut_first r.log v.parts fits.made; stage = rests _ }))
      (at_snoc (set s.views id (cut_left v)) (cut_right v) u j here))

  -- a seat takes in the passes of another
  pub joins : (id : ℕ) (v : Hand T) (other : ℕ) (w : Hand T) → v.stage ≡ Idle → w.stage ≡ Idle → Joins (Turns history ground_at start count) id v other w (gathered v w) blank
  joins id v other w idle idle' s r at ne at' =
      let fits = r.hands id v at in
      let fits' = r.hands other w (sym (set_else s.views id other (gathered v w) ne) ∙ at') in
      let no_ticket : tickets v ≡ [] = ap tickets_of idle in
      let no_ticket' : tickets w ≡ [] = ap tickets_of idle' in
      let not_out : out_with w.stage ≡ 0 = ap out_with idle' in
      let parts_same = sum_by_join (λ (u : Hand T). length u.parts) s.views id other v w at at' (let e = length-append w.parts v.parts in omega arith) in
      other_hands history ground_at start count s r (set (set s.views id (gathered v w)) other blank)
      (record {
        out = sum_by_join (λ (u : Hand T). out_with u.stage) s.views id other v w at at' (omega arith);
        busy = sum_by_join (λ (u : Hand T). length (tickets u)) s.views id other v w at at' (let z : length (tickets w) ≡ 0 = ap length no_ticket' in omega arith);
        ticket = λ n. sum_by_join (λ (u : Hand T). times n (tickets u)) s.views id other v w at at' (let z : times n (tickets w) ≡ 0 = ap (times n) no_ticket' in omega arith);
        passes = parts_same;
        number = λ x. sum_by_join (λ (u : Hand T). times x (numbers u)) s.views id other v w at at' (let e = times_append x w.parts v.parts in omega arith);
      })
      (λ j u here. ⊎_elim
      (λ same. subst (Fits history ground_at start r.served r.log) same.1 (record { knows = tt; made = tt; stage = tt }))
      (λ there. ⊎_elim
      (λ same. subst (Fits history ground_at start r.served r.log) same.1 (record {
        knows = fits.knows;
        made = made_append r.log w.parts v.parts fits'.made fits.made;
        stage = subst (InStage r.served r.log (length (w.parts ++ v.parts))) (sym idle) tt;
      }))
      (λ beside. r.hands j u beside.1)
      (at_set s.views id j (gathered v w) u there.1))
      (at_set (set s.views id (gathered v w)) other j blank u here))

  -- what is out has a pass
  out_has : (served : ℕ) (log : List Made) (parts : ℕ) (stage : Stage) → InStage served log parts stage → out_with stage ≤ parts
  out_has served log parts Idle fits = omega arith
  out_has served log parts (Waiting t) fits = omega arith
  out_has served log parts (Turn t seen) fits = let one = fits.0 in omega arith

  numbered_has : (x : ℕ) (ps : List Part) → times x (numbers_of ps) ≤ length ps
  numbered_has x [] = omega arith
  numbered_has x (p ∷ ps) = let rest = numbered_has x ps in dite (ℕ_discrete p.0 x)
      (λ is. let here = times_hit x p.0 (numbers_of ps) is in omega arith)
      (λ ne. let here = times_miss x p.0 (numbers_of ps) ne in omega arith)

  -- the value of a lock, whose passes are all in one hand
  pub record Kept (ps : List Part) (value : T) : Type 0 where
    pub stays : ground_at value ≡ ground_at start
    pub made : AllMade (history value) ps
    pub once : (x : ℕ) → times x (numbers_of ps) ≤ 1
    pub strangers : (x : ℕ) → times x (numbers_of ps) ≡ 0 → entries_of x (history value) ≡ []

  home_kept : (s : State T (Hand T)) (r : Turns history ground_at start count s) (id : ℕ) (ps : List Part) (known : std.Option T) (xs : List T) → get_elem? s.views id ≡ some (hand known ps Idle) → length ps ≡ count
      → ((k : ℕ) (y : T) → get_elem? s.homes k ≡ some (some y) → get_elem? xs k ≡ some y) → (value : T) → get_elem? xs 0 ≡ some value → (home : Option T) → r.home ≡ home → Kept ps value
  home_kept s r id ps known xs at all there value lies none is =
      let v : Hand T = hand known ps Idle in
      let p = sum_by_le_beside (λ (u : Hand T). out_with u.stage) (λ (u : Hand T). length u.parts) s.views id v at (λ j u here. out_has r.served r.log (length u.parts) u.stage (r.hands j u here).stage) in
      let q = r.gone in let q' = r.passes in let gone : absent r.home ≡ 1 = ap absent is in absurd (omega arith)
  home_kept s r id ps known xs at all there value lies (some y) is =
      let v : Hand T = hand known ps Idle in
      let lay : (history y ≡ r.log) × (ground_at y ≡ ground_at start) = subst (AtHome history ground_at start r.log) is r.value in
      let same : y ≡ value = some-injective y value (sym (there 0 y (ap (λ hs. get_elem? hs 0) (r.slot ∙ ap (λ h. h ∷ []) is))) ∙ lies) in
      let fits = r.hands id v at in
      let mine = λ (x : ℕ). sum_by_at (λ (u : Hand T). times x (numbers u)) s.views id v at in
      let no_more = λ (x : ℕ). sum_by_le_beside (λ (u : Hand T). times x (numbers u)) (λ (u : Hand T). length u.parts) s.views id v at (λ j u here. numbered_has x u.parts) in
      subst (Kept ps) same (record {
        stays = lay.1;
        made = subst (λ log. AllMade log ps) (sym lay.0) fits.made;
        once = λ x. (let m = mine x in let o = r.once x in omega arith);
        strangers = λ x away. ap (entries_of x) lay.0 ∙ r.strangers x (let m = no_more x in let q' = r.passes in omega arith);
      })

  -- a lock is closed with a hand that has all passes
  pub closes : (id : ℕ) (v : Hand T) (ps : List Part) (known : std.Option T) (ws : List ℕ) (xs : List T) → v ≡ hand known ps Idle → length ps ≡ count → Final (Seen (Turns history ground_at start count) id v) ws xs
      → (value : T) → get_elem? xs 0 ≡ some value → Kept ps value
  closes id v ps known ws xs is all f value lies = home_kept f.0 f.1.0 id ps known xs (f.1.1 ∙ ap some is) all f.4 value lies f.1.0.home refl

module _ {A : Type 0} where
  pub all_front : (P : A → Type 0) (all xs : List A) (x : A) → all ≡ xs ++ x ∷ [] → All P all → All P xs
  all_front P all xs x is each k d within =
      let longer : k < length all = (let e = ap length is in let e' = length-append xs (x ∷ []) in omega arith) in
      subst P (ap (λ l. get_or l k d) is ∙ get_or_append_left xs (x ∷ []) d k within) (each k d longer)

  pub all_last : (P : A → Type 0) (all xs : List A) (x : A) → all ≡ xs ++ x ∷ [] → All P all → P x
  all_last P all xs x is each =
      let longer : length xs < length all = (let e = ap length is in let e' = length-append xs (x ∷ []) in omega arith) in
      subst P (ap (λ l. get_or l (length xs) x) is ∙ get_or-append_seam xs x [] x) (each (length xs) x longer)

  pub all_more : (P : A → Type 0) (all xs : List A) (x : A) → all ≡ xs ++ x ∷ [] → All P xs → P x → All P all
  all_more P all xs x is each here = subst (All P) (sym is) (All-push P xs x each here)

module _ {T : Type 0} where
  gathered_me : (m old : Seated T) (ps : List Part) → m ≡ (hand old.0.start ps old.0.stage, old.1) → old ≡ (hand None old.0.parts Idle, []) → m ≡ (hand None ps Idle, [])
  gathered_me m old ps is was = is ∙ ap (λ (o : Seated T). (hand o.0.start ps o.0.stage, o.1)) was

  -- the seat that gathers stands for no call
  pub gathers_on : (m old : Seated T) (ps : List Part) → m ≡ (hand old.0.start ps old.0.stage, old.1) → old ≡ (hand None old.0.parts Idle, []) → m ≡ (hand None m.0.parts Idle, [])
  gathers_on m old ps is was = let e = gathered_me m old ps is was in e ∙ ap (λ l. (hand None l Idle, [])) (sym (ap (λ (n : Seated T). n.0.parts) e))

  -- a pass that is taken from the end of a list
  pub gathers_parts : (all xs : List (Pass T)) (x : Pass T) (old new total : List Part) → all ≡ xs ++ x ∷ [] → x.seat.me.0.parts ≡ (number x, made x) ∷ [] → parts_of all ++ old ≡ total
      → new ≡ x.seat.me.0.parts ++ old → parts_of xs ++ new ≡ total
  gathers_parts all xs x old new total popped one had is =
      ap (λ l. parts_of xs ++ l) (is ∙ ap (λ l. l ++ old) one)
      ∙ (sym (append_assoc (parts_of xs) ((number x, made x) ∷ []) old)
      ∙ (ap (λ l. l ++ old) (sym (map-append (λ (p : Pass T). (number p, made p)) xs (x ∷ []))) ∙ (ap (λ l. parts_of l ++ old) (sym popped) ∙ had)))

  pub longer_by_one : (all xs : List (Pass T)) (x : Pass T) (k : ℕ) → all ≡ xs ++ x ∷ [] → length xs ≡ k → length all ≡ k + 1
  longer_by_one all xs x k is long = let e = ap length is in let e' = length-append xs (x ∷ []) in omega arith

  -- one new pass more, numbered by its place
  pub fresh_more : (all xs : List (Pass T)) (x : Pass T) → all ≡ xs ++ x ∷ [] → AreFresh xs → number x ≡ length xs → made x ≡ [] → AreFresh all
  fresh_more all xs x is each numbered none_yet k p at =
      let read : get_or (xs ++ x ∷ []) k p ≡ p = ap (λ l. get_or l k p) (sym is) ∙ get_or_from_slice_get all k p p at in
      let within = slice_get_within all k p at in let long = ap length is in let long' = length-append xs (x ∷ []) in
      dite (dec_le (length xs) k)
      (λ past.
      let last : k ≡ length xs = omega arith in
      let same : p ≡ x = sym read ∙ (ap (λ i. get_or (xs ++ x ∷ []) i p) last ∙ get_or-append_seam xs x [] p) in
      (ap number same ∙ (numbered ∙ sym last), ap made same ∙ none_yet))
      (λ not_past.
      let inside : k < length xs = lt_of_not-le not_past in
      each k p (slice_get-get_or xs k p inside ∙ ap Some (sym (get_or_append_left xs (x ∷ []) p k inside) ∙ read)))

fresh_next : (k n : ℕ) → k < n → fresh k (n - k) ≡ (k, []) ∷ fresh (k + 1) (n - (k + 1))
fresh_next k n less = let e : n - k ≡ suc (n - (k + 1)) = omega arith in let e' : suc k ≡ k + 1 = omega arith in
    ap (fresh k) e ∙ ap (λ (i : ℕ). (k, []) ∷ fresh i (n - (k + 1))) e'

module _ {T : Type 0} (known : std.Option T) (m : Seated T) (k n : ℕ) (less : k < n) (is : m ≡ (hand known (fresh k (n - k)) Idle, [])) where
  dealt_from : m ≡ (hand known ((k, []) ∷ fresh (k + 1) (n - (k + 1))) Idle, [])
  dealt_from = is ∙ ap (λ l. (hand known l Idle, [])) (fresh_next k n less)

  -- the seats after a deal
  pub dealt_rest : (new : Seated T) → new ≡ (cut_left m.0, m.1) → new ≡ (hand known (fresh (k + 1) (n - (k + 1))) Idle, [])
  dealt_rest new e = e ∙ ap (λ (o : Seated T). (cut_left o.0, o.1)) dealt_from

  pub dealt_pass : (new : Seated T) → new ≡ (cut_right m.0, []) → new ≡ (hand known ((k, []) ∷ []) Idle, [])
  dealt_pass new e = e ∙ ap (λ (o : Seated T). (cut_right o.0, [])) dealt_from

module _ {T : Type 0} where
  -- the history has the entries of each pass, where it has those of each part
  pub each_made : (log : List Made) (passes : List (Pass T)) → AllMade log (parts_of passes) → All (λ p. entries_of (number p) log ≡ made p) passes
  each_made log [] a = All-nil (λ p. entries_of (number p) log ≡ made p)
  each_made log (p ∷ ps) a = All-cons (λ p. entries_of (number p) log ≡ made p) p ps (sym a.0) (each_made log ps a.1)

  some_numbered : (n : ℕ) (passes : List (Pass T)) → 0 < times n (numbers_of (parts_of passes)) → Any (λ p. number p ≡ n) passes
  some_numbered n [] has = absurd (omega arith)
  some_numbered n (p ∷ ps) has = dite (ℕ_discrete (number p) n)
      (λ is. (0, p, (omega arith), refl, is))
      (λ ne.
      let miss = times_miss n (number p) (numbers_of (parts_of ps)) ne in let r = some_numbered n ps (omega arith) in let within = r.2 in
      (suc r.0, r.1, (omega arith), r.3, r.4))

  -- each change is of one of the passes, where no other number has an entry
  pub each_ours : (passes : List (Pass T)) (log : List Made) → ((n : ℕ) → times n (numbers_of (parts_of passes)) ≡ 0 → entries_of n log ≡ []) → All (λ c. Any (λ p. number p ≡ c.0) passes) log
  each_ours passes [] none_else = All-nil (λ c. Any (λ p. number p ≡ c.0) passes)
  each_ours passes (c ∷ cs) none_else = All-cons (λ c. Any (λ p. number p ≡ c.0) passes) c cs
      (some_numbered c.0 passes (dite (ℕ_discrete (times c.0 (numbers_of (parts_of passes))) 0)
      (λ is. absurd (not_empty c.1 (entries_of c.0 cs) (sym (entries_hit c cs) ∙ none_else c.0 is)))
      (λ ne. omega arith)))
      (each_ours passes cs (λ n away. entries_rest n c cs (none_else n away)))

  passes_weigh : (f : List ℕ → ℕ) (passes : List (Pass T)) → sum_by (λ p. sum_by f p.1) (parts_of passes) ≡ sum_by (λ p. sum_by f (made p)) passes
  passes_weigh f [] = refl
  passes_weigh f (p ∷ ps) = omega (arith, sum_by-cons (λ (q : Part). sum_by f q.1) (number p, made p) (parts_of ps), sum_by-cons (λ (q : Pass T). sum_by f (made q)) p ps, passes_weigh f ps)

  -- what the passes made is what the history has, however the entries are weighed
  pub weighs_same : (f : List ℕ → ℕ) (passes : List (Pass T)) (log : List Made) → AllMade log (parts_of passes) → ((n : ℕ) → times n (numbers_of (parts_of passes)) ≤ 1)
      → ((n : ℕ) → times n (numbers_of (parts_of passes)) ≡ 0 → entries_of n log ≡ []) → sum_by (λ c. f c.1) log ≡ sum_by (λ p. sum_by f (made p)) passes
  weighs_same f passes log a once none_else =
      log_weighs f (numbers_of (parts_of passes)) log once none_else ∙ (parts_weigh f log (parts_of passes) a ∙ passes_weigh f passes)
