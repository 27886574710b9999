-- Each step keeps the rule of a lock.
use Rattle.std.proofs.Common.{◌≡◌, ◌≢◌, ℕ, ◌+◌, ◌-◌, ◌%◌, ◌^◌, ◌≤◌, ◌<◌, ◌⊎◌, inl, inr, lt_of_not-le, ⊎_elim, List, [], ◌∷◌, ◌++◌, length, drop, slice_index, slice_set, sym, refl, ap, ◌∙◌, subst, arith, IfSome, Some, None}
use Rattle.std.proofs.Common as std
use mathlib.Core.Logic.{dite}
use mathlib.Core.Option.{Option, some, none}
use native.Mathlib.Decide.{dec_le, ℕ_discrete}
use Rattle.std.proofs.Math.Seq.{drop-append_seam}
use lib.ListN.{get_elem?}
use Rattle.atomic_table.specs.Table.{State, Act, Valid, step, stepped, carried_after, keeps, takes, gives, rest, put_back as back_at, Allows, Enters}
use Rattle.atomic_table.proofs.Lists.{at_set, at_snoc, set_again, one_turn}
use Rattle.turn_lock.specs.declared.hand.Hand.{Hand}
use Rattle.turn_lock.specs.declared.hand.Stage.{Stage}
use Rattle.turn_lock.specs.declared.hand.Stage.TheVariants.{Idle, Waiting, Turn}
use Rattle.turn_lock.specs.History.{Made}
use Rattle.turn_lock.specs.Turns.{times, tickets, tickets_of, numbers, numbers_of, out_with, absent, blank, first_hand, AtHome, Fits, Turns, AllMade, InStage}
use Rattle.turn_lock.specs.Plays.{Seated, at_stage, ticket_of, entered, drew, looked, HasTurn, passed_on, put_back, gained, log_before}
use Rattle.std.proofs.lemmas.List.Sums.{sum_by_push}
use Rattle.mine_model.proofs.SumLemmas.{sum_by_set, sum_by_at}
use Rattle.turn_lock.proofs.Sums.{sum_by_two, sum_by_le, sum_by_le_beside}
use Rattle.turn_lock.proofs.Hands.{other_hands}
use Rattle.turn_lock.proofs.Parts.{entries_kept, times_hit, times_miss, made_longer, made_elsewhere, numbers_also, length_also}

next_turn : (n : ℕ) → (n % 18446744073709551616 + 1) % 18446744073709551616 ≡ (n + 1) % 18446744073709551616
next_turn n = omega arith

module _ {T : Type 0} where
  absent_le : (home : Option T) → absent home ≤ 1
  absent_le none = omega arith
  absent_le (some y) = omega arith

module _ {T G : Type 0} (history : T → List Made) (ground_at : T → G) (start : T) (count : ℕ) where
  abbrev R : State T (Hand T) → Type 0
  R = Turns history ground_at start count

  abbrev F : ℕ → List Made → Hand T → Type 0
  F = Fits history ground_at start

  blank_fits : (served : ℕ) (log : List Made) → F served log blank
  blank_fits served log = record { knows = tt; made = tt; stage = tt }

  -- a new seat with no pass
  pub enters : (slots : ℕ) → Enters R slots 1 (λ n w. entered (step slots 1 0 0 none) (first_hand start count, []) n (w, []))
  enters slots s r _ _ = (
    blank,
    other_hands history ground_at start count s r (s.views ++ blank ∷ [])
        (record {
          out = (let p = sum_by_push (λ (v : Hand T). out_with v.stage) s.views blank in omega arith);
          busy = (let p = sum_by_push (λ (v : Hand T). length (tickets v)) s.views blank in omega arith);
          ticket = λ n. (let p = sum_by_push (λ (v : Hand T). times n (tickets v)) s.views blank in omega arith);
          passes = (let p = sum_by_push (λ (v : Hand T). length v.parts) s.views blank in omega arith);
          number = λ x. (let p = sum_by_push (λ (v : Hand T). times x (numbers v)) s.views blank in omega arith);
        })
        (λ id v at. ⊎_elim (λ old. r.hands id v old) (λ new. subst (F r.served r.log) new (blank_fits r.served r.log)) (at_snoc s.views blank v id at)),
    refl,
  )

  -- a ticket is drawn
  pub draws : (slots id : ℕ) (me : Seated T) → me.0.stage ≡ Idle → length me.0.parts ≡ 1
      → Allows R slots id me 0 (λ n. (n + 1) % 2 ^ 64) (drew (step slots 0 1 0 none) me)
  draws slots id me idle one s r _ at small =
      let t : ℕ = r.served + r.flight in let w : Hand T = at_stage me.0 (Waiting t) in
      let no_ticket : tickets me.0 ≡ [] = ap tickets_of idle in
      let not_out : out_with me.0.stage ≡ 0 = ap out_with idle in
      let fits = r.hands id me.0 at in (
        w,
        keeps,
        tt,
        record {
          served = r.served;
          flight = r.flight + 1;
          log = r.log;
          home = r.home;
          few = r.few;
          words = ap (λ ws. slice_set ws 0 ((slice_index ws 0 + 1) % 18446744073709551616)) r.words
              ∙ ap (λ (n : ℕ). n ∷ (r.served % 18446744073709551616) ∷ []) (next_turn t ∙ ap (λ (n : ℕ). n % 18446744073709551616) (let k : t + 1 ≡ r.served + (r.flight + 1) = omega arith in k));
          slot = r.slot;
          value = r.value;
          gone = (let p = sum_by_set (λ (v : Hand T). out_with v.stage) s.views id me.0 w at in let q = r.gone in omega arith);
          busy = (let p = sum_by_set (λ (v : Hand T). length (tickets v)) s.views id me.0 w at in let q = r.busy in let z : length (tickets me.0) ≡ 0 = ap length no_ticket in omega arith);
          given = λ n low high.
              let p = sum_by_set (λ (v : Hand T). times n (tickets v)) s.views id me.0 w at in let z : times n (tickets me.0) ≡ 0 = ap (times n) no_ticket in
              dite (ℕ_discrete t n)
              (λ is. let hit = times_hit n t [] is in let q = r.others n (inr (omega arith)) in omega arith)
              (λ ne. let miss = times_miss n t [] ne in let q = r.given n low (omega arith) in omega arith);
          others = λ n away.
              let p = sum_by_set (λ (v : Hand T). times n (tickets v)) s.views id me.0 w at in let z : times n (tickets me.0) ≡ 0 = ap (times n) no_ticket in
              let miss = times_miss n t [] (λ is. ⊎_elim (λ (low : n < r.served). omega arith) (λ (high : r.served + (r.flight + 1) ≤ n). omega arith) away) in
              let q = r.others n (⊎_elim (λ (low : n < r.served). inl low) (λ (high : r.served + (r.flight + 1) ≤ n). inr (omega arith)) away) in omega arith;
          passes = (let p = sum_by_set (λ (v : Hand T). length v.parts) s.views id me.0 w at in let q = r.passes in omega arith);
          once = λ x. (let p = sum_by_set (λ (v : Hand T). times x (numbers v)) s.views id me.0 w at in let q = r.once x in omega arith);
          strangers = λ x away. r.strangers x (let p = sum_by_set (λ (v : Hand T). times x (numbers v)) s.views id me.0 w at in omega arith);
          hands = λ j v here. ⊎_elim
              (λ same. subst (F r.served r.log) same.1 (record { knows = fits.knows; made = fits.made; stage = one }))
              (λ other. r.hands j v other.1)
              (at_set s.views id j w v here);
        },
        (t, ap (λ ws. slice_index ws 0) r.words, refl),
      )

  -- a call in flight is that of one pass, so there are no more calls than passes
  busy_le : (served : ℕ) (log : List Made) (parts : ℕ) (stage : Stage) → InStage served log parts stage → length (tickets_of stage) ≤ parts
  busy_le served log parts Idle fits = omega arith
  busy_le served log parts (Waiting t) fits = omega arith
  busy_le served log parts (Turn t seen) fits = let one = fits.0 in omega arith

  few_busy : (s : State T (Hand T)) (r : R s) → r.flight < 4294967296
  few_busy s r =
      let p = sum_by_le (λ (v : Hand T). length (tickets v)) (λ (v : Hand T). length v.parts) s.views (λ i v at. busy_le r.served r.log (length v.parts) v.stage (r.hands i v at).stage) in
      let q = r.busy in let q' = r.passes in let few = r.few in omega arith

  -- a ticket in flight is among those from the one served on
  ticket_low : (s : State T (Hand T)) (r : R s) (id t : ℕ) (v : Hand T) → get_elem? s.views id ≡ some v → tickets v ≡ t ∷ [] → ¬ ((t < r.served) ⊎ (r.served + r.flight ≤ t))
  ticket_low s r id t v at mine away =
      let none_has = r.others t away in let here = sum_by_at (λ (u : Hand T). times t (tickets u)) s.views id v at in
      let one : times t (tickets v) ≡ 1 = ap (times t) mine ∙ times_hit t t [] refl in omega arith

  ticket_served : (s : State T (Hand T)) (r : R s) (id t : ℕ) (v : Hand T) → get_elem? s.views id ≡ some v → tickets v ≡ t ∷ []
      → r.served % 18446744073709551616 ≡ t % 18446744073709551616 → r.served ≡ t
  ticket_served s r id t v at mine same =
      let within = ticket_low s r id t v at mine in let few = few_busy s r in
      let low : r.served ≤ t = dite (dec_le r.served t) (λ low. low) (λ no. absurd (within (inl (lt_of_not-le no)))) in
      let high : t < r.served + r.flight = lt_of_not-le (λ more. within (inr more)) in
      one_turn r.served t 18446744073709551616 low (omega arith) same

  -- what is out has the ticket that is served
  out_le : (served : ℕ) (log : List Made) (parts : ℕ) (stage : Stage) → InStage served log parts stage → out_with stage ≤ times served (tickets_of stage)
  out_le served log parts Idle fits = omega arith
  out_le served log parts (Waiting t) fits = omega arith
  out_le served log parts (Turn t seen) fits = let hit = times_hit served t [] fits.1 in omega arith

  -- where a call waits with the ticket that is served, the value is at home
  at_home : (s : State T (Hand T)) (r : R s) (id : ℕ) (v : Hand T) → get_elem? s.views id ≡ some v → v.stage ≡ Waiting r.served → r.home ≢ none
  at_home s r id v at waits is =
      let mine : tickets v ≡ r.served ∷ [] = ap tickets_of waits in
      let one : times r.served (tickets v) ≡ 1 = ap (times r.served) mine ∙ times_hit r.served r.served [] refl in
      let here : out_with v.stage ≡ 0 = ap out_with waits in
      let within = ticket_low s r id r.served v at mine in
      let high : r.served < r.served + r.flight = lt_of_not-le (λ more. within (inr more)) in
      let once = r.given r.served (omega arith) high in
      let p = sum_by_le_beside (λ (u : Hand T). out_with u.stage) (λ (u : Hand T). times r.served (tickets u)) s.views id v at
      (λ j u there. out_le r.served r.log (length u.parts) u.stage (r.hands j u there).stage) in
      let q = r.gone in let gone : absent r.home ≡ 1 = ap absent is in omega arith

  same_ground : (y : T) (known : std.Option T) → IfSome known (λ x. x ≡ start) → ground_at y ≡ ground_at start → IfSome known (λ x. ground_at y ≡ ground_at x)
  same_ground y None k e = tt
  same_ground y (Some x) k e = e ∙ sym (ap ground_at k)

  same_words : (ws : List ℕ) (a b : ℕ) → ws ≡ a ∷ b ∷ [] → slice_set ws 1 (slice_index ws 1) ≡ ws
  same_words ws a b is = ap (λ l. slice_set l 1 (slice_index l 1)) is ∙ sym is

  -- the value goes out with the call whose ticket is served
  takes_out : (slots id : ℕ) (me : Seated T) (t : ℕ) (s : State T (Hand T)) (r : R s) → get_elem? s.views id ≡ some me.0 → me.0.stage ≡ Waiting t → me.1 ≡ [] → r.served ≡ t
      → slice_index s.words 1 ≡ t % 18446744073709551616 → (home : Option T) → r.home ≡ home
      → (w : Hand T) × (a : Act T) × Valid s.homes me.1 a × R (stepped s 1 (slice_index s.words 1) id me.1 w a) × looked history ground_at (step slots 1 0 0 none) me (slice_index s.words 1) (w, carried_after me.1 a)
  takes_out slots id me t s r at waits empty served hit none is = absurd (at_home s r id me.0 at (waits ∙ ap Waiting (sym served)) is)
  takes_out slots id me t s r at waits empty served hit (some y) is =
      let w : Hand T = at_stage me.0 (Turn (ticket_of me.0.stage) (history y)) in
      let is_t : ticket_of me.0.stage ≡ t = ap ticket_of waits in
      let fits = r.hands id me.0 at in
      let value : (history y ≡ r.log) × (ground_at y ≡ ground_at start) = subst (AtHome history ground_at start r.log) is r.value in
      let lies : s.homes ≡ some y ∷ [] = r.slot ∙ ap (λ h. h ∷ []) is in
      let mine : tickets me.0 ≡ tickets w = ap tickets_of waits ∙ ap (λ n. n ∷ []) (sym is_t) in
      let not_out : out_with me.0.stage ≡ 0 = ap out_with waits in
      let one : length me.0.parts ≡ 1 = subst (InStage r.served r.log (length me.0.parts)) waits fits.stage in (
        w,
        takes 0 y,
        ap (λ hs. get_elem? hs 0) lies,
        record {
          served = r.served;
          flight = r.flight;
          log = r.log;
          home = none;
          few = r.few;
          words = same_words s.words _ _ r.words ∙ r.words;
          slot = ap (λ hs. slice_set hs 0 none) lies;
          value = tt;
          gone = (let p = sum_by_set (λ (v : Hand T). out_with v.stage) s.views id me.0 w at in let q = r.gone in let z : absent r.home ≡ 0 = ap absent is in omega arith);
          busy = (let p = sum_by_set (λ (v : Hand T). length (tickets v)) s.views id me.0 w at in let q = r.busy in let z : length (tickets me.0) ≡ length (tickets w) = ap length mine in omega arith);
          given = λ n low high. (let p = sum_by_set (λ (v : Hand T). times n (tickets v)) s.views id me.0 w at in let q = r.given n low high in let z : times n (tickets me.0) ≡ times n (tickets w) = ap (times n) mine in omega arith);
          others = λ n away. (let p = sum_by_set (λ (v : Hand T). times n (tickets v)) s.views id me.0 w at in let q = r.others n away in let z : times n (tickets me.0) ≡ times n (tickets w) = ap (times n) mine in omega arith);
          passes = (let p = sum_by_set (λ (v : Hand T). length v.parts) s.views id me.0 w at in let q = r.passes in omega arith);
          once = λ x. (let p = sum_by_set (λ (v : Hand T). times x (numbers v)) s.views id me.0 w at in let q = r.once x in omega arith);
          strangers = λ x away. r.strangers x (let p = sum_by_set (λ (v : Hand T). times x (numbers v)) s.views id me.0 w at in omega arith);
          hands = λ j v here. ⊎_elim
              (λ same. subst (F r.served r.log) same.1 (record { knows = fits.knows; made = fits.made; stage = (one, is_t ∙ sym served, value.0) }))
              (λ other. r.hands j v other.1)
              (at_set s.views id j w v here);
        },
        ((λ _. (y, ap (λ l. (w, (0, y) ∷ l)) empty, same_ground y me.0.start fits.knows value.1)), λ ne. absurd (ne (hit ∙ ap (λ (n : ℕ). n % 18446744073709551616) (sym is_t)))),
      )

  -- the serving word is read, and the value taken out where the ticket is served
  pub looks : (slots id : ℕ) (me : Seated T) → me.0.stage ≡ Waiting (ticket_of me.0.stage) → me.1 ≡ []
      → Allows R slots id me 1 (λ n. n) (looked history ground_at (step slots 1 0 0 none) me)
  looks slots id me waits empty s r _ at small =
      let t : ℕ = ticket_of me.0.stage in let found : ℕ = slice_index s.words 1 in
      let is_served : found ≡ r.served % 18446744073709551616 = ap (λ ws. slice_index ws 1) r.words in
      dite (ℕ_discrete found (t % 18446744073709551616))
      (λ hit. takes_out slots id me t s r at waits empty (ticket_served s r id t me.0 at (ap tickets_of waits) (sym is_served ∙ hit)) hit r.home refl)
      (λ miss. (
        me.0,
        keeps,
        tt,
        subst R (λ i. record { words = sym (same_words s.words _ _ r.words) i; homes = s.homes; views = sym (set_again s.views id me.0 at) i }) r,
        ((λ hit. absurd (miss hit)), λ _. refl),
      ))

  -- another call waits on, or makes no difference
  stage_after : (served : ℕ) (log log' : List Made) (parts : ℕ) (stage : Stage) → out_with stage ≡ 0 → InStage served log parts stage → InStage (served + 1) log' parts stage
  stage_after served log log' parts Idle inside fits = tt
  stage_after served log log' parts (Waiting t) inside fits = fits
  stage_after served log log' parts (Turn t seen) inside fits = absurd (omega arith)

  known_start : (known : std.Option T) (x : T) → known ≡ Some x → IfSome known (λ y. y ≡ start) → x ≡ start
  known_start known x is k = subst (λ o. IfSome o (λ y. y ≡ start)) is k

  -- the value is put back, and the next ticket served
  pub passes_on : (slots id : ℕ) (me : Seated T) → HasTurn history ground_at me
      → Allows R slots id me 1 (λ n. (n + 1) % 2 ^ 64) (passed_on history (step slots 1 1 0 none) me)
  passes_on slots id me turn s r _ at small =
      let w : Hand T = (put_back history me).0 in
      let fits = r.hands id me.0 at in
      let mine : tickets me.0 ≡ turn.served ∷ [] = ap tickets_of turn.stage in
      let is_out : out_with me.0.stage ≡ 1 = ap out_with turn.stage in
      let stands : InStage r.served r.log (length me.0.parts) (Turn turn.served turn.log) = subst (InStage r.served r.log (length me.0.parts)) turn.stage fits.stage in
      let is_served : turn.served ≡ r.served = stands.1 in
      let one_ticket : length (tickets me.0) ≡ 1 = ap length mine in
      let busy_here = sum_by_at (λ (v : Hand T). length (tickets v)) s.views id me.0 at in
      let busy = r.busy in
      let out_here = sum_by_at (λ (v : Hand T). out_with v.stage) s.views id me.0 at in
      let out_total = r.gone in let at_most = absent_le r.home in
      let k : ℕ = turn.part.0 in
      let my_number : numbers me.0 ≡ k ∷ [] = ap numbers_of turn.one in
      let has_k : times k (numbers me.0) ≡ 1 = ap (times k) my_number ∙ times_hit k k [] refl in
      let added_is : gained history me.1 (log_before me.0.stage) ≡ turn.added =
      ap (λ l. gained history l (log_before me.0.stage)) turn.out ∙ (ap (λ st. drop (length (log_before st)) (history turn.value)) turn.stage
      ∙ (ap (λ l. drop (length turn.log) l) turn.longer ∙ drop-append_seam turn.log turn.added)) in
      let same_numbers : numbers w ≡ numbers me.0 = numbers_also (gained history me.1 (log_before me.0.stage)) me.0.parts in
      let same_length : length w.parts ≡ length me.0.parts = length_also (gained history me.1 (log_before me.0.stage)) me.0.parts in
      let log' : List Made = r.log ++ turn.added in (
        w,
        gives,
        tt,
        record {
          served = r.served + 1;
          flight = r.flight - 1;
          log = log';
          home = some turn.value;
          few = r.few;
          words = ap (λ ws. slice_set ws 1 ((slice_index ws 1 + 1) % 18446744073709551616)) r.words
              ∙ (ap (λ (n : ℕ). ((r.served + r.flight) % 18446744073709551616) ∷ n ∷ []) (next_turn r.served)
              ∙ ap (λ (n : ℕ). (n % 18446744073709551616) ∷ ((r.served + 1) % 18446744073709551616) ∷ []) (let e : r.served + r.flight ≡ r.served + 1 + (r.flight - 1) = omega arith in e));
          slot = ap (λ l. back_at s.homes l) turn.out ∙ ap (λ hs. slice_set hs 0 (some turn.value)) r.slot;
          value = (turn.longer ∙ ap (λ l. l ++ turn.added) stands.2, turn.stays ∙ ap ground_at (known_start me.0.start turn.start turn.knows fits.knows));
          gone = (let p = sum_by_set (λ (v : Hand T). out_with v.stage) s.views id me.0 w at in omega arith);
          busy = (let p = sum_by_set (λ (v : Hand T). length (tickets v)) s.views id me.0 w at in omega arith);
          given = λ n low high.
              let p = sum_by_set (λ (v : Hand T). times n (tickets v)) s.views id me.0 w at in
              let q = r.given n (omega arith) (omega arith) in
              let z : times n (tickets me.0) ≡ 0 = ap (times n) mine ∙ times_miss n turn.served [] (λ is. omega arith) in omega arith;
          others = λ n away.
              let p = sum_by_set (λ (v : Hand T). times n (tickets v)) s.views id me.0 w at in
              dite (ℕ_discrete turn.served n)
              (λ is.
              let q = r.given n (omega arith) (omega arith) in
              let z : times n (tickets me.0) ≡ 1 = ap (times n) mine ∙ times_hit n turn.served [] is in omega arith)
              (λ ne.
              let q = r.others n (⊎_elim (λ (low : n < r.served + 1). inl (omega arith)) (λ (high : r.served + 1 + (r.flight - 1) ≤ n). inr (omega arith)) away) in omega arith);
          passes = (let p = sum_by_set (λ (v : Hand T). length v.parts) s.views id me.0 w at in let q = r.passes in omega arith);
          once = λ x. (let p = sum_by_set (λ (v : Hand T). times x (numbers v)) s.views id me.0 w at in let q = r.once x in let z : times x (numbers w) ≡ times x (numbers me.0) = ap (times x) same_numbers in omega arith);
          strangers = λ x away.
              let p = sum_by_set (λ (v : Hand T). times x (numbers v)) s.views id me.0 w at in let z : times x (numbers w) ≡ times x (numbers me.0) = ap (times x) same_numbers in
              let here = sum_by_at (λ (v : Hand T). times x (numbers v)) s.views id me.0 at in
              let not_k : x ≢ k = λ is. (let has : times x (numbers me.0) ≡ 1 = ap (λ n. times n (numbers me.0)) is ∙ has_k in omega arith) in
              entries_kept x k r.log turn.added turn.own not_k ∙ r.strangers x (omega arith);
          hands = λ j v here. ⊎_elim
              (λ same. subst (F (r.served + 1) log') same.1 (record {
                knows = fits.knows;
                made = subst (λ cs. AllMade (r.log ++ cs) w.parts) added_is (made_longer r.log (gained history me.1 (log_before me.0.stage)) me.0.parts fits.made);
                stage = tt;
              }))
              (λ other.
              let theirs = r.hands j v other.1 in
              let two_out = sum_by_two (λ (u : Hand T). out_with u.stage) s.views id j me.0 v at other.1 other.0 in
              let two_numbers = sum_by_two (λ (u : Hand T). times k (numbers u)) s.views id j me.0 v at other.1 other.0 in
              let once = r.once k in
              record {
                knows = theirs.knows;
                made = made_elsewhere k r.log turn.added v.parts turn.own theirs.made (omega arith);
                stage = stage_after r.served r.log log' (length v.parts) v.stage (omega arith) theirs.stage;
              })
              (at_set s.views id j w v here);
        },
        ap (λ l. (w, rest l)) turn.out,
      )
