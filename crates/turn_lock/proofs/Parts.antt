-- Entries, numbers and parts as lists.
use Rattle.std.proofs.Common.{◌≡◌, ◌≢◌, ℕ, zero, suc, ◌+◌, ◌≤◌, ◌<◌, List, [], ◌∷◌, ◌++◌, length, sym, refl, ap, ◌∙◌, arith, eq-eqb, ne_eqb, append-nil, sum_by}
use Rattle.std.proofs.lemmas.List.Sums.{sum_by-cons}
use mathlib.Core.Logic.{dite}
use native.Mathlib.Decide.{ℕ_discrete}
use Rattle.turn_lock.specs.History.{Made, entries_of, Part}
use Rattle.turn_lock.specs.Turns.{times, numbers_of, fresh, AllMade}
use Rattle.turn_lock.specs.Plays.{AllBy, made_also, first_part, other_parts}

-- the entries of a longer history
pub entries_append : (n : ℕ) (cs ds : List Made) → entries_of n (cs ++ ds) ≡ entries_of n cs ++ entries_of n ds
entries_append n [] ds = refl
entries_append n (c ∷ cs) ds = dite (ℕ_discrete c.0 n)
    (λ is. rw (eq-eqb c.0 n is) (ap (λ l. c.1 ∷ l) (entries_append n cs ds)))
    (λ ne. rw (ne_eqb c.0 n ne) (entries_append n cs ds))

-- changes of one pass are none of another's
entries_elsewhere : (n k : ℕ) (cs : List Made) → AllBy k cs → n ≢ k → entries_of n cs ≡ []
entries_elsewhere n k [] all ne = refl
entries_elsewhere n k (c ∷ cs) all ne = rw (ne_eqb c.0 n (λ e. ne (sym e ∙ all.0))) (entries_elsewhere n k cs all.1 ne)

pub entries_kept : (n k : ℕ) (log cs : List Made) → AllBy k cs → n ≢ k → entries_of n (log ++ cs) ≡ entries_of n log
entries_kept n k log cs all ne = entries_append n log cs ∙ (ap (λ l. entries_of n log ++ l) (entries_elsewhere n k cs all ne) ∙ append-nil (entries_of n log))

pub times_hit : (x y : ℕ) (ys : List ℕ) → y ≡ x → times x (y ∷ ys) ≡ 1 + times x ys
times_hit x y ys is = rw (eq-eqb y x is) refl

pub times_miss : (x y : ℕ) (ys : List ℕ) → y ≢ x → times x (y ∷ ys) ≡ times x ys
times_miss x y ys ne = rw (ne_eqb y x ne) (omega arith)

pub times_append : (x : ℕ) (ps qs : List Part) → times x (numbers_of (ps ++ qs)) ≡ times x (numbers_of ps) + times x (numbers_of qs)
times_append x [] qs = omega arith
times_append x (p ∷ ps) qs = let rest = times_append x ps qs in omega arith

pub made_append : (log : List Made) (ps qs : List Part) → AllMade log ps → AllMade log qs → AllMade log (ps ++ qs)
made_append log [] qs a b = b
made_append log (p ∷ ps) qs a b = (a.0, made_append log ps qs a.1 b)

-- parts that have not the number of the new changes
pub made_elsewhere : (k : ℕ) (log cs : List Made) (ps : List Part) → AllBy k cs → AllMade log ps → times k (numbers_of ps) ≡ 0 → AllMade (log ++ cs) ps
made_elsewhere k log cs [] by a none = tt
made_elsewhere k log cs (p ∷ ps) by a none = dite (ℕ_discrete p.0 k)
    (λ is. let one = times_hit k p.0 (numbers_of ps) is in absurd (omega arith))
    (λ ne. let rest = times_miss k p.0 (numbers_of ps) ne in (a.0 ∙ sym (entries_kept p.0 k log cs by ne), made_elsewhere k log cs ps by a.1 (omega arith)))

-- parts that made all these changes, too
pub made_longer : (log cs : List Made) (ps : List Part) → AllMade log ps → AllMade (log ++ cs) (made_also cs ps)
made_longer log cs [] a = tt
made_longer log cs (p ∷ ps) a = (ap (λ l. l ++ entries_of p.0 cs) a.0 ∙ sym (entries_append p.0 log cs), made_longer log cs ps a.1)

pub numbers_also : (cs : List Made) (ps : List Part) → numbers_of (made_also cs ps) ≡ numbers_of ps
numbers_also cs [] = refl
numbers_also cs (p ∷ ps) = ap (λ l. p.0 ∷ l) (numbers_also cs ps)

pub length_also : (cs : List Made) (ps : List Part) → length (made_also cs ps) ≡ length ps
length_also cs [] = refl
length_also cs (p ∷ ps) = let rest = length_also cs ps in omega arith

-- new passes
pub fresh_low : (x k n : ℕ) → x < k → times x (numbers_of (fresh k n)) ≡ 0
fresh_low x k zero low = refl
fresh_low x k (suc n) low = let rest = fresh_low x (suc k) n (omega arith) in times_miss x k (numbers_of (fresh (suc k) n)) (λ is. omega arith) ∙ rest

pub fresh_once : (x k n : ℕ) → times x (numbers_of (fresh k n)) ≤ 1
fresh_once x k zero = omega arith
fresh_once x k (suc n) = dite (ℕ_discrete k x)
    (λ is. let here = times_hit x k (numbers_of (fresh (suc k) n)) is in let rest = fresh_low x (suc k) n (omega arith) in omega arith)
    (λ ne. let here = times_miss x k (numbers_of (fresh (suc k) n)) ne in let rest = fresh_once x (suc k) n in omega arith)

pub fresh_length : (k n : ℕ) → length (fresh k n) ≡ n
fresh_length k zero = refl
fresh_length k (suc n) = let rest = fresh_length (suc k) n in omega arith

pub fresh_made : (k n : ℕ) → AllMade [] (fresh k n)
fresh_made k zero = tt
fresh_made k (suc n) = (refl, fresh_made (suc k) n)

-- the first of some parts, and the others
pub cut_times : (x : ℕ) (ps : List Part) → times x (numbers_of (other_parts ps)) + times x (numbers_of (first_part ps)) ≡ times x (numbers_of ps)
cut_times x [] = refl
cut_times x (p ∷ ps) = omega arith

pub cut_length : (ps : List Part) → length (other_parts ps) + length (first_part ps) ≡ length ps
cut_length [] = refl
cut_length (p ∷ ps) = omega arith

pub cut_others : (log : List Made) (ps : List Part) → AllMade log ps → AllMade log (other_parts ps)
cut_others log [] a = tt
cut_others log (p ∷ ps) a = a.1

pub cut_first : (log : List Made) (ps : List Part) → AllMade log ps → AllMade log (first_part ps)
cut_first log [] a = tt
cut_first log (p ∷ ps) a = (a.0, tt)

pub not_empty : (e : List ℕ) (es : List (List ℕ)) → e ∷ es ≢ []
not_empty e es is = cc

pub entries_hit : (c : Made) (cs : List Made) → entries_of c.0 (c ∷ cs) ≡ c.1 ∷ entries_of c.0 cs
entries_hit c cs = rw (eq-eqb c.0 c.0 refl) refl

-- a history with no entry of a number has none later
pub entries_rest : (n : ℕ) (c : Made) (cs : List Made) → entries_of n (c ∷ cs) ≡ [] → entries_of n cs ≡ []
entries_rest n c cs none_of = dite (ℕ_discrete c.0 n)
    (λ is. let hit : entries_of n (c ∷ cs) ≡ c.1 ∷ entries_of n cs = rw (eq-eqb c.0 n is) refl in absurd (not_empty c.1 (entries_of n cs) (sym hit ∙ none_of)))
    (λ ne. let miss : entries_of n (c ∷ cs) ≡ entries_of n cs = rw (ne_eqb c.0 n ne) refl in sym miss ∙ none_of)

-- the entries of some numbers, each weighed
abbrev weight : (List ℕ → ℕ) → List Made → List ℕ → ℕ
weight f log ns = sum_by (λ n. sum_by f (entries_of n log)) ns

weight_cons : (f : List ℕ → ℕ) (log : List Made) (n : ℕ) (ns : List ℕ) → weight f log (n ∷ ns) ≡ sum_by f (entries_of n log) + weight f log ns
weight_cons f log n ns = sum_by-cons (λ k. sum_by f (entries_of k log)) n ns

weight_none : (f : List ℕ → ℕ) (ns : List ℕ) → weight f [] ns ≡ 0
weight_none f [] = refl
weight_none f (n ∷ ns) = omega (arith, weight_cons f [] n ns, weight_none f ns)

-- one change more weighs nothing where its number is not there, and else its weight
weight_away : (f : List ℕ → ℕ) (c : Made) (cs : List Made) (ns : List ℕ) → times c.0 ns ≡ 0 → weight f (c ∷ cs) ns ≡ weight f cs ns
weight_away f c cs [] away = refl
weight_away f c cs (n ∷ ns) away = dite (ℕ_discrete n c.0)
    (λ is. let hit = times_hit c.0 n ns is in absurd (omega arith))
    (λ ne.
    let miss = times_miss c.0 n ns ne in let rest = weight_away f c cs ns (omega arith) in
    let same : sum_by f (entries_of n (c ∷ cs)) ≡ sum_by f (entries_of n cs) = rw (ne_eqb c.0 n (λ e. ne (sym e))) refl in
    omega (arith, weight_cons f (c ∷ cs) n ns, weight_cons f cs n ns))

weight_once : (f : List ℕ → ℕ) (c : Made) (cs : List Made) (ns : List ℕ) → times c.0 ns ≡ 1 → weight f (c ∷ cs) ns ≡ f c.1 + weight f cs ns
weight_once f c cs [] once = absurd (omega arith)
weight_once f c cs (n ∷ ns) once = dite (ℕ_discrete n c.0)
    (λ is.
    let hit = times_hit c.0 n ns is in let rest = weight_away f c cs ns (omega arith) in
    let longer : entries_of n (c ∷ cs) ≡ c.1 ∷ entries_of n cs = rw (eq-eqb c.0 n (sym is)) refl in
    let more : sum_by f (entries_of n (c ∷ cs)) ≡ f c.1 + sum_by f (entries_of n cs) = ap (sum_by f) longer ∙ sum_by-cons f c.1 (entries_of n cs) in
    omega (arith, weight_cons f (c ∷ cs) n ns, weight_cons f cs n ns))
    (λ ne.
    let miss = times_miss c.0 n ns ne in let rest = weight_once f c cs ns (omega arith) in
    let same : sum_by f (entries_of n (c ∷ cs)) ≡ sum_by f (entries_of n cs) = rw (ne_eqb c.0 n (λ e. ne (sym e))) refl in
    omega (arith, weight_cons f (c ∷ cs) n ns, weight_cons f cs n ns))

-- a history weighs what the entries of its numbers weigh
pub log_weighs : (f : List ℕ → ℕ) (ns : List ℕ) (log : List Made) → ((n : ℕ) → times n ns ≤ 1) → ((n : ℕ) → times n ns ≡ 0 → entries_of n log ≡ []) → sum_by (λ c. f c.1) log ≡ weight f log ns
log_weighs f ns [] once none_else = sym (weight_none f ns)
log_weighs f ns (c ∷ cs) once none_else =
    let here : times c.0 ns ≢ 0 = λ away. not_empty c.1 (entries_of c.0 cs) (sym (entries_hit c cs) ∙ none_else c.0 away) in
    let at_most = once c.0 in
    let more = weight_once f c cs ns (omega arith) in
    let rest = log_weighs f ns cs once (λ n away. entries_rest n c cs (none_else n away)) in omega (arith, sum_by-cons (λ (d : Made). f d.1) c cs)

pub parts_weigh : (f : List ℕ → ℕ) (log : List Made) (ps : List Part) → AllMade log ps → weight f log (numbers_of ps) ≡ sum_by (λ p. sum_by f p.1) ps
parts_weigh f log [] a = refl
parts_weigh f log (p ∷ ps) a =
    let rest = parts_weigh f log ps a.1 in let here = ap (sum_by f) a.0 in
    omega (arith, weight_cons f log p.0 (numbers_of ps), sum_by-cons (λ (q : Part). sum_by f q.1) p ps)
