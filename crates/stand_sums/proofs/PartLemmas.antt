-- The parts of a sum, visit by visit and sequence by sequence.
use Rattle.std.proofs.Common.{◌≡◌, ℕ, suc, ◌+◌, ◌-◌, ◌≤◌, ◌<◌, inl, inr, Bool, true, false, true≢false, cond, ◌||◌, List, [], ◌∷◌, ◌++◌, length, fold, Some, take, drop, get_or, append_assoc, refl, sym, ap, ◌∙◌, subst, arith, ltb}
use Rattle.std.specs.List.{filter, list_any, slice_get, slice_range}
use Rattle.std.proofs.lemmas.Bool.{lt-ltb, false_from_ne_true, ltb-true}
use Rattle.std.proofs.lemmas.List.{map-append, length-append, append-nil, take_all, take_more, drop_more, drop_all}
use Rattle.std.proofs.lemmas.Option.{same_Some, slice_get_within}
use Rattle.mine_model.proofs.ElementLemmas.{get-some}
use Rattle.std.proofs.lemmas.List.Elements.{filter-append}
use Rattle.mine_model.specs.Support.{Sequence}
use Rattle.mine_model.proofs.ListLemmas.{Contains-cases, Contains-first, Contains-other, Contains-none}
use Rattle.mine_model.proofs.FrequencyLemmas.{Counts-append}
use Rattle.place_walk.specs.declared.visit.Visit.{Visit}
use Rattle.stand_sums.specs.declared.aim.Aim.{Aim}
use Rattle.stand_sums.specs.declared.sum.Sum.{Sum}
use Rattle.stand_sums.specs.declared.sum.Counted.{Counted}
use Rattle.stand_sums.specs.Writings.{Ranks, opens, ends, follows}
use Rattle.stand_sums.specs.Sequences.{HasOne, weighed, weight_at, weight_of, all_weighed, AreSequences}
use Rattle.stand_sums.specs.Sums.{Grows, stands_among, AreCounted}
use Rattle.stand_sums.specs.Kept.{once, latest, behind_visit, behind_visits, tally_of, IsSum, IsSequenceEnd}
use Rattle.stand_sums.proofs.CutLemmas.{AreNone, next-cut, all-none, take-range}

-- ---- one after another

not-below : (n : ℕ) → ltb n n ≡ false
not-below n = false_from_ne_true (ltb n n) (λ is. let less : n < n = ltb-true n n is in omega arith)

latest-more : (one other : Bool) (counted : Counted) (last : ℕ) → latest other counted (latest one counted last) ≡ latest (one || other) counted last
latest-more true true counted last = refl
latest-more true false counted last = refl
latest-more false other counted last = refl

once-more : (one other : Bool) (counted : Counted) (last sum : ℕ)
    → once other counted (latest one counted last) (once one counted last sum) ≡ once (one || other) counted last sum
once-more true true counted last sum = rw (not-below counted.number) refl
once-more true false counted last sum = refl
once-more false other counted last sum = refl

module _ (step : Sum → Visit → Sum) (test : Visit → Bool) (last part : Sum → ℕ) (counted : Counted)
    (last_is : (sum : Sum) (visit : Visit) → last (step sum visit) ≡ latest (test visit) counted (last sum))
    (part_is : (sum : Sum) (visit : Visit) → part (step sum visit) ≡ once (test visit) counted (last sum) (part sum)) where
  fold-last : (visits : List Visit) (sum : Sum) → last (fold step sum visits) ≡ latest (list_any test visits) counted (last sum)
  fold-last [] sum = refl
  fold-last (visit ∷ visits) sum =
      fold-last visits (step sum visit) ∙ ap (latest (list_any test visits) counted) (last_is sum visit) ∙ latest-more (test visit) (list_any test visits) counted (last sum)

  fold-part : (visits : List Visit) (sum : Sum) → part (fold step sum visits) ≡ once (list_any test visits) counted (last sum) (part sum)
  fold-part [] sum = refl
  fold-part (visit ∷ visits) sum =
      fold-part visits (step sum visit)
      ∙ ap (λ (l : ℕ). once (list_any test visits) counted l (part (step sum visit))) (last_is sum visit)
      ∙ ap (once (list_any test visits) counted (latest (test visit) counted (last sum))) (part_is sum visit)
      ∙ once-more (test visit) (list_any test visits) counted (last sum) (part sum)

-- ---- whether one of the visits passes

any-more : (test : Visit → Bool) (visit : Visit) (visits : List Visit) → (list_any test visits ≡ true → HasOne test visits) → (b : Bool) → test visit ≡ b → (b || list_any test visits) ≡ true
    → HasOne test (visit ∷ visits)
any-more test visit visits rest true passes is = (visit, Contains-first visit visits, passes)
any-more test visit visits rest false fails is = let (one, held, passes) = rest is in (one, Contains-other visit visits one held, passes)

pub any-one : (test : Visit → Bool) (visits : List Visit) → list_any test visits ≡ true → HasOne test visits
any-one test [] is = absurd (cc)
any-one test (visit ∷ visits) is = any-more test visit visits (any-one test visits) (test visit) refl is

one-more : (test : Visit → Bool) (visit : Visit) (visits : List Visit) → (HasOne test visits → list_any test visits ≡ true) → HasOne test (visit ∷ visits) → (b : Bool) → test visit ≡ b
    → (b || list_any test visits) ≡ true
one-more test visit visits rest has true is = refl
one-more test visit visits rest (one, held, passes) false is = elim (Contains-cases visit visits one held) [
  | inl same ↦ absurd (true≢false (sym passes ∙ ap test same ∙ is))
  | inr there ↦ rest (one, there, passes)
]

pub one-any : (test : Visit → Bool) (visits : List Visit) → HasOne test visits → list_any test visits ≡ true
one-any test [] (one, held, passes) = absurd (Contains-none one held)
one-any test (visit ∷ visits) has = one-more test visit visits (one-any test visits) has (test visit) refl

none-one : (test : Visit → Bool) → HasOne test [] → ⊥
none-one test (one, held, passes) = Contains-none one held

-- ---- sums that grow

pub grows-more : (test : Visit → Bool) (xs ys : List (Sequence Visit)) (before between after : ℕ) → Grows test xs before between → Grows test ys between after → Grows test (xs ++ ys) before after
grows-more test xs ys before between after (n, counts, is) (m, others, also) =
    (n + m, Counts-append (HasOne test) xs ys n m counts others, omega (arith, is, also))

grows-one : (test : Visit → Bool) (counted : Counted) (weights : List ℕ) (visits : List Visit) (last sum : ℕ) → last < counted.number → counted.weight ≡ weight_of weights visits
    → Grows test (all_weighed weights (visits ∷ [])) sum (once (list_any test visits) counted last sum)
grows-one test counted weights visits last sum before weight = by (list_any test visits) refl
  where
    by : (b : Bool) → list_any test visits ≡ b → Grows test (all_weighed weights (visits ∷ [])) sum (once b counted last sum)
    by true is =
        let adds : once true counted last sum ≡ sum + counted.weight = rw (lt-ltb last counted.number before) refl in
        (weight_of weights visits, inl (any-one test visits is, (0, omega arith, refl)), adds ∙ ap (λ (n : ℕ). sum + n) weight)
    by false is = (0, inr ((λ has. true≢false (sym (one-any test visits has) ∙ is)), refl), omega arith)

grows-none : (test : Visit → Bool) (weights : List ℕ) (sequences : List (List Visit)) (sum : ℕ) → AreNone sequences → Grows test (all_weighed weights sequences) sum sum
grows-none test weights [] sum none = (0, refl, omega arith)
grows-none test weights (here ∷ sequences) sum (none, others) =
    let (n, counts, is) = grows-none test weights sequences sum others in
    (n, inr ((λ has. none-one test (subst (HasOne test) none has)), counts), is)

-- ---- all parts of a sum

module _ (ranks : Ranks) (aim : Aim) (counted : Counted) (rank : ℕ) where
  stands-fold : (visits : List Visit) (sum : Sum) → (behind_visits ranks aim counted rank sum visits).stands ≡ sum.stands + stands_among ranks aim rank visits
  stands-fold [] sum = omega arith
  stands-fold (visit ∷ visits) sum =
      stands-fold visits (behind_visit ranks aim counted rank sum visit) ∙ by (opens ranks aim rank visit)
    where
      by : (b : Bool) → (cond b (sum.stands + 1) sum.stands) + stands_among ranks aim rank visits
          ≡ sum.stands + length (cond b (visit ∷ filter (opens ranks aim rank) visits) (filter (opens ranks aim rank) visits))
      by true = omega arith
      by false = refl

  module _ (weights : List ℕ) (visits : List Visit) (sum : Sum) (number : ℕ) (is : IsSum number sum) (before : number < counted.number)
      (weight : counted.weight ≡ weight_of weights visits) where
    -- behind one sequence
    pub one-counted : AreCounted ranks aim weights rank visits (visits ∷ []) (tally_of sum) (tally_of (behind_visits ranks aim counted rank sum visits))
    one-counted =
        let step : Sum → Visit → Sum = behind_visit ranks aim counted rank in
        let followed = is.followed in
        let ended = is.ended in
        let opened = is.opened in
        record {
          weight = subst (Grows (follows ranks aim rank) (all_weighed weights (visits ∷ [])) sum.weight)
              (sym (fold-part step (follows ranks aim rank) (λ (s : Sum). s.followed) (λ (s : Sum). s.weight) counted (λ s v. refl) (λ s v. refl) visits sum))
              (grows-one (follows ranks aim rank) counted weights visits sum.followed sum.weight (omega arith) weight);
          support = subst (Grows (ends ranks aim rank) (all_weighed weights (visits ∷ [])) sum.support)
              (sym (fold-part step (ends ranks aim rank) (λ (s : Sum). s.ended) (λ (s : Sum). s.support) counted (λ s v. refl) (λ s v. refl) visits sum))
              (grows-one (ends ranks aim rank) counted weights visits sum.ended sum.support (omega arith) weight);
          longer = subst (Grows (opens ranks aim rank) (all_weighed weights (visits ∷ [])) sum.longer)
              (sym (fold-part step (opens ranks aim rank) (λ (s : Sum). s.opened) (λ (s : Sum). s.longer) counted (λ s v. refl) (λ s v. refl) visits sum))
              (grows-one (opens ranks aim rank) counted weights visits sum.opened sum.longer (omega arith) weight);
          stands = stands-fold visits sum;
        }

counts-more : (ranks : Ranks) (aim : Aim) (weights : List ℕ) (rank : ℕ) (visits others : List Visit) (xs ys : List (List Visit)) (sum between after : Sum)
    → AreCounted ranks aim weights rank visits xs (tally_of sum) (tally_of between) → AreCounted ranks aim weights rank others ys (tally_of between) (tally_of after)
    → AreCounted ranks aim weights rank (visits ++ others) (xs ++ ys) (tally_of sum) (tally_of after)
counts-more ranks aim weights rank visits others xs ys sum between after here there =
    let all : all_weighed weights (xs ++ ys) ≡ all_weighed weights xs ++ all_weighed weights ys = map-append (weighed weights) xs ys in
    let opening : Visit → Bool = opens ranks aim rank in
    let stands : stands_among ranks aim rank (visits ++ others) ≡ stands_among ranks aim rank visits + stands_among ranks aim rank others =
    ap length (filter-append opening visits others) ∙ length-append (filter opening visits) (filter opening others) in
    record {
      weight = rw all (grows-more (follows ranks aim rank) (all_weighed weights xs) (all_weighed weights ys) sum.weight between.weight after.weight here.weight there.weight);
      support = rw all (grows-more (ends ranks aim rank) (all_weighed weights xs) (all_weighed weights ys) sum.support between.support after.support here.support there.support);
      longer = rw all (grows-more opening (all_weighed weights xs) (all_weighed weights ys) sum.longer between.longer after.longer here.longer there.longer);
      stands = omega (arith, here.stands, there.stands, stands);
    }

pub none-counted : (ranks : Ranks) (aim : Aim) (weights : List ℕ) (rank : ℕ) (sequences : List (List Visit)) (sum : Sum) → AreNone sequences
    → AreCounted ranks aim weights rank [] sequences (tally_of sum) (tally_of sum)
none-counted ranks aim weights rank sequences sum none = record {
  weight = grows-none (follows ranks aim rank) weights sequences sum.weight none;
  support = grows-none (ends ranks aim rank) weights sequences sum.support none;
  longer = grows-none (opens ranks aim rank) weights sequences sum.longer none;
  stands = omega arith;
}

-- ---- sequence after sequence

-- so many of the visits were counted, sequence after sequence
pub record AreCountedTo (ranks : Ranks) (aim : Aim) (weights : List ℕ) (visits : List Visit) (from : ℕ) (sequences : List (List Visit)) (before now : List Sum) : Type 0 where
  pub done : List (List Visit)
  pub left : List (List Visit)
  pub cut : sequences ≡ done ++ left
  pub left_are : AreSequences (drop from visits) left
  pub counted : (rank : ℕ) (sum after : Sum) → slice_get before rank ≡ Some sum → slice_get now rank ≡ Some after
      → AreCounted ranks aim weights rank (take from visits) done (tally_of sum) (tally_of after)

pub counted-start : (ranks : Ranks) (aim : Aim) (weights : List ℕ) (visits : List Visit) (sequences : List (List Visit)) (sums : List Sum) → AreSequences visits sequences
    → AreCountedTo ranks aim weights visits 0 sequences sums sums
counted-start ranks aim weights visits sequences sums are = record {
  done = [];
  left = sequences;
  cut = refl;
  left_are = are;
  counted = λ rank sum after is also.
      let same : sum ≡ after = same_Some sum after (sym is ∙ also) in
      subst (λ (s : Sum). AreCounted ranks aim weights rank [] [] (tally_of sum) (tally_of s)) same (none-counted ranks aim weights rank [] sum tt);
}

pub counted-more : (ranks : Ranks) (aim : Aim) (weights : List ℕ) (visits : List Visit) (from end : ℕ) (sequences : List (List Visit)) (before between now : List Sum) (number : ℕ) (counted : Counted)
    → AreCountedTo ranks aim weights visits from sequences before between → IsSequenceEnd visits from end → length between ≡ length before
    → ((rank : ℕ) (sum : Sum) → slice_get between rank ≡ Some sum → IsSum number sum) → number < counted.number
    → counted.weight ≡ weight_of weights (slice_range visits from end)
    → ((rank : ℕ) (sum : Sum) → slice_get between rank ≡ Some sum → slice_get now rank ≡ Some (behind_visits ranks aim counted rank sum (slice_range visits from end)))
    → AreCountedTo ranks aim weights visits end sequences before now
counted-more ranks aim weights visits from end sequences before between now number counted to ends long right new weight all =
    let next = next-cut visits from end ends to.left to.left_are in
    let here : List Visit = slice_range visits from end in
    let forward = ends.some in
    record {
      done = to.done ++ next.none ++ here ∷ [];
      left = next.others;
      cut = to.cut ∙ ap (λ (l : List (List Visit)). to.done ++ l) next.cut ∙ sym (append_assoc to.done next.none (here ∷ next.others))
          ∙ sym (append_assoc (to.done ++ next.none) (here ∷ []) next.others);
      left_are = next.are;
      counted = λ rank sum after is also.
          let (middle, at) = get-some between rank (let inside = slice_get_within before rank sum is in omega (arith, long)) in
          let after_is : after ≡ behind_visits ranks aim counted rank middle here = same_Some after (behind_visits ranks aim counted rank middle here) (sym also ∙ all rank middle at) in
          let first = to.counted rank sum middle is at in
          let quiet = none-counted ranks aim weights rank next.none middle next.empty in
          let last = one-counted ranks aim counted rank weights here middle number (right rank middle at) new weight in
          let both = counts-more ranks aim weights rank (take from visits) [] to.done next.none sum middle middle first quiet in
          let whole = counts-more ranks aim weights rank (take from visits ++ []) here (to.done ++ next.none) (here ∷ []) sum middle (behind_visits ranks aim counted rank middle here) both last in
          let read : take end visits ≡ take from visits ++ [] ++ here = take-range visits from end (omega arith) ∙ ap (λ (l : List Visit). l ++ here) (sym (append-nil (take from visits))) in
          rw (read, after_is) whole;
    }

pub counted-all : (ranks : Ranks) (aim : Aim) (weights : List ℕ) (visits : List Visit) (from : ℕ) (sequences : List (List Visit)) (before now : List Sum)
    → AreCountedTo ranks aim weights visits from sequences before now → length visits ≤ from → (rank : ℕ) (sum after : Sum) → slice_get before rank ≡ Some sum → slice_get now rank ≡ Some after
    → AreCounted ranks aim weights rank visits sequences (tally_of sum) (tally_of after)
counted-all ranks aim weights visits from sequences before now to past rank sum after is also =
    let none : drop from visits ≡ [] = drop_all from visits past in
    let first = to.counted rank sum after is also in
    let quiet = none-counted ranks aim weights rank to.left after (all-none (drop from visits) to.left none to.left_are) in
    let both = counts-more ranks aim weights rank (take from visits) [] to.done to.left sum after after first quiet in
    let read : take from visits ++ [] ≡ visits = append-nil (take from visits) ∙ take_all from visits past in
    rw (to.cut) (subst (λ (l : List Visit). AreCounted ranks aim weights rank l (to.done ++ to.left) (tally_of sum) (tally_of after)) read both)

-- ---- one visit more

pub fold-last-one : {A B : Type 0} (f : B → A → B) (b : B) (xs : List A) (x : A) → fold f b (xs ++ x ∷ []) ≡ f (fold f b xs) x
fold-last-one f b [] x = refl
fold-last-one f b (y ∷ xs) x = fold-last-one f (f b y) xs x

pub visits-more : (ranks : Ranks) (aim : Aim) (counted : Counted) (rank : ℕ) (sum : Sum) (visits : List Visit) (k : ℕ) (d : Visit) → k < length visits
    → behind_visits ranks aim counted rank sum (take (k + 1) visits) ≡ behind_visit ranks aim counted rank (behind_visits ranks aim counted rank sum (take k visits)) (get_or visits k d)
visits-more ranks aim counted rank sum visits k d inside =
    ap (behind_visits ranks aim counted rank sum) (take_more visits k d inside) ∙ fold-last-one (behind_visit ranks aim counted rank) sum (take k visits) (get_or visits k d)

-- what an element past the end is read as
abbrev pub blank : Visit
blank = record { place = 0; kind = 0; action = record { state = 0; more = false; unseen = false; ends = false }; first = false }

-- the visits from a place to the end begin with the one there
pub front-weight : (weights : List ℕ) (visits : List Visit) (from end : ℕ) (d : Visit) → from < end → end ≤ length visits
    → weight_of weights (slice_range visits from end) ≡ weight_at weights (get_or visits from d).place
front-weight weights visits from end d less inside =
    let more : end - from ≡ suc (end - from - 1) = omega arith in
    ap (λ (l : List Visit). weight_of weights (take (end - from) l)) (drop_more visits from d (omega arith))
    ∙ ap (λ (n : ℕ). weight_of weights (take n (get_or visits from d ∷ drop (from + 1) visits))) more
