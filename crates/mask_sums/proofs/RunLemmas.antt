-- What is counted by sets, sequence after sequence.
use Rattle.std.proofs.Common.{◌≡◌, ℕ, ◌+◌, ◌-◌, ◌≤◌, ◌<◌, ◌⊎◌, ◌↔◌, inl, inr, Bool, true, false, true≢false, not, IsTrue, Some, List, [], ◌∷◌, ◌++◌, length, take, drop, get_or, append_assoc, refl, sym, ap, ◌∙◌, subst, arith}
use Rattle.std.specs.List.{slice_get, slice_range, filter}
use Rattle.std.proofs.lemmas.List.{map-append, length-append, append-nil, take_all, take_more, get_or-drop, length-drop, length-take-le, drop_all}
use Rattle.std.proofs.lemmas.Option.{get_or_from_slice_get}
use Rattle.std.proofs.lemmas.List.Elements.{filter-append}
use Rattle.state_bits.specs.Members.{Has}
use Rattle.place_walk.specs.declared.visit.Visit.{Visit}
use Rattle.stand_sums.specs.declared.aim.Aim.{Aim}
use Rattle.stand_sums.specs.Writings.{Ranks, opens, ends, follows}
use Rattle.stand_sums.specs.Sequences.{HasOne, weighed, all_weighed, AreSequences}
use Rattle.stand_sums.specs.Sums.{Tally, Grows, stands_among, AreCounted}
use Rattle.stand_sums.specs.Kept.{IsSequenceEnd}
use Rattle.stand_sums.proofs.CutLemmas.{AreNone, next-cut, all-none, take-range}
use Rattle.stand_sums.proofs.PartLemmas.{grows-more, none-counted}
use Rattle.mask_sums.specs.declared.masked.Masked.{Masked}
use Rattle.mask_sums.specs.declared.counting.Read.{Read}
use Rattle.mask_sums.specs.Sets.{masked_at}
use Rattle.mask_sums.specs.Kept.{IsSetOf, HasOneMore, HasStands}
use Rattle.mask_sums.proofs.SetLemmas.{set-none, set-more, has-or-not, either-or-not, follows-sets}

-- ---- one visit more

pub range-more : (visits : List Visit) (from end : ℕ) (d : Visit) → from ≤ end → end < length visits
    → slice_range visits from (end + 1) ≡ slice_range visits from end ++ get_or visits end d ∷ []
range-more visits from end d forward inside =
    let long : length (drop from visits) ≡ length visits - from = length-drop from visits in
    ap (λ (n : ℕ). take n (drop from visits)) (let e : end + 1 - from ≡ (end - from) + 1 = omega arith in e)
    ∙ take_more (drop from visits) (end - from) d (omega (arith, long))
    ∙ ap (λ (v : Visit). slice_range visits from end ++ v ∷ [])
    (get_or-drop from visits (end - from) d ∙ ap (λ (n : ℕ). get_or visits n d) (let e : from + (end - from) ≡ end = omega arith in e))

pub range-none : (visits : List Visit) (from : ℕ) → slice_range visits from from ≡ []
range-none visits from = ap (λ (n : ℕ). take n (drop from visits)) (let e : from - from ≡ 0 = omega arith in e)

-- nothing was read
pub set-start : (test : ℕ → Visit → Bool) (visits : List Visit) (from set : ℕ) → set ≡ 0 → IsSetOf test (slice_range visits from from) set
set-start test visits from set none =
    subst (λ (vs : List Visit). IsSetOf test vs set) (sym (range-none visits from)) (subst (IsSetOf test []) (sym none) (set-none test))

pub stands-start : (ranks : Ranks) (aim : Aim) (visits : List Visit) (from : ℕ) (stands : List ℕ) → HasStands ranks aim (slice_range visits from from) stands stands
stands-start ranks aim visits from stands =
    subst (λ (vs : List Visit). HasStands ranks aim vs stands stands) (sym (range-none visits from)) (λ rank few. omega arith)

pub range-some : (visits : List Visit) (from end : ℕ) → from < end → end ≤ length visits → 0 < length (slice_range visits from end)
range-some visits from end less within =
    let long : length (drop from visits) ≡ length visits - from = length-drop from visits in
    let same : length (take (end - from) (drop from visits)) ≡ end - from = length-take-le (end - from) (drop from visits) (omega (arith, long, within)) in
    omega (arith, same, less)

pub stands-both : (ranks : Ranks) (aim : Aim) (rank : ℕ) (visits others : List Visit)
    → stands_among ranks aim rank (visits ++ others) ≡ stands_among ranks aim rank visits + stands_among ranks aim rank others
stands-both ranks aim rank visits others =
    ap length (filter-append (opens ranks aim rank) visits others) ∙ length-append (filter (opens ranks aim rank) visits) (filter (opens ranks aim rank) others)

pub stands-more : (ranks : Ranks) (aim : Aim) (visits others : List Visit) (before between after : List ℕ) → HasStands ranks aim visits before between → HasStands ranks aim others between after
    → HasStands ranks aim (visits ++ others) before after
stands-more ranks aim visits others before between after first then rank few =
    let one = first rank few in
    let two = then rank few in
    let both = stands-both ranks aim rank visits others in
    omega (arith, one, two, both)

module _ (visits : List Visit) (from end : ℕ) (d : Visit) (forward : from ≤ end) (inside : end < length visits) where
  -- one visit more was read
  pub set-one_more : (test : ℕ → Visit → Bool) (before after : ℕ) → IsSetOf test (slice_range visits from end) before
      → ((rank : ℕ) → Has after rank ↔ (Has before rank ⊎ IsTrue (test rank (get_or visits end d)))) → IsSetOf test (slice_range visits from (end + 1)) after
  set-one_more test before after is more =
      subst (λ (vs : List Visit). IsSetOf test vs after) (sym (range-more visits from end d forward inside))
      (set-more test (slice_range visits from end) (get_or visits end d) before after is more)

  pub stands-one_more : (ranks : Ranks) (aim : Aim) (before between after : List ℕ) → HasStands ranks aim (slice_range visits from end) before between
      → HasStands ranks aim (get_or visits end d ∷ []) between after → HasStands ranks aim (slice_range visits from (end + 1)) before after
  stands-one_more ranks aim before between after first then =
      subst (λ (vs : List Visit). HasStands ranks aim vs before after) (sym (range-more visits from end d forward inside))
      (stands-more ranks aim (slice_range visits from end) (get_or visits end d ∷ []) before between after first then)

-- the visit at a place is marked or not as what is read there
pub mark-at : (visits : List Visit) (k : ℕ) (visit d : Visit) (b : Bool) → slice_get visits k ≡ Some visit → (get_or visits k d).first ≡ b → visit.first ≡ b
mark-at visits k visit d b at is = sym (ap (λ (v : Visit). v.first) (get_or_from_slice_get visits k visit d at)) ∙ is

pub not-true : (b : Bool) → not b ≡ true → b ≡ false
not-true true is = absurd (true≢false (sym is))
not-true false is = refl

pub not-false : (b : Bool) → not b ≡ false → b ≡ true
not-false true is = refl
not-false false is = absurd (true≢false is)

-- ---- one sequence

set-grows : (test : Visit → Bool) (here : List Visit) (IsMember : Type 0) (before after : ℕ) → 0 < length here → IsMember ⊎ (IsMember → ⊥) → IsMember ↔ HasOne test here
    → (IsMember → after ≡ before + 1) → ((IsMember → ⊥) → after ≡ before) → Grows test (all_weighed [] (here ∷ [])) before after
set-grows test [] IsMember before after some decided is adds stays = absurd (omega arith)
set-grows test (visit ∷ visits) IsMember before after some decided is adds stays = elim decided [
  | inl has ↦ (1, inl (is.0 has, (0, refl, refl)), adds has)
  | inr lacks ↦ (0, inr ((λ one. lacks (is.1 one)), refl), let same = stays lacks in omega arith)
]

pub sequence-counted : (ranks : Ranks) (aim : Aim) (here : List Visit) (read : Read) (before after : Masked) → 0 < length here → IsSetOf (opens ranks aim) here read.opened → IsSetOf (ends ranks aim) here read.ended
    → HasOneMore (λ rank. Has read.opened rank ⊎ Has read.ended rank) before.followed after.followed → HasOneMore (Has read.ended) before.ended after.ended
    → HasOneMore (Has read.opened) before.opened after.opened → HasStands ranks aim here before.stands after.stands
    → (rank : ℕ) → rank < 256 → AreCounted ranks aim [] rank here (here ∷ []) (masked_at before rank) (masked_at after rank)
sequence-counted ranks aim here read before after some opening ending followed ended opened stands rank few = record {
  weight = set-grows (follows ranks aim rank) here (Has read.opened rank ⊎ Has read.ended rank) (get_or before.followed rank 0) (get_or after.followed rank 0) some
      (either-or-not read.opened read.ended rank) (follows-sets ranks aim here read.opened read.ended opening ending rank) (followed.members rank few) (followed.others rank);
  support = set-grows (ends ranks aim rank) here (Has read.ended rank) (get_or before.ended rank 0) (get_or after.ended rank 0) some
      (has-or-not read.ended rank) (ending rank) (ended.members rank few) (ended.others rank);
  longer = set-grows (opens ranks aim rank) here (Has read.opened rank) (get_or before.opened rank 0) (get_or after.opened rank 0) some
      (has-or-not read.opened rank) (opening rank) (opened.members rank few) (opened.others rank);
  stands = stands rank few;
}

-- ---- one after another

pub nothing-counted : (ranks : Ranks) (aim : Aim) (weights : List ℕ) (rank : ℕ) (sequences : List (List Visit)) (tally : Tally) → AreNone sequences
    → AreCounted ranks aim weights rank [] sequences tally tally
nothing-counted ranks aim weights rank sequences tally none =
    none-counted ranks aim weights rank sequences
    (record { followed = 0; ended = 0; opened = 0; stands = tally.stands; weight = tally.weight; support = tally.support; longer = tally.longer }) none

pub counts-more : (ranks : Ranks) (aim : Aim) (weights : List ℕ) (rank : ℕ) (visits others : List Visit) (xs ys : List (List Visit)) (before between after : Tally)
    → AreCounted ranks aim weights rank visits xs before between → AreCounted ranks aim weights rank others ys between after
    → AreCounted ranks aim weights rank (visits ++ others) (xs ++ ys) before after
counts-more ranks aim weights rank visits others xs ys before between after here there =
    let all : all_weighed weights (xs ++ ys) ≡ all_weighed weights xs ++ all_weighed weights ys = map-append (weighed weights) xs ys in
    let stands = stands-both ranks aim rank visits others in
    record {
      weight = rw all (grows-more (follows ranks aim rank) (all_weighed weights xs) (all_weighed weights ys) before.weight between.weight after.weight here.weight there.weight);
      support = rw all (grows-more (ends ranks aim rank) (all_weighed weights xs) (all_weighed weights ys) before.support between.support after.support here.support there.support);
      longer = rw all (grows-more (opens ranks aim rank) (all_weighed weights xs) (all_weighed weights ys) before.longer between.longer after.longer here.longer there.longer);
      stands = omega (arith, here.stands, there.stands, stands);
    }

-- so many of the visits were counted, sequence after sequence
pub record AreCountedTo (ranks : Ranks) (aim : Aim) (visits : List Visit) (from : ℕ) (sequences : List (List Visit)) (before now : Masked) : Type 0 where
  pub done : List (List Visit)
  pub left : List (List Visit)
  pub cut : sequences ≡ done ++ left
  pub left_are : AreSequences (drop from visits) left
  pub counted : (rank : ℕ) → rank < 256 → AreCounted ranks aim [] rank (take from visits) done (masked_at before rank) (masked_at now rank)

pub counted-start : (ranks : Ranks) (aim : Aim) (visits : List Visit) (sequences : List (List Visit)) (masked : Masked) → AreSequences visits sequences → AreCountedTo ranks aim visits 0 sequences masked masked
counted-start ranks aim visits sequences masked are = record {
  done = [];
  left = sequences;
  cut = refl;
  left_are = are;
  counted = λ rank few. nothing-counted ranks aim [] rank [] (masked_at masked rank) tt;
}

pub counted-more : (ranks : Ranks) (aim : Aim) (visits : List Visit) (from end : ℕ) (sequences : List (List Visit)) (before between now : Masked) → AreCountedTo ranks aim visits from sequences before between
    → IsSequenceEnd visits from end
    → ((rank : ℕ) → rank < 256 → AreCounted ranks aim [] rank (slice_range visits from end) (slice_range visits from end ∷ []) (masked_at between rank) (masked_at now rank))
    → AreCountedTo ranks aim visits end sequences before now
counted-more ranks aim visits from end sequences before between now to ends step =
    let next = next-cut visits from end ends to.left to.left_are in
    let here : List Visit = slice_range visits from end in
    let forward = ends.some in
    record {
      done = to.done ++ next.none ++ here ∷ [];
      left = next.others;
      cut = to.cut ∙ ap (λ (l : List (List Visit)). to.done ++ l) next.cut ∙ sym (append_assoc to.done next.none (here ∷ next.others))
          ∙ sym (append_assoc (to.done ++ next.none) (here ∷ []) next.others);
      left_are = next.are;
      counted = λ rank few.
          let middle : Tally = masked_at between rank in
          let quiet = nothing-counted ranks aim [] rank next.none middle next.empty in
          let both = counts-more ranks aim [] rank (take from visits) [] to.done next.none (masked_at before rank) middle middle (to.counted rank few) quiet in
          let whole = counts-more ranks aim [] rank (take from visits ++ []) here (to.done ++ next.none) (here ∷ []) (masked_at before rank) middle (masked_at now rank) both (step rank few) in
          let read : take end visits ≡ take from visits ++ [] ++ here = take-range visits from end (omega arith) ∙ ap (λ (l : List Visit). l ++ here) (sym (append-nil (take from visits))) in
          rw read whole;
    }

pub counted-all : (ranks : Ranks) (aim : Aim) (visits : List Visit) (from : ℕ) (sequences : List (List Visit)) (before now : Masked) → AreCountedTo ranks aim visits from sequences before now → length visits ≤ from
    → (rank : ℕ) → rank < 256 → AreCounted ranks aim [] rank visits sequences (masked_at before rank) (masked_at now rank)
counted-all ranks aim visits from sequences before now to past rank few =
    let none : drop from visits ≡ [] = drop_all from visits past in
    let after : Tally = masked_at now rank in
    let quiet = nothing-counted ranks aim [] rank to.left after (all-none (drop from visits) to.left none to.left_are) in
    let both = counts-more ranks aim [] rank (take from visits) [] to.done to.left (masked_at before rank) after after (to.counted rank few) quiet in
    let read : take from visits ++ [] ≡ visits = append-nil (take from visits) ∙ take_all from visits past in
    rw (to.cut) (subst (λ (l : List Visit). AreCounted ranks aim [] rank l (to.done ++ to.left) (masked_at before rank) after) read both)
