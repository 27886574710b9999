-- What is counted in pieces is what is counted in all.
use Rattle.std.proofs.Common.{◌≡◌, ℕ, zero, suc, ◌+◌, ◌-◌, ◌*◌, ◌≤◌, ◌<◌, inl, inr, List, [], ◌∷◌, ◌++◌, Result, Ok, Err, IfOk, length, map, take, refl, sym, ap, ◌∙◌, subst, arith, add-one, length-append}
use Rattle.std.specs.List.{All, AllZip, Contains, slice_index, range_with_len, sum_by}
use Rattle.std.specs.Global.{Vec}
use Rattle.std.specs.Result.{MatchResult}
use Rattle.std.proofs.Math.Seq.{take-add}
use Rattle.std.proofs.lemmas.Bool.{cases_lt}
use Rattle.std.proofs.lemmas.List.{take_all, get_or_past}
use Rattle.std.proofs.lemmas.List.FromFn.{length-range_with_len}
use Rattle.std.proofs.lemmas.List.Sums.{sum_by-cons}
use Rattle.std.proofs.lemmas.List.Elements.{All-cons, All-nil, All-head, All-tail}
use Rattle.mine_model.specs.declared.item.Item.{Item}
use Rattle.mine_model.specs.declared.memory.NoMemory.{NoMemory}
use Rattle.mine_model.specs.Ancestry.{Ancestry, item_at}
use Rattle.flat_lists.specs.Cuts.{start_of, list_at, AreCut}
use Rattle.mine_model.specs.Limits.{most_sequences, most_weight}
use Rattle.mine_model.specs.Database.{IsWithinLimits}
use Rattle.mine_model.specs.Support.{Sequence, HoldsUnder, HasFrequency}
use Rattle.flat_lists.proofs.CutLemmas.{cut-more}
use Rattle.mine_model.proofs.FrequencyLemmas.{Counts-append}
use Rattle.frequency_list.specs.Tallies.{IsTally, AreTallies}
use Rattle.frequency_list.proofs.SequenceLemmas.{HasFrequency-most}

-- what a parallel iterator collected, where each answer is a tally
module _ (hierarchy : Ancestry) (ends : List ℕ) (sequences : List (Sequence Item)) where
  of_answers : (pieces : List ℕ) (parts : List (Vec ℕ)) → AllZip (λ (piece : ℕ) (answer : Result (Vec ℕ) NoMemory). IfOk answer (λ sums. IsTally hierarchy (list_at ends sequences piece) sums.items)) pieces (map Ok parts)
      → AllZip (λ piece part. IsTally hierarchy (list_at ends sequences piece) part.items) pieces parts
  of_answers [] [] zip = zip
  of_answers [] (part ∷ parts) zip = zip
  of_answers (piece ∷ pieces) [] zip = zip
  of_answers (piece ∷ pieces) (part ∷ parts) zip = (zip.0, of_answers pieces parts zip.1)

  pub AreTallies-collected : (collected : Result (Vec (Vec ℕ)) NoMemory) (answers : List (Result (Vec ℕ) NoMemory))
      → AllZip (λ (piece : ℕ) (answer : Result (Vec ℕ) NoMemory). IfOk answer (λ sums. IsTally hierarchy (list_at ends sequences piece) sums.items)) (range_with_len 0 (length ends)) answers
      → MatchResult collected (λ v. (parts : List (Vec ℕ)) × (answers ≡ map Ok parts) × (v.items ≡ parts)) (λ e. Contains answers (Err e))
      → IfOk collected (λ parts. AreTallies hierarchy ends sequences parts.items)
  AreTallies-collected (Err e) answers zip from = tt
  AreTallies-collected (Ok v) answers zip (parts, same, is) =
      rw is (of_answers (range_with_len 0 (length ends)) parts
      (subst (λ xs. AllZip (λ (piece : ℕ) (answer : Result (Vec ℕ) NoMemory). IfOk answer (λ sums. IsTally hierarchy (list_at ends sequences piece) sums.items)) (range_with_len 0 (length ends)) xs) same zip))

-- the sum of what the parts have for an item
abbrev pub sum_at : List (Vec ℕ) → ℕ → ℕ
sum_at parts k = sum_by (λ part. slice_index part.items k) parts

sum_at-cons : (part : Vec ℕ) (parts : List (Vec ℕ)) (k : ℕ) → sum_at (part ∷ parts) k ≡ slice_index part.items k + sum_at parts k
sum_at-cons part parts k = sum_by-cons (λ (part : Vec ℕ). slice_index part.items k) part parts

module _ (hierarchy : Ancestry) (ends : List ℕ) (sequences : List (Sequence Item)) where
  abbrev Counted : ℕ → Vec ℕ → Type 0
  Counted piece part = IsTally hierarchy (list_at ends sequences piece) part.items

  abbrev Before : Item → ℕ → ℕ → Type 0
  Before w piece sum = HasFrequency hierarchy.links (take (start_of ends piece) sequences) w sum

  -- the sequences before the next piece
  next_place : AreCut ends (length sequences) → (piece : ℕ) → piece < length ends → take (start_of ends (piece + 1)) sequences ≡ take (start_of ends piece) sequences ++ list_at ends sequences piece
  next_place cut piece below =
      let rises = cut.forward piece below in
      let end : slice_index ends piece ≡ start_of ends piece + (slice_index ends piece - start_of ends piece) = omega (arith, rises) in
      ap (λ n. take (start_of ends n) sequences) (add-one piece) ∙ ap (λ n. take n sequences) end ∙ take-add (start_of ends piece) (slice_index ends piece - start_of ends piece) sequences

  -- with what was counted before the parts, the parts count what stands before their end
  sums_from : AreCut ends (length sequences) → (piece : ℕ) (pieces : ℕ) (parts : List (Vec ℕ)) (w : Item) (before : ℕ) → w.0 < hierarchy.items
      → piece + pieces ≤ length ends → AllZip Counted (range_with_len piece pieces) parts
      → Before w piece before → Before w (piece + pieces) (before + sum_at parts w.0)
  sums_from cut piece zero [] w before within last zip counted =
      let none : before + 0 ≡ before = omega arith in let place' : piece + 0 ≡ piece = omega arith in
      rw (none, place') counted
  sums_from cut piece zero (part ∷ parts) w before within last zip counted = absurd zip
  sums_from cut piece (suc pieces) [] w before within last zip counted = absurd zip
  sums_from cut piece (suc pieces) (part ∷ parts) w before within last zip counted =
      let here : HasFrequency hierarchy.links (list_at ends sequences piece) w (slice_index part.items w.0) = zip.0.exact w (omega (arith, within, zip.0.whole)) in
      let both : Before w (piece + 1) (before + slice_index part.items w.0) =
      subst (λ front. HasFrequency hierarchy.links front w (before + slice_index part.items w.0)) (sym (next_place cut piece (omega (arith, last))))
      (Counts-append (HoldsUnder hierarchy.links w) (take (start_of ends piece) sequences) (list_at ends sequences piece) before (slice_index part.items w.0) counted here) in
      let rest : Before w (piece + 1 + pieces) ((before + slice_index part.items w.0) + sum_at parts w.0) =
      sums_from cut (piece + 1) pieces parts w (before + slice_index part.items w.0) within (omega (arith, last)) zip.1 both in
      let total : (before + slice_index part.items w.0) + sum_at parts w.0 ≡ before + sum_at (part ∷ parts) w.0 = omega (arith, sum_at-cons part parts w.0) in
      let end : piece + 1 + pieces ≡ piece + suc pieces = omega arith in
      subst (λ n. Before w n (before + sum_at (part ∷ parts) w.0)) end (subst (Before w (piece + 1 + pieces)) total rest)

  -- the sums of the parts are the frequencies
  pub AreTallies-sum : (parts : List (Vec ℕ)) → AreCut ends (length sequences) → AreTallies hierarchy ends sequences parts
      → (w : Item) → w.0 < hierarchy.items → HasFrequency hierarchy.links sequences w (sum_at parts w.0)
  AreTallies-sum parts cut are w within =
      let all : take (start_of ends (length ends)) sequences ≡ sequences = take_all (start_of ends (length ends)) sequences (omega (arith, cut.whole)) in
      let sums : Before w (0 + length ends) (0 + sum_at parts w.0) = sums_from cut 0 (length ends) parts w 0 within (omega arith) are refl in
      let last : 0 + length ends ≡ length ends = omega arith in
      let sum : 0 + sum_at parts w.0 ≡ sum_at parts w.0 = omega arith in
      subst (λ front. HasFrequency hierarchy.links front w (sum_at parts w.0)) all (subst (Before w (length ends)) sum (subst (λ n. Before w n (0 + sum_at parts w.0)) last sums))

  whole_parts : (piece pieces : ℕ) (parts : List (Vec ℕ)) → AllZip Counted (range_with_len piece pieces) parts → All (λ part. length part.items ≡ hierarchy.items) parts
  whole_parts piece zero [] zip = All-nil (λ part. length part.items ≡ hierarchy.items)
  whole_parts piece zero (part ∷ parts) zip = absurd zip
  whole_parts piece (suc pieces) [] zip = absurd zip
  whole_parts piece (suc pieces) (part ∷ parts) zip =
      All-cons (λ part. length part.items ≡ hierarchy.items) part parts zip.0.whole (whole_parts (piece + 1) pieces parts zip.1)

  pub AreTallies-whole : (parts : List (Vec ℕ)) → AreTallies hierarchy ends sequences parts → All (λ part. length part.items ≡ hierarchy.items) parts
  AreTallies-whole parts are = whole_parts 0 (length ends) parts are

-- parts that have no such number add up to 0 there
pub sum_past : (parts : List (Vec ℕ)) (size k : ℕ) → All (λ part. length part.items ≡ size) parts → size ≤ k → sum_at parts k ≡ 0
sum_past [] size k whole past = refl
sum_past (part ∷ parts) size k whole past =
    let zero : slice_index part.items k ≡ 0 = get_or_past part.items k 0 (omega (arith, past, All-head (λ (part : Vec ℕ). length part.items ≡ size) part parts whole)) in
    let rest : sum_at parts k ≡ 0 = sum_past parts size k (All-tail (λ (part : Vec ℕ). length part.items ≡ size) part parts whole) past in
    omega (arith, zero, rest, sum_at-cons part parts k)

-- no sum wraps
pub AreTallies-room : (hierarchy : Ancestry) (ends : List ℕ) (sequences : List (Sequence Item)) (parts : List (Vec ℕ))
    → AreCut ends (length sequences) → All IsWithinLimits sequences → length sequences ≤ most_sequences
    → AreTallies hierarchy ends sequences parts → (k : ℕ) → sum_at parts k ≤ most_sequences * most_weight
AreTallies-room hierarchy ends sequences parts cut limits few are k = elim (cases_lt k hierarchy.items) [
  | inl below ↦ HasFrequency-most hierarchy.links sequences (item_at k) (sum_at parts k) limits few (AreTallies-sum hierarchy ends sequences parts cut are (item_at k) below)
  | inr past ↦ let zero : sum_at parts k ≡ 0 = sum_past parts hierarchy.items k (AreTallies-whole hierarchy ends sequences parts are) past in omega (arith, zero)
]

-- the sums of all parts, place by place, are the tally of all sequences
pub IsTally-total : (hierarchy : Ancestry) (ends : List ℕ) (sequences : List (Sequence Item)) (parts : List (Vec ℕ)) (sums : List ℕ)
    → AreCut ends (length sequences) → AreTallies hierarchy ends sequences parts → length sums ≡ hierarchy.items
    → ((k : ℕ) → slice_index sums k ≡ sum_at parts k) → IsTally hierarchy sequences sums
IsTally-total hierarchy ends sequences parts sums cut are whole same = record {
  whole = whole;
  exact = λ w within.
      subst (λ n. HasFrequency hierarchy.links sequences w n) (sym (same w.0))
      (AreTallies-sum hierarchy ends sequences parts cut are w (omega (arith, within, whole)));
}

-- one end more, not before the last
pub one_end_more : (ends : List ℕ) (size to : ℕ) → size ≤ to → AreCut ends size → AreCut (ends ++ to ∷ []) to
one_end_more ends size to behind cut =
    let whole : length (range_with_len 0 size) ≡ size = length-range_with_len 0 size in
    let more : length (range_with_len 0 (to - size)) ≡ to - size = length-range_with_len 0 (to - size) in
    let is : to ≡ length (range_with_len 0 size) + length (range_with_len 0 (to - size)) = omega (arith, whole, more, behind) in
    let all : length (range_with_len 0 size ++ range_with_len 0 (to - size)) ≡ to = length-append (range_with_len 0 size) (range_with_len 0 (to - size)) ∙ sym is in
    subst (AreCut (ends ++ to ∷ [])) all
    (cut-more ends (range_with_len 0 size) (range_with_len 0 (to - size)) to is (subst (AreCut ends) (sym whole) cut))
