-- The pairs of sequences and their pivots, one stretch of sequences after another.
use Rattle.std.proofs.Common.{◌≡◌, ◌≢◌, ◌↔◌, ℕ, zero, suc, ◌+◌, ◌*◌, ◌/◌, ◌%◌, ◌<◌, ◌≤◌, inl, inr, Result, Ok, Err, IfOk, List, [], ◌∷◌, ◌++◌, length, map, get_or, refl, sym, ap, subst, arith}
use Rattle.std.specs.List.{All, AllPairs, AllZip, Contains, range_with_len}
use Rattle.std.specs.Global.{Vec}
use Rattle.std.specs.Result.{MatchResult}
use Rattle.std.proofs.lemmas.Bool.{cases_lt}
use Rattle.std.proofs.lemmas.List.Elements.{Contains-append_left, Contains-append_right, Contains-append_cases, Contains-get_or}
use Rattle.std.proofs.lemmas.List.Kept.{AllPairs-cons}
use Rattle.mine_model.specs.declared.memory.NoMemory.{NoMemory}
use Rattle.mine_model.proofs.ListLemmas.{Contains-none, Contains-by, Contains-from, AllPairs-head, AllPairs-tail, AllPairs-append}
use Rattle.mining_job.specs.Problems.{Problem, items_of}
use Rattle.pivot_partition.specs.declared.pairs.Pair.{Pair}
use Rattle.pivot_partition.specs.Pivots.{IsPivotOf}
use Rattle.pivot_partition.specs.Pairs.{ComesFirst, ArePairs, place, ArePieces, all_of}

-- the pieces reach the end
pub pieces-reach : (count pieces : ℕ) → 1 ≤ pieces → count ≤ pieces * (count / pieces + 1)
pieces-reach count pieces least =
    let whole : pieces * (count / pieces + 1) ≡ pieces * (count / pieces) + pieces = grind arith in
    let rest : count % pieces < pieces = omega arith in
    let parts : pieces * (count / pieces) + count % pieces ≡ count = omega arith in
    omega (arith, whole, rest, parts)

abbrev pub pair_of : ℕ → ℕ → Pair
pair_of sequence pivot = record { pivot = pivot; sequence = sequence }

module _ (problem : Problem) where
  pub pairs-none : (from : ℕ) → ArePairs problem from from []
  pairs-none from = record {
    ordered = λ i j d less inside. absurd (omega (arith, inside));
    exact = λ pair. (
      (λ held. absurd (Contains-none pair held)),
      (λ (low, high, is). absurd (omega (arith, low, high))),
    );
  }

  -- the pairs of one sequence
  pub pairs-one : (sequence : ℕ) (found : List ℕ) → AllPairs (λ one other. one ≢ other) found
      → ((rank : ℕ) → Contains found rank ↔ IsPivotOf problem (items_of problem sequence) rank)
      → ArePairs problem sequence (sequence + 1) (map (pair_of sequence) found)
  pairs-one sequence found once exact = record {
    ordered = ordered found once;
    exact = λ pair. (
      (λ held.
          let (rank, in_found, is) = Contains-from (pair_of sequence) found pair held in
          subst (λ (p : Pair). (sequence ≤ p.sequence) × (p.sequence < sequence + 1) × IsPivotOf problem (items_of problem p.sequence) p.pivot) (sym is)
          (omega arith, omega arith, (exact rank).0 in_found)),
      (λ (low, high, is).
          let same : pair.sequence ≡ sequence = omega (arith, low, high) in
          let in_found : Contains found pair.pivot = (exact pair.pivot).1 (subst (λ s. IsPivotOf problem (items_of problem s) pair.pivot) same is) in
          subst (Contains (map (pair_of sequence) found)) (ap (λ s. pair_of s pair.pivot) (sym same)) (Contains-by (pair_of sequence) found pair.pivot in_found)),
    );
  }
    where
      ordered : (found : List ℕ) → AllPairs (λ one other. one ≢ other) found → AllPairs ComesFirst (map (pair_of sequence) found)
      ordered [] once = λ i j d less inside. absurd (omega (arith, inside))
      ordered (rank ∷ found) once =
          AllPairs-cons ComesFirst (pair_of sequence rank) (map (pair_of sequence) found)
          (all-of (map (pair_of sequence) found) (λ pair held.
          let (other, in_found, is) = Contains-from (pair_of sequence) found pair held in
          subst (ComesFirst (pair_of sequence rank)) (sym is) (inr (refl, AllPairs-head (λ one other. one ≢ other) rank found once other in_found))))
          (ordered found (AllPairs-tail (λ one other. one ≢ other) rank found once))
        where
          all-of : (pairs : List Pair) → ((pair : Pair) → Contains pairs pair → ComesFirst (pair_of sequence rank) pair) → All (ComesFirst (pair_of sequence rank)) pairs
          all-of pairs each = λ k d inside. each (get_or pairs k d) (Contains-get_or pairs k d inside)

  -- and of those behind them
  pub pairs-append : (from mid to : ℕ) (xs ys : List Pair) → from ≤ mid → mid ≤ to → ArePairs problem from mid xs → ArePairs problem mid to ys → ArePairs problem from to (xs ++ ys)
  pairs-append from mid to xs ys low high first second = record {
    ordered = AllPairs-append ComesFirst xs ys first.ordered second.ordered
        (λ x y in_xs in_ys.
        let (low, high, is) = (first.exact x).0 in_xs in
        let (least, most, has) = (second.exact y).0 in_ys in
        inl (omega (arith, high, least)));
    exact = λ pair. (
      (λ held. elim (Contains-append_cases xs ys pair held) [
        | inl here ↦ let (least, most, is) = (first.exact pair).0 here in (least, omega (arith, most, high), is)
        | inr there ↦ let (least, most, is) = (second.exact pair).0 there in (omega (arith, least, low), most, is)
      ]),
      (λ (least, most, is). elim (cases_lt pair.sequence mid) [
        | inl early ↦ Contains-append_left xs ys pair ((first.exact pair).1 (least, early, is))
        | inr late ↦ Contains-append_right xs ys pair ((second.exact pair).1 (late, most, is))
      ]),
    );
  }

  -- of all pieces
  module _ (size : ℕ) where
    abbrev pub Piece : ℕ → Vec Pair → Type 0
    Piece piece part = ArePairs problem (place size (length problem.sequences) piece) (place size (length problem.sequences) (piece + 1)) part.items

    place_rises : (piece : ℕ) → place size (length problem.sequences) piece ≤ place size (length problem.sequences) (piece + 1)
    place_rises piece = let more : (piece + 1) * size ≡ piece * size + size = grind arith in omega (arith, more)

    pieces-from : (piece count : ℕ) (parts : List (Vec Pair)) → AllZip Piece (range_with_len piece count) parts
        → (place size (length problem.sequences) piece ≤ place size (length problem.sequences) (piece + count))
        × ArePairs problem (place size (length problem.sequences) piece) (place size (length problem.sequences) (piece + count)) (all_of parts)
    pieces-from piece zero [] zip = let e : piece + 0 ≡ piece = omega arith in rw e (omega arith, pairs-none (place size (length problem.sequences) piece))
    pieces-from piece zero (part ∷ parts) zip = absurd zip
    pieces-from piece (suc count) [] zip = absurd zip
    pieces-from piece (suc count) (part ∷ parts) zip =
        let rest = pieces-from (piece + 1) count parts zip.1 in
        let e : piece + suc count ≡ piece + 1 + count = omega arith in
        let step = place_rises piece in
        rw e (
          omega (arith, step, rest.0),
          pairs-append (place size (length problem.sequences) piece) (place size (length problem.sequences) (piece + 1)) (place size (length problem.sequences) (piece + 1 + count)) part.items (all_of parts) step rest.0 zip.0 rest.1,
        )

    pub pieces-all : (count : ℕ) (parts : List (Vec Pair)) → length problem.sequences ≤ count * size → ArePieces problem size count parts → ArePairs problem 0 (length problem.sequences) (all_of parts)
    pieces-all count parts reach are =
        let both = pieces-from 0 count parts are in
        let first : place size (length problem.sequences) 0 ≡ 0 = omega arith in
        let last : place size (length problem.sequences) (0 + count) ≡ length problem.sequences = omega (arith, reach) in
        subst (λ n. ArePairs problem n (length problem.sequences) (all_of parts)) first
        (subst (λ n. ArePairs problem (place size (length problem.sequences) 0) n (all_of parts)) last both.1)

    -- what a parallel iterator collected, where each answer has the pairs of a piece
    of_answers : (pieces : List ℕ) (parts : List (Vec Pair)) → AllZip (λ (piece : ℕ) (answer : Result (Vec Pair) NoMemory). IfOk answer (Piece piece)) pieces (map Ok parts) → AllZip Piece pieces parts
    of_answers [] [] zip = zip
    of_answers [] (part ∷ parts) zip = zip
    of_answers (piece ∷ pieces) [] zip = zip
    of_answers (piece ∷ pieces) (part ∷ parts) zip = (zip.0, of_answers pieces parts zip.1)

    pub pieces-collected : (pieces : ℕ) (collected : Result (Vec (Vec Pair)) NoMemory) (answers : List (Result (Vec Pair) NoMemory))
        → AllZip (λ (piece : ℕ) (answer : Result (Vec Pair) NoMemory). IfOk answer (Piece piece)) (range_with_len 0 pieces) answers
        → MatchResult collected (λ v. (parts : List (Vec Pair)) × (answers ≡ map Ok parts) × (v.items ≡ parts)) (λ e. Contains answers (Err e))
        → IfOk collected (λ parts. ArePieces problem size pieces parts.items)
    pieces-collected pieces (Err e) answers zip from = tt
    pieces-collected pieces (Ok v) answers zip (parts, same, is) =
        rw is (of_answers (range_with_len 0 pieces) parts
        (subst (λ xs. AllZip (λ (piece : ℕ) (answer : Result (Vec Pair) NoMemory). IfOk answer (Piece piece)) (range_with_len 0 pieces) xs) same zip))
