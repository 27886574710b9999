-- Blocks that follow one another.
use Rattle.std.proofs.Common.{◌≡◌, ℕ, ◌*◌, ◌<◌, ◌≤◌, List, [], ◌∷◌, ◌++◌, map, length, arith, refl, sym, subst, Result, Ok, Err, IfOk}
use Rattle.std.specs.List.{All, AllByRecursion, AllZip, Contains}
use Rattle.std.specs.Global.{Vec}
use Rattle.std.specs.Result.{MatchResult}
use Rattle.std.proofs.lemmas.List.Elements.{All-from_recursion}
use Rattle.mine_model.specs.declared.memory.NoMemory.{NoMemory}
use Rattle.mining_job.specs.declared.bound.Bound.{Bound}
use Rattle.mining_job.specs.Problems.{Problem}
use Rattle.sequence_grids.specs.declared.kinds.Kinds.{Kinds}
use Rattle.sequence_grids.specs.declared.alphabet.Alphabet.{Alphabet}
use Rattle.sequence_grids.specs.Places.{IsAlphabet}
use Rattle.place_records.specs.declared.blocks.Span.{Span}
use Rattle.place_records.specs.declared.blocks.Piece.{Piece}
use Rattle.place_records.specs.Filled.{AreKnown}
use Rattle.place_records.specs.Twins.{twin_sets}
use Rattle.place_records.specs.Blocks.{IsBlock}
use Rattle.place_records.specs.Spans.{AreSpans, AreBlocks, IsReady}

pub AreSpans-forward : (from : ℕ) (spans : List Span) (to : ℕ) → AreSpans from spans to → from ≤ to
AreSpans-forward from [] to are = omega (arith, are)
AreSpans-forward from (span ∷ spans) to (same, order, rest) = let on = AreSpans-forward span.to spans to rest in omega (arith, order, on)

pub AreSpans-more : (from mid : ℕ) (spans : List Span) (to : ℕ) → AreSpans from spans mid → mid ≤ to → AreSpans from (spans ++ (record { from = mid; to = to }) ∷ []) to
AreSpans-more from mid [] to are order = (sym are, omega (arith, are, order), refl)
AreSpans-more from mid (span ∷ spans) to (same, forward, rest) order = (same, forward, AreSpans-more span.to mid spans to rest order)

module _ (width : ℕ) (problem : Problem) (bound : Bound) (alphabet : Alphabet) (width_is : width ≤ 17) (room : length problem.transducer.labels < 64 * width)
    (alphabet_is : IsAlphabet problem bound alphabet.tables alphabet.kinds) where
  each_ready : (from : ℕ) (spans : List Span) (to : ℕ) → AreSpans from spans to → to ≤ length problem.sequences → AllByRecursion (IsReady width problem bound alphabet) spans
  each_ready from [] to are most = tt
  each_ready from (span ∷ spans) to (same, order, rest) most =
      let on = AreSpans-forward span.to spans to rest in (
        record { width_is = width_is; room = room; alphabet_is = alphabet_is; order = omega (arith, same, order); most = omega (arith, on, most) },
        each_ready span.to spans to rest most,
      )

  pub AreSpans-ready : (from : ℕ) (spans : List Span) (to : ℕ) → AreSpans from spans to → to ≤ length problem.sequences → All (IsReady width problem bound alphabet) spans
  AreSpans-ready from spans to are most = All-from_recursion (IsReady width problem bound alphabet) spans (each_ready from spans to are most)

module _ {W : ℕ} (problem : Problem) (bound : Bound) (kinds : Kinds) where
  abbrev pub IsOf : Span → Piece W → Type 0
  IsOf span block = IsBlock problem bound kinds span.from span.to (map (twin_sets {W = W}) block.twins.items) block.sequences.items block.places

  -- each of the blocks names what has a number
  each_known : (from : ℕ) (blocks : List (Piece W)) (to : ℕ) → AreBlocks {W = W} problem bound kinds from blocks to
      → AllByRecursion (λ (block : Piece W). AreKnown (map (twin_sets {W = W}) block.twins.items) block.places) blocks
  each_known from [] to are = tt
  each_known from (block ∷ blocks) to (mid, order, is, rest) = (is.filled.known, each_known mid blocks to rest)

  pub AreBlocks-known : (from : ℕ) (blocks : List (Piece W)) (to : ℕ) → AreBlocks {W = W} problem bound kinds from blocks to
      → All (λ (block : Piece W). AreKnown (map (twin_sets {W = W}) block.twins.items) block.places) blocks
  AreBlocks-known from blocks to are = All-from_recursion (λ (block : Piece W). AreKnown (map (twin_sets {W = W}) block.twins.items) block.places) blocks (each_known from blocks to are)

  of_spans : (spans : List Span) (blocks : List (Piece W)) (from to : ℕ) → AreSpans from spans to
      → AllZip (λ (span : Span) (answer : Result (Piece W) NoMemory). IfOk answer (IsOf span)) spans (map Ok blocks) → AreBlocks {W = W} problem bound kinds from blocks to
  of_spans [] [] from to spans zip = spans
  of_spans [] (block ∷ blocks) from to spans zip = absurd zip
  of_spans (span ∷ spans) [] from to are zip = absurd zip
  of_spans (span ∷ spans) (block ∷ blocks) from to (same, order, rest) zip =
      (span.to, order, subst (λ (n : ℕ). IsBlock problem bound kinds n span.to (map (twin_sets {W = W}) block.twins.items) block.sequences.items block.places) same zip.0, of_spans spans blocks span.to to rest zip.1)

  -- where each answer is the block of its span, those that were collected follow one another
  pub of_answers : (spans : List Span) (answers : List (Result (Piece W) NoMemory)) (collected : Result (Vec (Piece W)) NoMemory)
      → AllZip (λ (span : Span) (answer : Result (Piece W) NoMemory). IfOk answer (IsOf span)) spans answers
      → MatchResult collected (λ v. (parts : List (Piece W)) × (answers ≡ map Ok parts) × (v.items ≡ parts)) (λ e. Contains answers (Err e))
      → IfOk collected (λ blocks. (from to : ℕ) → AreSpans from spans to → AreBlocks {W = W} problem bound kinds from blocks.items to)
  of_answers spans answers (Err e) zip from = tt
  of_answers spans answers (Ok v) zip (parts, same, is) = λ from to are.
      rw is (of_spans spans parts from to are (subst (AllZip (λ (span : Span) (answer : Result (Piece W) NoMemory). IfOk answer (IsOf span)) spans) same zip))
