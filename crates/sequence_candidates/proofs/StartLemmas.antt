-- The places where sequences begin, one after another.
use Rattle.std.proofs.Common.{◌≡◌, ℕ, ◌+◌, inl, inr, Some, List, [], ◌∷◌, ◌++◌, length, refl, sym, ap, ◌∙◌, arith}
use Rattle.std.proofs.lemmas.Bool.{cases_lt}
use Rattle.std.proofs.lemmas.List.{length-append}
use Rattle.mine_model.proofs.ElementLemmas.{get-left, stands_last}
use Rattle.sequence_grids.specs.Grids.{GridList}
use Rattle.place_records.specs.Records.{start_of}
use Rattle.sequence_candidates.specs.Terrains.{AreStartsTo}

pub starts-none : (part : GridList) → AreStartsTo part 0 []
starts-none part = record { long = refl; each = λ index inside. absurd (omega (arith, inside)) }

pub starts-more : (part : GridList) (count place : ℕ) (starts : List ℕ) → AreStartsTo part count starts → place ≡ start_of part count
    → AreStartsTo part (count + 1) (starts ++ place ∷ [])
starts-more part count place starts are is = record {
  long = let long : length (starts ++ place ∷ []) ≡ length starts + 1 = length-append starts (place ∷ []) in omega (arith, long, are.long);
  each = λ index inside. elim (cases_lt index count) [
    | inl before ↦ get-left starts (place ∷ []) index (start_of part index) (are.each index before)
    | inr last ↦
        let here : index ≡ count = omega (arith, inside, last) in
        stands_last starts place index (here ∙ sym are.long) ∙ ap (λ (n : ℕ). Some n) (is ∙ ap (start_of part) (sym here))
  ];
}
