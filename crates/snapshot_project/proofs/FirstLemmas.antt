-- The place of the first item of each sequence of a part.
use Rattle.std.proofs.Common.{◌≡◌, ℕ, ◌+◌, ◌≤◌, ◌<◌, inl, inr, List, [], ◌∷◌, ◌++◌, length, get_or, refl, sym, ap, ◌∙◌, subst, arith}
use Rattle.std.specs.List.{slice_index}
use Rattle.std.proofs.lemmas.Bool.{cases_lt}
use Rattle.std.proofs.lemmas.List.{length-append, get_or_append_left}
use Rattle.sequence_grids.specs.Grids.{GridList, items_at}
use Rattle.place_records.specs.Records.{start_of}

-- of the first so many sequences
pub record AreFirsts (part : GridList) (count : ℕ) (starts : List ℕ) : Type 0 where
  pub same : length starts ≡ count
  pub each : (grid : ℕ) → grid < count → slice_index starts grid ≡ start_of part grid
  pub short : (grid : ℕ) → grid < count → length (items_at part grid) ≤ 65535

pub firsts-none : (part : GridList) → AreFirsts part 0 []
firsts-none part = record {
  same = refl;
  each = λ grid less. absurd (omega (arith, less));
  short = λ grid less. absurd (omega (arith, less));
}

-- and of one more
pub firsts-more : (part : GridList) (count : ℕ) (starts : List ℕ) → AreFirsts part count starts → length (items_at part count) ≤ 65535
    → AreFirsts part (count + 1) (starts ++ start_of part count ∷ [])
firsts-more part count starts are short = record {
  same = (let same = are.same in omega (arith, length-append starts (start_of part count ∷ [])));
  each = λ grid less. elim (cases_lt grid count) [
    | inl before ↦
        let same = are.same in
        let inside : grid < length starts = omega arith in
        get_or_append_left starts (start_of part count ∷ []) 0 grid inside ∙ are.each grid before
    | inr not ↦
        let same = are.same in
        let last : grid ≡ length starts = omega arith in
        let is : grid ≡ count = omega arith in
        ap (λ (k : ℕ). get_or (starts ++ start_of part count ∷ []) k 0) last ∙ (at-end starts (start_of part count) ∙ ap (start_of part) (sym is))
  ];
  short = λ grid less. elim (cases_lt grid count) [
    | inl before ↦ are.short grid before
    | inr not ↦ let is : count ≡ grid = omega arith in subst (λ (k : ℕ). length (items_at part k) ≤ 65535) is short
  ];
}
  where
    at-end : (list : List ℕ) (x : ℕ) → get_or (list ++ x ∷ []) (length list) 0 ≡ x
    at-end [] x = refl
    at-end (y ∷ list) x = at-end list x
