-- The sum of supports and the greatest length, row by row.
use Rattle.std.proofs.Common.{◌≡◌, ℕ, zero, suc, ◌+◌, ◌<◌, max, List, [], ◌∷◌, map, length, take, ap, ◌∙◌, arith}
use Rattle.std.specs.List.{slice_index_or}
use Rattle.std.proofs.lemmas.List.{length-map}
use Rattle.mine_model.specs.declared.row.Row.{Row}
use Rattle.mine_model.specs.Names.{name_of, named_row}
use Rattle.made_input.specs.Summary.{supports_of, longest_of}

supports_more : (names : List (List ℕ)) (rows : List Row) (k : ℕ) (d : Row) → k < length rows
    → supports_of (map (named_row names) (take (suc k) rows)) ≡ supports_of (map (named_row names) (take k rows)) + (slice_index_or rows k d).support
supports_more names [] k d less = absurd (omega (arith, less))
supports_more names (row ∷ rows) zero d less = omega arith
supports_more names (row ∷ rows) (suc k) d less =
    let rest = supports_more names rows k d (omega (arith, less)) in omega (arith, rest)

pub supports-next : (names : List (List ℕ)) (rows : List Row) (k : ℕ) (d : Row) → k < length rows
    → supports_of (map (named_row names) (take (k + 1) rows)) ≡ supports_of (map (named_row names) (take k rows)) + (slice_index_or rows k d).support
supports-next names rows k d less =
    let one : k + 1 ≡ suc k = omega arith in
    ap (λ n. supports_of (map (named_row names) (take n rows))) one ∙ supports_more names rows k d less

max_turned : (a b c : ℕ) → max a (max b c) ≡ max (max a b) c
max_turned a b c = grind arith

longest_more : (names : List (List ℕ)) (rows : List Row) (k : ℕ) (d : Row) → k < length rows
    → longest_of (map (named_row names) (take (suc k) rows)) ≡ max (longest_of (map (named_row names) (take k rows))) (length (slice_index_or rows k d).pattern)
longest_more names [] k d less = absurd (omega (arith, less))
longest_more names (row ∷ rows) zero d less =
    let same = length-map row.pattern (name_of names) in
    let first : max (length row.pattern) 0 ≡ max 0 (length row.pattern) = grind arith in
    ap (λ n. max n 0) same ∙ first
longest_more names (row ∷ rows) (suc k) d less =
    let own : List (List ℕ) = map (name_of names) row.pattern in
    ap (max (length own)) (longest_more names rows k d (omega (arith, less)))
    ∙ max_turned (length own) (longest_of (map (named_row names) (take k rows))) (length (slice_index_or rows k d).pattern)

pub longest-next : (names : List (List ℕ)) (rows : List Row) (k : ℕ) (d : Row) → k < length rows
    → longest_of (map (named_row names) (take (k + 1) rows)) ≡ max (longest_of (map (named_row names) (take k rows))) (length (slice_index_or rows k d).pattern)
longest-next names rows k d less =
    let one : k + 1 ≡ suc k = omega arith in
    ap (λ n. longest_of (map (named_row names) (take n rows))) one ∙ longest_more names rows k d less
