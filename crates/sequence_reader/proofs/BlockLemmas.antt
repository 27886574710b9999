-- Lemmas on the blocks of a file.
use Rattle.std.proofs.Common.{◌≡◌, ℕ, ◌+◌, ◌≤◌, ◌&&◌, Bool, true, false, if◌then◌else◌, List, [], ◌∷◌, ◌++◌, length, take, drop, Option, Some, None, IsTrue, IfSome, refl, sym, ap, ◌∙◌, subst, arith, append_assoc, length-append, length-drop}
use Rattle.std.specs.Prelude.{nat_eq}
use Rattle.std.proofs.lemmas.Option.{same_Some}
use Rattle.std.proofs.lemmas.List.{append-nil, take-append-drop, take-append-le, length-take-le, drop-take}
use Rattle.mine_model.specs.Bytes.{line_feed}
use Rattle.mine_model.specs.Limits.{most_file_bytes}
use Rattle.mine_model.specs.Text.{without_mark, lines_of}
use Rattle.text_ports.specs.Scanning.{lines_behind}
use Rattle.sequence_reader.specs.declared.block.Block.{Block}
use Rattle.sequence_reader.specs.Blocks.{bytes_of, whole_lines, rest_of, text_of, EndsWithFeed, IsBlock, IsNext, WereAdded, IsAt}
use Rattle.sequence_reader.proofs.CuttingLemmas.{lines_behind-append}

-- A mark stands in the first line.

no : (t : Bool) (x y : List ℕ) → (if t && false then x else y) ≡ y
no true x y = refl
no false x y = refl

neither : (t u : Bool) (x y : List ℕ) → (if t && (u && false) then x else y) ≡ y
neither true true x y = refl
neither true false x y = refl
neither false u x y = refl

either : (t : Bool) (x y rest : List ℕ) → (if t then x ++ rest else y ++ rest) ≡ (if t then x else y) ++ rest
either true x y rest = refl
either false x y rest = refl

unmarked-append : (front rest : List ℕ) → without_mark ((front ++ line_feed ∷ []) ++ rest) ≡ without_mark (front ++ line_feed ∷ []) ++ rest
unmarked-append [] rest = refl
unmarked-append (a ∷ []) rest =
    no (nat_eq 239 a) (drop 3 (a ∷ line_feed ∷ rest)) (a ∷ line_feed ∷ rest)
    ∙ sym (ap (λ w. w ++ rest) (no (nat_eq 239 a) (drop 3 (a ∷ line_feed ∷ [])) (a ∷ line_feed ∷ [])))
unmarked-append (a ∷ b ∷ []) rest =
    neither (nat_eq 239 a) (nat_eq 187 b) (drop 3 (a ∷ b ∷ line_feed ∷ rest)) (a ∷ b ∷ line_feed ∷ rest)
    ∙ sym (ap (λ w. w ++ rest) (neither (nat_eq 239 a) (nat_eq 187 b) (drop 3 (a ∷ b ∷ line_feed ∷ [])) (a ∷ b ∷ line_feed ∷ [])))
unmarked-append (a ∷ b ∷ c ∷ front) rest = either _ (front ++ line_feed ∷ []) (a ∷ b ∷ c ∷ (front ++ line_feed ∷ [])) rest

ends-either : (t : Bool) (front whole : List ℕ) → EndsWithFeed (if t then front ++ line_feed ∷ [] else whole ++ line_feed ∷ [])
ends-either true front whole = (front, refl)
ends-either false front whole = (whole, refl)

ends-unmarked : (front : List ℕ) → EndsWithFeed (without_mark (front ++ line_feed ∷ []))
ends-unmarked [] = ([], refl)
ends-unmarked (a ∷ []) = (a ∷ [], no (nat_eq 239 a) (drop 3 (a ∷ line_feed ∷ [])) (a ∷ line_feed ∷ []))
ends-unmarked (a ∷ b ∷ []) = (a ∷ b ∷ [], neither (nat_eq 239 a) (nat_eq 187 b) (drop 3 (a ∷ b ∷ line_feed ∷ [])) (a ∷ b ∷ line_feed ∷ []))
ends-unmarked (a ∷ b ∷ c ∷ front) = ends-either _ front (a ∷ b ∷ c ∷ front)

-- the lines of bytes with a line feed at their end, and of others behind
lines-append : (bytes rest : List ℕ) → EndsWithFeed bytes → lines_behind (bytes ++ rest) ≡ lines_behind bytes ++ lines_behind rest
lines-append bytes rest (front, is) =
    ap (λ w. lines_behind (w ++ rest)) is ∙ lines_behind-append front rest ∙ ap (λ w. lines_behind w ++ lines_behind rest) (sym is)

file-append : (bytes rest : List ℕ) → EndsWithFeed bytes → lines_of (bytes ++ rest) ≡ lines_behind (without_mark bytes) ++ lines_behind rest
file-append bytes rest (front, is) =
    ap lines_behind (ap (λ w. without_mark (w ++ rest)) is ∙ unmarked-append front rest ∙ ap (λ w. without_mark w ++ rest) (sym is))
    ∙ lines-append (without_mark bytes) rest (subst (λ w. EndsWithFeed (without_mark w)) (sym is) (ends-unmarked front))

-- Blocks

take-nested : (n m : ℕ) (xs : List ℕ) → n ≤ m → m ≤ length xs → take n (take m xs) ≡ take n xs
take-nested n m xs less within =
    sym (take-append-le n (take m xs) (drop m xs) (let size = length-take-le m xs within in omega (arith, size, less))) ∙ ap (take n) (take-append-drop m xs)

-- the bytes of a block are its lines and what stands behind them
bytes-cut : (block : Block) → IsBlock block → bytes_of block ≡ whole_lines block ++ rest_of block
bytes-cut block is =
    sym (take-append-drop block.lines (bytes_of block))
    ∙ ap (λ w. w ++ rest_of block) (take-nested block.lines block.filled block.buffer.items is.lines is.filled)

-- the last block has no byte behind its lines
pub rest-last : (block : Block) → IsBlock block → IsTrue block.is_last → rest_of block ≡ []
rest-last block is last =
    ap (λ k. drop k (bytes_of block)) (is.whole last) ∙ ap (λ k. drop block.filled (take k block.buffer.items)) (plus_none block.filled) ∙ drop-take block.filled 0 block.buffer.items
  where
    plus_none : (n : ℕ) → n ≡ n + 0
    plus_none n = omega arith

rest-length : (block : Block) → IsBlock block → length (rest_of block) + block.lines ≡ block.filled
rest-length block is =
    let bytes = length-take-le block.filled block.buffer.items is.filled in
    let rest = length-drop block.lines (bytes_of block) in
    let less = is.lines in
    omega (arith, bytes, rest, less)

-- a block that takes its bytes over and reads behind them
pub IsNext-read : (before from block : Block) → IsBlock before → IsBlock block → from.filled ≡ length (rest_of before) → from.total ≡ before.total
    → block.total + from.filled ≡ from.total + block.filled → IsNext before block
IsNext-read before from block was is filled total place = record {
  is = is;
  place = let rest = rest-length before was in omega (arith, rest, filled, total, place);
}

-- the first lines of a file
start-lines : (block : Block) → IsBlock block → block.is_first ≡ true → (rest : List ℕ) → (t : Bool) → block.is_last ≡ t → (IsTrue t → rest ≡ [])
    → lines_of (bytes_of block ++ rest) ≡ lines_behind (text_of block) ++ lines_behind (rest_of block ++ rest)
start-lines block is first rest false e ended =
    ap (λ w. lines_of (w ++ rest)) (bytes-cut block is)
    ∙ ap lines_of (append_assoc (whole_lines block) (rest_of block) rest)
    ∙ file-append (whole_lines block) (rest_of block ++ rest) (is.ends e)
    ∙ ap (λ t. lines_behind (if t then without_mark (whole_lines block) else whole_lines block) ++ lines_behind (rest_of block ++ rest)) (sym first)
start-lines block is first rest true e ended =
    let none : rest_of block ≡ [] = rest-last block is e in
    ap (λ w. lines_of (w ++ rest)) (bytes-cut block is)
    ∙ ap lines_of (append_assoc (whole_lines block) (rest_of block) rest)
    ∙ ap (λ w. lines_of (whole_lines block ++ w)) (ap (λ w. w ++ rest) none ∙ ended refl)
    ∙ ap lines_of (append-nil (whole_lines block))
    ∙ ap (λ t. lines_behind (if t then without_mark (whole_lines block) else whole_lines block)) (sym first)
    ∙ sym (append-nil (lines_behind (text_of block)))
    ∙ ap (λ w. lines_behind (text_of block) ++ lines_behind w) (sym (ap (λ w. w ++ rest) none ∙ ended refl))

-- lines that are no first ones
more-lines : (block : Block) → IsBlock block → block.is_first ≡ false → (rest : List ℕ) → (t : Bool) → block.is_last ≡ t → (IsTrue t → rest ≡ [])
    → lines_behind (bytes_of block ++ rest) ≡ lines_behind (text_of block) ++ lines_behind (rest_of block ++ rest)
more-lines block is first rest false e ended =
    ap (λ w. lines_behind (w ++ rest)) (bytes-cut block is)
    ∙ ap lines_behind (append_assoc (whole_lines block) (rest_of block) rest)
    ∙ lines-append (whole_lines block) (rest_of block ++ rest) (is.ends e)
    ∙ ap (λ t. lines_behind (if t then without_mark (whole_lines block) else whole_lines block) ++ lines_behind (rest_of block ++ rest)) (sym first)
more-lines block is first rest true e ended =
    let none : rest_of block ≡ [] = rest-last block is e in
    ap (λ w. lines_behind (w ++ rest)) (bytes-cut block is)
    ∙ ap lines_behind (append_assoc (whole_lines block) (rest_of block) rest)
    ∙ ap (λ w. lines_behind (whole_lines block ++ w)) (ap (λ w. w ++ rest) none ∙ ended refl)
    ∙ ap lines_behind (append-nil (whole_lines block))
    ∙ ap (λ t. lines_behind (if t then without_mark (whole_lines block) else whole_lines block)) (sym first)
    ∙ sym (append-nil (lines_behind (text_of block)))
    ∙ ap (λ w. lines_behind (text_of block) ++ lines_behind w) (sym (ap (λ w. w ++ rest) none ∙ ended refl))

-- Where a block stands in its file

pub IsAt-start : (left after : Option (List ℕ)) (before block : Block) → bytes_of before ≡ [] → before.total ≡ 0 → IsBlock block → block.is_first ≡ true
    → WereAdded left after before block → (IsTrue block.is_last → IfSome left (λ rest. after ≡ Some [])) → IsAt left after [] block
IsAt-start None after before block none zero is first added ended = tt
IsAt-start (Some whole) after before block none zero is first (more, later, cut, stays, bytes, total) ended =
    let last : IsTrue block.is_last → later ≡ [] = λ t. same_Some later [] (sym stays ∙ ended t) in
    let all : whole ≡ bytes_of block ++ later = cut ∙ ap (λ w. w ++ later) (sym (bytes ∙ ap (λ w. w ++ more) none)) in (
      later,
      stays,
      last,
      ap lines_of all ∙ start-lines block is first later block.is_last refl last,
      (let size = ap length cut in let both = length-append more later in omega (arith, size, both, total, zero)),
    )

pub IsAt-behind : (told left after : Option (List ℕ)) (lines : List (List ℕ)) (before between block : Block) → IsBlock before → IsBlock block → before.is_last ≡ false → block.is_first ≡ false
    → bytes_of between ≡ rest_of before → between.total ≡ before.total
    → WereAdded left after between block → (IsTrue block.is_last → IfSome left (λ rest. after ≡ Some [])) → IsAt told left lines before
    → IsAt told after (lines ++ lines_behind (text_of before)) block
IsAt-behind None left after lines before between block was is more_left first bytes total added ended at = tt
IsAt-behind (Some whole) left after lines before between block was is more_left first bytes total added ended (rest, stays, last, said, size) =
    let (more, later, cut, leaves, grown, counted) = rw stays at added in
    let ends : IsTrue block.is_last → later ≡ [] = λ t. same_Some later [] (sym leaves ∙ (rw stays at (ended t))) in
    let all : rest_of before ++ rest ≡ bytes_of block ++ later =
    ap (λ w. rest_of before ++ w) cut ∙ sym (append_assoc (rest_of before) more later) ∙ ap (λ w. w ++ later) (sym (grown ∙ ap (λ w. w ++ more) bytes)) in (
      later,
      leaves,
      ends,
      said ∙ ap (λ w. (lines ++ lines_behind (text_of before)) ++ w) (ap lines_behind all ∙ more-lines block is first later block.is_last refl ends)
          ∙ sym (append_assoc (lines ++ lines_behind (text_of before)) (lines_behind (text_of block)) (lines_behind (rest_of block ++ later))),
      (let all = ap length cut in let both = length-append more later in omega (arith, all, both, counted, total, size)),
    )

-- behind the last block there is nothing
pub IsAt-end : (told left : Option (List ℕ)) (lines : List (List ℕ)) (before block : Block) → IsBlock before → IsTrue before.is_last → block.is_first ≡ false
    → bytes_of block ≡ rest_of before → block.lines ≡ 0 → block.total ≡ before.total → IsAt told left lines before
    → IsAt told left (lines ++ lines_behind (text_of before)) block
IsAt-end None left lines before block was ended first bytes none total at = tt
IsAt-end (Some whole) left lines before block was ended first bytes none total (rest, stays, last, said, size) =
    let empty : rest_of before ≡ [] = rest-last before was ended in
    let behind : rest_of block ≡ [] = ap (λ n. drop n (bytes_of block)) none ∙ bytes ∙ empty in
    let text : text_of block ≡ [] = (rw (first, none) refl) in (
      rest,
      stays,
      (λ t. last ended),
      said ∙ ap (λ w. (lines ++ lines_behind (text_of before)) ++ lines_behind (w ++ rest)) (empty ∙ sym behind)
          ∙ sym (append_assoc (lines ++ lines_behind (text_of before)) [] (lines_behind (rest_of block ++ rest)))
          ∙ ap (λ w. ((lines ++ lines_behind (text_of before)) ++ lines_behind w) ++ lines_behind (rest_of block ++ rest)) (sym text),
      (omega (arith, size, total)),
    )

-- How many bytes the file has

-- the lines up to the end of the last block are those of the file
pub whole-file : (told left : Option (List ℕ)) (lines : List (List ℕ)) (block : Block) → IsBlock block → IsTrue block.is_last → IsAt told left lines block
    → IfSome told (λ whole. (lines_of whole ≡ lines ++ lines_behind (text_of block)) × (length whole ≤ most_file_bytes))
whole-file None left lines block is ended at = tt
whole-file (Some whole) left lines block is ended (rest, stays, last, said, size) =
    let none : rest_of block ++ rest ≡ [] = ap (λ w. w ++ rest) (rest-last block is ended) ∙ last ended in
    let zero = ap length (last ended) in
    let few = is.few in
    (said ∙ ap (λ w. (lines ++ lines_behind (text_of block)) ++ lines_behind w) none ∙ append-nil (lines ++ lines_behind (text_of block)), omega (arith, few, size, zero))
