-- Lemmas on bytes that are read into a buffer.
use Rattle.std.proofs.Common.{◌≡◌, ℕ, ◌+◌, ◌≤◌, ◌<◌, ◌↔◌, List, [], ◌++◌, length, take, drop, Option, Some, None, IfSome, refl, sym, ap, ◌∙◌, arith, append_assoc, length-append}
use Rattle.std.proofs.Math.Seq.{take-append-add}
use Rattle.std.proofs.lemmas.Option.{same_Some}
use Rattle.std.proofs.lemmas.List.{take-append-drop, take-append-le, length-take-le, append-nil}
use Rattle.mine_model.specs.Limits.{most_file_bytes}
use Rattle.sequence_reader.specs.declared.block.Block.{Block}
use Rattle.sequence_reader.specs.Blocks.{bytes_of, WereAdded, WereCounted}

-- bytes behind the first ones of a buffer
pub bytes-behind : (buffer piece tail : List ℕ) (filled n : ℕ) → filled ≤ length buffer → n ≤ length piece
    → take (filled + n) (take filled buffer ++ (piece ++ tail)) ≡ take filled buffer ++ take n piece
bytes-behind buffer piece tail filled n within fits =
    ap (λ k. take (k + n) (take filled buffer ++ (piece ++ tail))) (sym (length-take-le filled buffer within))
    ∙ take-append-add (take filled buffer) (piece ++ tail) n
    ∙ ap (λ w. take filled buffer ++ w) (take-append-le n piece tail fits)

pub added-some : (left after : Option (List ℕ)) (old new piece : List ℕ) (from to n : ℕ) → IfSome left (λ bytes. take n piece ≡ take n bytes)
    → IfSome left (λ bytes. after ≡ Some (drop n bytes)) → IfSome left (λ bytes. n ≤ length bytes)
    → new ≡ old ++ take n piece → to ≡ from + n
    → IfSome left (λ rest. (more later : List ℕ) × (rest ≡ more ++ later) × (after ≡ Some later) × (new ≡ old ++ more) × (to ≡ from + length more))
added-some None after old new piece from to n next rest within bytes total = tt
added-some (Some whole) after old new piece from to n next rest within bytes total = (
  take n whole,
  drop n whole,
  sym (take-append-drop n whole),
  rest,
  bytes ∙ ap (λ w. old ++ w) next,
  total ∙ ap (λ k. from + k) (sym (length-take-le n whole within)),
)

pub WereAdded-none : (left : Option (List ℕ)) (block : Block) → WereAdded left left block block
WereAdded-none None block = tt
WereAdded-none (Some whole) block = ([], whole, refl, refl, sym (append-nil (bytes_of block)), omega arith)

-- the same bytes and count in other blocks
pub WereAdded-same : (left after : Option (List ℕ)) (before block other : Block) → bytes_of other ≡ bytes_of block → other.total ≡ block.total → WereAdded left after before block → WereAdded left after before other
WereAdded-same None after before block other bytes total added = tt
WereAdded-same (Some whole) after before block other bytes total (more, later, cut, stays, grown, counted) = (more, later, cut, stays, bytes ∙ grown, total ∙ counted)

pub WereAdded-more : (left between after : Option (List ℕ)) (before middle from block : Block) → bytes_of from ≡ bytes_of middle → from.total ≡ middle.total
    → WereAdded left between before middle → WereAdded between after from block → WereAdded left after before block
WereAdded-more None between after before middle from block bytes total first second = tt
WereAdded-more (Some whole) between after before middle from block bytes total (more, later, cut, stays, grown, counted) second =
    let (others, rest, cut-2, stays-2, grown-2, counted-2) = rw stays at second in (
      more ++ others,
      rest,
      cut ∙ ap (λ w. more ++ w) cut-2 ∙ sym (append_assoc more others rest),
      stays-2,
      grown-2 ∙ ap (λ w. w ++ others) (bytes ∙ grown) ∙ append_assoc (bytes_of before) more others,
      (let both = length-append more others in omega (arith, both, counted, counted-2, total)),
    )

-- Counted bytes

pub WereCounted-none : (left : Option (List ℕ)) (n : ℕ) → WereCounted left left n n
WereCounted-none None n = tt
WereCounted-none (Some rest) n = (rest, refl, refl)

pub WereCounted-more : (left between after : Option (List ℕ)) (n : ℕ) (from block : Block) → WereCounted left between n from.total → WereAdded between after from block → WereCounted left after n block.total
WereCounted-more None between after n from block first second = tt
WereCounted-more (Some whole) between after n from block (later, stays, counted) second =
    let (more, rest, cut, stays-2, grown, counted-2) = rw stays at second in
    let all = ap length cut in
    let both = length-append more rest in
    (rest, stays-2, omega (arith, all, both, counted, counted-2))

pub WereCounted-large : (left between : Option (List ℕ)) (n total : ℕ) → WereCounted left between n total → IfSome between (λ rest. most_file_bytes < total + length rest)
    → IfSome left (λ rest. most_file_bytes < n + length rest)
WereCounted-large None between n total counted large = tt
WereCounted-large (Some whole) between n total (later, stays, counted) large =
    let over : 67108864 < total + length later = rw stays at large in omega (arith, over, counted)

pub WereCounted-few : (left after : Option (List ℕ)) (n total : ℕ) → WereCounted left after n total → IfSome left (λ rest. after ≡ Some []) → total ≤ most_file_bytes
    → IfSome left (λ rest. n + length rest ≤ most_file_bytes)
WereCounted-few None after n total counted none few = tt
WereCounted-few (Some whole) after n total (later, stays, counted) none few =
    let zero : length later ≡ 0 = ap length (same_Some later [] (sym stays ∙ none)) in
    omega (arith, zero, counted, few)

-- At the end

pub end-of-read : (left after : Option (List ℕ)) (n : ℕ) → n ≡ 0 → IfSome left (λ bytes. (n ≡ 0) ↔ (bytes ≡ [])) → IfSome left (λ bytes. after ≡ Some (drop n bytes)) → IfSome left (λ rest. after ≡ Some [])
end-of-read None after n zero end rest = tt
end-of-read (Some whole) after n zero end rest = rest ∙ ap Some (ap (λ k. drop k whole) zero ∙ end.0 zero)
