-- What was read of a piece by known names and names of its own becomes a part of all.
use Rattle.std.proofs.Common.{◌≡◌, ℕ, zero, suc, ◌+◌, ◌≤◌, ◌<◌, Bool, List, [], ◌∷◌, ◌++◌, map, length, take, drop, get_or, inl, inr, refl, sym, ap, ◌∙◌, subst, arith, append_assoc, length-append}
use Rattle.std.specs.List.{All, AllByRecursion, AllZip, Contains, flat_map, slice_index_or}
use Rattle.std.proofs.Math.Seq.{take-append_seam}
use Rattle.std.proofs.lemmas.List.{map-append, append-nil, length-map, get_or-map, take_more, take-append-drop, get_or_append_left, get_or-append-add, get_or_push}
use Rattle.std.proofs.lemmas.List.Concat.{flat_map-append}
use Rattle.std.proofs.Math.Nat.{eq-or-lt_of_le}
use Rattle.std.proofs.lemmas.List.Elements.{Contains-get_or, Contains-append_left, Contains-append_right, Contains-append_cases}
use Rattle.mine_model.specs.declared.item.Item.{Item}
use Rattle.mine_model.specs.Limits.{most_sequences, most_items}
use Rattle.mine_model.specs.Text.{fields_of}
use Rattle.mine_model.specs.Support.{Sequence}
use Rattle.mine_model.specs.Names.{name_of, HasName, sequence_by, GrowBy}
use Rattle.mine_model.specs.Refusal.{sequence_of}
use Rattle.mine_model.proofs.ListLemmas.{of_both, AllByRecursion-contained}
use Rattle.mine_model.proofs.NameLemmas.{GrowBy-more}
use Rattle.item_names.specs.Fields.{AreItemsOf}
use Rattle.text_ports.specs.Scanning.{lines_behind}
use Rattle.sequence_reader.specs.declared.reading.Reading.{Reading}
use Rattle.sequence_reader.specs.declared.joining.Waiting.{Waiting}
use Rattle.sequence_reader.specs.Taking.{IsGoodLine, behind, IsTaken, numbers_below, renumbered, sequences_waiting, all_waiting, with_waiting}
use Rattle.sequence_reader.proofs.TakingLemmas.{items_of-append, counted, sequences-grown, named-grown}

-- what behind known names are all that others bring, are all that they bring to names with the known ones
GrowBy-same : (known old own others new : List (List ℕ)) → ((name : List ℕ) → Contains known name → Contains old name) → GrowBy old own new → GrowBy known others (known ++ own) → GrowBy old others new
GrowBy-same known old own others new held grown same = record {
  added = grown.added;
  behind = grown.behind;
  exact = λ name. (λ inside. forth name ((grown.exact name).0 inside), λ inside. (grown.exact name).1 (back name inside));
}
  where
    forth : (name : List ℕ) → Contains (old ++ own) name → Contains (old ++ others) name
    forth name inside = elim (Contains-append_cases old own name inside) [
      | inl here ↦ Contains-append_left old others name here
      | inr there ↦ elim (Contains-append_cases known others name ((same.exact name).0 (Contains-append_right known own name there))) [
        | inl before ↦ Contains-append_left old others name (held name before)
        | inr met ↦ Contains-append_right old others name met
      ]
    ]

    back : (name : List ℕ) → Contains (old ++ others) name → Contains (old ++ own) name
    back name inside = elim (Contains-append_cases old others name inside) [
      | inl here ↦ Contains-append_left old own name here
      | inr there ↦ elim (Contains-append_cases known own name ((same.exact name).1 (Contains-append_right known others name there))) [
        | inl before ↦ Contains-append_left old own name (held name before)
        | inr met ↦ Contains-append_right old own name met
      ]
    ]

-- Numbers of names

-- items of texts, and those of more texts behind them
AreItemsOf-append : (names : List (List ℕ)) (items others : List Item) (texts more : List (List ℕ)) → AreItemsOf names items texts → AreItemsOf names others more → AreItemsOf names (items ++ others) (texts ++ more)
AreItemsOf-append names items others texts more are later = record {
  named = of_both (HasName names) items others are.named later.named;
  said = map-append (name_of names) items others ∙ (λ j. are.said j ++ later.said j);
}

pub numbers_below-length : (n : ℕ) → length (numbers_below n) ≡ n
numbers_below-length zero = refl
numbers_below-length (suc n) =
    let below = numbers_below-length n in
    let more = length-append (numbers_below n) ((record { 0 = n }) ∷ []) in
    omega (arith, below, more)

-- the first names have the first numbers
AreItemsOf-below : (names : List (List ℕ)) (n : ℕ) → n ≤ length names → AreItemsOf names (numbers_below n) (take n names)
AreItemsOf-below names zero within = record { named = tt; said = refl }
AreItemsOf-below names (suc n) within =
    let below = AreItemsOf-below names n (omega (arith, within)) in
    let last : AreItemsOf names ((record { 0 = n }) ∷ []) (get_or names n [] ∷ []) = record { named = (within, tt); said = refl } in
    let one : n + 1 ≡ suc n = omega arith in
    subst (λ k. AreItemsOf names (numbers_below (suc n)) (take k names)) one
    (subst (AreItemsOf names (numbers_below (suc n))) (sym (take_more names n [] within))
    (AreItemsOf-append names (numbers_below n) ((record { 0 = n }) ∷ []) (take n names) (get_or names n [] ∷ []) below last))

-- known names keep their numbers, and those of others stand behind them
pub AreItemsOf-behind : (known own added new : List (List ℕ)) (numbers : List Item) → new ≡ known ++ added → AreItemsOf new numbers own
    → AreItemsOf new (numbers_below (length known) ++ numbers) (known ++ own)
AreItemsOf-behind known own added new numbers is are =
    let size : length known ≤ length new = let whole = ap length is in let both = length-append known added in omega (arith, whole, both) in
    let front : take (length known) new ≡ known = ap (take (length known)) is ∙ take-append_seam known added in
    AreItemsOf-append new (numbers_below (length known)) numbers known own
    (subst (AreItemsOf new (numbers_below (length known))) front (AreItemsOf-below new (length known) size)) are

-- The number that an item gets

numbers_below-get : (n i : ℕ) (d : Item) → i < n → get_or (numbers_below n) i d ≡ record { 0 = i }
numbers_below-get zero i d within = absurd (omega (arith, within))
numbers_below-get (suc n) i d within = elim (eq-or-lt_of_le {n = i} {m = n} (omega (arith, within))) [
  | inl same ↦ get_or_push (numbers_below n) (record { 0 = n }) d i (numbers_below-length n ∙ sym same) ∙ ap (λ (k : ℕ). record { 0 = k }) (sym same)
  | inr before ↦ get_or_append_left (numbers_below n) ((record { 0 = n }) ∷ []) d i (let size = numbers_below-length n in omega (arith, before, size)) ∙ numbers_below-get n i d before
]

pub number-known : (known : ℕ) (own : List Item) (item : Item) → item.0 < known → renumbered (numbers_below known ++ own) item ≡ item
number-known known own item within =
    get_or_append_left (numbers_below known) own _ item.0 (let size = numbers_below-length known in omega (arith, within, size)) ∙ numbers_below-get known item.0 _ within

pub numbers-known : (known : ℕ) (own sequence : List Item) → All (λ item. item.0 < known) sequence → map (renumbered (numbers_below known ++ own)) sequence ≡ sequence
numbers-known known own [] all = refl
numbers-known known own (item ∷ sequence) all =
    (λ j. number-known known own item (all 0 item (omega arith)) j ∷ numbers-known known own sequence (λ k d within. all (suc k) d (omega (arith, within))) j)

pub number-own : (known : ℕ) (own : List Item) (item : Item) (i : ℕ) → item.0 ≡ known + i → renumbered (numbers_below known ++ own) item ≡ slice_index_or own i (record { 0 = 0 })
number-own known own item i is =
    ap (λ k. slice_index_or (numbers_below known ++ own) k first) (is ∙ ap (λ n. n + i) (sym (numbers_below-length known))) ∙ get_or-append-add (numbers_below known) own i first
  where
    first : Item
    first = record { 0 = 0 }

-- Items whose new numbers have the names of the old ones

module _ (names own : List (List ℕ)) (numbers : List Item) (are : AreItemsOf names numbers own) where
  pub as_many : length numbers ≡ length own
  as_many = sym (length-map numbers (name_of names)) ∙ ap length are.said

  item-named : (item : Item) → HasName own item → HasName names (renumbered numbers item)
  item-named item has =
      AllByRecursion-contained (HasName names) numbers (renumbered numbers item) are.named (Contains-get_or numbers item.0 _ (let size = as_many in omega (arith, has, size)))

  item-said : (item : Item) → HasName own item → name_of names (renumbered numbers item) ≡ name_of own item
  item-said item has =
      sym (get_or-map (name_of names) numbers item.0 _ [] (let size = as_many in omega (arith, has, size))) ∙ ap (λ (w : List (List ℕ)). get_or w item.0 []) are.said

  items-named : (items : List Item) → AllByRecursion (HasName own) items → AllByRecursion (HasName names) (map (renumbered numbers) items)
  items-named [] named = tt
  items-named (item ∷ items) named = (item-named item named.0, items-named items named.1)

  items-said : (items : List Item) → AllByRecursion (HasName own) items → map (name_of names) (map (renumbered numbers) items) ≡ map (name_of own) items
  items-said [] named = refl
  items-said (item ∷ items) named =
      let first = item-said item named.0 in
      let others = items-said items named.1 in
      cc (first, others)

  sequences-named : (sequences : List (Sequence Item)) → AllByRecursion (λ sequence. AllByRecursion (HasName own) sequence.items) sequences
      → AllByRecursion (λ sequence. AllByRecursion (HasName names) sequence.items) (map (sequence_by (renumbered numbers)) sequences)
  sequences-named [] named = tt
  sequences-named (sequence ∷ sequences) named = (items-named sequence.items named.0, sequences-named sequences named.1)

  sequences-said : (sequences : List (Sequence Item)) → AllByRecursion (λ sequence. AllByRecursion (HasName own) sequence.items) sequences
      → map (sequence_by (name_of names)) (map (sequence_by (renumbered numbers)) sequences) ≡ map (sequence_by (name_of own)) sequences
  sequences-said [] named = refl
  sequences-said (sequence ∷ sequences) named =
      let first : sequence_by (name_of names) (sequence_by (renumbered numbers) sequence) ≡ sequence_by (name_of own) sequence =
      ap (λ (w : List (List ℕ)). record { items = w; weight = sequence.weight }) (items-said sequence.items named.0) in
      let others = sequences-said sequences named.1 in
      cc (first, others)

-- the sequences of a piece, renumbered, behind those before it
pub IsTaken-joined : (names known : List (List ℕ)) (weighted : Bool) (earlier lines : List (List ℕ)) (all piece new : Reading) (numbers : List Item)
    → ((name : List ℕ) → Contains known name → Contains all.names name)
    → IsTaken names weighted earlier all → IsTaken known weighted lines (behind known piece) → AreItemsOf new.names numbers (known ++ piece.names) → GrowBy all.names piece.names new.names
    → length new.names ≤ most_items → new.db ≡ all.db ++ map (sequence_by (renumbered numbers)) piece.db → new.weighted ≡ all.weighted
    → length all.db + length piece.db ≤ most_sequences → IsTaken names weighted (earlier ++ lines) new
IsTaken-joined names known weighted earlier lines all piece new numbers held taken own are grown room joined same few = record {
  same = same ∙ taken.same;
  good = of_both (IsGoodLine weighted) earlier lines taken.good own.good;
  few =
      let first = counted names weighted earlier all taken in
      let second = counted known weighted lines (behind known piece) own in
      let both = length-append earlier lines in
      omega (arith, first, second, both, few);
  grown =
      subst (λ items. GrowBy names items new.names) (sym (items_of-append weighted earlier lines))
      (GrowBy-more names _ all.names _ new.names taken.grown (GrowBy-same known all.names piece.names _ new.names held grown own.grown));
  room = room;
  named =
      subst (AllByRecursion (λ (sequence : Sequence Item). AllByRecursion (HasName new.names) sequence.items)) (sym joined)
      (of_both (λ (sequence : Sequence Item). AllByRecursion (HasName new.names) sequence.items) all.db (map (sequence_by (renumbered numbers)) piece.db)
      (named-grown all.names _ new.names all.db grown taken.named) (sequences-named new.names (known ++ piece.names) numbers are piece.db own.named));
  said =
      ap (map (sequence_by (name_of new.names))) joined
      ∙ map-append (sequence_by (name_of new.names)) all.db (map (sequence_by (renumbered numbers)) piece.db)
      ∙ (λ j. (sequences-grown all.names _ new.names all.db grown taken.named ∙ taken.said) j ++ (sequences-said new.names (known ++ piece.names) numbers are piece.db own.named ∙ own.said) j)
      ∙ sym (map-append (λ line. sequence_of weighted (fields_of line)) earlier lines);
}

-- the same where they wait
pub waiting-joined : (names old added : List (List ℕ)) (weighted : Bool) (earlier lines : List (List ℕ)) (all new piece : Reading) (before : List Waiting) (last : Waiting)
    → all.names ≡ old ++ added → IsTaken names weighted earlier (with_waiting all before) → IsTaken old weighted lines (behind old piece)
    → last.known ≡ length old → last.db ≡ piece.db → AreItemsOf new.names last.own.items piece.names → GrowBy all.names piece.names new.names
    → length new.names ≤ most_items → new.db ≡ all.db → new.weighted ≡ all.weighted → length all.db + length (all_waiting before) + length piece.db ≤ most_sequences
    → IsTaken names weighted (earlier ++ lines) (with_waiting new (before ++ last ∷ []))
waiting-joined names old added weighted earlier lines all new piece before last is taken own known db are grown room same_db same few =
    IsTaken-joined names old weighted earlier lines (with_waiting all before) piece (with_waiting new (before ++ last ∷ [])) (numbers_below last.known ++ last.own.items)
    (λ name inside. subst (λ (w : List (List ℕ)). Contains w name) (sym is) (Contains-append_left old added name inside))
    taken own
    (subst (λ n. AreItemsOf new.names (numbers_below n ++ last.own.items) (old ++ piece.names)) (sym known)
    (AreItemsOf-behind old piece.names (added ++ grown.added) new.names last.own.items (grown.behind ∙ ap (λ w. w ++ grown.added) is ∙ append_assoc old added grown.added) are))
    grown room
    (ap (λ w. w ++ all_waiting (before ++ last ∷ [])) same_db ∙ ap (λ w. all.db ++ w) (flat_map-append sequences_waiting before (last ∷ []) ∙ ap (λ w. all_waiting before ++ w) (append-nil (sequences_waiting last)))
    ∙ sym (append_assoc all.db (all_waiting before) (sequences_waiting last)) ∙ ap (λ (w : List (Sequence Item)). (all.db ++ all_waiting before) ++ map (sequence_by (renumbered (numbers_below last.known ++ last.own.items))) w) db)
    same
    (let both = length-append all.db (all_waiting before) in omega (arith, both, few))

-- those that wait up to a place
pub waiting-more : (pieces : List Waiting) (i : ℕ) (piece : Waiting) → i < length pieces → get_or pieces i piece ≡ piece → all_waiting (take (i + 1) pieces) ≡ all_waiting (take i pieces) ++ sequences_waiting piece
waiting-more pieces i piece within is =
    ap all_waiting (take_more pieces i piece within ∙ ap (λ w. take i pieces ++ w ∷ []) is)
    ∙ flat_map-append sequences_waiting (take i pieces) (piece ∷ []) ∙ ap (λ w. all_waiting (take i pieces) ++ w) (append-nil (sequences_waiting piece))

pub waiting-room : (pieces : List Waiting) (i : ℕ) (piece : Waiting) → i < length pieces → get_or pieces i piece ≡ piece
    → length (all_waiting (take i pieces)) + length piece.db ≤ length (all_waiting pieces)
waiting-room pieces i piece within is =
    let more = ap length (waiting-more pieces i piece within is) in
    let both = length-append (all_waiting (take i pieces)) (sequences_waiting piece) in
    let own = length-map piece.db (sequence_by (renumbered (numbers_below piece.known ++ piece.own.items))) in
    let whole = ap length (ap all_waiting (sym (take-append-drop (i + 1) pieces)) ∙ flat_map-append sequences_waiting (take (i + 1) pieces) (drop (i + 1) pieces)) in
    let parts = length-append (all_waiting (take (i + 1) pieces)) (all_waiting (drop (i + 1) pieces)) in
    omega (arith, more, both, own, whole, parts)

-- Pieces, one after another

-- the last of two lists that go together
AllZip-last : {X Y : Type 0} (R : X → Y → Type 0) (xs : List X) (ys : List Y) (y : Y) → AllZip R xs (ys ++ y ∷ [])
    → (front : List X) × (x : X) × (xs ≡ front ++ x ∷ []) × AllZip R front ys × R x y
AllZip-last R [] [] y zip = absurd zip
AllZip-last R (x ∷ []) [] y zip = ([], x, refl, tt, zip.0)
AllZip-last R (x ∷ z ∷ xs) [] y zip = absurd zip.1
AllZip-last R [] (w ∷ ys) y zip = absurd zip
AllZip-last R (x ∷ xs) (w ∷ ys) y zip =
    let (front, last, is, others, own) = AllZip-last R xs ys y zip.1 in
    (x ∷ front, last, ap (λ l. x ∷ l) is, (zip.0, others), own)

pub AllZip-more : {X Y : Type 0} (R : X → Y → Type 0) (xs : List X) (ys : List Y) (x : X) (y : Y) → AllZip R xs ys → R x y → AllZip R (xs ++ x ∷ []) (ys ++ y ∷ [])
AllZip-more R [] [] x y zip own = (own, tt)
AllZip-more R [] (w ∷ ys) x y zip own = absurd zip
AllZip-more R (z ∷ xs) [] x y zip own = absurd zip
AllZip-more R (z ∷ xs) (w ∷ ys) x y zip own = (zip.0, AllZip-more R xs ys x y zip.1 own)

pub pieces-none : (names old : List (List ℕ)) (weighted : Bool) (earlier : List (List ℕ)) (v : Reading) → IsTaken names weighted earlier v → (texts : List (List ℕ))
    → AllZip (λ text reading. IsTaken old weighted (lines_behind text) (behind old reading)) texts [] → IsTaken names weighted (earlier ++ flat_map lines_behind texts) v
pieces-none names old weighted earlier v start [] zip = subst (λ l. IsTaken names weighted l v) (sym (append-nil earlier)) start
pieces-none names old weighted earlier v start (text ∷ texts) zip = absurd zip

pub pieces-more : (names old : List (List ℕ)) (weighted : Bool) (earlier : List (List ℕ)) (seen : List Reading) (v piece w : Reading)
    → ((texts : List (List ℕ)) → AllZip (λ text reading. IsTaken old weighted (lines_behind text) (behind old reading)) texts seen → IsTaken names weighted (earlier ++ flat_map lines_behind texts) v)
    → ((before lines : List (List ℕ)) → IsTaken names weighted before v → IsTaken old weighted lines (behind old piece) → IsTaken names weighted (before ++ lines) w)
    → (texts : List (List ℕ)) → AllZip (λ text reading. IsTaken old weighted (lines_behind text) (behind old reading)) texts (seen ++ piece ∷ []) → IsTaken names weighted (earlier ++ flat_map lines_behind texts) w
pieces-more names old weighted earlier seen v piece w so_far step texts zip =
    let (front, text, is, others, own) = AllZip-last (λ (text : List ℕ) (reading : Reading). IsTaken old weighted (lines_behind text) (behind old reading)) texts seen piece zip in
    let whole : flat_map lines_behind texts ≡ flat_map lines_behind front ++ lines_behind text =
    ap (flat_map lines_behind) is ∙ flat_map-append lines_behind front (text ∷ []) ∙ ap (λ w. flat_map lines_behind front ++ w) (append-nil (lines_behind text)) in
    subst (λ lines. IsTaken names weighted lines w) (append_assoc earlier (flat_map lines_behind front) (lines_behind text) ∙ ap (λ l. earlier ++ l) (sym whole))
    (step (earlier ++ flat_map lines_behind front) (lines_behind text) (so_far front others) own)

-- pieces by their bytes
pub pieces-bytes : {X : Type 0} (bytes : X → List ℕ) (R : List ℕ → Reading → Type 0) (pieces : List X) (readings : List Reading) → AllZip (λ piece reading. R (bytes piece) reading) pieces readings
    → AllZip R (map bytes pieces) readings
pieces-bytes bytes R [] [] zip = tt
pieces-bytes bytes R [] (reading ∷ readings) zip = absurd zip
pieces-bytes bytes R (piece ∷ pieces) [] zip = absurd zip
pieces-bytes bytes R (piece ∷ pieces) (reading ∷ readings) zip = (zip.0, pieces-bytes bytes R pieces readings zip.1)

pub lines-bytes : {X : Type 0} (bytes : X → List ℕ) (pieces : List X) → flat_map lines_behind (map bytes pieces) ≡ flat_map (λ piece. lines_behind (bytes piece)) pieces
lines-bytes bytes [] = refl
lines-bytes bytes (piece ∷ pieces) = ap (λ w. lines_behind (bytes piece) ++ w) (lines-bytes bytes pieces)
