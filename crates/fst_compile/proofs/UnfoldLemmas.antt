-- The shape of a tree makes what the tree generates.
use Rattle.std.proofs.Common.{◌≡◌, ℕ, zero, suc, ◌*◌, ◌≤◌, max, inl, inr, Bool, true, List, [], ◌∷◌, ◌++◌, length, refl, ap, ◌∙◌, Option, Some, None, arith}
use Rattle.std.specs.List.{AllByRecursion, flat_map}
use Rattle.mine_model.specs.declared.item.Item.{Item}
use Rattle.mine_model.specs.Hierarchy.{Link}
use Rattle.mine_model.specs.Expression.{Tree, leaf, cat, alt, rep, cap, unfolded_leaves}
use Rattle.mine_model.specs.Generation.{Turn, Generates, IsAtMost}
use Rattle.fst_compile.specs.Shape.{Shape, both, up_to, between, at_least, repeated, unfold_tree, InTurns, Makes}
use Rattle.fst_compile.specs.Positions.{size}

pub all-map : {X : Type 0} (P Q : X → Type 0) → ((x : X) → P x → Q x) → (xs : List X) → AllByRecursion P xs → AllByRecursion Q xs
all-map P Q each [] all = tt
all-map P Q each (x ∷ xs) all = (each x all.0, all-map P Q each xs all.1)

pub inputs : List (Turn Item) → List Item
inputs turns = flat_map (λ t. t.input) turns

module _ (links : List (Link Item)) (shape : Shape) where
  abbrev Made : List Item → List Item → Type 0
  Made input output = Makes links shape input output

  -- the turns of a repetition
  abbrev pub InRepeat : ℕ → Option ℕ → List Item → List Item → Type 0
  InRepeat least most input output =
      (turns : List (Turn Item)) × (least ≤ length turns) × IsAtMost (length turns) most × InTurns Made turns input output

  -- one turn before others
  turn-before : (input output i1 i2 o1 o2 : List Item) (turns : List (Turn Item)) → input ≡ i1 ++ i2 → output ≡ o1 ++ o2
      → Made i1 o1 → InTurns Made turns i2 o2 → InTurns Made (record { input = i1; output = o1 } ∷ turns) input output
  turn-before input output i1 i2 o1 o2 turns cut joined first others =
      (cut ∙ ap (λ x. i1 ++ x) others.0, joined ∙ ap (λ x. o1 ++ x) others.1, (first, others.2))

  -- the first turn, and then a shape that makes what the others are
  turn-first : (rest : Shape) (turn : Turn Item) (turns : List (Turn Item)) (input output : List Item) → InTurns Made (turn ∷ turns) input output
      → (InTurns Made turns (flat_map (λ t. t.input) turns) (flat_map (λ t. t.output) turns)
      → Makes links rest (flat_map (λ t. t.input) turns) (flat_map (λ t. t.output) turns))
      → Makes links (both shape rest) input output
  turn-first rest turn turns input output in_turns others =
      (turn.input, flat_map (λ t. t.input) turns, turn.output, flat_map (λ t. t.output) turns, in_turns.0, in_turns.1, in_turns.2.0, others (refl, refl, in_turns.2.1))

  up_to-sound : (m : ℕ) (input output : List Item) → Makes links (up_to m shape) input output → InRepeat 0 (Some m) input output
  up_to-sound zero input output made = ([], omega arith, omega arith, (made.0, made.1, tt))
  up_to-sound (suc m) input output (inl made) = ([], omega arith, omega arith, (made.0, made.1, tt))
  up_to-sound (suc m) input output (inr (i1, i2, o1, o2, cut, joined, first, second)) =
      let (turns, enough, few, in_turns) = up_to-sound m i2 o2 second in
      let turn : Turn Item = record { input = i1; output = o1 } in
      (turn ∷ turns, omega arith, omega arith, turn-before input output i1 i2 o1 o2 turns cut joined first in_turns)

  between-sound : (n m : ℕ) (input output : List Item) → Makes links (between n m shape) input output → InRepeat n (Some m) input output
  between-sound zero m input output made = up_to-sound m input output made
  between-sound (suc n) zero input output made = absurd made
  between-sound (suc n) (suc m) input output (i1, i2, o1, o2, cut, joined, first, second) =
      let (turns, enough, few, in_turns) = between-sound n m i2 o2 second in
      let turn : Turn Item = record { input = i1; output = o1 } in
      (turn ∷ turns, omega arith, omega arith, turn-before input output i1 i2 o1 o2 turns cut joined first in_turns)

  at_least-sound : (n : ℕ) (input output : List Item) → Makes links (at_least n shape) input output → InRepeat n None input output
  at_least-sound zero input output (inl none) = ([], omega arith, tt, (none.0, none.1, tt))
  at_least-sound zero input output (inr (turns, some, in_turns)) = (turns, omega arith, tt, in_turns)
  at_least-sound (suc zero) input output (turns, some, in_turns) = (turns, some, tt, in_turns)
  at_least-sound (suc (suc n)) input output (i1, i2, o1, o2, cut, joined, first, second) =
      let (turns, enough, few, in_turns) = at_least-sound (suc n) i2 o2 second in
      let turn : Turn Item = record { input = i1; output = o1 } in
      (turn ∷ turns, omega arith, tt, turn-before input output i1 i2 o1 o2 turns cut joined first in_turns)

  pub repeated-sound : (least : ℕ) (most : Option ℕ) (input output : List Item)
      → Makes links (repeated shape least most) input output → InRepeat least most input output
  repeated-sound least (Some most) input output made = between-sound least most input output made
  repeated-sound least None input output made = at_least-sound least input output made

  up_to-complete : (m : ℕ) (turns : List (Turn Item)) (input output : List Item) → length turns ≤ m → InTurns Made turns input output
      → Makes links (up_to m shape) input output
  up_to-complete zero [] input output few in_turns = (in_turns.0, in_turns.1)
  up_to-complete zero (turn ∷ turns) input output few in_turns = absurd (omega arith)
  up_to-complete (suc m) [] input output few in_turns = inl (in_turns.0, in_turns.1)
  up_to-complete (suc m) (turn ∷ turns) input output few in_turns =
      inr (turn-first (up_to m shape) turn turns input output in_turns (λ others. up_to-complete m turns _ _ (omega arith) others))

  between-complete : (n m : ℕ) (turns : List (Turn Item)) (input output : List Item) → n ≤ length turns → length turns ≤ m → InTurns Made turns input output
      → Makes links (between n m shape) input output
  between-complete zero m turns input output enough few in_turns = up_to-complete m turns input output few in_turns
  between-complete (suc n) zero turns input output enough few in_turns = absurd (omega arith)
  between-complete (suc n) (suc m) [] input output enough few in_turns = absurd (omega arith)
  between-complete (suc n) (suc m) (turn ∷ turns) input output enough few in_turns =
      turn-first (between n m shape) turn turns input output in_turns (λ others. between-complete n m turns _ _ (omega arith) (omega arith) others)

  at_least-complete : (n : ℕ) (turns : List (Turn Item)) (input output : List Item) → n ≤ length turns → InTurns Made turns input output
      → Makes links (at_least n shape) input output
  at_least-complete zero [] input output enough in_turns = inl (in_turns.0, in_turns.1)
  at_least-complete zero (turn ∷ turns) input output enough in_turns = inr (turn ∷ turns, omega arith, in_turns)
  at_least-complete (suc zero) turns input output enough in_turns = (turns, enough, in_turns)
  at_least-complete (suc (suc n)) [] input output enough in_turns = absurd (omega arith)
  at_least-complete (suc (suc n)) (turn ∷ turns) input output enough in_turns =
      turn-first (at_least (suc n) shape) turn turns input output in_turns (λ others. at_least-complete (suc n) turns _ _ (omega arith) others)

  pub repeated-complete : (least : ℕ) (most : Option ℕ) (input output : List Item)
      → InRepeat least most input output → Makes links (repeated shape least most) input output
  repeated-complete least (Some most) input output (turns, enough, few, in_turns) = between-complete least most turns input output enough few in_turns
  repeated-complete least None input output (turns, enough, few, in_turns) = at_least-complete least turns input output enough in_turns

module _ (links : List (Link Item)) where
  -- the shape makes only what the tree generates
  pub unfold-sound : (tree : Tree Item) (captured : Bool) (input output : List Item)
      → Makes links (unfold_tree tree captured) input output → Generates links tree captured input output
  unfold-sound (leaf l) captured input output made = made
  unfold-sound (cat left right) captured input output (i1, i2, o1, o2, cut, joined, first, second) =
      (i1, i2, o1, o2, cut, joined, unfold-sound left captured i1 o1 first, unfold-sound right captured i2 o2 second)
  unfold-sound (alt left right) captured input output (inl made) = inl (unfold-sound left captured input output made)
  unfold-sound (alt left right) captured input output (inr made) = inr (unfold-sound right captured input output made)
  unfold-sound (rep inner least most) captured input output made =
      let (turns, enough, few, in_turns) = repeated-sound links (unfold_tree inner captured) least most input output made in (
        turns,
        enough,
        few,
        in_turns.0,
        in_turns.1,
        all-map (λ t. Makes links (unfold_tree inner captured) t.input t.output) (λ t. Generates links inner captured t.input t.output)
            (λ t made. unfold-sound inner captured t.input t.output made) turns in_turns.2,
      )
  unfold-sound (cap inner) captured input output made = unfold-sound inner true input output made

  -- the shape makes all that the tree generates
  pub unfold-complete : (tree : Tree Item) (captured : Bool) (input output : List Item)
      → Generates links tree captured input output → Makes links (unfold_tree tree captured) input output
  unfold-complete (leaf l) captured input output made = made
  unfold-complete (cat left right) captured input output (i1, i2, o1, o2, cut, joined, first, second) =
      (i1, i2, o1, o2, cut, joined, unfold-complete left captured i1 o1 first, unfold-complete right captured i2 o2 second)
  unfold-complete (alt left right) captured input output (inl made) = inl (unfold-complete left captured input output made)
  unfold-complete (alt left right) captured input output (inr made) = inr (unfold-complete right captured input output made)
  unfold-complete (rep inner least most) captured input output (turns, enough, few, cut, joined, all) =
      repeated-complete links (unfold_tree inner captured) least most input output (
        turns,
        enough,
        few,
        (
          cut,
          joined,
          all-map (λ t. Generates links inner captured t.input t.output) (λ t. Makes links (unfold_tree inner captured) t.input t.output)
              (λ t made. unfold-complete inner captured t.input t.output made) turns all,
        ),
      )
  unfold-complete (cap inner) captured input output made = unfold-complete inner true input output made

-- the shape has as many leaves as the tree unfolded
size-up_to : (m : ℕ) (shape : Shape) → size (up_to m shape) ≡ m * size shape
size-up_to zero shape = omega arith
size-up_to (suc m) shape = let h : size (up_to m shape) ≡ m * size shape = size-up_to m shape in omega arith

size-between : (n m : ℕ) (shape : Shape) → size (between n m shape) ≡ m * size shape
size-between zero m shape = size-up_to m shape
size-between (suc n) zero shape = omega arith
size-between (suc n) (suc m) shape = let h : size (between n m shape) ≡ m * size shape = size-between n m shape in omega arith

size-at_least : (n : ℕ) (shape : Shape) → size (at_least n shape) ≡ max n 1 * size shape
size-at_least zero shape = omega arith
size-at_least (suc zero) shape = omega arith
size-at_least (suc (suc n)) shape =
    let h : size (at_least (suc n) shape) ≡ max (suc n) 1 * size shape = size-at_least (suc n) shape in
    let p : max (suc n) 1 ≡ suc n = omega arith in
    let q : max (suc (suc n)) 1 ≡ suc (suc n) = omega arith in
    let e : size (at_least (suc n) shape) ≡ suc n * size shape = h ∙ ap (λ x. x * size shape) p in
    rw q (omega arith)

pub size-unfold : (tree : Tree Item) (captured : Bool) → size (unfold_tree tree captured) ≡ unfolded_leaves tree
size-unfold (leaf l) captured = refl
size-unfold (cat left right) captured =
    let p : size (unfold_tree left captured) ≡ unfolded_leaves left = size-unfold left captured in
    let q : size (unfold_tree right captured) ≡ unfolded_leaves right = size-unfold right captured in omega arith
size-unfold (alt left right) captured =
    let p : size (unfold_tree left captured) ≡ unfolded_leaves left = size-unfold left captured in
    let q : size (unfold_tree right captured) ≡ unfolded_leaves right = size-unfold right captured in omega arith
size-unfold (rep inner least (Some most)) captured =
    size-between least most (unfold_tree inner captured) ∙ ap (λ x. most * x) (size-unfold inner captured)
size-unfold (rep inner least None) captured =
    size-at_least least (unfold_tree inner captured) ∙ ap (λ x. max least 1 * x) (size-unfold inner captured)
size-unfold (cap inner) captured = size-unfold inner true
