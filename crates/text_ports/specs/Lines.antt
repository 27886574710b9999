-- What a reader of lines gives to its visitor.
use Rattle.std.specs.Prelude.{◌≡◌, ℕ, ◌+◌, ◌≤◌, List, [], ◌∷◌, ◌++◌, map, length, slice_range, Option, IfSome, All}
use Rattle.mine_model.specs.Limits.{most_file_bytes}
use Rattle.mine_model.specs.Text.{Field, TextFault, IsFirstTextFault, IsSoundLine, placed_fields_of}
use Rattle.text_ports.specs.declared.lines.Span.{Span}

-- the field that a span cuts out of a text
abbrev pub field_at : List ℕ → Span → Field
field_at text span = record { column = span.from + 1; text = slice_range text span.from span.to }

-- a span within so many bytes
pub record IsWithin (count : ℕ) (span : Span) : Type 0 where
  pub rises : span.from ≤ span.to
  pub ends : span.to ≤ count

-- the spans cut the fields of the text out of it, in order
pub record AreFields (text : List ℕ) (spans : List Span) : Type 0 where
  pub within : All (IsWithin (length text)) spans
  pub fields : map (field_at text) spans ≡ placed_fields_of text

-- the bytes were read of a file, which holds no others where it tells them
pub record WereRead (told : Option (List ℕ)) (bytes : List ℕ) : Type 0 where
  pub same : IfSome told (λ held. bytes ≡ held)
  pub few : length bytes ≤ most_file_bytes

-- a visitor was given the lines, in order, the first with this number: a chain of one step for each
abbrev pub WasGiven : {V : Type 0} → (V → ℕ → List ℕ → V → Type 0) → ℕ → List (List ℕ) → V → V → Type 0
WasGiven took number [] before after = before ≡ after
WasGiven {V} took number (text ∷ lines) before after =
    (between : V) × took before number text between × WasGiven took (number + 1) lines between after

-- all lines are sound, and the visitor took each
pub record TookAll {V : Type 0} (took : V → ℕ → List ℕ → V → Type 0)
    (lines : List (List ℕ)) (before after : V) : Type 0 where
  pub sound : All IsSoundLine lines
  pub given : WasGiven took 1 lines before after

-- the visitor was given the lines before the first that is not sound, whose fault stands there
pub record StoppedAt {V : Type 0} (took : V → ℕ → List ℕ → V → Type 0)
    (lines : List (List ℕ)) (before after : V) (fault : TextFault) (line column : ℕ) : Type 0 where
  pub earlier : List (List ℕ)
  pub text : List ℕ
  pub later : List (List ℕ)
  pub cut : lines ≡ earlier ++ text ∷ later
  pub taken : TookAll took earlier before after
  pub number : line ≡ length earlier + 1
  pub stands : IsFirstTextFault text fault column

-- the visitor refused a sound line and took those before it
pub record Refused {V X : Type 0} (took : V → ℕ → List ℕ → V → Type 0)
    (refused : V → ℕ → List ℕ → X → V → Type 0) (lines : List (List ℕ)) (before after : V)
    (fault : X) : Type 0 where
  pub earlier : List (List ℕ)
  pub text : List ℕ
  pub later : List (List ℕ)
  pub cut : lines ≡ earlier ++ text ∷ later
  pub between : V
  pub taken : TookAll took earlier before between
  pub sound : IsSoundLine text
  pub answer : refused between (length earlier + 1) text fault after

-- something holds of the bytes that were read of a file
abbrev pub OfBytes : Option (List ℕ) → (List ℕ → Type 0) → Type 0
OfBytes told P = (bytes : List ℕ) × WereRead told bytes × P bytes
