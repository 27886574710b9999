-- What the machine says of tokens that were read.
use Rattle.std.specs.Prelude.{◌≡◌, ℕ, ◌⊎◌, Option, Some, None, List, [], ◌∷◌, ◌++◌, map}
use Rattle.mine_model.specs.declared.item.Item.{Item}
use Rattle.patex_parser.specs.declared.patex_fault.PatexFault.{PatexFault}
use Rattle.patex_parser.specs.declared.patex_fault.PatexFault.TheVariants.{Unexpected, NoMemory}
use Rattle.mine_model.specs.Expression.{Tree}
use Rattle.patex_grammar.specs.Machine as machine
use Rattle.patex_grammar.specs.Machine.{State, state, next, run, initial, finished}
use Rattle.patex_parser.specs.declared.token.Mark.{Mark}
use Rattle.patex_parser.specs.declared.token.Kind.{Kind}
use Rattle.patex_parser.specs.declared.token.Kind.TheVariants.{Mark as AMark, BadRepeat, BeyondLimit}
use Rattle.patex_parser.specs.declared.token.ReadToken.{ReadToken}
use Rattle.patex_parser.specs.View.{mark_of}

-- the token is none that is refused
abbrev pub IsMarked : ReadToken → Type 0
IsMarked read = (mark : Mark) × (read.kind ≡ AMark mark)

-- the mark of a kind; the kinds that are refused have none, and stand for a bar
abbrev pub mark_of_kind : Kind → machine.Mark Item
mark_of_kind (AMark mark) = mark_of mark
mark_of_kind BadRepeat = machine.bar
mark_of_kind BeyondLimit = machine.bar

abbrev pub marks_of : List ReadToken → List (machine.Mark Item)
marks_of reads = map (λ read. mark_of_kind read.kind) reads

-- the state behind tokens
abbrev pub IsBehind : List ReadToken → State Item → Type 0
IsBehind reads s = run (Some initial) (marks_of reads) ≡ Some s

-- in this state an expression ends with this tree, or with none
abbrev pub IsEnd : State Item → Option (Tree Item) → Type 0
IsEnd (state [] choice row last) tree = tree ≡ finished choice row last
IsEnd (state (f ∷ stack) choice row last) tree = tree ≡ None

-- the tokens are read as the tree
abbrev pub IsReadWhole : List ReadToken → Tree Item → Type 0
IsReadWhole reads tree = (s : State Item) × IsBehind reads s × IsEnd s (Some tree)

-- the machine has no step at the first token with this column that it has none at
abbrev pub IsStuck : List ReadToken → ℕ → Type 0
IsStuck reads column =
    (before : List ReadToken) × (read : ReadToken) × (after : List ReadToken) × (s : State Item)
    × (reads ≡ before ++ read ∷ after) × (column ≡ read.column)
    × IsBehind before s × (next s (mark_of_kind read.kind) ≡ None)

-- the machine reads all tokens, and then no expression ends
abbrev pub IsUnfinished : List ReadToken → Type 0
IsUnfinished reads = (s : State Item) × IsBehind reads s × IsEnd s None

-- want of memory, or the first token that does not go on, or the end of the text
abbrev pub IsUnexpectedFault : List ReadToken → ℕ → PatexFault → Type 0
IsUnexpectedFault reads end fault =
    (fault ≡ NoMemory)
    ⊎ ((column : ℕ) × IsStuck reads column × (fault ≡ Unexpected column))
    ⊎ (IsUnfinished reads × (fault ≡ Unexpected end))
