-- The machine's values as those of the machine that the grammar's laws are about.
use Rattle.std.specs.Prelude.{Option, Some, None, List, map, reverse}
use Rattle.mine_model.specs.declared.item.Item.{Item}
use Rattle.mine_model.specs.declared.expression.Expr.{Expr}
use Rattle.mine_model.specs.Expression.{Tree}
use Rattle.mine_model.specs.Numbered.{leaf_of, tree_of}
use Rattle.patex_grammar.specs.Machine as machine
use Rattle.patex_parser.specs.declared.token.Bracket.{Bracket}
use Rattle.patex_parser.specs.declared.token.Bracket.TheVariants.{Round, Square}
use Rattle.patex_parser.specs.declared.token.Mark.{Mark}
use Rattle.patex_parser.specs.declared.token.Mark.TheVariants.{Name, Caret, Equals, Dot, Bang, Bar, Opening, Closing, Postfix}
use Rattle.patex_parser.specs.declared.machine.Last.{Last}
use Rattle.patex_parser.specs.declared.machine.Last.TheVariants.{Nothing, Excluding, Extendable, Closed}
use Rattle.patex_parser.specs.declared.machine.Frame.{Frame}
use Rattle.patex_parser.specs.declared.machine.Machine.{Machine}

abbrev pub tree_if : Option Expr → Option (Tree Item)
tree_if None = None
tree_if (Some e) = Some (tree_of e)

abbrev pub tree_if_if : Option (Option Expr) → Option (Option (Tree Item))
tree_if_if None = None
tree_if_if (Some e) = Some (tree_if e)

abbrev pub last_of : Last → machine.Last Item
last_of Nothing = machine.nothing
last_of Excluding = machine.excluding
last_of (Extendable l) = machine.extendable (leaf_of l)
last_of (Closed e) = machine.closed (tree_of e)

abbrev pub last_if : Option Last → Option (machine.Last Item)
last_if None = None
last_if (Some l) = Some (last_of l)

abbrev pub bracket_of : Bracket → machine.Bracket
bracket_of Round = machine.round
bracket_of Square = machine.square

abbrev pub frame_of : Frame → machine.Frame Item
frame_of f = machine.frame (bracket_of f.bracket) (tree_if f.choice) (tree_if f.row)

-- the frames, the last pushed first
abbrev pub frames_of : List Frame → List (machine.Frame Item)
frames_of frames = reverse (map frame_of frames)

abbrev pub state_of : Machine → machine.State Item
state_of m = machine.state (frames_of m.stack.items) (tree_if m.choice) (tree_if m.row) (last_of m.last)

abbrev pub state_if : Option Machine → Option (machine.State Item)
state_if None = None
state_if (Some m) = Some (state_of m)

abbrev pub mark_of : Mark → machine.Mark Item
mark_of (Name item) = machine.name_of item
mark_of Caret = machine.caret
mark_of Equals = machine.equals
mark_of Dot = machine.dot
mark_of Bang = machine.bang
mark_of Bar = machine.bar
mark_of (Opening b) = machine.opening (bracket_of b)
mark_of (Closing b) = machine.closing (bracket_of b)
mark_of (Postfix least most) = machine.postfix least most
