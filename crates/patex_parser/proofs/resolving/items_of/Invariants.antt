use Rattle.std.proofs.Common.{map, take}
use Rattle.patex_parser.specs.Parsing.{use_view}
use Rattle.patex_parser.specs.Resolving.{AreItemsOf}
use Rattle.patex_parser.proofs.resolving.items_of.Given as goal

abbrev pub invariant-loop-name_use : goal.invariant-loop-name_use
invariant-loop-name_use g l = AreItemsOf (g.N.FindName.names_of l.names) (map use_view (take l.name_use-index l.uses)) l.items.items
