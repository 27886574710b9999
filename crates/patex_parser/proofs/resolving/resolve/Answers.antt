use Rattle.std.proofs.Common.{map}
use Rattle.mine_model.specs.Numbered.{tree_of}
use Rattle.patex_parser.specs.Parsing.{use_view}
use Rattle.patex_parser.proofs.ResolveLemmas.{resolved-names, resolved-held, all-known}
use Rattle.patex_parser.proofs.resolving.resolve.Goals as goal

pub returns-clause-names : goal.returns-clause-names
returns-clause-names g c =
    resolved-names (g.N.FindName.names_of c.args.names.now) (map use_view c.args.parsed.now.uses.items) c.in_ok-items.items.items (tree_of c.args.parsed.now.tree) (tree_of c.in_ok-tree_with.field-0)
    (rw c.as_slice.ensures.value at c.in_ok-items.ensures.ok) c.requires (rw c.as_slice-2.ensures.value at c.in_ok-tree_with.ensures)

pub returns-clause-held : goal.returns-clause-held
returns-clause-held g c =
    resolved-held (g.N.FindName.names_of c.args.names.now) (map use_view c.args.parsed.now.uses.items) c.in_ok-items.items.items (tree_of c.args.parsed.now.tree) (tree_of c.in_ok-tree_with.field-0)
    (rw c.as_slice.ensures.value at c.in_ok-items.ensures.ok) c.requires (rw c.as_slice-2.ensures.value at c.in_ok-tree_with.ensures)

pub returns-clause-known : goal.returns-clause-known
returns-clause-known g c =
    all-known (g.N.FindName.names_of c.args.names.now) (map use_view c.args.parsed.now.uses.items) c.in_ok-items.items.items (rw c.as_slice.ensures.value at c.in_ok-items.ensures.ok)
