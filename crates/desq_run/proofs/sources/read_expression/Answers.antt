use Rattle.std.proofs.Common.{map}
use Rattle.mine_model.specs.Numbered.{tree_of}
use Rattle.patex_parser.specs.Parsing.{use_view}
use Rattle.desq_run.proofs.LeafCountLemmas.{parsed_leaves}
use Rattle.desq_run.proofs.sources.read_expression.Goals as goal

pub returns-clause-leaves : goal.returns-clause-leaves
returns-clause-leaves c =
    parsed_leaves c.args.text.now (map use_view c.in_ok-parse.field-0.uses.items) (tree_of c.in_ok-parse.field-0.tree)
    c.in_ok-parse.ensures.parsed.reads c.in_ok-parse.ensures.accepted
