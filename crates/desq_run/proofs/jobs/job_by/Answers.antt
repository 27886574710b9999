use Rattle.std.proofs.Common.{◌≤◌, map, sym, subst}
use Rattle.mine_model.specs.Limits.{most_leaves}
use Rattle.mine_model.specs.Numbered.{tree_of}
use Rattle.patex_parser.specs.Parsing.{use_view}
use Rattle.desq_run.proofs.LeafCountLemmas.{resolved_leaves}
use Rattle.desq_run.proofs.jobs.job_by.Goals as goal

pub job_of-requires-clause-leaves : goal.job_of-requires-clause-leaves
job_of-requires-clause-leaves g c = λ _ _.
    subst (λ n. n ≤ most_leaves)
    (sym (resolved_leaves c.args.names.now (map use_view c.args.parsed.now.uses.items) (tree_of c.in_ok-expression.expression)
    (tree_of c.args.parsed.now.tree) c.in_ok-expression.ensures.names))
    c.requires.leaves
