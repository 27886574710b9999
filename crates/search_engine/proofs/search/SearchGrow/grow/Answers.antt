use Rattle.std.proofs.Common.{map}
use Rattle.dfs_growth.specs.Nodes.{label_at}
use Rattle.search_engine.proofs.SearchLemmas.{row-walked, kids-walked}
use Rattle.search_engine.proofs.search.SearchGrow.grow.Goals as goal

pub returns-clause-answer : goal.returns-clause-answer
returns-clause-answer c = row-walked c.args.self.now.problem c.job-job.ensures.whole c.args.node c.requires.own c.in_ok-grown.grown.row c.in_ok-grown.ensures.row

pub returns-clause-kids : goal.returns-clause-kids
returns-clause-kids c = kids-walked c.args.self.now.problem c.job-job.ensures.whole c.args.node c.requires.own (map label_at c.in_ok-grown.grown.kids.items) c.in_ok-grown.ensures.kids
