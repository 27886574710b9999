use Rattle.std.proofs.Common.{suc}
use Rattle.search_tree.specs.Cover.{down_to}
use Rattle.search_tree.proofs.SearchTreeLemmas.{longest}
use Rattle.search_engine.specs.Searches.{tree_of}
use Rattle.search_engine.proofs.simulating.simulate.Given as goal

abbrev pub ghost-run_schedule : goal.ghost-run_schedule
ghost-run_schedule a = down_to (tree_of a.g.now).roots (tree_of a.g.now).kids (suc (suc (longest a.g.now.problem.sequences)))
