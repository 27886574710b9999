use Rattle.structure_tests.specs.Trees.{small_tree}
use Rattle.structure_tests.proofs.schedules.told.Given as goal

abbrev pub ghost-run_schedule : goal.ghost-run_schedule
ghost-run_schedule a = small_tree
