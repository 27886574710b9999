use Rattle.node_pool.proofs.Kept.{first_ground}
use Rattle.node_pool.proofs.closing.finish.Given as goal

abbrev pub ghost-gather : goal.ghost-gather
ghost-gather g a = first_ground a.owners.now.items

abbrev pub ghost-remains : goal.ghost-remains
ghost-remains g a = first_ground a.owners.items
