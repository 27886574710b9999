use Rattle.node_pool.proofs.Kept.{first_ground}
use Rattle.node_pool.proofs.setup.open.Given as goal

abbrev pub ghost-all_ways : goal.ghost-all_ways
ghost-all_ways g a = first_ground a.owners.now.items

abbrev pub ghost-seated : goal.ghost-seated
ghost-seated g a = first_ground a.owners.items
