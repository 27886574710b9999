use Rattle.std.proofs.Common.{All, sym, subst}
use Rattle.mining_job.specs.Parts.{IsComplete}
use Rattle.search_engine.specs.Searches.{AreComplete}
use Rattle.search_engine.proofs.search.roots_from.Goals as goal

pub roots-requires : goal.roots-requires
roots-requires c =
    let job = c.args.job.now in
    let complete : All (IsComplete job) c.in-Seeds.seeds.items = subst (AreComplete job) c.in-Seeds.is c.requires.complete in
    record { complete = c.in_ok-seeds-in-Seeds.ensures.complete job (subst (All (IsComplete job)) (sym c.as_slice.ensures.value) complete) }
