use Rattle.std.proofs.Common.{◌≡◌, ℕ, List, map, sym, subst, rules}
use Rattle.std.specs.List.{AllZip}
use Rattle.std.proofs.lemmas.Result.{IfOk-weaker}
use Rattle.sequence_grids.specs.Grids.{GridList}
use Rattle.stand_sums.specs.declared.next_rank.NextRank.{NextRank}
use Rattle.snapshot_project.specs.Longer.{kept_of, AreKept, IsKeptOf}
use Rattle.snapshot_project.proofs.FormLemmas.{zip-kept}
use Rattle.snapshot_project.proofs.PackedLemmas.{has-starts}
use Rattle.snapshot_project.proofs.waiting.longer_from.Goals as goal

pub packed_in-requires-clause-starts : goal.packed_in-requires-clause-starts
packed_in-requires-clause-starts c = has-starts c.args.part.now c.starts-starts.result.now c.starts-starts.ensures.starts (search rules)

pub returns-else-packs : goal.returns-else-packs
returns-else-packs c =
    let part : GridList = c.args.part.now in
    let found : List NextRank = c.args.found.now in
    IfOk-weaker c.longer_in.result (λ longer. longer.items ≡ map (kept_of c.args.aim c.args.run.stands) found)
    (λ longer. (least : ℕ) (ranks : List ℕ) → AreKept part c.args.aim least ranks c.args.run.stands found → AllZip (IsKeptOf part least ranks) found longer.items)
    (λ longer is least ranks kept. subst (AllZip (IsKeptOf part least ranks) found) (sym is) (zip-kept part c.args.aim least ranks c.args.run.stands found kept))
    c.longer_in.ensures
