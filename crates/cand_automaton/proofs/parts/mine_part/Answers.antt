use Rattle.std.proofs.Common.{ℕ, List, map, length, sum_by, sym, ap, subst, arith}
use Rattle.std.specs.List.{Contains}
use Rattle.std.proofs.lemmas.List.{length-map}
use Rattle.mine_model.specs.declared.row.Row.{Row}
use Rattle.mine_model.specs.Limits.{most_length}
use Rattle.mine_model.specs.Ranks.{Ranking}
use Rattle.mine_model.proofs.ListLemmas.{Contains-by}
use Rattle.mining_job.specs.Problems.{data_of}
use Rattle.mining_job.specs.Parts.{pivot_of}
use Rattle.automaton_model.specs.Searches.{Load}
use Rattle.group_search.specs.Found.{load_of, AreLoadedRows}
use Rattle.group_search.specs.Searched.{AreFinite}
use Rattle.cand_automaton.proofs.HeldLemmas.{held-sum}
use Rattle.cand_automaton.proofs.SeedLemmas.{seed-pivot}
use Rattle.cand_automaton.proofs.PartLemmas.{loads-rows, loads-sets, loads-finite}
use Rattle.cand_automaton.proofs.parts.mine_part.Goals as goal

pub load_part-requires-clause-empty : goal.load_part-requires-clause-empty
load_part-requires-clause-empty c = c.clear-2.ensures

pub rows_of-requires-clause-there : goal.rows_of-requires-clause-there
rows_of-requires-clause-there c = λ load held.
    let inside : Contains c.load_part.new.room.loads (load_of load) = subst (λ (l : List Load). Contains l (load_of load)) c.as_slice-loads.ensures (Contains-by load_of c.as_slice-loads.result.now load held) in
    (c.in_ok-load_part.ensures.loads.each (load_of load) inside).root.inside

pub rows_of-requires-clause-trim : goal.rows_of-requires-clause-trim
rows_of-requires-clause-trim c = c.registries_are_trim.ensures.trim c.load_part.new.room.registry c.in_ok-load_part.ensures.registry

pub rows_of-requires-clause-finite : goal.rows_of-requires-clause-finite
rows_of-requires-clause-finite c =
    let job = c.args.job.now in
    let seed = c.args.seed.now in
    let limits = rw c.db.ensures.sequences at c.sequences-sequences.ensures.limits in
    let states = c.load_part.new.room.registry in
    subst (λ (r : Ranking). AreFinite states (length r.order) most_length (map load_of c.as_slice-loads.result.now)) (sym c.ranks.ensures.ranking)
    (subst (AreFinite states (length job.ranking.order) most_length) (sym c.as_slice-loads.ensures)
    (loads-finite (data_of job) job.ranking.order (pivot_of seed.pivot) seed.sequences.items (seed-pivot job seed c.requires.complete) states c.in_ok-load_part.ensures.registry
    c.load_part.new.room.loads c.in_ok-load_part.ensures.loads limits))

pub rows_of-requires-clause-fits : goal.rows_of-requires-clause-fits
rows_of-requires-clause-fits c =
    omega (
      arith,
      c.in_ok-load_part.ensures.few,
      held-sum c.as_slice-loads.result.now,
      ap (λ (l : List Load). sum_by (λ (load : Load). load.weight) l) c.as_slice-loads.ensures,
    )

pub returns-clause-rows : goal.returns-clause-rows
returns-clause-rows c =
    let job = c.args.job.now in
    let seed = c.args.seed.now in
    let states = c.load_part.new.room.registry in
    let loads = c.load_part.new.room.loads in
    let rows : List Row = c.in_ok-rows.rows.items in
    let at_loads = subst (λ (l : List Load). AreLoadedRows c.ranks.result.now.order c.threshold.result states l rows) c.as_slice-loads.ensures c.in_ok-rows.ensures in
    let at_ranks = subst (λ (r : Ranking). AreLoadedRows r.order c.threshold.result states loads rows) c.ranks.ensures.ranking at_loads in
    let found = subst (λ (n : ℕ). AreLoadedRows job.ranking.order n states loads rows) c.threshold.ensures.threshold at_ranks in (
      rows,
      c.in_ok-append.ensures.items,
      loads-rows (data_of job) job.ranking.order (pivot_of seed.pivot) seed.sequences.items (seed-pivot job seed c.requires.complete) states c.in_ok-load_part.ensures.registry loads c.in_ok-load_part.ensures.loads
          c.threshold.ensures.whole.least rows found,
    )

pub returns-clause-sets : goal.returns-clause-sets
returns-clause-sets c =
    let job = c.args.job.now in
    let seed = c.args.seed.now in
    let states = c.load_part.new.room.registry in
    let loads = c.load_part.new.room.loads in (
      length loads,
      omega (arith, c.in-Some.ensures.1, length-map c.as_slice-loads.result.now load_of, ap (λ (l : List Load). length l) c.as_slice-loads.ensures),
      loads-sets (data_of job) job.ranking.order (pivot_of seed.pivot) seed.sequences.items (seed-pivot job seed c.requires.complete) states c.in_ok-load_part.ensures.registry loads c.in_ok-load_part.ensures.loads
          c.requires.least c.requires.alive,
    )
