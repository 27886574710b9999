use Rattle.mining_job.proofs.ItemLemmas.{items-known, frequent-within}
use Rattle.search_engine.proofs.SearchLemmas.{walks-parts-once, walks-parts-rows, walks-parts-work}
use Rattle.search_engine.proofs.mining.mine_parts.Goals as goal

pub returns-clause-once : goal.returns-clause-once
returns-clause-once g c =
    let (labels, covers, are, work) = c.in_ok-mined.ensures in
    walks-parts-once c.args.job.now c.hierarchy.ensures.whole c.by_seeds-search.result c.by_seeds-search.ensures.problem _ c.by_seeds-search.ensures.pivots c.requires.rising c.requires.alive
    labels covers c.in_ok-mined.mined.rows.items are

pub returns-clause-rows : goal.returns-clause-rows
returns-clause-rows g c =
    let ends = rw c.hierarchy.ensures.hierarchy at c.items-items.ensures.within in
    let (labels, covers, are, work) = c.in_ok-mined.ensures in
    walks-parts-rows c.args.job.now c.hierarchy.ensures.whole c.by_seeds-search.result c.by_seeds-search.ensures.problem _ c.by_seeds-search.ensures.pivots c.requires.rising c.requires.alive
    labels covers c.in_ok-mined.mined.rows.items are (items-known c.args.job.now c.hierarchy.ensures.whole ends)

pub returns-clause-items : goal.returns-clause-items
returns-clause-items g c =
    let ends = rw c.hierarchy.ensures.hierarchy at c.items-items.ensures.within in
    let (labels, covers, are, work) = c.in_ok-mined.ensures in
    λ row held. frequent-within c.args.job.now c.hierarchy.ensures.whole ends row
    ((walks-parts-rows c.args.job.now c.hierarchy.ensures.whole c.by_seeds-search.result c.by_seeds-search.ensures.problem _ c.by_seeds-search.ensures.pivots c.requires.rising c.requires.alive
    labels covers c.in_ok-mined.mined.rows.items are (items-known c.args.job.now c.hierarchy.ensures.whole ends) row).0 held).0

pub returns-clause-work : goal.returns-clause-work
returns-clause-work g c =
    let (labels, covers, are, work) = c.in_ok-mined.ensures in
    walks-parts-work c.args.job.now c.hierarchy.ensures.whole c.by_seeds-search.result c.by_seeds-search.ensures.problem _ c.by_seeds-search.ensures.pivots c.requires.rising c.requires.alive
    labels covers c.in_ok-mined.mined.work work
