use Rattle.std.proofs.Common.{◌≡◌, length, arith, subst}
use Rattle.node_pool.specs.Closing.{HaveParts}
use Rattle.node_pool.proofs.Gathering.{gathering_begins, gathering_count, gathering_can, gathering_next, gathering_ends}
use Rattle.node_pool.proofs.closing.gather.Goals as goal

pub rows-init : goal.rows-init
rows-init g c = gathering_begins g.known_ground c.args.owners.now.items c.args.rows.items (omega (arith, c.args.owners.now.ok.0, c.args.rows.ok.0)) (omega (arith, c.args.rows.ok.0))
    (subst (λ n. HaveParts g.known_ground n c.args.owners.now.items) c.args.rows.ok.0 c.requires.1.1.1.1.0) c.requires.1.1.1.1.1

pub give_back-requires-clause-count : goal.give_back-requires-clause-count
give_back-requires-clause-count g c =
    let count : length c.in-Some.ways.items ≡ length c.rows.owners.items = gathering_count g.known_ground c.args.owners.now.items c.args.rows.items c.rows.owners.items c.rows.rows.items c.pop.new.self.items c.in-Some.ways c.in-Some.ensures.items c.rows.invariant in
    omega (arith, c.in-Some.ways.ok.0, c.rows.owners.ok.0)

pub give_back-requires-clause-rights : goal.give_back-requires-clause-rights
give_back-requires-clause-rights g c = λ _ _. gathering_can g.known_ground c.args.owners.now.items c.args.rows.items c.rows.owners.items c.rows.rows.items c.pop.new.self.items c.in-Some.ways c.in-Some.ensures.items c.rows.invariant

pub rows-preserved : goal.rows-preserved
rows-preserved g c =
    let count : length c.give_back.new.owners.items ≡ length c.rows.owners.items = omega (arith, c.give_back.ensures.count, c.give_back.new.owners.ok.0, c.rows.owners.ok.0) in
    gathering_next g.known_ground c.args.owners.now.items c.args.rows.items c.rows.owners.items c.rows.rows.items c.pop.new.self.items c.in-Some.ways c.give_back.new.owners.items c.in-Some.ensures.items count c.give_back.ensures.returned c.rows.invariant

pub returns-clause-parts : goal.returns-clause-parts
returns-clause-parts g c = (gathering_ends g.known_ground c.args.owners.now.items c.args.rows.items c.rows.owners.items c.rows.rows.items (omega (arith, c.in_default.ensures.cases, c.rows.rows.ok.0)) c.rows.invariant).0

pub returns-clause-given : goal.returns-clause-given
returns-clause-given g c = (gathering_ends g.known_ground c.args.owners.now.items c.args.rows.items c.rows.owners.items c.rows.rows.items (omega (arith, c.in_default.ensures.cases, c.rows.rows.ok.0)) c.rows.invariant).1

pub returns-clause-got : goal.returns-clause-got
returns-clause-got g c = (gathering_ends g.known_ground c.args.owners.now.items c.args.rows.items c.rows.owners.items c.rows.rows.items (omega (arith, c.in_default.ensures.cases, c.rows.rows.ok.0)) c.rows.invariant).2
