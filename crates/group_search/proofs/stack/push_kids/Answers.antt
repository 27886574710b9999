use Rattle.std.proofs.Common.{sym, arith}
use Rattle.std.proofs.lemmas.Option.{slice_get_within}
use Rattle.group_search.proofs.StackLemmas.{going-first, run-most, going-next}
use Rattle.group_search.proofs.stack.push_kids.Goals as goal

pub ranks-init : goal.ranks-init
ranks-init c = going-first c.args.threshold c.args.stack.now c.args.steps.now c.requires.least c.requires.stacked c.requires.sorted

pub push_heavy-requires-clause-fits : goal.push_heavy-requires-clause-fits
push_heavy-requires-clause-fits c =
    let most = run-most c.args.threshold c.args.stack.now c.args.steps.now c.ranks.left.now c.ranks.stack c.ranks.invariant c.in-Some.first.now.rank
    c.run_of.result.0.now c.run_of.result.1.now c.run_of.ensures.all c.run_of.ensures.run (c.run_of.ensures.some (slice_get_within c.ranks.left.now 0 c.in-Some.first.now (sym c.in-Some.ensures.value))) in
    let fits = c.requires.fits c.in-Some.first.now.rank in
    omega (arith, most, fits)

pub ranks-preserved : goal.ranks-preserved
ranks-preserved c =
    going-next c.args.threshold c.args.stack.now c.args.steps.now c.ranks.left.now c.ranks.stack c.ranks.invariant c.in-Some.first.now.rank
    c.run_of.result.0.now c.run_of.result.1.now c.run_of.ensures.all c.run_of.ensures.run (c.run_of.ensures.some (slice_get_within c.ranks.left.now 0 c.in-Some.first.now (sym c.in-Some.ensures.value))) c.push_heavy.new.stack c.in_ok-push_heavy.ensures
