use Rattle.std.proofs.Common.{◌≡◌, ◌++◌, List, length, append_assoc, ap, sym, ◌∙◌, arith}
use Rattle.snapshot_project.specs.Stands.{StandList}
use Rattle.dfs_growth.proofs.NodeLemmas.{kid-keeps, kids-push, kids-count}
use Rattle.dfs_growth.proofs.growing.nodes.Goals as goal

pub invariant_of-push : goal.invariant_of-push
invariant_of-push c =
    let is = c.kids.invariant in
    let number : c.len.result ≡ length c.kids.yielded =
    c.len.ensures ∙ c.kids.kids.ok.0 ∙ kids-count c.args.job.now c.args.label.now c.requires.some c.args.next.now c.args.longer.items c.requires.count c.kids.yielded _ c.kids.kids.items is.seen is.kids in
    rw c.in_ok-share.ensures
    (kid-keeps c.args.job.now c.args.label.now c.requires.some c.args.next.now c.args.longer.items c.requires.count c.kids.yielded _ _ c.in-Some.snapshots is.seen c.in-Some.ensures.steps.0
    c.in_ok-label.label.items c.len.result _ number c.in_ok-label.ensures c.args.part.now c.requires.each)

pub kids-preserved : goal.kids-preserved
kids-preserved c =
    let is = c.kids.invariant in
    let steps = c.in-Some.ensures.steps in
    let number : c.len.result ≡ length c.kids.yielded =
    c.len.ensures ∙ c.kids.kids.ok.0 ∙ kids-count c.args.job.now c.args.label.now c.requires.some c.args.next.now c.args.longer.items c.requires.count c.kids.yielded _ c.kids.kids.items is.seen is.kids in
    record {
      seen = rw append_assoc (ap (λ (xs : List StandList). c.kids.yielded ++ xs) (sym steps.0) ∙ is.seen);
      count = omega (arith, steps.1, is.count, ap length steps.0);
      kids = c.in_ok-push.ensures.items
          ∙ kids-push c.args.job.now c.args.label.now c.requires.some c.args.next.now c.args.longer.items c.requires.count c.kids.yielded _ _ c.in-Some.snapshots is.seen steps.0
          c.in_ok-label.label.items c.len.result _ number c.in_ok-label.ensures c.kids.kids.items is.kids;
    }
