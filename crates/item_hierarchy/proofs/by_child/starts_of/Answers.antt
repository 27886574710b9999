use Rattle.std.proofs.Common.{◌≡◌, [], ◌∷◌, ◌++◌, refl, subst, arith}
use Rattle.std.proofs.lemmas.Slice.{pushed}
use Rattle.item_hierarchy.proofs.ByChildLemmas.{AreBelow, more_below, all_below}
use Rattle.item_hierarchy.proofs.by_child.starts_of.Goals as goal

pub loop-number-preserved : goal.loop-number-preserved
loop-number-preserved c =
    let now : c.push-in-loop-number.new.self.items ≡ c.loop-number.starts.items ++ c.end_of_run-at.result ∷ [] =
    pushed (c.end_of_run-at.result ∷ []) refl c.in_ok-push-2.was c.push-in-loop-number.ensures.items in
    rw now (more_below c.args.rows.now c.loop-number.number c.loop-number.starts.items c.loop-number.at c.end_of_run-at.result
    c.loop-number.invariant c.requires.sorted c.end_of_run-at.ensures.range c.end_of_run-at.ensures.run c.end_of_run-at.ensures.end)

pub returns : goal.returns
returns c =
    let whole : c.loop-number.number ≡ c.args.items = omega arith in
    let below : AreBelow c.args.rows.now c.args.items c.loop-number.starts.items c.loop-number.at =
    subst (λ n. AreBelow c.args.rows.now n c.loop-number.starts.items c.loop-number.at) whole c.loop-number.invariant in
    all_below c.args.rows.now c.args.items c.loop-number.starts.items c.loop-number.at below (λ k d within. (c.requires.within k d within).0)
