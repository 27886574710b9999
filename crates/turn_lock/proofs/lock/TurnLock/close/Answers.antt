use Rattle.std.proofs.Common.{◌∙◌, ap, None}
use Rattle.std.proofs.lemmas.List.{length-map}
use Rattle.turn_lock.specs.Passes.{number, made, parts_of, opened_with, pass_count}
use Rattle.turn_lock.proofs.Ends.{Kept, closes, each_made, each_ours, weighs_same}
use Rattle.turn_lock.proofs.lock.TurnLock.close.Goals as goal

closed : (g : _) (c : goal.After-free g) → Kept g.T.Kept.history_of g.T.Kept.ground_of (opened_with c.args.self) (pass_count c.args.self) (parts_of c.args.passes.items) c.take-value.result
closed g c = closes _ _ _ (pass_count c.args.self) _ _ _ None _ _ (ap (λ m. m.0) c.gather-all.ensures.parts) (length-map c.args.passes.items (λ p. (number p, made p)) ∙ c.requires.all) c.close_with-closed.ensures.values.2 _ c.take-value.ensures.value

pub returns-clause-made : goal.returns-clause-made
returns-clause-made g c = each_made _ _ (closed g c).made

pub returns-clause-others : goal.returns-clause-others
returns-clause-others g c = each_ours _ _ (closed g c).strangers

pub returns-clause-counts : goal.returns-clause-counts
returns-clause-counts g c f = let k = closed g c in weighs_same f _ _ k.made k.once k.strangers

pub returns-clause-stays : goal.returns-clause-stays
returns-clause-stays g c = (closed g c).stays
