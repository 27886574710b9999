use Rattle.std.proofs.Common.{subst}
use Rattle.std.proofs.lemmas.Result.{IfErr-weaker}
use Rattle.item_hierarchy.specs.Edges.{IsCloseRefusal}
use Rattle.item_hierarchy.proofs.closing.close.Goals as goal

pub returns-in-Ok-clause-refusal : goal.returns-in-Ok-clause-refusal
returns-in-Ok-clause-refusal c =
    IfErr-weaker c.close.result _ _
    (λ e refusal. subst (λ items. IsCloseRefusal items c.args.edges.rows.items e) c.in-Ok.ensures.items refusal)
    (c.close.ensures.refusal c.args.edges.rows.items c.in-Ok.ensures.rows)
