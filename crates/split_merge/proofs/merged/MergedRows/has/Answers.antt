use Rattle.std.proofs.Common.{◌↔◌, IsTrue, List, sym, subst, ◌∙◌}
use Rattle.mine_model.specs.declared.row.Row.{Row}
use Rattle.split_merge.specs.Rows.{HasPattern}
use Rattle.split_merge.proofs.EntryLemmas.{found-decides}
use Rattle.split_merge.proofs.merged.MergedRows.has.Goals as goal

pub returns : goal.returns
returns c =
    let is = found-decides c.args.pattern.now c.self.inside.supports.entries in
    subst (λ (rows : List Row). IsTrue c.contains_key.result ↔ HasPattern rows c.args.pattern.now) c.self.view_is
    ((λ found. is.0 (sym c.contains_key.ensures ∙ found)), (λ held. c.contains_key.ensures ∙ is.1 held))
