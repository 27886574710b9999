use Rattle.std.proofs.Common.{◌++◌, ◌∷◌, [], List, map, subst, ◌∙◌}
use Rattle.mine_model.specs.declared.row.Row.{Row}
use Rattle.split_merge.specs.Rows.{HasPattern}
use Rattle.split_merge.specs.Entries.{row_of}
use Rattle.split_merge.proofs.EntryLemmas.{entry-pushed}
use Rattle.split_merge.proofs.merged.MergedRows.push.Goals as goal

pub returns-clause-ok : goal.returns-clause-ok
returns-clause-ok c =
    let same = c.in_ok-pattern.ensures.items in
    let new : HasPattern (map row_of c.self.inside.supports.entries) c.in_ok-pattern.pattern.items → ⊥ =
    λ held. c.requires (subst (HasPattern c.args.self.now) same (subst (λ (rows : List Row). HasPattern rows c.in_ok-pattern.pattern.items) c.self.view_is held)) in
    entry-pushed c.self.inside.supports.entries c.insert.new.self.entries c.in_ok-pattern.pattern c.args.support new c.in_ok-insert.ensures.entries
    ∙ (λ j. c.self.view_is j ++ (record { pattern = same j; support = c.args.support }) ∷ [])
