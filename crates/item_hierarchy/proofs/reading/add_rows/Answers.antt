use Rattle.std.proofs.Common.{◌≡◌, ◌+◌, List, ◌∷◌, [], ◌++◌, map, take, get_or, sym, ap, ◌∙◌, append_assoc}
use Rattle.std.proofs.lemmas.List.{take_more, take_all, map-append}
use Rattle.mine_model.specs.declared.item.Item.{Item}
use Rattle.item_hierarchy.specs.declared.edges.EdgeRow.{EdgeRow}
use Rattle.item_hierarchy.specs.Taking.{rows_of_line}
use Rattle.item_hierarchy.proofs.TakingLemmas.{row_of}
use Rattle.item_hierarchy.proofs.reading.add_rows.Goals as goal

pub loop-parent-preserved : goal.loop-parent-preserved
loop-parent-preserved c =
    let parents : List Item = c.in-Some.parents.now in
    let d : Item = record { 0 = 0 } in
    let make : Item → EdgeRow = row_of c.args.line c.in-Some.child.now in
    let before : c.loop-parent.rows.items ≡ c.args.rows.now.items ++ map make (take c.loop-parent.parent-index parents) = c.loop-parent.invariant in
    let more : take (c.loop-parent.parent-index + 1) parents ≡ take c.loop-parent.parent-index parents ++ get_or parents c.loop-parent.parent-index d ∷ [] =
    take_more parents c.loop-parent.parent-index d c.loop-parent-test.true in
    c.in_ok-push.ensures.items
    ∙ ap (λ w. w ++ make (get_or parents c.loop-parent.parent-index d) ∷ []) before
    ∙ append_assoc c.args.rows.now.items (map make (take c.loop-parent.parent-index parents)) (make (get_or parents c.loop-parent.parent-index d) ∷ [])
    ∙ ap (λ w. c.args.rows.now.items ++ w) (sym (ap (map make) more ∙ map-append make (take c.loop-parent.parent-index parents) (get_or parents c.loop-parent.parent-index d ∷ [])))

pub returns : goal.returns
returns c =
    let parents : List Item = c.in-Some.parents.now in
    let make : Item → EdgeRow = row_of c.args.line c.in-Some.child.now in
    let before : c.loop-parent.rows.items ≡ c.args.rows.now.items ++ map make (take c.loop-parent.parent-index parents) = c.loop-parent.invariant in
    let whole : take c.loop-parent.parent-index parents ≡ parents = take_all c.loop-parent.parent-index parents c.loop-parent-test.false in
    let first : c.args.items.now ≡ c.in-Some.child.now ∷ parents = c.in-Some.ensures.cases.0 in
    before ∙ ap (λ w. c.args.rows.now.items ++ map make w) whole
    ∙ ap (λ items. c.args.rows.now.items ++ rows_of_line c.args.line items) (sym first)
