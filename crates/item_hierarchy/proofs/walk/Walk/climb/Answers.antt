use Rattle.std.proofs.Common.{◌≡◌, [], ◌∷◌, ◌++◌, length, sym, ap, ◌∙◌, subst, rules}
use denote.Enum.Bare.{differs_false}
use Rattle.item_hierarchy.specs.contracts.walk.Mark.{the_type}
use Rattle.item_hierarchy.specs.declared.walk.Mark.TheVariants.{New}
use Rattle.item_hierarchy.specs.Walking.{IsMarked, Walks}
use Rattle.item_hierarchy.proofs.WalkingLemmas.{walks-enter, marked_at}
use Rattle.item_hierarchy.proofs.walk.Walk.climb.Goals as goal

pub loop-top-init : goal.loop-top-init
loop-top-init c =
    let is : c.index.result.now ≡ New = differs_false the_type (search rules) _ _ (sym c.if-ne.ensures) in
    let new : IsMarked c.args.self.now.marks.items c.args.item New = marked_at c.args.self.now.marks.items c.args.item New c.index.result.now c.requires.item (sym c.index.ensures ∙ is) in
    let next : c.enter.new.self.next.items ≡ c.args.self.now.next.items = ap (λ v. v.items) c.in_ok-enter.ensures.next in
    let order : c.enter.new.self.order.items ≡ c.args.self.now.order.items = ap (λ v. v.items) c.in_ok-enter.ensures.order in
    let open_now : c.enter.new.self.open_items.items ≡ c.args.item ∷ [] =
    c.in_ok-enter.ensures.open_items ∙ ap (λ items. items ++ c.args.item ∷ []) c.requires.idle in
    let walks : Walks (length c.args.self.now.marks.items) c.args.starts.now c.args.rows.now c.args.line c.args.self.now.marks.items c.args.self.now.next.items [] c.args.self.now.order.items =
    subst (λ items. Walks (length c.args.self.now.marks.items) c.args.starts.now c.args.rows.now c.args.line c.args.self.now.marks.items c.args.self.now.next.items items c.args.self.now.order.items)
    c.requires.idle c.requires.walks in
    record {
      size = c.in_ok-enter.ensures.size;
      walks = rw (c.in_ok-enter.ensures.marks, next, open_now, order)
          (walks-enter (length c.args.self.now.marks.items) c.args.starts.now c.args.rows.now c.args.line c.args.self.now.marks.items c.args.self.now.next.items []
          c.args.self.now.order.items walks c.args.item new);
      fewer = λ t marked. marked;
    }
