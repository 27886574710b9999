use Rattle.std.proofs.Common.{◌≡◌, ◌≤◌, ◌<◌, ℕ, ◌+◌, List, [], ◌∷◌, ◌++◌, length, get_or, set, sym, ap, ◌∙◌, subst, arith, rules, Bool, false}
use Rattle.std.proofs.lemmas.List.{get_or_default}
use denote.Enum.Bare.{sameb, same_true, same_false}
use Rattle.mine_model.specs.declared.item.Item.{Item}
use Rattle.item_hierarchy.specs.contracts.walk.Mark.{the_type}
use Rattle.item_hierarchy.specs.declared.edges.EdgeRow.{EdgeRow}
use Rattle.item_hierarchy.specs.declared.walk.Mark.{Mark}
use Rattle.item_hierarchy.specs.declared.walk.Mark.TheVariants.{Open, Done}
use Rattle.item_hierarchy.specs.Walking.{IsMarked}
use Rattle.item_hierarchy.proofs.WalkingLemmas.{walks-leave, walks-cycle, walks-up, steps-up, steps-leave, top_open, top_within, marked_at, mark_of, parent_within}
use Rattle.item_hierarchy.proofs.walk.Walk.step.Goals as goal
use Rattle.item_hierarchy.proofs.walk.Walk.step.Goals.{After-next_undone-at}

-- where it goes on, as it was read
reads : (c : After-next_undone-at) → c.index.result.now ≡ get_or c.args.self.now.next.items c.args.top.0 0
reads c = c.index.ensures ∙ get_or_default c.args.self.now.next.items c.args.top.0 c.index.result.now 0
    (omega (
      arith,
      c.requires.walks.size,
      top_within c.args.starts.now c.args.rows.now c.args.line c.args.self.now.marks.items c.args.self.now.next.items
          c.args.self.now.open_items.items c.args.self.now.order.items c.args.top c.requires.walks,
    ))

range : (c : After-next_undone-at) → (get_or c.args.self.now.next.items c.args.top.0 0 ≤ c.next_undone-at.result)
    × (c.next_undone-at.result ≤ get_or c.args.starts.now (c.args.top.0 + 1) 0)
range c = (omega (arith, reads c, c.next_undone-at.ensures.range.0), c.next_undone-at.ensures.range.1)

more : (c : After-next_undone-at) → (k : ℕ) (d : EdgeRow) → get_or c.args.self.now.next.items c.args.top.0 0 ≤ k → k < c.next_undone-at.result
    → (get_or c.args.rows.now k d).line ≤ c.args.line → IsMarked c.args.self.now.marks.items (get_or c.args.rows.now k d).parent Done
more c k d from upto early = subst (λ marks. IsMarked marks (get_or c.args.rows.now k d).parent Done) c.as_slice.ensures.value
    (c.next_undone-at.ensures.passed k d (omega (arith, reads c, from)) upto early)

not_done : (c : After-next_undone-at) (d : EdgeRow) → c.next_undone-at.result < get_or c.args.starts.now (c.args.top.0 + 1) 0
    → IsMarked c.args.self.now.marks.items (get_or c.args.rows.now c.next_undone-at.result d).parent Done → ⊥
not_done c d behind marked = (c.next_undone-at.ensures.found d behind).1
    (subst (λ marks. IsMarked marks (get_or c.args.rows.now c.next_undone-at.result d).parent Done) (sym c.as_slice.ensures.value) marked)

pub returns-then-at-end-clause-walks : goal.returns-then-at-end-clause-walks
returns-then-at-end-clause-walks c on =
    let a : After-next_undone-at = (goal.at.returns-then-at-end-clause-walks c).After-next_undone-at in
    let next : c.leave.new.self.next.items ≡ set c.args.self.now.next.items c.args.top.0 c.next_undone-at.result = ap (λ v. v.items) c.in_ok-leave.ensures.next in
    let open_now : c.leave.new.self.open_items.items ≡ c.args.self.now.open_items.items = ap (λ v. v.items) c.in_ok-leave.ensures.open_items in
    rw (c.in_ok-leave.ensures.marks, next, open_now, c.in_ok-leave.ensures.order)
    (walks-leave (length c.args.self.now.marks.items) c.args.starts.now c.args.rows.now c.args.line c.args.self.now.marks.items c.args.self.now.next.items
    c.args.self.now.open_items.items c.args.self.now.order.items c.args.top c.next_undone-at.result c.requires.walks (range a) (more a) c.if-at-end.true)

pub returns-then-at-end-clause-nearer : goal.returns-then-at-end-clause-nearer
returns-then-at-end-clause-nearer c on =
    let open_now : c.leave.new.self.open_items.items ≡ c.args.self.now.open_items.items = ap (λ v. v.items) c.in_ok-leave.ensures.open_items in
    rw (c.in_ok-leave.ensures.marks, open_now)
    (steps-leave c.args.self.now.marks.items c.args.self.now.open_items.items c.args.top
    (top_open _ (length c.args.self.now.marks.items) c.args.self.now.marks.items c.args.self.now.order.items c.args.self.now.open_items.items c.args.top c.requires.walks.walking))

pub returns-then-eq-clause-cycle : goal.returns-then-eq-clause-cycle
returns-then-eq-clause-cycle c off =
    let a : After-next_undone-at = (goal.at.returns-then-eq-clause-cycle c).After-next_undone-at in
    let d : EdgeRow = record { child = record { 0 = 0 }; parent = record { 0 = 0 }; line = 0 } in
    let behind : c.next_undone-at.result < get_or c.args.starts.now (c.args.top.0 + 1) 0 = omega (arith, c.if-at-end.false, c.next_undone-at.ensures.range.1) in
    let early : (get_or c.args.rows.now c.next_undone-at.result d).line ≤ c.args.line = (c.next_undone-at.ensures.found d behind).0 in
    let is : c.index-2.result.now ≡ Open = same_true the_type (search rules) _ _ (sym c.if-eq.ensures) in
    let within : (get_or c.args.rows.now c.next_undone-at.result d).parent.0 < length c.args.self.now.marks.items =
    parent_within (length c.args.self.now.marks.items) c.args.starts.now c.args.rows.now c.args.line c.args.self.now.marks.items c.args.self.now.next.items
    c.args.self.now.open_items.items c.args.self.now.order.items c.args.top c.next_undone-at.result c.requires.walks (range a) (more a) d behind early in
    walks-cycle (length c.args.self.now.marks.items) c.args.starts.now c.args.rows.now c.args.line c.args.self.now.marks.items c.args.self.now.next.items
    c.args.self.now.open_items.items c.args.self.now.order.items c.args.top c.next_undone-at.result c.requires.walks (range a) (more a) d behind early
    (marked_at c.args.self.now.marks.items (get_or c.args.rows.now c.next_undone-at.result d).parent Open c.index-2.result.now within (sym c.index-2.ensures ∙ is))

not_open : (a : After-next_undone-at) (marks : List Mark) (parent : Item) (read : Mark) (flag : Bool) → read ≡ get_or marks parent.0 read
    → flag ≡ false → flag ≡ sameb the_type read Open → IsMarked marks parent Open → ⊥
not_open a marks parent read flag is off said marked = same_false the_type read Open (sym said ∙ off) (is ∙ mark_of marks parent Open read marked)

pub returns-clause-walks : goal.returns-clause-walks
returns-clause-walks c on =
    let a : After-next_undone-at = (goal.at.returns-clause-walks c).After-next_undone-at in
    let d : EdgeRow = record { child = record { 0 = 0 }; parent = record { 0 = 0 }; line = 0 } in
    let behind : c.next_undone-at.result < get_or c.args.starts.now (c.args.top.0 + 1) 0 = omega (arith, c.if-at-end.false, c.next_undone-at.ensures.range.1) in
    let early : (get_or c.args.rows.now c.next_undone-at.result d).line ≤ c.args.line = (c.next_undone-at.ensures.found d behind).0 in
    let parent : Item = (get_or c.args.rows.now c.next_undone-at.result d).parent in
    let next : c.enter.new.self.next.items ≡ set c.args.self.now.next.items c.args.top.0 c.next_undone-at.result = ap (λ v. v.items) c.in_ok-enter.ensures.next in
    let order : c.enter.new.self.order.items ≡ c.args.self.now.order.items = ap (λ v. v.items) c.in_ok-enter.ensures.order in
    let open_now : c.enter.new.self.open_items.items ≡ (c.args.self.now.open_items.items ++ c.args.top ∷ []) ++ parent ∷ [] =
    c.in_ok-enter.ensures.open_items ∙ ap (λ items. items ++ parent ∷ []) c.in_ok-push.ensures.items in
    rw (c.in_ok-enter.ensures.marks, next, open_now, order)
    (walks-up (length c.args.self.now.marks.items) c.args.starts.now c.args.rows.now c.args.line c.args.self.now.marks.items c.args.self.now.next.items
    c.args.self.now.open_items.items c.args.self.now.order.items c.args.top c.next_undone-at.result c.requires.walks (range a) (more a) d behind early
    (not_open a c.args.self.now.marks.items parent c.index-2.result.now c.eq.result c.index-2.ensures c.if-eq.false c.eq.ensures) (not_done a d behind))

pub returns-clause-nearer : goal.returns-clause-nearer
returns-clause-nearer c on =
    let a : After-next_undone-at = (goal.at.returns-clause-nearer c).After-next_undone-at in
    let d : EdgeRow = record { child = record { 0 = 0 }; parent = record { 0 = 0 }; line = 0 } in
    let behind : c.next_undone-at.result < get_or c.args.starts.now (c.args.top.0 + 1) 0 = omega (arith, c.if-at-end.false, c.next_undone-at.ensures.range.1) in
    let early : (get_or c.args.rows.now c.next_undone-at.result d).line ≤ c.args.line = (c.next_undone-at.ensures.found d behind).0 in
    let parent : Item = (get_or c.args.rows.now c.next_undone-at.result d).parent in
    let open_now : c.enter.new.self.open_items.items ≡ (c.args.self.now.open_items.items ++ c.args.top ∷ []) ++ parent ∷ [] =
    c.in_ok-enter.ensures.open_items ∙ ap (λ items. items ++ parent ∷ []) c.in_ok-push.ensures.items in
    rw (c.in_ok-enter.ensures.marks, open_now)
    (steps-up (length c.args.self.now.marks.items) c.args.starts.now c.args.rows.now c.args.line c.args.self.now.marks.items c.args.self.now.next.items
    c.args.self.now.open_items.items c.args.self.now.order.items c.args.top c.next_undone-at.result c.requires.walks (range a) (more a) d behind early
    (not_open a c.args.self.now.marks.items parent c.index-2.result.now c.eq.result c.index-2.ensures c.if-eq.false c.eq.ensures) (not_done a d behind))
