use Rattle.std.proofs.Common.{◌≡◌, ◌+◌, ◌-◌, ◌*◌, ◌≤◌, length, sym, ◌∙◌, arith, rules}
use Rattle.std.proofs.lemmas.Result.{IfOk-weaker}
use Rattle.mine_model.specs.Expression.{unfolded_leaves, unfolded_times}
use Rattle.mine_model.specs.Numbered.{tree_of}
use Rattle.mine_model.specs.declared.expression.Expr.{the_lemmas}
use Rattle.fst_compile.proofs.FragmentLemmas.{IsBuilt-cat, IsBuilt-alt, IsBuilt-cap, if_both}
use Rattle.fst_compile.proofs.CopyLemmas.{IsBuilt-none, IsBuilt-bare, IsCopied-start, IsCopied-step, IsBuilt-rep, built_size, built_long, built_within, copied_within, copy_room}
use Rattle.fst_compile.proofs.linking.+add_edges.Goals as goal

-- ---- concatenation

pub overflow_add-at : goal.overflow_add-at
overflow_add-at t c =
    let front = rw c.deref.ensures at c.in_ok-front-in-Cat.ensures in
    omega (arith, built_size front, rw c.in-Cat.is at c.requires.room, c.requires.few)

pub add_edges-requires-in-Cat : goal.add_edges-requires-in-Cat
add_edges-requires-in-Cat t c =
    let front = rw c.deref.ensures at c.in_ok-front-in-Cat.ensures in
    let room : c.args.at + c.in_ok-front-in-Cat.front.size + unfolded_leaves (tree_of c.deref-in-Cat.result.now) ≤ length c.add_edges.new.rows =
    rw c.deref-in-Cat.ensures (omega (arith, built_size front, built_long front, rw c.in-Cat.is at c.requires.room)) in
    let few : length c.add_edges.new.rows ≤ 1088 = omega (arith, built_long front, c.requires.few) in
    (search (rules, the_lemmas), (room, few))

pub and_then-requires-clause-size : goal.and_then-requires-clause-size
and_then-requires-clause-size t c =
    let front = rw c.deref.ensures at c.in_ok-front-in-Cat.ensures in
    let back = rw c.deref-in-Cat.ensures at c.in_ok-back-in-Cat.ensures in
    omega (arith, built_size front, built_size back, rw c.in-Cat.is at c.requires.room, c.requires.few)

pub and_then-requires-clause-front : goal.and_then-requires-clause-front
and_then-requires-clause-front t c =
    let front = rw c.deref.ensures at c.in_ok-front-in-Cat.ensures in
    let back = rw c.deref-in-Cat.ensures at c.in_ok-back-in-Cat.ensures in
    built_within (length c.add_edges-in-Cat.new.rows) front (omega (arith, built_size front, built_long front, built_long back, rw c.in-Cat.is at c.requires.room))

pub and_then-requires-clause-back : goal.and_then-requires-clause-back
and_then-requires-clause-back t c =
    let front = rw c.deref.ensures at c.in_ok-front-in-Cat.ensures in
    let back = rw c.deref-in-Cat.ensures at c.in_ok-back-in-Cat.ensures in
    built_within 1088 back (omega (arith, built_size front, built_size back, rw c.in-Cat.is at c.requires.room, c.requires.few))

-- ---- alternation

pub overflow_add-at-in-Alt : goal.overflow_add-at-in-Alt
overflow_add-at-in-Alt t c =
    let one = rw c.deref-in-Alt.ensures at c.in_ok-one-in-Alt.ensures in
    omega (arith, built_size one, rw c.in-Alt.is at c.requires.room, c.requires.few)

pub add_edges-requires-in-Alt-2 : goal.add_edges-requires-in-Alt-2
add_edges-requires-in-Alt-2 t c =
    let one = rw c.deref-in-Alt.ensures at c.in_ok-one-in-Alt.ensures in
    let room : c.args.at + c.in_ok-one-in-Alt.one.size + unfolded_leaves (tree_of c.deref-in-Alt-2.result.now) ≤ length c.add_edges-in-Alt.new.rows =
    rw c.deref-in-Alt-2.ensures (omega (arith, built_size one, built_long one, rw c.in-Alt.is at c.requires.room)) in
    let few : length c.add_edges-in-Alt.new.rows ≤ 1088 = omega (arith, built_long one, c.requires.few) in
    (search (rules, the_lemmas), (room, few))

pub or-requires : goal.or-requires
or-requires t c =
    let one = rw c.deref-in-Alt.ensures at c.in_ok-one-in-Alt.ensures in
    let other = rw c.deref-in-Alt-2.ensures at c.in_ok-other-in-Alt.ensures in
    omega (arith, built_size one, built_size other, rw c.in-Alt.is at c.requires.room, c.requires.few)

-- ---- repetition

pub returns-then-index-eq0 : goal.returns-then-index-eq0
returns-then-index-eq0 t c =
    rw c.in-Rep.is
    (IsBuilt-none (tree_of c.in-Rep.inner.value) c.in-Rep.least c.in-Rep.most c.args.at c.args.rows.now c.bare-rest.result (rw c.is_enough.ensures at c.bare-rest.ensures)
    (sym c.times-index.ensures ∙ c.if-index-eq0.true))

pub returns-then-size-eq0 : goal.returns-then-size-eq0
returns-then-size-eq0 t c =
    rw c.in-Rep.is
    (IsBuilt-bare (tree_of c.in-Rep.inner.value) c.in-Rep.least c.in-Rep.most c.args.at c.args.rows.now c.add_edges-in-Rep.new.rows c.in_ok-front-in-Rep.front c.repeat_bare.result
    (rw c.deref-in-Rep.ensures at c.in_ok-front-in-Rep.ensures) c.if-size-eq0.true c.repeat_bare.ensures)

pub copies-init : goal.copies-init
copies-init t c =
    rw c.times-index.ensures
    (IsCopied-start (tree_of c.in-Rep.inner.value) c.in-Rep.least c.in-Rep.most c.args.at c.in_ok-front-in-Rep.front.size c.add_edges-in-Rep.new.rows c.bare-rest.result
    (rw c.is_enough.ensures at c.bare-rest.ensures) (omega (arith, c.times-index.ensures, c.if-index-eq0.false)))

pub overflow_mul-index : goal.overflow_mul-index
overflow_mul-index t c =
    let front = rw c.deref-in-Rep.ensures at c.in_ok-front-in-Rep.ensures in
    let room : c.args.at + unfolded_times c.in-Rep.least c.in-Rep.most * c.in_ok-front-in-Rep.front.size ≤ length c.args.rows.now =
    rw (built_size front) (rw c.in-Rep.is at c.requires.room) in
    let place = copy_room (unfolded_times c.in-Rep.least c.in-Rep.most) (c.copies.index - 1) c.in_ok-front-in-Rep.front.size (omega (arith, c.copies.invariant.high)) in
    omega (arith, c.requires.few)

pub overflow_add-at-in-copies : goal.overflow_add-at-in-copies
overflow_add-at-in-copies t c =
    let front = rw c.deref-in-Rep.ensures at c.in_ok-front-in-Rep.ensures in
    let room : c.args.at + unfolded_times c.in-Rep.least c.in-Rep.most * c.in_ok-front-in-Rep.front.size ≤ length c.args.rows.now =
    rw (built_size front) (rw c.in-Rep.is at c.requires.room) in
    let place = copy_room (unfolded_times c.in-Rep.least c.in-Rep.most) (c.copies.index - 1) c.in_ok-front-in-Rep.front.size (omega (arith, c.copies.invariant.high)) in
    omega (arith, c.requires.few)

pub add_edges-requires-in-copies : goal.add_edges-requires-in-copies
add_edges-requires-in-copies t c =
    let front = rw c.deref-in-Rep.ensures at c.in_ok-front-in-Rep.ensures in
    let room : c.args.at + unfolded_times c.in-Rep.least c.in-Rep.most * c.in_ok-front-in-Rep.front.size ≤ length c.args.rows.now =
    rw (built_size front) (rw c.in-Rep.is at c.requires.room) in
    let place = copy_room (unfolded_times c.in-Rep.least c.in-Rep.most) (c.copies.index - 1) c.in_ok-front-in-Rep.front.size (omega (arith, c.copies.invariant.high)) in
    let copy : c.args.at + (c.copies.index - 1) * c.in_ok-front-in-Rep.front.size + unfolded_leaves (tree_of c.deref-in-copies.result.now) ≤ length c.copies.rows =
    rw (c.deref-in-copies.ensures, ← built_size front) (omega (arith, built_long front, c.copies.invariant.long)) in
    let few : length c.copies.rows ≤ 1088 = omega (arith, built_long front, c.copies.invariant.long, c.requires.few) in
    (search (rules, the_lemmas), (copy, few))

pub add_copy-requires-clause-size : goal.add_copy-requires-clause-size
add_copy-requires-clause-size t c =
    let front = rw c.deref-in-Rep.ensures at c.in_ok-front-in-Rep.ensures in
    let copy = rw c.deref-in-copies.ensures at c.in_ok-copy-in-Rep.ensures in
    let room : c.args.at + unfolded_times c.in-Rep.least c.in-Rep.most * c.in_ok-front-in-Rep.front.size ≤ length c.args.rows.now =
    rw (built_size front) (rw c.in-Rep.is at c.requires.room) in
    let place = copy_room (unfolded_times c.in-Rep.least c.in-Rep.most) (c.copies.index - 1) c.in_ok-front-in-Rep.front.size (omega (arith, c.copies.invariant.high)) in
    omega (arith, built_size front, built_size copy, c.copies.invariant.few, c.requires.few)

pub add_copy-requires-clause-copy : goal.add_copy-requires-clause-copy
add_copy-requires-clause-copy t c =
    let front = rw c.deref-in-Rep.ensures at c.in_ok-front-in-Rep.ensures in
    let copy = rw c.deref-in-copies.ensures at c.in_ok-copy-in-Rep.ensures in
    let room : c.args.at + unfolded_times c.in-Rep.least c.in-Rep.most * c.in_ok-front-in-Rep.front.size ≤ length c.args.rows.now =
    rw (built_size front) (rw c.in-Rep.is at c.requires.room) in
    let place = copy_room (unfolded_times c.in-Rep.least c.in-Rep.most) (c.copies.index - 1) c.in_ok-front-in-Rep.front.size (omega (arith, c.copies.invariant.high)) in
    built_within (length c.add_edges-in-copies.new.rows) copy
    (omega (arith, built_size front, built_size copy, built_long front, built_long copy, c.copies.invariant.long))

pub add_copy-requires-clause-rest : goal.add_copy-requires-clause-rest
add_copy-requires-clause-rest t c =
    let front = rw c.deref-in-Rep.ensures at c.in_ok-front-in-Rep.ensures in
    let copy = rw c.deref-in-copies.ensures at c.in_ok-copy-in-Rep.ensures in
    let room : c.args.at + unfolded_times c.in-Rep.least c.in-Rep.most * c.in_ok-front-in-Rep.front.size ≤ length c.args.rows.now =
    rw (built_size front) (rw c.in-Rep.is at c.requires.room) in
    copied_within (length c.add_edges-in-copies.new.rows) c.copies.invariant (omega (arith, built_long front, built_long copy, c.copies.invariant.long))

pub copies-preserved : goal.copies-preserved
copies-preserved t c =
    let front = rw c.deref-in-Rep.ensures at c.in_ok-front-in-Rep.ensures in
    let copy = rw c.deref-in-copies.ensures at c.in_ok-copy-in-Rep.ensures in
    IsCopied-step (tree_of c.in-Rep.inner.value) c.in-Rep.least c.in-Rep.most c.args.at c.in_ok-front-in-Rep.front.size (built_size front) (c.copies.index - 1) c.copies.index
    c.add_edges-in-Rep.new.rows c.copies.rows c.add_edges-in-copies.new.rows c.add_copy.new.rows c.in_ok-copy-in-Rep.copy c.copies.rest c.in_ok-rest-in-Rep.rest
    (omega arith) (omega arith) c.copies.invariant copy c.in_ok-rest-in-Rep.ensures.fragment c.in_ok-rest-in-Rep.ensures.edges

pub add_copy-requires-in-Rep-clause-size : goal.add_copy-requires-in-Rep-clause-size
add_copy-requires-in-Rep-clause-size t c =
    let front = rw c.deref-in-Rep.ensures at c.in_ok-front-in-Rep.ensures in
    let room : c.args.at + unfolded_times c.in-Rep.least c.in-Rep.most * c.in_ok-front-in-Rep.front.size ≤ length c.args.rows.now =
    rw (built_size front) (rw c.in-Rep.is at c.requires.room) in
    let one : c.copies.index ≡ 1 = omega (arith, c.copies.invariant.low) in
    let behind = rw one at c.copies.invariant in
    omega (arith, behind.few, c.requires.few)

pub add_copy-requires-in-Rep-clause-copy : goal.add_copy-requires-in-Rep-clause-copy
add_copy-requires-in-Rep-clause-copy t c =
    let front = rw c.deref-in-Rep.ensures at c.in_ok-front-in-Rep.ensures in
    let room : c.args.at + unfolded_times c.in-Rep.least c.in-Rep.most * c.in_ok-front-in-Rep.front.size ≤ length c.args.rows.now =
    rw (built_size front) (rw c.in-Rep.is at c.requires.room) in
    let one : c.copies.index ≡ 1 = omega (arith, c.copies.invariant.low) in
    let behind = rw one at c.copies.invariant in
    built_within (length c.copies.rows) front (omega (arith, behind.few, behind.long, built_long front))

pub add_copy-requires-in-Rep-clause-rest : goal.add_copy-requires-in-Rep-clause-rest
add_copy-requires-in-Rep-clause-rest t c =
    let front = rw c.deref-in-Rep.ensures at c.in_ok-front-in-Rep.ensures in
    let room : c.args.at + unfolded_times c.in-Rep.least c.in-Rep.most * c.in_ok-front-in-Rep.front.size ≤ length c.args.rows.now =
    rw (built_size front) (rw c.in-Rep.is at c.requires.room) in
    copied_within (length c.copies.rows) c.copies.invariant (omega (arith, built_long front, c.copies.invariant.long))

-- ---- what is returned

pub returns-in_ok-back-in-Cat : goal.returns-in_ok-back-in-Cat
returns-in_ok-back-in-Cat t c =
    let front = rw c.deref.ensures at c.in_ok-front-in-Cat.ensures in
    let back = rw c.deref-in-Cat.ensures at c.in_ok-back-in-Cat.ensures in
    rw c.in-Cat.is
    (if_both c.and_then.result _ _ _
    (λ both joined crossed. IsBuilt-cat (tree_of c.in-Cat.left.value) (tree_of c.in-Cat.right.value) c.args.at c.args.rows.now c.add_edges.new.rows c.add_edges-in-Cat.new.rows
    c.in_ok-front-in-Cat.front c.in_ok-back-in-Cat.back both front c.and_then.new.rows back joined crossed)
    c.and_then.ensures.fragment c.and_then.ensures.edges)

pub returns-in_ok-other-in-Alt : goal.returns-in_ok-other-in-Alt
returns-in_ok-other-in-Alt t c =
    let one = rw c.deref-in-Alt.ensures at c.in_ok-one-in-Alt.ensures in
    let other = rw c.deref-in-Alt-2.ensures at c.in_ok-other-in-Alt.ensures in
    rw c.in-Alt.is
    (IfOk-weaker c.or.result _ _
    (λ both is. IsBuilt-alt (tree_of c.in-Alt.left.value) (tree_of c.in-Alt.right.value) c.args.at c.args.rows.now c.add_edges-in-Alt.new.rows c.add_edges-in-Alt-2.new.rows
    c.in_ok-one-in-Alt.one c.in_ok-other-in-Alt.other both one other is)
    c.or.ensures)

pub returns-after-copies : goal.returns-after-copies
returns-after-copies t c =
    let front = rw c.deref-in-Rep.ensures at c.in_ok-front-in-Rep.ensures in
    let one : c.copies.index ≡ 1 = omega (arith, c.copies.invariant.low) in
    let behind = rw one at c.copies.invariant in
    rw c.in-Rep.is
    (if_both c.add_copy-in-Rep.result _ _ _
    (λ all added crossed. IsBuilt-rep (tree_of c.in-Rep.inner.value) c.in-Rep.least c.in-Rep.most c.args.at c.in_ok-front-in-Rep.front.size (built_size front)
    c.args.rows.now c.add_edges-in-Rep.new.rows c.copies.rows c.add_copy-in-Rep.new.rows c.in_ok-front-in-Rep.front c.copies.rest all front behind added crossed)
    c.add_copy-in-Rep.ensures.fragment c.add_copy-in-Rep.ensures.edges)

pub returns-in-Cap : goal.returns-in-Cap
returns-in-Cap t c =
    rw c.in-Cap.is
    (IfOk-weaker c.add_edges-in-Cap.result _ _ (λ f built. IsBuilt-cap (tree_of c.in-Cap.inner.value) c.args.at c.args.rows.now c.add_edges-in-Cap.new.rows f (rw c.deref-in-Cap.ensures at built))
    c.add_edges-in-Cap.ensures)
