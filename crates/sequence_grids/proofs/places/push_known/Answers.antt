use Rattle.std.proofs.Common.{◌≡◌, ◌∙◌, ℕ, suc, ◌+◌, ◌-◌, ◌<◌, [], ◌∷◌, List, length, get_or, drop, sym, ap, subst, arith}
use Rattle.std.proofs.Math.Seq.{drop-cons}
use Rattle.std.proofs.lemmas.Option.{slice_get-get_or}
use Rattle.mine_model.specs.declared.item.Item.{Item}
use Rattle.sequence_grids.specs.Places.{HasTriple, AreFilled}
use Rattle.sequence_grids.proofs.TableLemmas.{Grows-nothing}
use Rattle.sequence_grids.proofs.KindLemmas.{KindsGrow-nothing, Extends-twice}
use Rattle.sequence_grids.proofs.PlaceLemmas.{AreFilled-more}
use Rattle.sequence_grids.proofs.places.push_known.Goals as goal

pub loop-position-preserved : goal.loop-position-preserved
loop-position-preserved c =
    let d : Item = record { 0 = 0 } in
    let position : ℕ = c.loop-position.position - 1 in
    let items = c.args.items.now in
    let t : Item = get_or items position d in
    let before = c.loop-position.invariant in
    let next : c.loop-position.position ≡ position + 1 = omega (arith, c.loop-position-test.true) in
    let next_suc : suc position ≡ c.loop-position.position = omega (arith, c.loop-position-test.true) in
    let inside : position < length items = omega (arith, c.loop-position-test.true, before.less, c.requires.count) in
    let pushed = c.push_reserved.ensures.items in
    let rest : drop position items ≡ t ∷ drop c.loop-position.position items =
    drop-cons items position d inside ∙ ap (λ (n : ℕ). t ∷ drop n items) next_suc in
    let triple : HasTriple c.args.job.now c.args.bound c.args.tables.now.triples (drop position items) c.in-Some.place.triple =
    subst (λ (xs : List Item). HasTriple c.args.job.now c.args.bound c.args.tables.now.triples xs c.in-Some.place.triple) (sym rest)
    (c.in-Some.ensures.triple (drop c.loop-position.position items) before.triple) in
    record {
      less = omega (arith, before.less);
      triple = triple;
      capacity = c.push_reserved.ensures.capacity ∙ before.capacity;
      room = omega (arith, c.push_reserved.ensures.capacity, c.push_reserved.ensures.len, before.room, c.loop-position-test.true);
      grow = Extends-twice c.args.places.now.items c.loop-position.places.items c.push_reserved.new.self.items before.grow (c.in-Some.place ∷ [], pushed);
      filled = λ from filled.
          let so_far : AreFilled c.args.job.now c.args.bound c.args.tables.now c.args.kinds.now c.loop-position.places.items from items (position + 1) =
          subst (AreFilled c.args.job.now c.args.bound c.args.tables.now c.args.kinds.now c.loop-position.places.items from items) next (before.filled from filled) in
          rw pushed (AreFilled-more c.args.job.now c.args.bound c.args.tables.now c.args.tables.now c.args.kinds.now c.args.kinds.now c.loop-position.places.items from items position
          c.in-Some.place t so_far (Grows-nothing c.args.tables.now) (KindsGrow-nothing c.args.kinds.now) (slice_get-get_or items position d inside) c.in-Some.ensures.kind triple);
    }
