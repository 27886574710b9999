-- Kinds whose outputs stand before those that are taken back.
use Rattle.std.proofs.Common.{◌≡◌, ℕ, zero, suc, ◌+◌, ◌-◌, ◌<◌, ◌≤◌, ◌↔◌, List, ◌++◌, take, drop, length, get_or, arith, sym, ap, ◌∙◌, subst}
use Rattle.std.specs.List.{AllPairs, Contains, slice_index}
use Rattle.std.proofs.lemmas.List.{length-take, get_or-take, take-append-drop}
use Rattle.std.proofs.Math.Seq.{take-append_seam}
use Rattle.mine_model.specs.declared.item.Item.{Item}
use Rattle.mining_job.specs.declared.bound.Bound.{Bound}
use Rattle.mining_job.specs.Problems.{Problem}
use Rattle.sequence_grids.specs.declared.columns.Columns.{Columns}
use Rattle.sequence_grids.specs.declared.kinds.Kind.{Kind}
use Rattle.sequence_grids.specs.Columns.{AreColumns}
use Rattle.sequence_grids.specs.Grids.{WritesRank}
use Rattle.sequence_grids.specs.Tables.{ClassSets}
use Rattle.sequence_grids.specs.Kinds.{Extends, IsInside, AreRows, IsKind, row_at}
use Rattle.sequence_grids.proofs.KindLemmas.{row_at-grow, Extends-nothing}

-- what was there before stays
pub Extends-back : {X : Type 0} (before after : List X) (count : ℕ) → Extends before after → length before ≡ count → Extends before (take count after)
Extends-back before after count (more, is) long =
    let same : take count after ≡ before = ap (λ (n : ℕ). take n after) (sym long) ∙ ap (take (length before)) is ∙ take-append_seam before more in
    subst (Extends before) (sym same) (Extends-nothing before)

-- no row ends behind the last one
ends-rise : (ends ranks : List ℕ) (base count : ℕ) → AreRows ends ranks base count → (more column : ℕ) → column + more ≡ count
    → get_or ends (base + column) 0 ≤ get_or ends (base + count) 0
ends-rise ends ranks base count rows zero column is =
    let here : column ≡ count = omega (arith, is) in
    let same : get_or ends (base + column) 0 ≡ get_or ends (base + count) 0 = ap (λ (n : ℕ). get_or ends (base + n) 0) here in
    omega (arith, same)
ends-rise ends ranks base count rows (suc more) column is =
    let step = (rows column (omega (arith, is))).forward in
    let rest = ends-rise ends ranks base count rows more (column + 1) (omega (arith, is)) in
    let place : base + (column + 1) ≡ base + column + 1 = omega arith in
    let same : get_or ends (base + (column + 1)) 0 ≡ get_or ends (base + column + 1) 0 = ap (λ (n : ℕ). get_or ends n 0) place in
    omega (arith, step, rest, same)

module _ (ends ranks : List ℕ) (base count n m : ℕ) (rows : AreRows ends ranks base count) (few : base + count < n) (low : get_or ends (base + count) 0 ≤ m) where
  start_same : (column : ℕ) → column < count → get_or (take n ends) (base + column) 0 ≡ get_or ends (base + column) 0
  start_same column below = get_or-take n ends (base + column) 0 (omega (arith, below, few))

  end_same : (column : ℕ) → column < count → get_or (take n ends) (base + column + 1) 0 ≡ get_or ends (base + column + 1) 0
  end_same column below = get_or-take n ends (base + column + 1) 0 (omega (arith, below, few))

  pub rows-back : AreRows (take n ends) (take m ranks) base count
  rows-back column below =
      let inside = rows column below in
      let room = inside.room in
      let within = inside.within in
      let (more, is) : (more : ℕ) × (column + 1 + more ≡ count) = (count - (column + 1), omega (arith, below)) in
      let rest = ends-rise ends ranks base count rows more (column + 1) is in
      let place : base + (column + 1) ≡ base + column + 1 = omega arith in
      let same : get_or ends (base + (column + 1)) 0 ≡ get_or ends (base + column + 1) 0 = ap (λ (k : ℕ). get_or ends k 0) place in
      record {
        room = omega (arith, room, below, few, length-take n ends);
        forward = rw (start_same column below, end_same column below) inside.forward;
        within = rw (end_same column below) (omega (arith, within, rest, same, low, length-take m ranks));
      }

module _ (problem : Problem) (bound : Bound) (t : Item) where
  pub row_at-back : (ends ranks : List ℕ) (base n m column : ℕ) → IsInside (take n ends) (take m ranks) base column
      → row_at ends ranks base column ≡ row_at (take n ends) (take m ranks) base column
  row_at-back ends ranks base n m column inside =
      subst (λ (es : List ℕ). row_at es ranks base column ≡ row_at (take n ends) (take m ranks) base column) (take-append-drop n ends)
      (subst (λ (rs : List ℕ). row_at (take n ends ++ drop n ends) rs base column ≡ row_at (take n ends) (take m ranks) base column) (take-append-drop m ranks)
      (row_at-grow problem bound t base (take n ends) (drop n ends) (take m ranks) (drop m ranks) column inside))

-- the kind stays that of the item
pub IsKind-back : (problem : Problem) (bound : Bound) (classes : List ClassSets) (columns : Columns) (ends ranks : List ℕ) (t : Item) (kind : Kind) (n m : ℕ)
    → AreColumns problem.transducer.labels columns.numbers.items columns.heads.items → IsKind problem bound classes columns ends ranks t kind
    → kind.base + length columns.heads.items < n → get_or ends (kind.base + length columns.heads.items) 0 ≤ m
    → IsKind problem bound classes columns (take n ends) (take m ranks) t kind
IsKind-back problem bound classes columns ends ranks t kind n m are is few low =
    let rows = rows-back ends ranks kind.base (length columns.heads.items) n m is.rows few low in
    record {
      class = is.class;
      room = let room = is.room in omega (arith, room, few, length-take n ends);
      rows = rows;
      cells = λ k target.
          let column : ℕ = slice_index columns.numbers.items k in
          let below = (are.numbers_are k target.0 target.1).0 in
          let cell = is.cells k target in
          let row = row_at-back problem bound t ends ranks kind.base n m column (rows column below) in
          record {
            inside = rows column below;
            outputs = λ rank. subst (λ (xs : List ℕ). Contains xs rank ↔ WritesRank problem bound t k rank) row (cell.outputs rank);
            rising = subst (λ (xs : List ℕ). AllPairs (λ low high. low < high) xs) row cell.rising;
          };
    }
