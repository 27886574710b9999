-- The table of all positions, from the last on.
use Rattle.std.proofs.Common.{◌≡◌, ℕ, ◌+◌, ◌-◌, ◌≤◌, ◌<◌, inl, inr, List, [], ◌++◌, length, drop, sym, ap, subst, arith, length-append}
use Rattle.std.proofs.lemmas.Bool.{cases_lt}
use Rattle.std.proofs.lemmas.List.{drop-append-le, drop_at, drop_all, get_or_append_left, length-drop}
use Rattle.mine_model.specs.declared.item.Item.{Item}
use Rattle.mining_job.specs.Problems.{Problem}
use Rattle.pivot_partition.specs.Tops.{IsLeastTop, GoesOn, IsRowOf, IsTableFrom, row_at}
use Rattle.pivot_partition.proofs.NumberLemmas.{row-next, row-end, row-later}

module _ (problem : Problem) where
  -- a row with others behind it
  row-front : (rest : List Item) (row more : List ℕ) → length problem.transducer.labels + 1 ≤ length row → IsRowOf problem rest row → IsRowOf problem rest (row ++ more)
  row-front rest row more long is = λ state inside.
      subst (IsLeastTop problem (GoesOn problem rest state)) (sym (get_or_append_left row more 0 state (omega (arith, long, inside)))) (is state inside)

  module _ (items : List Item) where
    -- the row of the end alone
    pub table-end : (position : ℕ) (table : List ℕ) → position ≡ length items → length table ≡ length problem.transducer.labels + 1 → IsRowOf problem [] table → IsTableFrom problem items position table
    table-end position table at long is = record {
      inside = omega (arith, at);
      long = let none = row-end problem items position (omega (arith, at)) in omega (arith, long, none);
      rows = λ place from to.
          let none : row_at problem items place ≡ 0 = row-end problem items place (omega (arith, at, from)) in
          let rest : drop place items ≡ [] = drop_all place items (omega (arith, at, from)) in
          rw (none, rest) is;
    }

    -- the row of one position more
    pub table-more : (position after : ℕ) (table row : List ℕ) → after ≡ position + 1 → IsTableFrom problem items after table → length row ≡ length problem.transducer.labels + 1
        → IsRowOf problem (drop position items) row → IsTableFrom problem items position (table ++ row)
    table-more position after table row next before long is =
        let inside : position < length items = let h = before.inside in omega (arith, h, next) in
        let here : row_at problem items position ≡ length table =
        let more = row-next problem items position inside in let was = before.long in
        let same : row_at problem items (position + 1) ≡ row_at problem items after = ap (row_at problem items) (sym next) in
        omega (arith, more, was, same) in
        record {
          inside = omega (arith, inside);
          long = let both = length-append table row in omega (arith, both, here, long);
          rows = λ place from to. elim (cases_lt position place) [
            | inl later ↦
                let old = before.rows place (omega (arith, later, next)) to in
                let low : row_at problem items place ≤ row_at problem items after = row-later problem items after place (omega (arith, later, next)) in
                let was = before.long in
                let under : row_at problem items place ≤ length table = omega (arith, low, was) in
                let size : length (drop (row_at problem items place) table) ≡ length table - row_at problem items place = length-drop (row_at problem items place) table in
                subst (IsRowOf problem (drop place items)) (sym (drop-append-le (row_at problem items place) table row under))
                (row-front (drop place items) (drop (row_at problem items place) table) row (omega (arith, size, low, was)) old)
            | inr not ↦
                let same : place ≡ position = omega (arith, not, from) in
                let at : drop (row_at problem items position) (table ++ row) ≡ row = drop_at table row (row_at problem items position) (sym here) in
                rw same (subst (IsRowOf problem (drop position items)) (sym at) is)
          ];
        }
