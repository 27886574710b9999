use Rattle.std.proofs.Common.{ℕ, List, [], map, sym, subst, arith, Contains}
use Rattle.std.proofs.lemmas.List.Sorted.{Contains-permutation, IsPermutation-sym}
use Rattle.mine_model.specs.declared.row.Row.{Row}
use Rattle.mine_model.specs.Answer.{NamedRow}
use Rattle.mine_model.specs.Names.{named_row}
use Rattle.mine_model.proofs.ListLemmas.{Contains-by, Contains-from}
use Rattle.mine_model.proofs.NameLemmas.{GrowBy-none}
use Rattle.split_merge.specs.Merging.{lines_of_files}
use Rattle.split_merge.proofs.TakingLemmas.{said-row, row-said}
use Rattle.split_merge.proofs.laws.rows_read_in_order_are_the_merge.Goals as goal

-- rows in another order have the same names
moved : (names : List (List ℕ)) (rows others : List Row) → ((row : Row) → Contains rows row → Contains others row) → (named : NamedRow)
    → Contains (map (named_row names) rows) named → Contains (map (named_row names) others) named
moved names rows others same named held =
    let (row, inside, is) = Contains-from (named_row names) rows named held in
    subst (Contains (map (named_row names) others)) (sym is) (Contains-by (named_row names) others row (same row inside))

pub returns : goal.returns
returns c = record {
  none = λ threshold. record {
    named = tt;
    said = tt;
    differ = λ i j d less within. absurd (omega (arith, within));
    grown = GrowBy-none [];
  };
  merge = λ threshold files names rows ordered are same rises. record {
    ordered = rises;
    said = λ row. (
      (λ held. row-said threshold (lines_of_files files) (map (named_row names) rows) are.said row
          (moved names ordered rows (λ r inside. Contains-permutation ordered rows r (IsPermutation-sym rows ordered same) inside) row held)),
      (λ said. moved names rows ordered (λ r inside. Contains-permutation rows ordered r same inside) row
          (said-row threshold (lines_of_files files) (map (named_row names) rows) are.said row said)),
    );
  };
}
