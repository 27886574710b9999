-- The rows of a share by numbers, in order, are its part of the answer by names.
use Rattle.std.proofs.Common.{ℕ, ◌≤◌, Some, List, sym, subst, map, Contains}
use Rattle.std.specs.List.{AllByRecursion}
use Rattle.mine_model.specs.declared.item.Item.{Item}
use Rattle.mine_model.specs.declared.row.Row.{Row}
use Rattle.mine_model.specs.Hierarchy.{Link}
use Rattle.mine_model.specs.Expression.{named_in}
use Rattle.mine_model.specs.Support.{Sequence}
use Rattle.mine_model.specs.Answer.{Data, IsFrequent, NamedRow, Rises}
use Rattle.mine_model.specs.Names.{name_of, HasName, named_row}
use Rattle.mine_model.specs.PartitionWork.{IsBytewiseBefore, IsNamedBefore}
use Rattle.mine_model.proofs.ListLemmas.{Contains-by, Contains-from}
use Rattle.mine_model.proofs.NumberingLemmas.{Renames}
use Rattle.mine_model.proofs.NamedAnswer.{named_data, rebuilt, frequent-forth, frequent-back}
use Rattle.command_line.specs.declared.share.Share.{Share}
use Rattle.split_merge.specs.Shares.{IsPivot, IsRowOfShare}
use Rattle.desq_run.specs.Parts.{IsPartBy}
use Rattle.desq_run.specs.Inputs.{AreFound}
use Rattle.desq_run.proofs.ShareNameLemmas.{list-named, of-share-forth, of-share-back}

module _ (names : List (List ℕ)) (others : List (Link (List ℕ))) (d : Data Item)
    (renames : Renames d.links others (HasName names) (name_of names))
    (numbered : AllByRecursion (λ (s : Sequence Item). AllByRecursion (HasName names) s.items) d.sequences)
    (named : AllByRecursion (HasName names) (named_in d.expression)) (some : 1 ≤ d.threshold) where
  module _ (share : Share) where
    abbrev Frequent : NamedRow → Type 0
    Frequent row = IsFrequent (named_data names others d) row.pattern row.support

    -- THE ROWS of the share by numbers are its part by names
    pub part-named : (rows : List Row) → AreFound (IsNamedBefore names) (Some share) d rows → Rises (map (named_row names) rows)
        → IsPartBy Frequent (named_data names others d) share (map (named_row names) rows)
    part-named rows (order, list, found) rises = record {
      order = map (name_of names) order;
      list = list-named (name_of names) others d (HasName names) renames named numbered IsBytewiseBefore some order list;
      ordered = rises;
      exact = λ row. (
        λ inside. let (r, held, same) = Contains-from (named_row names) rows row inside in
            let (frequent, (pivot, is, in_share)) = (found r).0 held in
            subst (λ (x : NamedRow). Frequent x × IsRowOfShare (map (name_of names) order) share.index share.of x) (sym same) (
              frequent-forth names others d renames numbered named some r.pattern r.support frequent,
              (pivot, of-share-forth (name_of names) others d (HasName names) renames named numbered IsBytewiseBefore some order list r.pattern pivot is, in_share),
            ),
        λ is. let (own, same, is_own, within) = frequent-back names others d renames numbered named some row.pattern row.support is.0 in
            let r : Row = record { pattern = own; support = row.support } in
            let pivot : IsPivot order own is.1.0 =
            of-share-back (name_of names) others d (HasName names) renames named numbered IsBytewiseBefore some order list own is.1.0 within
            (subst (λ p. IsPivot (map (name_of names) order) p is.1.0) same is.1.1) in
            let made : Contains (map (named_row names) rows) (named_row names r) =
            Contains-by (named_row names) rows r ((found r).1 (is_own, (is.1.0, pivot, is.1.2))) in
            subst (Contains (map (named_row names) rows)) (rebuilt row (map (name_of names) own) same) made,
      );
    }
