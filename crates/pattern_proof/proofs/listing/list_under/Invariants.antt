use Rattle.std.proofs.Common.{◌≡◌, ℕ, ◌+◌, ◌<◌, true, false, length, get_or}
use Rattle.std.specs.List.{slice_index_or}
use Rattle.mine_model.specs.declared.item.Item.{Item}
use Rattle.pattern_proof.specs.Listing.{AreListed, BeginsAt, fronts_of}
use Rattle.pattern_proof.proofs.listing.list_under.Given as goal

abbrev pub invariant-loop-w : goal.invariant-loop-w
invariant-loop-w l = record {
  listed : AreListed l.job l.marked (fronts_of l.lister) l.place (l.place + 1);
  first : (k : ℕ) (d : Item) → k < l.w-index → k < length l.w-items → slice_index_or l.marked (get_or l.w-items k d).0 false ≡ true
      → BeginsAt (fronts_of l.lister) l.place (get_or l.w-items k d);
  kept : (v : Item) → BeginsAt (fronts_of l.initial.lister) l.place v → BeginsAt (fronts_of l.lister) l.place v;
}
