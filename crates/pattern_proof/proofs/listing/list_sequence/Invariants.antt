use Rattle.std.proofs.Common.{◌≡◌, ℕ, ◌+◌, ◌<◌, true, false, length, get_or}
use Rattle.std.specs.List.{slice_index_or}
use Rattle.mine_model.specs.declared.item.Item.{Item}
use Rattle.mine_model.specs.Hierarchy.{IsAncestor}
use Rattle.pattern_proof.specs.Listing.{AreListed, BeginsAt, fronts_of}
use Rattle.pattern_proof.proofs.listing.list_sequence.Given as goal

abbrev pub invariant-loop-t : goal.invariant-loop-t
invariant-loop-t l = record {
  listed : AreListed l.job l.marked (fronts_of l.lister) l.place (l.place + 1);
  first : (k : ℕ) (d w : Item) → k < l.t-index → k < length l.t-items → IsAncestor l.job.hierarchy.links w (get_or l.t-items k d)
      → slice_index_or l.marked w.0 false ≡ true → BeginsAt (fronts_of l.lister) l.place w;
}
