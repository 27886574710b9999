use Rattle.std.proofs.Common.{◌≤◌, length}
use Rattle.pattern_proof.specs.Listing.{AreListed, fronts_of}
use Rattle.pattern_proof.proofs.listing.list_all.Given as goal

abbrev pub invariant-loop-place : goal.invariant-loop-place
invariant-loop-place l = record {
  within : l.place ≤ length l.job.sequences;
  listed : AreListed l.job l.marked (fronts_of l.lister) l.place l.place;
}

abbrev pub decreases-loop-place : goal.decreases-loop-place
decreases-loop-place l = l.place
