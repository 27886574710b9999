use Rattle.std.proofs.Common.{◌≡◌, ℕ, ◌-◌, ◌≤◌, Some, List, length, map, drop}
use Rattle.std.specs.List.{slice_get}
use Rattle.place_walk.specs.declared.visit.Visit.{Visit}
use Rattle.stand_sums.specs.Sequences.{AreSequences}
use Rattle.stand_sums.specs.Kept.{Filing, filed_in, filings_in, AreFiles}
use Rattle.stand_sums.proofs.FileLemmas.{AreFiledTo, HaveRoom}
use Rattle.stand_sums.proofs.filing.file_all.Given as goal

abbrev pub invariant-sequences : goal.invariant-sequences
invariant-sequences g l = record {
  form : l.run.narrow ≡ l.fn.run.narrow;
  files : AreFiles l.places l.shelves.items l.run.stands;
  within : l.from ≤ length l.visits;
  filed : (sequences : List (List Visit)) → AreSequences l.visits sequences
      → AreFiledTo (g.T.Outputs.ranks l.table) l.aim l.visits l.from sequences (map (filed_in l.fn.run.stands) l.fn.shelves.items) (map (filed_in l.run.stands) l.shelves.items);
  room : HaveRoom (g.T.Outputs.ranks l.table) l.aim (drop l.from l.visits) (filings_in l.run.stands l.shelves.items);
  ends : (j : ℕ) (filing : Filing) → slice_get (filings_in l.run.stands l.shelves.items) j ≡ Some filing → filing.end ≤ l.from;
}

abbrev pub decreases-sequences : goal.decreases-sequences
decreases-sequences g l = length l.visits - l.from
