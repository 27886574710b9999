use Rattle.std.proofs.Common.{◌≡◌, map, take}
use Rattle.stand_sums.specs.Kept.{filings_in, filed_behind_all, AreFiles}
use Rattle.stand_sums.proofs.filing.file_sequence.Given as goal

abbrev pub invariant-loop-visit : goal.invariant-loop-visit
invariant-loop-visit g l = record {
  form : l.run.narrow ≡ l.initial.run.narrow;
  files : AreFiles l.places l.shelves.items l.run.stands;
  filed : filings_in l.run.stands l.shelves.items
      ≡ map (filed_behind_all (g.T.Outputs.ranks l.table) l.aim l.end (take l.visit-index l.visits)) (filings_in l.initial.run.stands l.initial.shelves.items);
}
