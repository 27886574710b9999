use Rattle.std.proofs.Common.{◌≡◌, map, take}
use Rattle.stand_sums.specs.Kept.{filings_in, AreFiles}
use Rattle.stand_sums.proofs.FileLemmas.{filed_among}
use Rattle.stand_sums.proofs.filing.file_visit.Given as goal

abbrev pub invariant-loop-rank : goal.invariant-loop-rank
invariant-loop-rank g l = record {
  form : l.run.narrow ≡ l.initial.run.narrow;
  files : AreFiles l.places l.shelves.items l.run.stands;
  filed : filings_in l.run.stands l.shelves.items
      ≡ map (filed_among l.aim l.visit l.end (take l.rank-index l.ranks)) (filings_in l.initial.run.stands l.initial.shelves.items);
}
