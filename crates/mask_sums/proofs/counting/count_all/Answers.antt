use Rattle.std.proofs.Common.{List, sym, subst}
use Rattle.std.specs.List.{slice_range}
use Rattle.place_walk.specs.declared.visit.Visit.{Visit}
use Rattle.mask_sums.specs.Kept.{lacks, HasStands}
use Rattle.mask_sums.proofs.RunLemmas.{range-some, sequence-counted, counted-more, counted-all}
use Rattle.mask_sums.proofs.counting.count_all.Goals as goal

pub sequences-preserved : goal.sequences-preserved
sequences-preserved g c sequences are =
    let ranks = g.T.Outputs.ranks c.args.table.now in
    let visits : List Visit = c.args.visits.now in
    let read = c.in_ok-read.ensures.read in
    let here : List Visit = slice_range visits c.sequences.from c.in_ok-read.read.end in
    let stands : HasStands ranks (lacks c.args.lacking) here c.sequences.masked.stands c.count_sequence.new.masked.stands =
    subst (HasStands ranks (lacks c.args.lacking) here c.sequences.masked.stands) (sym c.in_ok-count_sequence.ensures.stands) c.in_ok-read.ensures.stands in
    counted-more ranks (lacks c.args.lacking) visits c.sequences.from c.in_ok-read.read.end sequences c.args.masked.now c.sequences.masked c.count_sequence.new.masked (c.sequences.invariant sequences are) read.end
    (sequence-counted ranks (lacks c.args.lacking) here c.in_ok-read.read c.sequences.masked c.count_sequence.new.masked (range-some visits c.sequences.from c.in_ok-read.read.end read.end.some read.end.within) read.opened read.ended
    c.in_ok-count_sequence.ensures.followed c.in_ok-count_sequence.ensures.ended c.in_ok-count_sequence.ensures.opened stands)

pub returns : goal.returns
returns g c sequences are =
    counted-all (g.T.Outputs.ranks c.args.table.now) (lacks c.args.lacking) c.args.visits.now c.sequences.from sequences c.args.masked.now c.sequences.masked (c.sequences.invariant sequences are) c.sequences-test.false
