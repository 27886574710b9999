use Rattle.std.proofs.Common.{◌≡◌, ◌-◌, ◌<◌, ◌≤◌, ◌++◌, ℕ, Some, List, map, drop, length, refl, sym, ◌∙◌, subst, arith}
use Rattle.std.specs.List.{All, slice_get, slice_range}
use Rattle.std.proofs.lemmas.List.Elements.{All-take, All-drop}
use Rattle.place_walk.specs.declared.visit.Visit.{Visit}
use Rattle.place_walk.specs.declared.stand.Stand.{Stand}
use Rattle.stand_sums.specs.declared.shelf.Shelf.{Shelf}
use Rattle.stand_sums.specs.Writings.{IsReadable}
use Rattle.stand_sums.specs.Files.{HasRoom}
use Rattle.stand_sums.specs.Kept.{Filing, filed_in, filings_in, older, AreFiles}
use Rattle.stand_sums.proofs.CutLemmas.{drop-range}
use Rattle.stand_sums.proofs.FileLemmas.{AreFiledTo, HaveRoom, room-have, room-all, room-front, room-left, filed-start, filed-more, filed-all, older-files, older-filed, older-ends, shelves-filed, ends-filed}
use Rattle.stand_sums.proofs.filing.file_all.Goals as goal

pub sequences-init : goal.sequences-init
sequences-init g c =
    let ranks = g.T.Outputs.ranks c.args.table.now in
    let run : List Stand = c.args.run.now.stands in
    let shelves : List Shelf = c.args.shelves.now.items in
    let same : c.make_older.new.shelves.items ≡ map older shelves = c.make_older.ensures in
    let filed : map (filed_in run) (map older shelves) ≡ map (filed_in run) shelves = older-filed run shelves in
    record {
      form = refl;
      files = subst (λ (l : List Shelf). AreFiles c.args.places.now l run) (sym same) (older-files c.args.places.now shelves run c.requires.files);
      within = omega arith;
      filed = λ sequences are.
          subst (λ (l : List Shelf). AreFiledTo ranks c.args.aim c.args.visits.now 0 sequences (map (filed_in run) shelves) (map (filed_in run) l)) (sym same)
          (subst (AreFiledTo ranks c.args.aim c.args.visits.now 0 sequences (map (filed_in run) shelves)) (sym filed)
          (filed-start ranks c.args.aim c.args.visits.now sequences (map (filed_in run) shelves) are));
      room = subst (λ (l : List Shelf). HaveRoom ranks c.args.aim c.args.visits.now (filings_in run l)) (sym same)
          (room-have ranks c.args.aim c.args.visits.now run (map older shelves)
          (subst (All (HasRoom ranks c.args.aim c.args.visits.now)) (sym filed) c.requires.room));
      ends = λ j filing at.
          let none : filing.end ≡ 0 = older-ends run shelves j filing (subst (λ (l : List Shelf). slice_get (filings_in run l) j ≡ Some filing) same at) in
          omega arith;
    }

pub file_sequence-requires-clause-readable : goal.file_sequence-requires-clause-readable
file_sequence-requires-clause-readable g c =
    let readable = IsReadable (g.T.Outputs.ranks c.args.table.now) (g.T.Outputs.CanAsk c.args.table.now) (length c.args.places.now) in
    All-take readable (c.sequence_end-end.result - c.sequences.from) (drop c.sequences.from c.args.visits.now) (All-drop readable c.sequences.from c.args.visits.now c.requires.readable)

pub file_sequence-requires-clause-room : goal.file_sequence-requires-clause-room
file_sequence-requires-clause-room g c =
    let ranks = g.T.Outputs.ranks c.args.table.now in
    let here : List Visit = slice_range c.args.visits.now c.sequences.from c.sequence_end-end.result in
    let behind : List Visit = drop c.sequence_end-end.result c.args.visits.now in
    let filings : List Filing = filings_in c.sequences.run.stands c.sequences.shelves.items in
    let forward = c.sequence_end-end.ensures.some in
    let split = drop-range c.args.visits.now c.sequences.from c.sequence_end-end.result (omega arith) in
    let room : HaveRoom ranks c.args.aim (here ++ behind) filings = subst (λ (l : List Visit). HaveRoom ranks c.args.aim l filings) split c.sequences.invariant.room in
    room-all ranks c.args.aim here c.sequences.run.stands c.sequences.shelves.items (room-front ranks c.args.aim here behind filings room)

pub sequences-preserved : goal.sequences-preserved
sequences-preserved g c =
    let ranks = g.T.Outputs.ranks c.args.table.now in
    let aim = c.args.aim in
    let visits : List Visit = c.args.visits.now in
    let from : ℕ = c.sequences.from in
    let end : ℕ = c.sequence_end-end.result in
    let here : List Visit = slice_range visits from end in
    let behind : List Visit = drop end visits in
    let filings : List Filing = filings_in c.sequences.run.stands c.sequences.shelves.items in
    let ends = c.sequence_end-end.ensures in
    let forward : from < end = ends.some in
    let split = drop-range visits from end (omega arith) in
    let room : HaveRoom ranks aim (here ++ behind) filings = subst (λ (l : List Visit). HaveRoom ranks aim l filings) split c.sequences.invariant.room in
    record {
      form = c.file_sequence.ensures.form ∙ c.sequences.invariant.form;
      files = c.file_sequence.ensures.files;
      within = ends.within;
      filed = λ sequences are.
          filed-more ranks aim visits sequences (map (filed_in c.args.run.now.stands) c.args.shelves.now.items) from end
          (map (filed_in c.sequences.run.stands) c.sequences.shelves.items) (map (filed_in c.file_sequence.new.run.stands) c.file_sequence.new.shelves.items)
          (c.sequences.invariant.filed sequences are) ends
          (shelves-filed ranks aim end here c.sequences.run.stands c.file_sequence.new.run.stands c.sequences.shelves.items c.file_sequence.new.shelves.items c.file_sequence.ensures.filed
          (λ j filing at. let most : filing.end ≤ from = c.sequences.invariant.ends j filing at in omega arith));
      room = subst (HaveRoom ranks aim behind) (sym c.file_sequence.ensures.filed) (room-left ranks aim end here behind filings room);
      ends = ends-filed ranks aim end here filings (filings_in c.file_sequence.new.run.stands c.file_sequence.new.shelves.items) c.file_sequence.ensures.filed
          (λ j filing at. let most : filing.end ≤ from = c.sequences.invariant.ends j filing at in omega arith);
    }

pub returns-clause-filed : goal.returns-clause-filed
returns-clause-filed g c sequences are =
    filed-all (g.T.Outputs.ranks c.args.table.now) c.args.aim c.args.visits.now sequences (map (filed_in c.args.run.now.stands) c.args.shelves.now.items) c.sequences.from
    (map (filed_in c.sequences.run.stands) c.sequences.shelves.items) (c.sequences.invariant.filed sequences are) c.sequences-test.false
