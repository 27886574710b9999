use Rattle.std.proofs.Common.{◌≡◌, ℕ, ◌+◌, ◌≤◌, ◌<◌, List, [], ◌∷◌, ◌++◌, map, length, take, get_or, slice_get, Some, refl, sym, ap, ◌∙◌, subst, arith}
use Rattle.std.specs.List.{AllByRecursion, flat_map}
use Rattle.std.proofs.lemmas.List.{map-append, take_all, get_or_default}
use Rattle.std.proofs.lemmas.Option.{slice_get-get_or}
use Rattle.mine_model.specs.declared.row.Row.{Row}
use Rattle.mine_model.proofs.ListLemmas.{of_both}
use Rattle.mining_job.specs.Problems.{Problem, items_of}
use Rattle.pattern_writer.proofs.WrittenLemmas.{held_then, cut_over, over_last, on_err}
use Rattle.pattern_proof.specs.Listing.{ListsAll}
use Rattle.pattern_proof.specs.ProofLines.{Entry, text_of_entry}
use Rattle.pattern_proof.specs.Proofs.{IsFull, IsProofOf}
use Rattle.pattern_proof.specs.Putting.{entry_of}
use Rattle.pattern_proof.specs.Rooms.{HasRoom}
use Rattle.pattern_proof.proofs.EntryLemmas.{cut-off, gains-proof, gains-part-last, entry-more, rows-cut}
use Rattle.pattern_proof.proofs.proof_writer.put_entries.Goals as goal

there : (rows : List Row) (n : ℕ) (row : Row) → n < length rows → row ≡ get_or rows n row → slice_get rows n ≡ Some row
there rows n row inside is = slice_get-get_or rows n row inside ∙ ap (λ (r : Row). Some r) (sym is)

-- entries of all rows are a proof
proof-of : (problem : Problem) (names : List (List ℕ)) (rows : List Row) (n : ℕ) (entries : List Entry) → length rows ≤ n → map (λ (entry : Entry). entry.row) entries ≡ take n rows
    → AllByRecursion (IsFull problem) entries → IsProofOf problem names rows (flat_map (text_of_entry names) entries)
proof-of problem names rows n entries most same full = record { entries = entries; same = same ∙ take_all n rows most; full = full; text = refl }

pub put_entry-requires-clause-frequent : goal.put_entry-requires-clause-frequent
put_entry-requires-clause-frequent g c = c.requires.frequent c.row-item.result (c.loop-number.number, c.loop-number-test.true, sym c.row-item.is)

pub put_entry-requires-clause-listed : goal.put_entry-requires-clause-listed
put_entry-requires-clause-listed g c =
    let problem : Problem = c.args.source.now.job.now in
    let n : ℕ = c.loop-number.number in
    let row : Row = c.row-item.result in
    let starts : List ℕ = c.args.source.now.lists.now.starts.items in
    let whole = c.requires.lists.whole in
    let test = c.loop-number-test.true in
    let first : c.index-first.result.now ≡ get_or starts n 0 = c.index-first.ensures ∙ get_or_default starts n c.index-first.result.now 0 (omega (arith, whole, test)) in
    subst (λ m. ListsAll problem c.args.source.now.lists.now.listed.items m row.pattern) (sym first)
    (c.requires.lists.each n row (there c.args.source.now.rows.now n row test c.row-item.is))

pub put_entry-requires-clause-room : goal.put_entry-requires-clause-room
put_entry-requires-clause-room g c = λ place inside.
    let problem : Problem = c.args.source.now.job.now in
    let n : ℕ = c.loop-number.number in
    let row : Row = c.row-item.result in
    subst (λ (r : Row). HasRoom c.loop-number.room (length problem.transducer.labels + 1) (length (items_of problem place)) (length r.pattern)) (sym c.row-item.is)
    (c.loop-number.invariant.room n row c.loop-number-test.true place inside)

pub returns-in_err-held-clause-cut : goal.returns-in_err-held-clause-cut
returns-in_err-held-clause-cut g c =
    let problem : Problem = c.args.source.now.job.now in
    let names : List (List ℕ) = c.args.source.now.names.now in
    let rows : List Row = c.args.source.now.rows.now in
    let n : ℕ = c.loop-number.number in
    let row : Row = c.row-item.result in
    let (entries, same, full, held) = c.loop-number.invariant.entries in
    let found = there rows n row c.loop-number-test.true c.row-item.is in
    on_err _ _ (cut-off problem c.threshold-threshold.ensures.whole names rows c.args.source.now.lists.now c.requires.frequent c.requires.lists entries n row same full (rows-cut rows n row found).0
    (g.O.Sink.written c.args.out.now) (g.O.Sink.written c.loop-number.out) (g.O.Sink.written c.put_entry.new.out) (take c.loop-number.held c.loop-number.text) held c.in_err-held.ensures.cut)

pub returns-in_err-held-clause-kept : goal.returns-in_err-held-clause-kept
returns-in_err-held-clause-kept g c = λ k d inside place within. c.put_entry.ensures.kept _ _ _ (c.loop-number.invariant.room k d inside place within)

pub loop-number-preserved : goal.loop-number-preserved
loop-number-preserved g c =
    let problem : Problem = c.args.source.now.job.now in
    let names : List (List ℕ) = c.args.source.now.names.now in
    let rows : List Row = c.args.source.now.rows.now in
    let n : ℕ = c.loop-number.number in
    let row : Row = c.row-item.result in
    let (entries, same, full, held) = c.loop-number.invariant.entries in
    let (paths, own, more) = c.in_ok-held.ensures.held in
    let entry : Entry = entry_of row paths in
    let found = there rows n row c.loop-number-test.true c.row-item.is in
    record {
      within = c.in_ok-held.ensures.fits;
      room = λ k d inside place within. c.put_entry.ensures.kept _ _ _ (c.loop-number.invariant.room k d inside place within);
      entries = (
        entries ++ entry ∷ [],
        map-append (λ (e : Entry). e.row) entries (entry ∷ []) ∙ ap (λ l. l ++ row ∷ []) same ∙ sym (rows-cut rows n row found).1,
        of_both (IsFull problem) entries (entry ∷ []) full (own, tt),
        held_then (g.O.Sink.written c.args.out.now) (g.O.Sink.written c.loop-number.out) (g.O.Sink.written c.put_entry.new.out)
            (take c.loop-number.held c.loop-number.text) (flat_map (text_of_entry names) entries) (text_of_entry names entry)
            (take c.in_ok-held.held c.put_entry.new.text) _ held more (entry-more names entries entry),
      );
      passed = c.in_ok-held.ensures.passed ∙ c.loop-number.invariant.passed;
    }

pub returns-clause-written : goal.returns-clause-written
returns-clause-written g c =
    let problem : Problem = c.args.source.now.job.now in
    let names : List (List ℕ) = c.args.source.now.names.now in
    let rows : List Row = c.args.source.now.rows.now in
    let (entries, same, full, held) = c.loop-number.invariant.entries in
    gains-proof c.hand_over.result problem names rows (g.O.Sink.written c.args.out.now) (g.O.Sink.written c.hand_over.new.out) (flat_map (text_of_entry names) entries)
    (proof-of problem names rows c.loop-number.number entries c.loop-number-test.false same full)
    (over_last c.hand_over.result (g.O.Sink.written c.args.out.now) (g.O.Sink.written c.loop-number.out) (g.O.Sink.written c.hand_over.new.out)
    (take c.loop-number.held c.loop-number.text) (flat_map (text_of_entry names) entries) _ held c.hand_over.ensures.written refl)

pub returns-clause-cut : goal.returns-clause-cut
returns-clause-cut g c =
    let problem : Problem = c.args.source.now.job.now in
    let names : List (List ℕ) = c.args.source.now.names.now in
    let rows : List Row = c.args.source.now.rows.now in
    let (entries, same, full, held) = c.loop-number.invariant.entries in
    gains-part-last c.hand_over.result problem names rows (g.O.Sink.written c.args.out.now) (g.O.Sink.written c.hand_over.new.out) (flat_map (text_of_entry names) entries)
    (proof-of problem names rows c.loop-number.number entries c.loop-number-test.false same full)
    (cut_over c.hand_over.result (g.O.Sink.written c.args.out.now) (g.O.Sink.written c.loop-number.out) (g.O.Sink.written c.hand_over.new.out)
    (take c.loop-number.held c.loop-number.text) (flat_map (text_of_entry names) entries) _ held c.hand_over.ensures.cut refl)
