use Rattle.std.proofs.Common.{◌≡◌, ℕ, ◌-◌, ◌<◌, Some, None, Option, List, [], ◌∷◌, ◌++◌, length, take, get_or, slice_get, refl, sym, ap, ◌∙◌, subst, arith}
use Rattle.std.specs.List.{flat_map}
use Rattle.std.proofs.lemmas.List.{append-nil}
use Rattle.std.proofs.lemmas.Option.{slice_get_within}
use Rattle.mine_model.specs.declared.item.Item.{Item}
use Rattle.mine_model.specs.declared.row.Row.{Row}
use Rattle.mine_model.specs.Support.{Sequence}
use Rattle.mining_job.specs.Problems.{Problem}
use Rattle.pattern_writer.specs.Written.{IsHeld}
use Rattle.pattern_writer.proofs.WrittenLemmas.{held_then, cut_then, cut_more, on_err}
use Rattle.pattern_proof.specs.declared.listing.Listed.{Listed}
use Rattle.pattern_proof.specs.ProofLines.{Cited, path_line_of}
use Rattle.pattern_proof.specs.Putting.{ArePathsSoFar, CutsPaths}
use Rattle.pattern_proof.specs.Reading.{numbers_of}
use Rattle.pattern_proof.specs.Runs.{Writes}
use Rattle.pattern_proof.proofs.ListingLemmas.{chain-entry}
use Rattle.pattern_proof.proofs.CitedLemmas.{none-cited, all-cited, next-within, next-less, next-cited, next-passed, rest-cited, line-more, lines-more}
use Rattle.pattern_proof.proofs.putting.put_paths.Goals as goal

abbrev none : Listed
none = record { place = 0; next = 0 }

module _ (problem : Problem) (listed : List Listed) (row : Row) (at : ℕ) (some : 0 < at) (paths : List Cited) (places : List ℕ) (are : ArePathsSoFar problem listed row at paths places) where
  found : slice_get listed (at - 1) ≡ Some (get_or listed (at - 1) none)
  found = chain-entry listed at places none some are.chain

  inside : at - 1 < length listed
  inside = slice_get_within listed (at - 1) (get_or listed (at - 1) none) found

-- at first the room holds what it held
held-same : (told : Option (List ℕ)) (front : List ℕ) → IsHeld told told front (front ++ [])
held-same None front = tt
held-same (Some told) front = ([], ap (λ l. Some l) (sym (append-nil told)), sym (append-nil front))

pub loop-at-init : goal.loop-at-init
loop-at-init g c =
    let front : List ℕ = take c.args.filled c.args.text.now in
    record {
      within = c.requires.within;
      kept = λ states n m had. had;
      cited = (
        [],
        c.requires.listed.places,
        none-cited c.args.asked.now.job.now c.db.ensures.whole c.args.asked.now.listed.now c.args.asked.now.row.now c.args.asked.now.first c.requires.listed,
        held-same (g.O.Sink.written c.args.out.now) front,
      );
      passed = refl;
    }

pub bounds-asked-at : goal.bounds-asked-at
bounds-asked-at g c =
    let (paths, places, are, held) = c.loop-at.invariant.cited in
    inside c.args.asked.now.job.now c.args.asked.now.listed.now c.args.asked.now.row.now c.loop-at.at c.loop-at-test.true paths places are

pub find_path-requires-clause-seq : goal.find_path-requires-clause-seq
find_path-requires-clause-seq g c =
    let problem : Problem = c.args.asked.now.job.now in
    let listed : List Listed = c.args.asked.now.listed.now in
    let row : Row = c.args.asked.now.row.now in
    let (paths, places, are, held) = c.loop-at.invariant.cited in
    next-within problem c.db.ensures.whole listed row c.loop-at.at (get_or listed (c.loop-at.at - 1) none) c.loop-at-test.true
    (found problem listed row c.loop-at.at c.loop-at-test.true paths places are) paths places are

pub put_path-requires-clause-few : goal.put_path-requires-clause-few
put_path-requires-clause-few g c =
    let problem : Problem = c.args.asked.now.job.now in
    let listed : List Listed = c.args.asked.now.listed.now in
    let row : Row = c.args.asked.now.row.now in
    let (paths, places, are, held) = c.loop-at.invariant.cited in
    let within = next-within problem c.db.ensures.whole listed row c.loop-at.at (get_or listed (c.loop-at.at - 1) none) c.loop-at-test.true
    (found problem listed row c.loop-at.at c.loop-at-test.true paths places are) paths places are in
    let count = c.sequences-sequences.ensures.count in
    let most = c.sequences-sequences.ensures.most in
    let same = ap (λ (s : List (Sequence Item)). length s) c.db.ensures.sequences in
    omega (arith, within, count, most, same)

pub returns-in_err-held-clause-cut : goal.returns-in_err-held-clause-cut
returns-in_err-held-clause-cut g c =
    let problem : Problem = c.args.asked.now.job.now in
    let listed : List Listed = c.args.asked.now.listed.now in
    let row : Row = c.args.asked.now.row.now in
    let front : List ℕ = take c.args.filled c.args.text.now in
    let (paths, places, are, held) = c.loop-at.invariant.cited in
    let entry : Listed = get_or listed (c.loop-at.at - 1) none in
    let states : List ℕ = numbers_of c.as_slice.result.now in
    let path : Cited = record { place = entry.place; states = states } in
    let writes : Writes problem entry.place states row.pattern =
    subst (Writes problem entry.place states) c.items.ensures
    (subst (λ l. Writes problem entry.place (numbers_of l) c.items.result.now) (sym c.as_slice.ensures.value) c.if-find_path.ensures.path) in
    let (others, next) = next-cited problem c.db.ensures.whole listed row c.loop-at.at entry c.loop-at-test.true
    (found problem listed row c.loop-at.at c.loop-at-test.true paths places are) paths places are states writes in
    let (more, full) = rest-cited problem c.db.ensures.whole listed row c.requires.frequent entry.next (paths ++ path ∷ []) others next in
    let made : CutsPaths problem row (g.O.Sink.written c.args.out.now) (g.O.Sink.written c.put_path.new.out) front = (
      (paths ++ path ∷ []) ++ more,
      full,
      cut_more (g.O.Sink.written c.args.out.now) (g.O.Sink.written c.put_path.new.out) (front ++ flat_map path_line_of (paths ++ path ∷ [])) (flat_map path_line_of more) _
          (cut_then (g.O.Sink.written c.args.out.now) (g.O.Sink.written c.loop-at.out) (g.O.Sink.written c.put_path.new.out)
          (take c.loop-at.held c.loop-at.text) (front ++ flat_map path_line_of paths) (path_line_of path) _ held c.in_err-held.ensures.cut (line-more front paths path))
          (lines-more front (paths ++ path ∷ []) more),
    ) in
    on_err _ _ made

pub returns-in_err-held-clause-kept : goal.returns-in_err-held-clause-kept
returns-in_err-held-clause-kept g c = λ states n m had. c.find_path.ensures.kept states n m (c.loop-at.invariant.kept states n m had)

pub loop-at-smaller-in_ok-held : goal.loop-at-smaller-in_ok-held
loop-at-smaller-in_ok-held g c =
    let problem : Problem = c.args.asked.now.job.now in
    let listed : List Listed = c.args.asked.now.listed.now in
    let row : Row = c.args.asked.now.row.now in
    let (paths, places, are, held) = c.loop-at.invariant.cited in
    next-less problem c.db.ensures.whole listed row c.loop-at.at (get_or listed (c.loop-at.at - 1) none) c.loop-at-test.true
    (found problem listed row c.loop-at.at c.loop-at-test.true paths places are) paths places are

pub loop-at-preserved-in_ok-held : goal.loop-at-preserved-in_ok-held
loop-at-preserved-in_ok-held g c =
    let problem : Problem = c.args.asked.now.job.now in
    let listed : List Listed = c.args.asked.now.listed.now in
    let row : Row = c.args.asked.now.row.now in
    let front : List ℕ = take c.args.filled c.args.text.now in
    let (paths, places, are, held) = c.loop-at.invariant.cited in
    let entry : Listed = get_or listed (c.loop-at.at - 1) none in
    let states : List ℕ = numbers_of c.as_slice.result.now in
    let path : Cited = record { place = entry.place; states = states } in
    let writes : Writes problem entry.place states row.pattern =
    subst (Writes problem entry.place states) c.items.ensures
    (subst (λ l. Writes problem entry.place (numbers_of l) c.items.result.now) (sym c.as_slice.ensures.value) c.if-find_path.ensures.path) in
    let (others, next) = next-cited problem c.db.ensures.whole listed row c.loop-at.at entry c.loop-at-test.true
    (found problem listed row c.loop-at.at c.loop-at-test.true paths places are) paths places are states writes in
    record {
      within = c.in_ok-held.ensures.fits;
      kept = λ states n m had. c.find_path.ensures.kept states n m (c.loop-at.invariant.kept states n m had);
      cited = (
        paths ++ path ∷ [],
        others,
        next,
        held_then (g.O.Sink.written c.args.out.now) (g.O.Sink.written c.loop-at.out) (g.O.Sink.written c.put_path.new.out)
            (take c.loop-at.held c.loop-at.text) (front ++ flat_map path_line_of paths) (path_line_of path)
            (take c.in_ok-held.held c.put_path.new.text) _ held c.in_ok-held.ensures.held (line-more front paths path),
      );
      passed = c.in_ok-held.ensures.passed ∙ c.loop-at.invariant.passed;
    }

pub loop-at-smaller : goal.loop-at-smaller
loop-at-smaller g c =
    let problem : Problem = c.args.asked.now.job.now in
    let listed : List Listed = c.args.asked.now.listed.now in
    let row : Row = c.args.asked.now.row.now in
    let (paths, places, are, held) = c.loop-at.invariant.cited in
    next-less problem c.db.ensures.whole listed row c.loop-at.at (get_or listed (c.loop-at.at - 1) none) c.loop-at-test.true
    (found problem listed row c.loop-at.at c.loop-at-test.true paths places are) paths places are

pub loop-at-preserved : goal.loop-at-preserved
loop-at-preserved g c =
    let problem : Problem = c.args.asked.now.job.now in
    let listed : List Listed = c.args.asked.now.listed.now in
    let row : Row = c.args.asked.now.row.now in
    let (paths, places, are, held) = c.loop-at.invariant.cited in
    let entry : Listed = get_or listed (c.loop-at.at - 1) none in
    let never : (states : List ℕ) → Writes problem entry.place states row.pattern → ⊥ =
    λ states. subst (λ p. Writes problem entry.place states p → ⊥) c.items.ensures (c.if-find_path.ensures.path states) in
    let (others, next) = next-passed problem c.db.ensures.whole listed row c.loop-at.at entry c.loop-at-test.true
    (found problem listed row c.loop-at.at c.loop-at-test.true paths places are) paths places are never in
    record {
      within = c.loop-at.invariant.within;
      kept = λ states n m had. c.find_path.ensures.kept states n m (c.loop-at.invariant.kept states n m had);
      cited = (paths, others, next, held);
      passed = c.loop-at.invariant.passed;
    }

pub returns-clause-held : goal.returns-clause-held
returns-clause-held g c =
    let problem : Problem = c.args.asked.now.job.now in
    let listed : List Listed = c.args.asked.now.listed.now in
    let row : Row = c.args.asked.now.row.now in
    let (paths, places, are, held) = c.loop-at.invariant.cited in
    let last = c.loop-at-test.false in
    let end : c.loop-at.at ≡ 0 = omega (arith, last) in
    (paths, all-cited problem c.db.ensures.whole listed row paths places (subst (λ n. ArePathsSoFar problem listed row n paths places) end are), held)
