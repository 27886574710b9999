use Rattle.std.proofs.Common.{◌≡◌, ◌∙◌, ℕ, ◌+◌, ◌≤◌, ◌<◌, inl, inr, Bool, true, false, true≢false, not, ◌&&◌, ◌==◌, refl, Option, Some, None, List, [], ◌∷◌, ◌++◌, length, filter, take, get_or, min, length-take, sym, ap, subst, arith, rules}
use Rattle.std.specs.List.{AllZip, slice_get}
use Rattle.std.proofs.lemmas.Bool.{cases_eq, ne_eqb, lt-ltb, le-ltb}
use Rattle.std.specs.Arc.{arc_value}
use Rattle.place_walk.specs.declared.stand.Stand.{Stand}
use Rattle.std.proofs.lemmas.List.{take_more, take_all}
use Rattle.std.proofs.lemmas.Option.{slice_get-get_or, slice_get_within}
use Rattle.std.proofs.lemmas.Slice.Zip.{all_zipped_more}
use Rattle.mine_model.proofs.ElementLemmas.{get-held}
use Rattle.stand_sums.specs.declared.next_rank.NextRank.{NextRank}
use Rattle.mask_sums.specs.Kept.{lacking}
use Rattle.level_ahead.specs.Counts.{is_asked}
use Rattle.stand_sums.specs.Runs.{RunValue}
use Rattle.stand_sums.proofs.WritingLemmas.{no_rank}
use Rattle.snapshot_project.specs.Ahead.{IsKeptAhead, moved_front}
use Rattle.snapshot_project.specs.Longer.{kept_of}
use Rattle.snapshot_project.specs.Stands.{StandList}
use Rattle.snapshot_project.proofs.PlacedLemmas.{entry-of, count-yes, count-no, count-most}
use Rattle.snapshot_project.proofs.ahead.longer_ahead.Goals.{then-asks_about+in_ok-behind+in_ok-push, else-asks_about+then-next+in_ok-clone+in_ok-push-2, else-asks_about+else-next+in_ok-push-3}
use Rattle.snapshot_project.proofs.ahead.longer_ahead.Goals as goal

-- a rank with places that is not asked about is lacking
not-asked : (lack : Option ℕ) (next : NextRank) → next.first < next.last → is_asked lack next ≡ false → lack ≡ Some next.rank
not-asked None next some not_asked = absurd (true≢false (sym (lt-ltb next.first next.last some) ∙ not_asked))
not-asked (Some need) next some not_asked = elim (cases_eq next.rank need) [
  | inl same ↦ ap Some (sym same)
  | inr other ↦ absurd (true≢false (sym (rw (lt-ltb next.first next.last some, ne_eqb next.rank need other) refl) ∙ not_asked))
]

-- without places none is asked about
asked-some : (lack : Option ℕ) (next : NextRank) → is_asked lack next ≡ true → next.last ≤ next.first → ⊥
asked-some None next asked none = true≢false (sym asked ∙ le-ltb next.first next.last none)
asked-some (Some need) next asked none = true≢false (sym asked ∙ ap (λ (b : Bool). b && not (next.rank == need)) (le-ltb next.first next.last none))

pub reaching-requires : goal.reaching-requires
reaching-requires c =
    let found : List NextRank = c.args.found.now in
    let k : ℕ = c.loop-next.next-index in
    let lack : Option ℕ = lacking c.args.aim in
    let next : NextRank = get_or found k no_rank in
    let asked : is_asked lack next ≡ true = subst (λ (o : Option ℕ). is_asked o next ≡ true) c.lacking.ensures (sym c.asks_about.ensures ∙ c.if-asks_about.true) in
    let (behind, here, same) = entry-of lack c.args.ahead.now found c.requires.asked k next (slice_get-get_or found k no_rank c.loop-next-test.true) asked in
    let inside = slice_get_within c.args.ahead.now (length (filter (is_asked lack) (take k found))) behind here in
    let entry : c.loop-next.entry ≡ length (filter (is_asked lack) (take k found)) = c.loop-next.invariant.entry in
    omega arith

pub overflow_add-entry : goal.overflow_add-entry
overflow_add-entry c =
    let found : List NextRank = c.args.found.now in
    let k : ℕ = c.loop-next.next-index in
    let entry : c.loop-next.entry ≡ length (filter (is_asked (lacking c.args.aim)) (take k found)) = c.loop-next.invariant.entry in
    let most : length (filter (is_asked (lacking c.args.aim)) (take k found)) ≤ length (take k found) = count-most (lacking c.args.aim) (take k found) in
    let long : length (take k found) ≡ min k (length found) = length-take k found in
    let inside : k < length found = c.loop-next-test.true in
    let small : c.loop-next.entry ≤ k = omega arith in
    search rules

pub loop-next-preserved : goal.loop-next-preserved
loop-next-preserved c =
    let found : List NextRank = c.args.found.now in
    let k : ℕ = c.loop-next.next-index in
    let lack : Option ℕ = lacking c.args.aim in
    let next : NextRank = get_or found k no_rank in
    let inside : k < length found = c.loop-next-test.true in
    let at : slice_get found k ≡ Some next = slice_get-get_or found k no_rank inside in
    let entry : c.loop-next.entry ≡ length (filter (is_asked lack) (take k found)) = c.loop-next.invariant.entry in
    let run : List Stand = (arc_value c.in_ok-shared.shared).stands in
    let R : NextRank → StandList → Type 0 = IsKeptAhead c.args.aim c.args.least c.args.ahead.now run in
    let asks : is_asked lack next ≡ c.asks_about.result = subst (λ (o : Option ℕ). is_asked o next ≡ c.asks_about.result) c.lacking.ensures (sym c.asks_about.ensures) in
    let more : take (k + 1) found ≡ take k found ++ next ∷ [] = take_more found k no_rank inside in
    let pushed : (kept : StandList) → R next kept → (all : List StandList) → all ≡ c.loop-next.longer.items ++ kept ∷ [] → AllZip R (take (k + 1) found) all = λ kept one all all_is.
    subst (λ (l : List NextRank). AllZip R l all) (sym more)
    (subst (λ (l : List StandList). AllZip R (take k found ++ next ∷ []) l) (sym all_is)
    (all_zipped_more R (take k found) c.loop-next.longer.items next kept c.loop-next.invariant.kept one)) in
    elim c.if-asks_about.branch [
      | then-asks_about+in_ok-behind+in_ok-push w ↦
          let asked : is_asked lack next ≡ true = asks ∙ w.if-asks_about.true in
          let counted = count-yes lack found k no_rank inside asked in
          let told_is = w.told.ensures in
          record {
            entry = w.entry-is ∙ ap (λ (n : ℕ). n + 1) entry ∙ sym counted;
            kept = pushed w.told.result (inl (record {
              seen = ap (λ (l : StandList). l.seen) told_is ∙ w.sees-seen.ensures;
              support = ap (λ (l : StandList). l.support) told_is;
              told = w.in_ok-behind.behind.items;
              next_is = ap (λ (l : StandList). l.next) told_is;
              counted = λ places.
                  let (behind, here, same) = entry-of lack c.args.ahead.now found c.requires.asked k next at asked in
                  let there : slice_get c.args.ahead.now c.loop-next.entry ≡ Some behind = ap (slice_get c.args.ahead.now) entry ∙ here in
                  (behind, get-held c.args.ahead.now c.loop-next.entry behind there, same, w.in_ok-behind.ensures behind there);
              nothing = λ none. absurd (asked-some lack next asked none);
            })) c.if-asks_about.longer.items (ap (λ v. v.items) w.longer-is ∙ w.in_ok-push.ensures.items);
          }
      | else-asks_about+then-next+in_ok-clone+in_ok-push-2 w ↦
          let not_asked : is_asked lack next ≡ false = asks ∙ w.if-asks_about.false in
          let some : next.first < next.last = w.if-next.true in
          let counted = count-no lack found k no_rank inside not_asked in
          let copy : arc_value w.in_ok-clone.field-0 ≡ arc_value c.in_ok-shared.shared = search rules in
          let piece_is : w.piece.result ≡ kept_of c.args.aim run (moved_front next) = w.piece.ensures ∙ (λ i. kept_of c.args.aim (copy i).stands (w.at_front.ensures i)) in
          record {
            entry = w.entry-is ∙ entry ∙ sym counted;
            kept = pushed w.piece.result (inr (record { lacked = not-asked lack next some not_asked; some = some; is = piece_is })) c.if-asks_about.longer.items
                (ap (λ v. v.items) w.longer-is ∙ w.in_ok-push-2.ensures.items);
          }
      | else-asks_about+else-next+in_ok-push-3 w ↦
          let not_asked : is_asked lack next ≡ false = asks ∙ w.if-asks_about.false in
          let past : next.last ≤ next.first = w.if-next.false in
          let counted = count-no lack found k no_rank inside not_asked in
          let told_is = w.told-else-next.ensures in
          record {
            entry = w.entry-is ∙ entry ∙ sym counted;
            kept = pushed w.told-else-next.result (inl (record {
              seen = ap (λ (l : StandList). l.seen) told_is ∙ w.sees-seen-else-next.ensures;
              support = ap (λ (l : StandList). l.support) told_is;
              told = w.new-behind.result.items;
              next_is = ap (λ (l : StandList). l.next) told_is;
              counted = λ places. absurd (omega (arith, past, places));
              nothing = λ none. w.new-behind.ensures.items;
            })) c.if-asks_about.longer.items (ap (λ v. v.items) w.longer-is ∙ w.in_ok-push-3.ensures.items);
          }
    ]

pub returns : goal.returns
returns c =
    let found : List NextRank = c.args.found.now in
    let R : List Stand → List NextRank → Type 0 = λ run list. AllZip (IsKeptAhead c.args.aim c.args.least c.args.ahead.now run) list c.loop-next.longer.items in
    subst (λ (run : List Stand). R run found) (ap (λ (r : RunValue). r.stands) c.in_ok-shared.ensures.ok)
    (subst (R (arc_value c.in_ok-shared.shared).stands) (take_all c.loop-next.next-index found c.loop-next-test.false) c.loop-next.invariant.kept)
