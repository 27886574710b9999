-- One line more: what is good so far stays good exactly where the line is taken.
use Rattle.std.proofs.Common.{◌≡◌, ℕ, inl, inr, List, [], ◌∷◌, ◌++◌, map, length, refl, sym, ap, ◌∙◌, subst}
use Rattle.std.specs.List.{AllByRecursion}
use Rattle.std.proofs.lemmas.List.{map-append}
use Rattle.mine_model.specs.declared.row.Row.{Row}
use Rattle.mine_model.specs.Answer.{NamedRow, Rises, ComesBefore}
use Rattle.mine_model.specs.Names.{named_row}
use Rattle.mine_model.proofs.ListLemmas.{front_of_both, back_of_both, of_both, last-cases}
use Rattle.mining_job.specs.Problems.{Problem}
use Rattle.pattern_proof.specs.ProofLines.{Cited, Entry, SaysRow, GoesOn, SayMore}
use Rattle.pattern_proof.specs.Proofs.{IsGoodPath, IsEnough, IsProved, RowsRise, IsGood}
use Rattle.pattern_proof.specs.Judging.{IsBehind, IsNextPath, IsGoodLine}
use Rattle.pattern_proof.specs.Checking.{IsUnder, OfLast, AreSoFar, TakesRow, Takes, TakesAll}
use Rattle.pattern_proof.proofs.SayLemmas.{snoc-unique, no-snoc}
use Rattle.pattern_proof.proofs.RiseLemmas.{rises-front, rises-before, rises-snoc, behind-all, places-front, places-before, places-snoc}

abbrev named : List (List ℕ) → Entry → NamedRow
named names entry = named_row names entry.row

abbrev fresh : Row → Entry
fresh row = record { row = row; paths = [] }

abbrev longer : Entry → Cited → Entry
longer entry path = record entry { paths = entry.paths ++ path ∷ [] }

module _ (problem : Problem) (names : List (List ℕ)) where
  pub takes-goes : (before : List Entry) (text : List ℕ) (after : List Entry) → Takes problem names before text after → GoesOn names before text after
  takes-goes before text after (inl takes) = inl (takes.row, takes.says, takes.added)
  takes-goes before text after (inr takes) = inr (takes.earlier, takes.last, takes.path, takes.cut, takes.says, takes.added)

  pub takes-good : (before : List Entry) (text : List ℕ) (after : List Entry) → Takes problem names before text after → IsGoodLine problem names before text
  takes-good before text after (inl takes) = inl (takes.row, takes.says, takes.range, takes.behind)
  takes-good before text after (inr takes) = inr (takes.earlier, takes.last, takes.path, takes.cut, takes.says, takes.next)

  pub takes-say : (before : List Entry) (lines : List (List ℕ)) (after : List Entry) → TakesAll problem names before lines after → SayMore names before lines after
  takes-say before [] after takes = takes
  takes-say before (text ∷ lines) after (between, takes, all) = (between, takes-goes before text between takes, takes-say between lines after all)

  -- the rows of entries and one more
  rows-more : (entries : List Entry) (entry : Entry) → map (named names) (entries ++ entry ∷ []) ≡ map (named names) entries ++ named names entry ∷ []
  rows-more entries entry = map-append (named names) entries (entry ∷ [])

  -- where all entries are enough, all but the last are
  enough-front : (entries : List Entry) → AllByRecursion (IsEnough problem) entries → (earlier : List Entry) (last : Entry) → entries ≡ earlier ++ last ∷ [] → AllByRecursion (IsEnough problem) earlier
  enough-front entries all earlier last cut = front_of_both (IsEnough problem) earlier (last ∷ []) (subst (AllByRecursion (IsEnough problem)) cut all)

  enough-last : (entries : List Entry) → AllByRecursion (IsEnough problem) entries → OfLast (IsEnough problem) entries
  enough-last entries all earlier last cut =
      let end : AllByRecursion (IsEnough problem) (last ∷ []) = back_of_both (IsEnough problem) earlier (last ∷ []) (subst (AllByRecursion (IsEnough problem)) cut all) in end.0

  pub enough-all : (entries : List Entry) → AreSoFar problem names entries → OfLast (IsEnough problem) entries → AllByRecursion (IsEnough problem) entries
  enough-all entries so_far closed = elim (last-cases entries) [
    | inl empty ↦ subst (AllByRecursion (IsEnough problem)) (sym empty) tt
    | inr cut ↦ (let (earlier, last, is) = cut in
        subst (AllByRecursion (IsEnough problem)) (sym is) (of_both (IsEnough problem) earlier (last ∷ []) (so_far.enough earlier last is) (closed earlier last is, tt)))
  ]

  -- Forth

  before-all : (before : List Entry) (row : Row) → RowsRise names before → IsBehind names before row
      → AllByRecursion (λ x. ComesBefore x (named_row names row)) (map (named names) before)
  before-all before row rise behind = elim (last-cases before) [
    | inl empty ↦ subst (λ (l : List Entry). AllByRecursion (λ x. ComesBefore x (named_row names row)) (map (named names) l)) (sym empty) tt
    | inr cut ↦ (let (earlier, last, is) = cut in
        let rows : map (named names) before ≡ map (named names) earlier ++ named names last ∷ [] = ap (map (named names)) is ∙ rows-more earlier last in
        subst (AllByRecursion (λ x. ComesBefore x (named_row names row))) (sym rows)
        (behind-all (map (named names) earlier) (named names last) (named_row names row) (subst Rises rows rise) (behind earlier last is)))
  ]

  forth-row : (before : List Entry) (text : List ℕ) (after : List Entry) → AreSoFar problem names before → (takes : TakesRow problem names before text after)
      → AreSoFar problem names (before ++ fresh takes.row ∷ [])
  forth-row before text after so_far takes = record {
    rise = subst Rises (sym (rows-more before (fresh takes.row)))
        (rises-snoc (map (named names) before) (named_row names takes.row) so_far.rise (before-all before takes.row so_far.rise takes.behind));
    under = of_both (IsUnder problem) before (fresh takes.row ∷ []) so_far.under (record { range = takes.range; paths = record { each = tt; rise = tt } }, tt);
    enough = λ earlier last cut. (let same = snoc-unique before earlier (fresh takes.row) last cut in
        subst (AllByRecursion (IsEnough problem)) same.0 (enough-all before so_far takes.closed));
  }

  forth-path : (earlier : List Entry) (last : Entry) (path : Cited) → AreSoFar problem names (earlier ++ last ∷ []) → IsNextPath problem last path
      → AreSoFar problem names (earlier ++ longer last path ∷ [])
  forth-path earlier last path so_far next =
      let end : AllByRecursion (IsUnder problem) (last ∷ []) = back_of_both (IsUnder problem) earlier (last ∷ []) so_far.under in
      record {
        rise = subst Rises (rows-more earlier last ∙ sym (rows-more earlier (longer last path))) so_far.rise;
        under = of_both (IsUnder problem) earlier (longer last path ∷ []) (front_of_both (IsUnder problem) earlier (last ∷ []) so_far.under) (
          record {
            range = end.0.range;
            paths = record {
              each = of_both (IsGoodPath problem last.row) last.paths (path ∷ []) end.0.paths.each (next.good, tt);
              rise = places-snoc last.paths path end.0.paths.rise next.later;
            };
          },
          tt,
        );
        enough = λ front l cut. (let same = snoc-unique earlier front (longer last path) l cut in
            subst (AllByRecursion (IsEnough problem)) same.0 (so_far.enough earlier last refl));
      }

  pub forth : (before : List Entry) (text : List ℕ) (after : List Entry) → AreSoFar problem names before → Takes problem names before text after → AreSoFar problem names after
  forth before text after so_far (inl takes) = subst (AreSoFar problem names) (sym takes.added) (forth-row before text after so_far takes)
  forth before text after so_far (inr takes) =
      subst (AreSoFar problem names) (sym takes.added)
      (forth-path takes.earlier takes.last takes.path (subst (AreSoFar problem names) takes.cut so_far) takes.next)

  pub forth-all : (before : List Entry) (lines : List (List ℕ)) (after : List Entry) → AreSoFar problem names before → TakesAll problem names before lines after → AreSoFar problem names after
  forth-all before [] after so_far takes = subst (AreSoFar problem names) (sym takes) so_far
  forth-all before (text ∷ lines) after so_far (between, takes, all) = forth-all between lines after (forth before text between so_far takes) all

  -- Back

  back-row : (before : List Entry) (text : List ℕ) (row : Row) → SaysRow names text row → AreSoFar problem names (before ++ fresh row ∷ [])
      → AreSoFar problem names before × TakesRow problem names before text (before ++ fresh row ∷ [])
  back-row before text row says so_far =
      let rows : Rises (map (named names) before ++ named_row names row ∷ []) = subst Rises (rows-more before (fresh row)) so_far.rise in
      let enough : AllByRecursion (IsEnough problem) before = so_far.enough before (fresh row) refl in
      let end : AllByRecursion (IsUnder problem) (fresh row ∷ []) = back_of_both (IsUnder problem) before (fresh row ∷ []) so_far.under in (
        record {
          rise = rises-front (map (named names) before) (named_row names row ∷ []) rows;
          under = front_of_both (IsUnder problem) before (fresh row ∷ []) so_far.under;
          enough = enough-front before enough;
        },
        record {
          row = row;
          says = says;
          range = end.0.range;
          behind = λ earlier last cut. (
              let all = rises-before (map (named names) before) (named_row names row) rows in
              let last_of : AllByRecursion (λ x. ComesBefore x (named_row names row)) (named names last ∷ []) =
              back_of_both (λ (x : NamedRow). ComesBefore x (named_row names row)) (map (named names) earlier) (named names last ∷ [])
              (subst (AllByRecursion (λ x. ComesBefore x (named_row names row))) (ap (map (named names)) cut ∙ rows-more earlier last) all) in last_of.0);
          closed = enough-last before enough;
          added = refl;
        },
      )

  back-path : (earlier : List Entry) (last : Entry) (path : Cited) → AreSoFar problem names (earlier ++ longer last path ∷ [])
      → AreSoFar problem names (earlier ++ last ∷ []) × IsNextPath problem last path
  back-path earlier last path so_far =
      let end : AllByRecursion (IsUnder problem) (longer last path ∷ []) = back_of_both (IsUnder problem) earlier (longer last path ∷ []) so_far.under in
      let this : AllByRecursion (IsGoodPath problem last.row) (path ∷ []) = back_of_both (IsGoodPath problem last.row) last.paths (path ∷ []) end.0.paths.each in (
        record {
          rise = subst Rises (rows-more earlier (longer last path) ∙ sym (rows-more earlier last)) so_far.rise;
          under = of_both (IsUnder problem) earlier (last ∷ []) (front_of_both (IsUnder problem) earlier (longer last path ∷ []) so_far.under) (
            record {
              range = end.0.range;
              paths = record {
                each = front_of_both (IsGoodPath problem last.row) last.paths (path ∷ []) end.0.paths.each;
                rise = places-front last.paths (path ∷ []) end.0.paths.rise;
              };
            },
            tt,
          );
          enough = λ front l cut. (let same = snoc-unique earlier front last l cut in
              subst (AllByRecursion (IsEnough problem)) same.0 (so_far.enough earlier (longer last path) refl));
        },
        record { good = this.0; later = places-before last.paths path end.0.paths.rise },
      )

  pub back : (before : List Entry) (text : List ℕ) (after : List Entry) → GoesOn names before text after → AreSoFar problem names after
      → AreSoFar problem names before × Takes problem names before text after
  back before text after (inl (row, says, is)) so_far =
      let both = back-row before text row says (subst (AreSoFar problem names) is so_far) in
      (both.0, inl (subst (TakesRow problem names before text) (sym is) both.1))
  back before text after (inr (earlier, last, path, cut, says, is)) so_far =
      let both = back-path earlier last path (subst (AreSoFar problem names) is so_far) in
      (subst (AreSoFar problem names) (sym cut) both.0, inr (record { earlier = earlier; last = last; path = path; cut = cut; says = says; next = both.1; added = is }))

  pub back-all : (before : List Entry) (lines : List (List ℕ)) (after : List Entry) → SayMore names before lines after → AreSoFar problem names after
      → AreSoFar problem names before × TakesAll problem names before lines after
  back-all before [] after say so_far = (subst (AreSoFar problem names) say so_far, say)
  back-all before (text ∷ lines) after (between, goes, say) so_far =
      let later = back-all between lines after say so_far in
      let here = back before text between goes later.0 in
      (here.0, (between, here.1, later.1))

  -- The whole file

  pub nothing-so-far : AreSoFar problem names []
  nothing-so-far = record { rise = tt; under = tt; enough = λ earlier last cut. absurd (no-snoc earlier last cut) }

  proved-all : (entries : List Entry) → AllByRecursion (IsUnder problem) entries → AllByRecursion (IsEnough problem) entries → AllByRecursion (IsProved problem) entries
  proved-all [] under enough = tt
  proved-all (entry ∷ entries) under enough = (record { range = under.0.range; paths = under.0.paths; enough = enough.0 }, proved-all entries under.1 enough.1)

  under-all : (entries : List Entry) → AllByRecursion (IsProved problem) entries → AllByRecursion (IsUnder problem) entries × AllByRecursion (IsEnough problem) entries
  under-all [] proved = (tt, tt)
  under-all (entry ∷ entries) proved =
      let later = under-all entries proved.1 in
      ((record { range = proved.0.range; paths = proved.0.paths }, later.0), (proved.0.enough, later.1))

  -- lines that are taken, the last entry being enough, are a good proof
  pub taken-good : (lines : List (List ℕ)) (entries : List Entry) → TakesAll problem names [] lines entries → OfLast (IsEnough problem) entries → IsGood problem names lines (length entries)
  taken-good lines entries takes closed =
      let so_far = forth-all [] lines entries nothing-so-far takes in record {
        entries = entries;
        said = takes-say [] lines entries takes;
        rise = so_far.rise;
        proved = proved-all entries so_far.under (enough-all entries so_far closed);
        counted = refl;
      }

  -- the lines of a good proof are taken
  pub good-taken : (lines : List (List ℕ)) (rows : ℕ) (good : IsGood problem names lines rows) → TakesAll problem names [] lines good.entries × OfLast (IsEnough problem) good.entries
  good-taken lines rows good =
      let both = under-all good.entries good.proved in
      let so_far : AreSoFar problem names good.entries = record { rise = good.rise; under = both.0; enough = enough-front good.entries both.1 } in
      ((back-all [] lines good.entries good.said so_far).1, enough-last good.entries both.1)
