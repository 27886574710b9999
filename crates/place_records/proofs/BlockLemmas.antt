-- The records of those sequences of a range that complete, one sequence after another.
use Rattle.std.proofs.Common.{◌≡◌, ℕ, suc, ◌+◌, ◌^◌, ◌<◌, ◌≤◌, ◌-◌, inl, inr, false, List, [], ◌∷◌, ◌++◌, map, length, take, drop, arith, refl, sym, ap, ◌∙◌, subst, Some}
use Rattle.std.specs.List.{Contains, slice_get, slice_index, sum_by}
use Rattle.std.proofs.Math.Seq.{get_or-append_seam, take-append-add, take-length}
use Rattle.std.proofs.lemmas.List.{length-append, length-map, take-append-le, get_or_append_left, get_or-append-add}
use Rattle.std.proofs.lemmas.List.Sums.{sum_by-append}
use Rattle.std.proofs.lemmas.Option.{slice_get_within, same_Some}
use Rattle.std.proofs.lemmas.List.Elements.{Contains-append_cases, Contains-append_left, Contains-append_right}
use Rattle.std.proofs.lemmas.Bool.{cases_eq, cases_lt}
use Rattle.mine_model.specs.declared.item.Item.{Item}
use Rattle.mine_model.proofs.ListLemmas.{AllPairs-append, Contains-cases, Contains-first, Contains-from, Contains-none}
use Rattle.mine_model.proofs.ElementLemmas.{get-some, get-left, get_last, slice_get-mapped_by}
use Rattle.mining_job.specs.declared.bound.Bound.{Bound}
use Rattle.mining_job.specs.Problems.{Problem, items_of}
use Rattle.sequence_grids.specs.declared.kinds.Kinds.{Kinds}
use Rattle.sequence_grids.specs.Grids.{GridList, Completes, items_at}
use Rattle.sequence_grids.specs.Tables.{TableValue}
use Rattle.sequence_grids.specs.Kinds.{AreKinds, Extends}
use Rattle.sequence_grids.specs.Places.{IsTableOf}
use Rattle.walk_places.specs.declared.places.Record.{Record}
use Rattle.place_records.specs.Records.{start_of, goes_with}
use Rattle.place_records.specs.Twins.{TwinSets, dead_twin}
use Rattle.place_records.specs.Numbers.{TwinsValue, TwinsGrow}
use Rattle.place_records.specs.Filled.{IsRecordBy, AreHere, AreKnown, AreFilledTo}
use Rattle.walk_places.specs.Names.{renamed}
use Rattle.place_records.specs.Blocks.{IsOver, AreNames, IsBlock}
use Rattle.place_records.proofs.FillLemmas.{AreFilledTo-none, AreFilledTo-more, AreHere-grow, Extends-long, first-kept}

get-right : {X : Type 0} (xs ys : List X) (i : ℕ) (x : X) → slice_get ys i ≡ Some x → slice_get (xs ++ ys) (length xs + i) ≡ Some x
get-right [] ys i x is = let at : 0 + i ≡ i = omega arith in rw at is
get-right (y ∷ xs) ys i x is = let at : length (y ∷ xs) + i ≡ suc (length xs + i) = omega arith in rw at (get-right xs ys i x is)

module _ (problem : Problem) (bound : Bound) where
  abbrev pub part_on : List ℕ → GridList
  part_on sequences = record { problem = problem; bound = bound; sequences = sequences }

  -- ---- more sequences behind those of a part

  pub start_of-wider : (sequences more : List ℕ) (count : ℕ) → count ≤ length sequences → start_of (part_on (sequences ++ more)) count ≡ start_of (part_on sequences) count
  start_of-wider sequences more count inside = ap (sum_by (λ i. length (items_of problem i) + 1)) (take-append-le count sequences more inside)

  pub items_at-wider : (sequences more : List ℕ) (grid : ℕ) → grid < length sequences → items_at (part_on (sequences ++ more)) grid ≡ items_at (part_on sequences) grid
  items_at-wider sequences more grid inside = ap (items_of problem) (get_or_append_left sequences more 0 grid inside)

  pub AreFilledTo-wider : (sequences more : List ℕ) (twins : List TwinSets) (kinds : Kinds) (places : List Record) (count : ℕ) → count ≤ length sequences
      → AreFilledTo (part_on sequences) twins kinds places count → AreFilledTo (part_on (sequences ++ more)) twins kinds places count
  AreFilledTo-wider sequences more twins kinds places count inside filled = record {
    long = filled.long ∙ sym (start_of-wider sequences more count inside);
    few = filled.few;
    known = filled.known;
    here = λ grid below.
        let within : grid < length sequences = omega (arith, below, inside) in
        subst (AreHere problem bound twins kinds (items_at (part_on (sequences ++ more)) grid) places) (sym (start_of-wider sequences more grid (omega (arith, within))))
        (subst (λ (items : List Item). AreHere problem bound twins kinds items places (start_of (part_on sequences) grid)) (sym (items_at-wider sequences more grid within)) (filled.here grid below));
  }

  -- ---- what twins are over

  pub IsOver-grow : (kinds : Kinds) (twins after : TwinsValue) → IsOver problem bound kinds twins → TwinsGrow twins after → IsOver problem bound kinds after
  IsOver-grow kinds twins after over grows = record {
    table_is = subst (IsTableOf problem) (sym grows.table) over.table_is;
    kinds_are = subst (λ (v : TableValue). AreKinds problem bound v.classes kinds) (sym grows.table) over.kinds_are;
    needed_is = grows.needed ∙ over.needed_is;
    first = first-kept twins.twins after.twins over.first grows.twins;
  }

  pub IsOver-none : (table : TableValue) (kinds : Kinds) (twins : TwinsValue) → IsTableOf problem table → AreKinds problem bound table.classes kinds
      → twins ≡ record { table = table; needed = goes_with bound.need; twins = dead_twin ∷ [] } → IsOver problem bound kinds twins
  IsOver-none table kinds twins table_is kinds_are is = rw is (record { table_is = table_is; kinds_are = kinds_are; needed_is = refl; first = refl })

  -- ---- blocks

  pub IsBlock-none : (kinds : Kinds) (from : ℕ) (twins : List TwinSets) → IsBlock problem bound kinds from from twins [] []
  IsBlock-none kinds from twins = record {
    rising = λ i j d less within. absurd (omega (arith, within));
    exact = λ i. ((λ held. absurd (Contains-none i held)), (λ h. absurd (omega (arith, h.0, h.1))));
    filled = AreFilledTo-none (part_on []) twins kinds;
  }

  module _ (kinds : Kinds) (from number : ℕ) (twins : List TwinSets) (sequences : List ℕ) (places : List Record) (block : IsBlock problem bound kinds from number twins sequences places) where
    -- a sequence that does not complete is left out
    pub IsBlock-skip : (Completes problem bound (items_of problem number) 0 false → ⊥) → IsBlock problem bound kinds from (number + 1) twins sequences places
    IsBlock-skip not_here = record {
      rising = block.rising;
      exact = λ i. (
        (λ held. let (least, most, completes) = (block.exact i).0 held in (least, omega (arith, most), completes)),
        (λ (least, most, completes). elim (cases_eq i number) [
          | inl same ↦ absurd (not_here (subst (λ (n : ℕ). Completes problem bound (items_of problem n) 0 false) same completes))
          | inr other ↦ (block.exact i).1 (least, omega (arith, most, other), completes)
        ]),
      );
      filled = block.filled;
    }

    -- one that does stands last, with its records
    pub IsBlock-more : (after : List TwinSets) (longer : List Record) → from ≤ number → Completes problem bound (items_of problem number) 0 false → Extends twins after → Extends places longer → length longer ≡ length places + length (items_of problem number) + 1 → length longer < 2 ^ 32 → AreKnown after longer
        → AreHere problem bound after kinds (items_of problem number) longer (length places) → IsBlock problem bound kinds from (number + 1) after (sequences ++ number ∷ []) longer
    IsBlock-more after longer least completes grows extends long few known here =
        let grown : List ℕ = sequences ++ number ∷ [] in
        let inside : length sequences < length grown = omega (arith, length-append sequences (number ∷ [])) in
        let this : slice_index grown (length sequences) ≡ number = get_or-append_seam sequences number [] 0 in
        let items : items_at (part_on grown) (length sequences) ≡ items_of problem number = ap (items_of problem) this in
        let wider = AreFilledTo-wider sequences (number ∷ []) twins kinds places (length sequences) (omega arith) block.filled in
        let all : length sequences + 1 ≡ length grown = omega (arith, length-append sequences (number ∷ [])) in
        record {
          rising = AllPairs-append (λ low high. low < high) sequences (number ∷ []) block.rising (λ i j d less within. absurd (omega (arith, less, within)))
              (λ low last held of_last. elim (Contains-cases number [] last of_last) [
                | inl same ↦ let (_, below, _) = (block.exact low).0 held in omega (arith, below, same)
                | inr none ↦ absurd (Contains-none last none)
              ]);
          exact = λ i. (
            (λ held. elim (Contains-append_cases sequences (number ∷ []) i held) [
              | inl before ↦ let (low, high, so) = (block.exact i).0 before in (low, omega (arith, high), so)
              | inr last ↦ elim (Contains-cases number [] i last) [
                | inl same ↦ (omega (arith, same, least), omega (arith, same), subst (λ (n : ℕ). Completes problem bound (items_of problem n) 0 false) (sym same) completes)
                | inr none ↦ absurd (Contains-none i none)
              ]
            ]),
            (λ (low, high, so). elim (cases_eq i number) [
              | inl same ↦ Contains-append_right sequences (number ∷ []) i (subst (Contains (number ∷ [])) (sym same) (Contains-first number []))
              | inr other ↦ Contains-append_left sequences (number ∷ []) i ((block.exact i).1 (low, omega (arith, high, other), so))
            ]),
          );
          filled = subst (AreFilledTo (part_on grown) after kinds longer) all
              (AreFilledTo-more (part_on grown) twins after kinds places longer (length sequences) wider inside grows extends
              (subst (λ (xs : List Item). length longer ≡ length places + length xs + 1) (sym items) long) few known
              (subst (λ (xs : List Item). AreHere problem bound after kinds xs longer (length places)) (sym items) here));
        }

  -- ---- a block behind others, by the names of its numbers

  module _ (kinds : Kinds) (own all : List TwinSets) (names : List ℕ) (named : AreNames own all names) (places moved : List Record) where
    abbrev there : List Record
    there = places ++ map (renamed names) moved

    at_there : (place : ℕ) (entry : Record) → slice_get moved place ≡ Some entry → slice_get there (length places + place) ≡ Some (renamed names entry)
    at_there place entry found = get-right places (map (renamed names) moved) place (renamed names entry) (slice_get-mapped_by (renamed names) moved place entry found)

    IsRecordBy-renamed : (t : Item) (rest : List Item) (entry : Record) → IsRecordBy problem bound own kinds t rest entry → IsRecordBy problem bound all kinds t rest (renamed names entry)
    IsRecordBy-renamed t rest entry is = record { kind_is = is.kind_is; twin = is.twin; there = named.same entry.of is.twin is.there; early_is = is.early_is; late_is = is.late_is }

    AreHere-moved : (items : List Item) (start : ℕ) → AreHere problem bound own kinds items moved start → AreHere problem bound all kinds items there (length places + start)
    AreHere-moved items start are = record {
      all = λ position t below at_t.
          let (entry, found, is) = are.all position t below at_t in
          let place : length places + (start + position) ≡ length places + start + position = omega arith in (
            renamed names entry,
            subst (λ (n : ℕ). slice_get there n ≡ Some (renamed names entry)) place (at_there (start + position) entry found),
            IsRecordBy-renamed t (drop (position + 1) items) entry is,
          );
      wall =
          let (entry, found, dead) = are.wall in
          let place : length places + (start + length items) ≡ length places + start + length items = omega arith in
          (renamed names entry, subst (λ (n : ℕ). slice_get there n ≡ Some (renamed names entry)) place (at_there (start + length items) entry found), named.same entry.of dead_twin dead);
    }

  module _ (kinds : Kinds) (from mid to : ℕ) (twins own all : List TwinSets) (names : List ℕ) (sequences more : List ℕ) (places moved : List Record) (order : from ≤ mid) (order' : mid ≤ to)
      (first : IsBlock problem bound kinds from mid twins sequences places) (second : IsBlock problem bound kinds mid to own more moved) (grows : Extends twins all) (named : AreNames own all names)
      (few : length places + length moved < 2 ^ 32) where
    start_of-behind : (grid : ℕ) → start_of (part_on (sequences ++ more)) (length sequences + grid) ≡ length places + start_of (part_on more) grid
    start_of-behind grid =
        let apart : start_of (part_on (sequences ++ more)) (length sequences + grid) ≡ sum_by (λ i. length (items_of problem i) + 1) sequences + start_of (part_on more) grid =
        ap (sum_by (λ i. length (items_of problem i) + 1)) (take-append-add sequences more grid) ∙ sum_by-append (λ i. length (items_of problem i) + 1) sequences (take grid more) in
        let whole : length places ≡ sum_by (λ i. length (items_of problem i) + 1) sequences = first.filled.long ∙ ap (sum_by (λ i. length (items_of problem i) + 1)) (take-length sequences) in
        omega (arith, apart, whole)

    items_at-behind : (grid : ℕ) → items_at (part_on (sequences ++ more)) (length sequences + grid) ≡ items_at (part_on more) grid
    items_at-behind grid = ap (items_of problem) (get_or-append-add sequences more grid 0)

    here_behind : (grid : ℕ) → grid < length more → AreHere problem bound all kinds (items_at (part_on (sequences ++ more)) (length sequences + grid)) (places ++ map (renamed names) moved)
        (start_of (part_on (sequences ++ more)) (length sequences + grid))
    here_behind grid below =
        subst (AreHere problem bound all kinds (items_at (part_on (sequences ++ more)) (length sequences + grid)) (places ++ map (renamed names) moved)) (sym (start_of-behind grid))
        (subst (λ (items : List Item). AreHere problem bound all kinds items (places ++ map (renamed names) moved) (length places + start_of (part_on more) grid)) (sym (items_at-behind grid))
        (AreHere-moved kinds own all names named places moved (items_at (part_on more) grid) (start_of (part_on more) grid) (second.filled.here grid below)))

    known_all : AreKnown all (places ++ map (renamed names) moved)
    known_all entry held = elim (Contains-append_cases places (map (renamed names) moved) entry held) [
      | inl before ↦ let below = first.filled.known entry before in omega (arith, below, Extends-long twins all grows)
      | inr behind ↦
          let (was, inside, is) = Contains-from (renamed names) moved entry behind in
          let (twin, there) = get-some own was.of (second.filled.known was inside) in
          let found : slice_get all entry.of ≡ Some twin = subst (λ (r : Record). slice_get all r.of ≡ Some twin) (sym is) (named.same was.of twin there) in
          slice_get_within all entry.of twin found
    ]

    filled_all : AreFilledTo (part_on (sequences ++ more)) all kinds (places ++ map (renamed names) moved) (length (sequences ++ more))
    filled_all =
        let long : length (places ++ map (renamed names) moved) ≡ length places + length moved = length-append places (map (renamed names) moved) ∙ ap (λ (n : ℕ). length places + n) (length-map moved (renamed names)) in
        let both : length (sequences ++ more) ≡ length sequences + length more = length-append sequences more in
        record {
          long = let behind = start_of-behind (length more) in let own_long = second.filled.long in
              long ∙ (ap (λ (n : ℕ). length places + n) own_long ∙ (sym behind ∙ ap (start_of (part_on (sequences ++ more))) (sym both)));
          few = omega (arith, long, few);
          known = known_all;
          here = λ grid below. elim (cases_lt grid (length sequences)) [
            | inl inside ↦ AreHere-grow problem bound twins all kinds (items_at (part_on (sequences ++ more)) grid) places (places ++ map (renamed names) moved) (start_of (part_on (sequences ++ more)) grid)
                ((AreFilledTo-wider sequences more twins kinds places (length sequences) (omega arith) first.filled).here grid inside) grows (map (renamed names) moved, refl)
            | inr past ↦
                let at : length sequences + (grid - length sequences) ≡ grid = omega (arith, past) in
                subst (λ (n : ℕ). AreHere problem bound all kinds (items_at (part_on (sequences ++ more)) n) (places ++ map (renamed names) moved) (start_of (part_on (sequences ++ more)) n)) at
                (here_behind (grid - length sequences) (omega (arith, past, below, both)))
          ];
        }

    pub IsBlock-join : IsBlock problem bound kinds from to all (sequences ++ more) (places ++ map (renamed names) moved)
    IsBlock-join = record {
      rising = AllPairs-append (λ low high. low < high) sequences more first.rising second.rising
          (λ low high held of_more. let (_, below, _) = (first.exact low).0 held in let (least, _, _) = (second.exact high).0 of_more in omega (arith, below, least));
      exact = λ i. (
        (λ held. elim (Contains-append_cases sequences more i held) [
          | inl before ↦ let (low, high, so) = (first.exact i).0 before in (low, omega (arith, high, order'), so)
          | inr behind ↦ let (low, high, so) = (second.exact i).0 behind in (omega (arith, low, order), high, so)
        ]),
        (λ (low, high, so). elim (cases_lt i mid) [
          | inl below ↦ Contains-append_left sequences more i ((first.exact i).1 (low, below, so))
          | inr past ↦ Contains-append_right sequences more i ((second.exact i).1 (omega (arith, past), high, so))
        ]),
      );
      filled = filled_all;
    }

-- ---- names

pub AreNames-none : (own all : List TwinSets) (names : List ℕ) → own ≡ [] → names ≡ [] → AreNames own all names
AreNames-none own all names none no_names = rw (none, no_names) (record { long = refl; same = λ number twin there. absurd (let inside : number < 0 = slice_get_within [] number twin there in omega (arith, inside)) })

pub AreNames-more : (own longer all after : List TwinSets) (names more : List ℕ) (twin : TwinSets) (name : ℕ) → AreNames own all names → longer ≡ own ++ twin ∷ [] → more ≡ names ++ name ∷ [] → Extends all after
    → slice_get after name ≡ Some twin → AreNames longer after more
AreNames-more own longer all after names more twin name are grown pushed (others, extended) there =
    let long = are.long in
    rw (grown, pushed) (record {
      long = omega (arith, long, length-append own (twin ∷ []), length-append names (name ∷ []));
      same = λ number other at_other. elim (cases_lt number (length own)) [
        | inl earlier ↦
            let (was, at_was) = get-some own number earlier in
            let one : was ≡ other = same_Some was other (sym (get-left own (twin ∷ []) number was at_was) ∙ at_other) in
            let old : slice_get all (slice_index names number) ≡ Some other = subst (λ (x : TwinSets). slice_get all (slice_index names number) ≡ Some x) one (are.same number was at_was) in
            let index : slice_index (names ++ name ∷ []) number ≡ slice_index names number = get_or_append_left names (name ∷ []) 0 number (omega (arith, earlier, long)) in
            rw (index, extended) (get-left all others (slice_index names number) other old)
        | inr last ↦
            let within = slice_get_within (own ++ twin ∷ []) number other at_other in
            let here : number ≡ length own = omega (arith, last, within, length-append own (twin ∷ [])) in
            let last_is : slice_get (own ++ twin ∷ []) number ≡ Some twin = rw here (get_last own twin) in
            let one : twin ≡ other = same_Some twin other (sym last_is ∙ at_other) in
            let place : number ≡ length names = omega (arith, here, long) in
            let index : slice_index (names ++ name ∷ []) number ≡ name = ap (slice_index (names ++ name ∷ [])) place ∙ get_or-append_seam names name [] 0 in
            rw index (subst (λ (x : TwinSets). slice_get after name ≡ Some x) one there)
      ];
    })
