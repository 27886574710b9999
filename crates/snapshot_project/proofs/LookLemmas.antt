-- What walks behind visits may ask, and what several walks count.
use Rattle.std.proofs.Common.{◌≡◌, ◌↔◌, ℕ, ◌<◌, ◌⊎◌, inl, inr, Bool, true, false, true≢false, not, ◌==◌, ◌&&◌, IsTrue, Option, Some, List, [], ◌∷◌, ◌++◌, length, map, replicate, refl, sym, ap, ◌∙◌, subst, arith, append_assoc, false-eqb}
use Rattle.std.specs.List.{AllPairs, AllZip, Contains, filter, slice_get, slice_index}
use Rattle.std.proofs.lemmas.Bool.{eqb-true, eq-eqb, and_parts}
use Rattle.std.proofs.lemmas.List.{append-nil, length-map}
use Rattle.std.proofs.lemmas.List.Elements.{Contains-append_cases}
use Rattle.std.proofs.lemmas.Option.{same_Some, slice_get-get_or, slice_get_within, get_or_from_slice_get}
use Rattle.mine_model.specs.declared.item.Item.{Item}
use Rattle.mine_model.specs.Database.{sequence_at}
use Rattle.mine_model.specs.Support.{Sequence}
use Rattle.mine_model.proofs.ElementLemmas.{get-some, get-held}
use Rattle.mine_model.proofs.ListLemmas.{Contains-cases, Contains-first, Contains-other, Contains-none, Contains-by, Contains-from, Contains-filter}
use Rattle.mine_model.proofs.SupportLemmas.{Counts-decided}
use Rattle.mining_job.specs.Problems.{items_of}
use Rattle.sequence_grids.specs.Grids.{GridList}
use Rattle.sequence_grids.specs.Successors.{AreSuccessors}
use Rattle.walk_memo.specs.Moves.{MoveSets}
use Rattle.walk_places.specs.declared.places.Record.{Record}
use Rattle.place_walk.specs.declared.stand.Stand.{Stand}
use Rattle.place_walk.specs.declared.visit.Visit.{Visit}
use Rattle.place_walk.specs.Courses.{Course}
use Rattle.place_walk.specs.Groups.{AreGroups, AreWalked as AreWalkedOnce}
use Rattle.place_walk.specs.Visits.{AreVisits, AreVisitsOf}
use Rattle.stand_sums.specs.declared.aim.Aim.{Aim}
use Rattle.stand_sums.specs.declared.next_rank.NextRank.{NextRank}
use Rattle.stand_sums.specs.Writings.{Ranks, writes, goes_on, opens, ends}
use Rattle.stand_sums.specs.Sequences.{HasOne, AreSequences}
use Rattle.mask_sums.specs.Kept.{lacks, lacking}
use Rattle.level_ahead.specs.Behind.{CanLookBehind}
use Rattle.level_ahead.specs.Counts.{Behind, has_places, is_asked, nothing_behind, asked_of, AreAdded}
use Rattle.level_ahead.proofs.AddLemmas.{none-added, more-added}
use Rattle.place_records.specs.Ranks.{ranks_of, CanAskOf}
use Rattle.place_records.specs.Records.{AreRecords}
use Rattle.snapshot_project.specs.declared.terrain.Terrain.{Terrain}
use Rattle.snapshot_project.specs.Ahead.{AreAllAdded, AreCountedAhead}
use Rattle.snapshot_project.specs.Aims.{goes}
use Rattle.snapshot_project.specs.Extensions.{sequences_of, GeneratesWithin, IsSupportOf}
use Rattle.snapshot_project.specs.Founds.{IsReady, course_over}
use Rattle.snapshot_project.specs.Grouped.{course_for, IsGroupIn, AreGroupsIn, AreAllGrids}
use Rattle.snapshot_project.specs.Snapshots.{IsPart, SnapshotList, AreSnapshots}
use Rattle.snapshot_project.proofs.AheadLemmas.{kid-looks}
use Rattle.snapshot_project.proofs.AheadNextLemmas.{visits-in, told-at}
use Rattle.snapshot_project.proofs.LongerLemmas.{aim_of}
use Rattle.snapshot_project.proofs.GroupLemmas.{zip-both, zip-known, stands-cut}
use Rattle.snapshot_project.proofs.ListedLemmas.{generates-not}
use Rattle.snapshot_project.proofs.SumLemmas.{AreToldBy, groups-told}
use Rattle.snapshot_project.proofs.UniqueLemmas.{sequences-unique}
use Rattle.snapshot_project.proofs.VisitNextLemmas.{visit-within, generates-visit, ranked}
use Rattle.snapshot_project.proofs.WalkedLemmas.{IsCutBefore, groups-behind, groups-none, walked-cut}

-- ---- a support that is there

-- one of the visits passes or none
one-or-none : (test : Visit → Bool) (visits : List Visit) → HasOne test visits ⊎ (HasOne test visits → ⊥)
one-or-none test [] = inr (λ (visit, held, passes). Contains-none visit held)
one-or-none test (first ∷ visits) = by (test first) refl (one-or-none test visits)
  where
    by : (b : Bool) → test first ≡ b → HasOne test visits ⊎ (HasOne test visits → ⊥) → HasOne test (first ∷ visits) ⊎ (HasOne test (first ∷ visits) → ⊥)
    by true is others = inl (first, Contains-first first visits, is)
    by false is (inl (visit, held, passes)) = inl (visit, Contains-other first visits visit held, passes)
    by false is (inr none) = inr (λ (visit, held, passes). elim (Contains-cases first visits visit held) [
      | inl same ↦ absurd (cc)
      | inr there ↦ none (visit, there, passes)
    ])

-- a number is among some or not
among-or-not : (numbers : List ℕ) (n : ℕ) → Contains numbers n ⊎ (Contains numbers n → ⊥)
among-or-not [] n = inr (λ held. Contains-none n held)
among-or-not (first ∷ numbers) n = by (n == first) refl (among-or-not numbers n)
  where
    by : (b : Bool) → (n == first) ≡ b → Contains numbers n ⊎ (Contains numbers n → ⊥) → Contains (first ∷ numbers) n ⊎ (Contains (first ∷ numbers) n → ⊥)
    by true is others = inl (subst (Contains (first ∷ numbers)) (sym (eqb-true n first is)) (Contains-first first numbers))
    by false is (inl there) = inl (Contains-other first numbers n there)
    by false is (inr none) = inr (λ held. elim (Contains-cases first numbers n held) [
      | inl same ↦ false-eqb n first (sym is) same
      | inr there ↦ none there
    ])

module _ (part : GridList) (is : IsPart part) (width : ℕ) (rows : List ℕ) (rows_are : AreSuccessors width part.problem.transducer rows)
    (places : List Record) (early late : List MoveSets) (ranks : Ranks) (CanAsk : ℕ → ℕ → Type 0) (records : AreRecords part places early late ranks CanAsk)
    (prefixes : List ℕ) (list : SnapshotList) (are : AreSnapshots part prefixes list)
    (grids : List ℕ) (rising : AllPairs (λ low high. low < high) grids) (all_grids : AreAllGrids part list.snapshots grids)
    (groups : List (List Stand)) (groups_are : AreGroupsIn part are.prefix list.seen grids groups)
    (sequences : List (List Visit)) (visits_are : AllZip (AreVisits (course_for rows places early late (goes list.seen part.bound.need))) groups sequences) where
  abbrev course : Course
  course = course_for rows places early late (goes list.seen part.bound.need)

  -- whether the prefix with the rank is a pattern of a sequence
  generates-or-not : (rank i : ℕ) → Contains part.sequences i
      → GeneratesWithin part (prefixes ++ rank ∷ []) (items_of part.problem i) ⊎ (GeneratesWithin part (prefixes ++ rank ∷ []) (items_of part.problem i) → ⊥)
  generates-or-not rank i known =
      let (grid, inside, number) = known in
      let at : slice_get part.sequences grid ≡ Some i = slice_get-get_or part.sequences grid i inside ∙ ap Some number in
      let index : slice_index part.sequences grid ≡ i = get_or_from_slice_get part.sequences grid i 0 at in
      let Has : List Item → Type 0 = GeneratesWithin part (prefixes ++ rank ∷ []) in
      let test : Visit → Bool = ends ranks (record { seen = list.seen; need = part.bound.need }) rank in
      elim (among-or-not grids grid) [
        | inl among ↦
            let all = groups-told part is ranks (record { seen = list.seen; need = part.bound.need }) prefixes list are course
            (λ grid group here those exact. visit-within part is width rows rows_are places early late ranks CanAsk records are.prefix list.seen grid group here (Contains those) exact.exact)
            Has (HasOne test)
            (λ grid group here those exact. generates-visit part is width rows rows_are places early late ranks CanAsk records prefixes list are grid group here (Contains those) exact.exact rank)
            grids groups sequences groups_are visits_are in
            let (visits, there, told) = zip-known (AreToldBy part Has (HasOne test)) grids sequences all grid among in
            let same : Has (items_of part.problem i) ↔ HasOne test visits = subst (λ (k : ℕ). Has (items_of part.problem k) ↔ HasOne test visits) index told.same in
            elim (one-or-none test visits) [
              | inl one ↦ inl (same.1 one)
              | inr none ↦ inr (λ has. none (same.0 has))
            ]
        | inr never ↦
            inr (generates-not part is.whole prefixes list are i known rank
            (λ snapshot held its. never (all_grids grid snapshot held (at ∙ ap Some (sym its)))))
      ]

  -- so the prefix has a support
  support-known : (rank : ℕ) → (n : ℕ) × IsSupportOf part (prefixes ++ rank ∷ []) n
  support-known rank =
      let number : ℕ → Sequence Item = λ i. sequence_at part.problem.sequences i in
      Counts-decided (GeneratesWithin part (prefixes ++ rank ∷ [])) (sequences_of part) (λ s held.
      let (i, inside, same) = Contains-from number part.sequences s held in
      subst (λ (t : Sequence Item). GeneratesWithin part (prefixes ++ rank ∷ []) t.items ⊎ (GeneratesWithin part (prefixes ++ rank ∷ []) t.items → ⊥)) (sym same)
      (generates-or-not rank i inside))

  -- a walk can begin behind a visit that writes the rank and goes on
  pub visit-looks : (grid : ℕ) (group : List Stand) → IsGroupIn part are.prefix list.seen grid group
      → (here : List Visit) → AreVisits course group here → (visit : Visit) → Contains here visit → (rank : ℕ) → (lacking (aim_of part list.seen) ≡ Some rank → ⊥)
      → IsTrue (opens ranks (lacks (lacking (aim_of part list.seen))) rank visit) → CanLookBehind course CanAsk visit
  visit-looks grid group in' here exact visit held rank apart opening =
      let (low, high) = ranked part is width rows rows_are places early late ranks CanAsk records are.prefix list.seen grid group in' (Contains here) exact.exact rank visit held
      (writes-of (writes ranks rank visit) (goes_on (lacks (lacking (aim_of part list.seen))) rank visit.action) opening) in
      let (support, is_support) = support-known rank in
      kid-looks part is width rows rows_are places early late ranks CanAsk records prefixes list are rank low high support is_support grids rising all_grids sequences
      (visits-in part is width rows rows_are places early late ranks CanAsk records prefixes list are grids rising all_grids groups groups_are sequences visits_are rank) apart
      grid here
      (told-at part is width rows rows_are places early late ranks CanAsk records prefixes list are grids rising all_grids groups groups_are sequences visits_are rank grid group in' here exact)
      group exact visit held opening
    where
      writes-of : (one other : Bool) → IsTrue (one && other) → IsTrue one
      writes-of true other is = refl
      writes-of false other is = absurd (cc)

-- of which sequence a visit of a walk is
visit-found : (part : GridList) (prefix : List Item) (seen : Bool) (way : Course) (grids : List ℕ) (done rest : List (List Stand)) → AreGroupsIn part prefix seen grids (done ++ rest)
    → (visits : List Visit) → AreVisitsOf way done visits → (visit : Visit) → Contains visits visit
    → (grid : ℕ) × (group : List Stand) × IsGroupIn part prefix seen grid group × (here : List Visit) × AreVisits way group here × Contains here visit
visit-found part prefix seen way grids [] rest in' visits none visit held = absurd (Contains-none visit (subst (λ (l : List Visit). Contains l visit) none held))
visit-found part prefix seen way [] (group ∷ done) rest in' visits are visit held = absurd in'
visit-found part prefix seen way (grid ∷ grids) (group ∷ done) rest (group_in, others) visits (here, there, joined, exact, behind) visit held =
    elim (Contains-append_cases here there visit (subst (λ (l : List Visit). Contains l visit) joined held)) [
      | inl inside ↦ (grid, group, group_in, here, exact, inside)
      | inr after ↦ visit-found part prefix seen way grids done rest others there behind visit after
    ]

-- so behind the visits of a walk over a terrain
pub ready-looks : {W : ℕ} (terrain : Terrain W) (aim : Aim) (stands : List Stand) (room : ℕ) → IsReady terrain aim stands room
    → (left further : List Stand) → ((groups : List (List Stand)) → AreGroups stands groups → IsCutBefore groups left)
    → (course : Course) → course ≡ course_over terrain.rows.items terrain.records aim
    → ((groups : List (List Stand)) → AreGroups stands groups → (sequences : List (List Visit)) × AllZip (AreVisits course) groups sequences)
    → (visits : List Visit) → ((groups : List (List Stand)) → AreGroups left groups → AreWalkedOnce course groups further visits)
    → (visit : Visit) → Contains visits visit → (rank : ℕ) → (lacking aim ≡ Some rank → ⊥)
    → IsTrue (opens (ranks_of terrain.records.table) (lacks (lacking aim)) rank visit)
    → CanLookBehind course (CanAskOf terrain.records.table) visit
ready-looks {W} terrain aim stands room ready left further begun course same walked visits found visit held rank apart opening =
    let for = ready.stands_for in
    let ranks : Ranks = ranks_of terrain.records.table in
    let (groups, are, groups_in, all) = stands-cut ready.part for.is for.prefixes for.list for.are for.stands_are.grids stands for.stands_are.rising for.stands_are.are in
    let (done, rest, cut, left_are) = begun groups are in
    let (others, behind) = groups-behind ready.part for.are.prefix for.list.seen for.stands_are.grids done rest
    (subst (λ (l : List (List Stand)). AreGroupsIn ready.part for.are.prefix for.list.seen for.stands_are.grids l) cut groups_in) in
    let walk = found rest left_are in
    let chosen : course_over terrain.rows.items terrain.records aim
    ≡ course_for terrain.rows.items terrain.records.places terrain.records.early terrain.records.late (goes for.list.seen ready.part.bound.need) =
    λ i. course_for terrain.rows.items terrain.records.places terrain.records.early terrain.records.late (goes (for.seen i) (for.need i)) in
    let whole : course ≡ course_for terrain.rows.items terrain.records.places terrain.records.early terrain.records.late (goes for.list.seen ready.part.bound.need) = same ∙ chosen in
    let (sequences, visited) = walked groups are in
    let (grid, group, group_in, here, exact, inside) = visit-found ready.part for.are.prefix for.list.seen course others walk.done walk.rest
    (subst (λ (l : List (List Stand)). AreGroupsIn ready.part for.are.prefix for.list.seen others l) walk.cut behind) visits walk.visits_are visit held in
    let own : Aim = aim_of ready.part for.list.seen in
    let mine : aim ≡ own = (λ i. record { seen = for.seen i; need = for.need i }) in
    subst (λ (c : Course). CanLookBehind c (CanAskOf terrain.records.table) visit) (sym whole)
    (visit-looks ready.part for.is W terrain.rows.items ready.ground.rows_are terrain.records.places terrain.records.early terrain.records.late
    ranks (CanAskOf terrain.records.table) ready.ground.records_are for.prefixes for.list for.are for.stands_are.grids for.stands_are.rising all groups groups_in sequences
    (subst (λ (c : Course). AllZip (AreVisits c) groups sequences) whole visited) grid group group_in here
    (subst (λ (c : Course). AreVisits c group here) whole exact) visit inside rank
    (λ lack. apart (ap lacking mine ∙ lack))
    (subst (λ (a : Aim). IsTrue (opens ranks (lacks (lacking a)) rank visit)) mine opening))

-- ---- what several walks count

-- walks over the first of the groups have counted what follows behind each rank
pub record AreAheadTo (course : Course) (ranks : Ranks) (lack : Option ℕ) (groups : List (List Stand)) (left : List Stand) (before now : List Behind)
    : Type 0 where
  pub done : List (List Stand)
  pub rest : List (List Stand)
  pub cut : groups ≡ done ++ rest
  pub left_are : AreGroups left rest
  pub sequences : List (List Visit)
  pub walked : AllZip (AreVisits course) done sequences
  pub added : AreAllAdded course ranks lack sequences before now

module _ (course : Course) (ranks : Ranks) (lack : Option ℕ) where
  -- of no walk yet
  pub ahead-none : (groups : List (List Stand)) (left : List Stand) → AreGroups left groups → (behinds : List Behind) → AreAheadTo course ranks lack groups left behinds behinds
  ahead-none groups left are behinds = record {
    done = [];
    rest = groups;
    cut = refl;
    left_are = are;
    sequences = [];
    walked = tt;
    added = λ k before after at also.
        subst (AreAdded course ranks lack [] before) (same-behind before after k at also) (none-added course ranks lack [] before tt);
  }
    where
      same-behind : (before after : Behind) (k : ℕ) → slice_get behinds k ≡ Some before → slice_get behinds k ≡ Some after → before ≡ after
      same-behind before after k at also = same_Some before after (sym at ∙ also)

  -- and of one more
  pub ahead-more : (groups : List (List Stand)) (left further : List Stand) (before between now : List Behind) → (to : AreAheadTo course ranks lack groups left before between)
      → (visits : List Visit) → AreWalkedOnce course to.rest further visits → asked_of between ≡ asked_of before → asked_of now ≡ asked_of between
      → ((sequences : List (List Visit)) → AreSequences visits sequences → AreAllAdded course ranks lack sequences between now)
      → AreAheadTo course ranks lack groups further before now
  ahead-more groups left further before between now to visits walk one other more =
      let next = walked-cut course to.rest further visits walk in record {
        done = to.done ++ next.done;
        rest = next.rest;
        cut = to.cut ∙ ap (λ (l : List (List Stand)). to.done ++ l) next.cut ∙ sym (append_assoc to.done next.done next.rest);
        left_are = next.left_are;
        sequences = to.sequences ++ next.sequences;
        walked = zip-both (AreVisits course) to.done to.sequences next.done next.sequences to.walked next.walked;
        added = λ k first last at also.
            let inside : k < length before = slice_get_within before k first at in
            let long : length between ≡ length before = sym (length-map between (λ (b : Behind). b.rank)) ∙ ap length one ∙ length-map before (λ (b : Behind). b.rank) in
            let (middle, there) = get-some between k (omega arith) in
            more-added course ranks lack to.sequences next.sequences first middle last (to.added k first middle at there) (more next.sequences next.cut_are k middle last there also);
      }

  -- those of all groups
  pub ahead-all : (groups : List (List Stand)) (left : List Stand) (before now : List Behind) → AreAheadTo course ranks lack groups left before now → left ≡ []
      → (all : List (List Visit)) → AllZip (AreVisits course) groups all → AreAllAdded course ranks lack all before now
  ahead-all groups left before now to nothing all visited =
      let none : to.rest ≡ [] = groups-none to.rest (subst (λ (l : List Stand). AreGroups l to.rest) nothing to.left_are) in
      let whole : groups ≡ to.done = to.cut ∙ ap (λ (l : List (List Stand)). to.done ++ l) none ∙ append-nil to.done in
      let same : to.sequences ≡ all = sequences-unique course to.done to.sequences all to.walked
      (subst (λ (l : List (List Stand)). AllZip (AreVisits course) l all) whole visited) in
      subst (λ (l : List (List Visit)). AreAllAdded course ranks lack l before now) same to.added

-- ---- from nothing on

pub asked-begun : (next : List NextRank) → asked_of (map nothing_behind next) ≡ map (λ (n : NextRank). n.rank) next
asked-begun [] = refl
asked-begun (n ∷ next) = ap (λ (l : List ℕ). n.rank ∷ l) (asked-begun next)

-- what was counted behind ranks behind which nothing was
pub counted-begun : (course : Course) (ranks : Ranks) (lack : Option ℕ) (sequences : List (List Visit)) (next : List NextRank) (before now : List Behind) → before ≡ map nothing_behind next
    → asked_of now ≡ asked_of before → AreAllAdded course ranks lack sequences before now → AreCountedAhead course ranks lack sequences now
counted-begun course ranks lack sequences next before now begun asked all behind held =
    let (k, below, is) = held in
    let at : slice_get now k ≡ Some behind = slice_get-get_or now k behind below ∙ ap Some is in
    let long : length now ≡ length before = sym (length-map now (λ (b : Behind). b.rank)) ∙ ap length asked ∙ length-map before (λ (b : Behind). b.rank) in
    let (first, there) = get-some before k (omega arith) in
    let (one, inside, same) = Contains-from nothing_behind next first (subst (λ (l : List Behind). Contains l first) begun (get-held before k first there)) in
    let added : AreAdded course ranks lack sequences first behind = all k first behind there at in
    let rank_is : one.rank ≡ behind.rank = sym (ap (λ (b : Behind). b.rank) same) ∙ sym added.same in
    let first_is : first ≡ record { rank = behind.rank; counts = replicate 256 0 } = same ∙ (λ i. record { rank = rank_is i; counts = replicate 256 0 }) in
    subst (λ (b : Behind). AreAdded course ranks lack sequences b behind) first_is added

-- no lacking rank is asked about
pub asked-apart : (lack : Option ℕ) (found : List NextRank) (behinds : List Behind) → behinds ≡ map nothing_behind (filter (is_asked lack) found)
    → (rank : ℕ) → Contains (asked_of behinds) rank → lack ≡ Some rank → ⊥
asked-apart lack found behinds begun rank asks is =
    let ranks : asked_of behinds ≡ map (λ (n : NextRank). n.rank) (filter (is_asked lack) found) = ap asked_of begun ∙ asked-begun (filter (is_asked lack) found) in
    let (next, held, same) = Contains-from (λ (n : NextRank). n.rank) (filter (is_asked lack) found) rank (subst (λ (l : List ℕ). Contains l rank) ranks asks) in
    let (inside, asked) = Contains-filter (is_asked lack) found next held in
    let its : is_asked (Some rank) next ≡ true = subst (λ (o : Option ℕ). is_asked o next ≡ true) is asked in
    true≢false (sym ((and_parts (has_places next) (not (next.rank == rank)) its).1) ∙ ap not (eq-eqb next.rank rank (sym same)))

pub entry-asked : (behinds : List Behind) (behind : Behind) → Contains behinds behind → Contains (asked_of behinds) behind.rank
entry-asked behinds behind held = Contains-by (λ (b : Behind). b.rank) behinds behind held
