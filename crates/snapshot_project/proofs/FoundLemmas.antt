-- From what was summed up of all stands to the ranks that follow, and the stands behind them.
use Rattle.std.proofs.Common.{◌≡◌, ℕ, ◌+◌, ◌*◌, ◌≤◌, ◌<◌, inl, inr, true, ◌==◌, true≢false, Option, Some, None, List, [], ◌∷◌, ◌++◌, length, map, replicate, get_or, refl, sym, ap, ◌∙◌, subst, arith}
use Rattle.std.specs.List.{All, AllZip, Contains, slice_get}
use Rattle.std.specs.Option.{IfSome, IfNone, option_eq, option_map}
use Rattle.std.proofs.lemmas.Bool.{cases_lt, le-ltb, eqb-true}
use Rattle.std.proofs.lemmas.List.{append-nil, length-replicate, get_or_past, get_or-replicate}
use Rattle.std.proofs.lemmas.List.Elements.{Contains-get_or}
use Rattle.std.proofs.lemmas.Option.{slice_get_within, get_or_from_slice_get}
use Rattle.state_bits.specs.Members.{Has}
use Rattle.state_bits.proofs.NeighbourLemmas.{Has-none}
use Rattle.mine_model.proofs.ListLemmas.{Contains-first, Contains-other}
use Rattle.mining_job.specs.Problems.{Problem, IsWhole}
use Rattle.sequence_grids.specs.Grids.{GridList}
use Rattle.sequence_grids.specs.Successors.{AreSuccessors}
use Rattle.sequence_grids.proofs.PathLemmas.{target-of}
use Rattle.place_walk.specs.declared.stand.Stand.{Stand}
use Rattle.place_walk.specs.declared.visit.Visit.{Visit}
use Rattle.place_walk.specs.Courses.{Course}
use Rattle.place_walk.specs.Visits.{AreVisits, AreVisitsOf}
use Rattle.place_walk.specs.Groups.{AreGroups}
use Rattle.stand_sums.specs.declared.aim.Aim.{Aim}
use Rattle.stand_sums.specs.declared.next_rank.NextRank.{NextRank}
use Rattle.stand_sums.specs.Writings.{Ranks, IsReadable}
use Rattle.stand_sums.specs.Sequences.{AreSequences}
use Rattle.stand_sums.specs.Sums.{Tally, empty_tally, stands_among, AreCounted, AreNext}
use Rattle.stand_sums.specs.Files.{Filed, HasRoom, unfiled, with_more, stands_of}
use Rattle.place_records.specs.Ranks.{ranks_of, CanAskOf}
use Rattle.place_records.specs.Values.{RecordsValue}
use Rattle.snapshot_project.specs.declared.part.Ground.{Ground}
use Rattle.snapshot_project.specs.declared.terrain.Terrain.{Terrain}
use Rattle.snapshot_project.specs.declared.terrain.AnyTerrain.{AnyTerrain}
use Rattle.snapshot_project.specs.Founds.{IsReady, course_over, AreWalked, AreSummed, AreFound, IsFoundIn}
use Rattle.snapshot_project.specs.Grouped.{AreWeights}
use Rattle.snapshot_project.specs.Terrains.{part_on, IsGround, IsTerrainOf, IsKept}
use Rattle.snapshot_project.specs.Rooms.{RoomValue}
use Rattle.snapshot_project.specs.Longer.{HaveAllPlaces}
use Rattle.snapshot_project.specs.Stands.{StandList}
use Rattle.snapshot_project.proofs.RoomLemmas.{stands-long, places-found, all-none, files-room}
use Rattle.snapshot_project.proofs.TallyLemmas.{counted-none, stands-all_among}
use Rattle.snapshot_project.proofs.UniqueLemmas.{sequences-unique}
use Rattle.snapshot_project.proofs.WalkedLemmas.{groups-none, ready-readable}

-- ---- the rows of a memo

-- edges lead to states that have rows
pub rows-closed : (width : ℕ) (problem : Problem) → IsWhole problem → (rows : List ℕ) → AreSuccessors width problem.transducer rows
    → (from q : ℕ) → Has (get_or rows from 0) q → q < length rows
rows-closed width problem whole rows are from q has = elim (cases_lt from (length rows)) [
  | inl inside ↦
      let all : length rows ≡ length problem.transducer.labels + 1 = are.all in
      let (some, few) = target-of problem whole from q ((are.leads from q (omega arith)).0 has) in
      omega arith
  | inr past ↦ absurd (Has-none q (subst (λ (set : ℕ). Has set q) (get_or_past rows from 0 past) has))
]

-- sets of so many words have room for them
pub rows-fit : (width : ℕ) (problem : Problem) (rows : List ℕ) → AreSuccessors width problem.transducer rows → length rows ≤ 64 * width
rows-fit width problem rows are =
    let all : length rows ≡ length problem.transducer.labels + 1 = are.all in
    let room : length problem.transducer.labels < 64 * width = are.room in
    omega arith

-- ---- nothing was walked yet, or all was

empty-at : (room rank : ℕ) (tally : Tally) → slice_get (replicate room empty_tally) rank ≡ Some tally → empty_tally ≡ tally
empty-at room rank tally at =
    let none : List Tally = replicate room empty_tally in
    let inside : rank < room = subst (λ (n : ℕ). rank < n) (length-replicate room empty_tally) (slice_get_within none rank tally at) in
    sym (get_or-replicate room rank empty_tally empty_tally inside) ∙ get_or_from_slice_get none rank tally empty_tally at

-- sums of nothing
pub summed-none : (course : Course) (ranks : Ranks) (aim : Aim) (weights : List ℕ) (stands left : List Stand) (room : ℕ) (groups : List (List Stand)) → left ≡ stands → AreGroups stands groups
    → AreSummed course ranks aim weights groups left (replicate room empty_tally)
summed-none course ranks aim weights stands left room groups same are = record {
  visits = [];
  walk = record {
    done = [];
    rest = groups;
    cut = refl;
    left_are = subst (λ (l : List Stand). AreGroups l groups) (sym same) are;
    sequences = [];
    walked = tt;
    cut_are = refl;
  };
  tallied = λ rank tally at. subst (λ (t : Tally). AreCounted ranks aim weights rank [] [] empty_tally t) (empty-at room rank tally at)
      (counted-none ranks aim weights rank empty_tally);
}

module _ (course : Course) (groups : List (List Stand)) where
  -- where no stand is left, the visits are those of all groups
  pub walked-whole : (visits : List Visit) (walk : AreWalked course groups [] visits) → AllZip (AreVisits course) groups walk.sequences
  walked-whole visits walk =
      let none : walk.rest ≡ [] = groups-none walk.rest walk.left_are in
      let same : walk.done ≡ groups = sym (append-nil walk.done) ∙ ap (λ (l : List (List Stand)). walk.done ++ l) (sym none) ∙ sym walk.cut in
      subst (λ (l : List (List Stand)). AllZip (AreVisits course) l walk.sequences) same walk.walked

  -- the places of the ranks are for the stands of all sequences
  pub summed-places : (ranks : Ranks) (aim : Aim) (weights : List ℕ) (tallies : List Tally) → AreSummed course ranks aim weights groups [] tallies
      → (sequences : List (List Visit)) → AllZip (AreVisits course) groups sequences → (least : ℕ) (found : List NextRank) → AreNext least least tallies found
      → HaveAllPlaces ranks aim sequences found
  summed-places ranks aim weights tallies summed sequences exact least found next =
      let mine : List (List Visit) = summed.walk.sequences in
      let same : mine ≡ sequences = sequences-unique course groups mine sequences (walked-whole summed.visits summed.walk) exact in
      places-found ranks aim sequences least least tallies found next (λ rank tally at.
      let among : tally.stands ≡ stands_among ranks aim rank summed.visits = stands-all_among ranks aim weights rank summed.visits mine tally (summed.tallied rank tally at) in
      let long : length (stands_of ranks aim rank mine) ≡ stands_among ranks aim rank summed.visits = stands-long ranks aim rank summed.visits mine summed.walk.cut_are in
      among ∙ sym long ∙ ap (λ (l : List (List Visit)). length (stands_of ranks aim rank l)) same)

  -- the sequences that were summed up, and that there are places for their stands
  pub summed-sequences : (ranks : Ranks) (aim : Aim) (weights : List ℕ) (tallies : List Tally) → AreSummed course ranks aim weights groups [] tallies
      → (least : ℕ) (found : List NextRank) → AreNext least least tallies found
      → (sequences : List (List Visit)) × AllZip (AreVisits course) groups sequences × HaveAllPlaces ranks aim sequences found
  summed-sequences ranks aim weights tallies summed least found next =
      let exact = walked-whole summed.visits summed.walk in
      (summed.walk.sequences, exact, summed-places ranks aim weights tallies summed summed.walk.sequences exact least found next)

  -- a buffer of all visits has those of these sequences
  pub walked-sequences : (visits : List Visit) → AreWalked course groups [] visits → (sequences : List (List Visit)) → AllZip (AreVisits course) groups sequences
      → AreSequences visits sequences
  walked-sequences visits walk sequences exact =
      subst (AreSequences visits) (sequences-unique course groups walk.sequences sequences (walked-whole visits walk) exact) walk.cut_are

  -- there is room for them
  pub buffer-room : (ranks : Ranks) (aim : Aim) (found : List NextRank) (files : List Filed) → files ≡ map unfiled found → (visits : List Visit)
      → AreWalked course groups [] visits → (all : List (List Visit)) → AllZip (AreVisits course) groups all → HaveAllPlaces ranks aim all found
      → All (HasRoom ranks aim visits) files
  buffer-room ranks aim found files begun visits walk all exact places =
      subst (λ (l : List Filed). All (HasRoom ranks aim visits) l) (all-none ranks aim (map unfiled found) ∙ sym begun)
      (files-room ranks aim all found places [] all [] visits (sym (append-nil all)) (walked-sequences visits walk all exact))

-- ---- ranks that were found

-- they have room where there was some for sums
pub next-below : (least enough : ℕ) (tallies : List Tally) (found : List NextRank) → AreNext least enough tallies found → All (λ next. next.rank < length tallies) found
next-below least enough tallies found next k d below =
    let (tally, at, heavy, told) = next.right (get_or found k d) (Contains-get_or found k d below) in
    slice_get_within tallies (get_or found k d).rank tally at

-- what a part keeps, by what is seen of it
pub kept-here : {starts : List ℕ} → (view part : GridList) → view ≡ part → (terrain one : AnyTerrain) → terrain ≡ one → (kept weights : List ℕ) → weights ≡ kept → IsKept view terrain kept starts
    → IsTerrainOf part one × AreWeights part weights
kept-here view part same terrain one is kept weights told keeps = (
  subst (λ (p : GridList). IsTerrainOf p one) same (subst (λ (t : AnyTerrain). IsTerrainOf view t) is keeps.terrain_is),
  subst (λ (p : GridList). AreWeights p weights) same (subst (AreWeights view) (sym told) keeps.weights_are),
)

-- what is needed is the same
pub same-need : (one other : Option ℕ) → option_eq (λ m n. m == n) one other ≡ true → one ≡ other
same-need None None is = refl
same-need None (Some n) is = absurd (true≢false (sym is))
same-need (Some m) None is = absurd (true≢false (sym is))
same-need (Some m) (Some n) is = ap Some (eqb-true m n is)

-- the part that a room knows is that of its ground
pub known-is : {X : Type 0} (value : X → Ground) (known : Option X) (x : X) → known ≡ Some x → (view : RoomValue) (ranks : ℕ)
    → record { ranks = ranks; part = option_map (λ it. part_on (value it)) known } ≡ view → (part : GridList) → view.part ≡ Some part → part_on (value x) ≡ part
known-is value known x is view ranks seen part told =
    let same : Some (part_on (value x)) ≡ Some part = sym (ap (option_map (λ it. part_on (value it))) is) ∙ ap (λ (r : RoomValue). r.part) seen ∙ told in
    subst (λ (o : Option GridList). IfSome o (λ p. p ≡ part)) (sym same) refl

-- what holds of each that is known holds of this one
pub known-holds : {X : Type 0} (P : X → Type 0) (known : Option X) (x : X) → known ≡ Some x → IfSome known P → P x
known-holds P known x is holds = subst (λ o. IfSome o P) is holds

-- what holds where there is none
pub none-holds : {X : Type 0} (P : Type 0) (found : Option X) → found ≡ None → IfNone found P → P
none-holds P found is holds = subst (λ o. IfNone o P) is holds

-- what was found over a terrain was found in its part
pub found-in : (width : ℕ) (part : GridList) (rows : List ℕ) (value : RecordsValue) → IsGround width part rows value → (weights : List ℕ) → AreWeights part weights
    → (aim : Aim) (least room most : ℕ) → room ≡ most → (stands : List Stand) (found : List NextRank) (run : List Stand)
    (longer : Option (List StandList)) → AreFound (course_over rows value aim) (ranks_of value.table) aim weights least room stands found run longer
    → IsFoundIn part aim least most stands found run longer
found-in width part rows value ground weights weigh aim least room most same stands found run longer are = record {
  width = width;
  rows = rows;
  value = value;
  ground = ground;
  weights = weights;
  weights_are = weigh;
  found_are = subst (λ (n : ℕ). AreFound (course_over rows value aim) (ranks_of value.table) aim weights least n stands found run longer) same are;
}

-- ---- ranks without places

module _ (ranks : Ranks) (aim : Aim) (sequences : List (List Visit)) where
  more-nowhere : (filed : Filed) → filed.last ≤ filed.first → with_more ranks aim sequences filed ≡ filed
  more-nowhere filed none = rw (le-ltb filed.first filed.last none) refl

  -- nothing is filed for them
  pub nothing-filed : (found : List NextRank) → ((next : NextRank) → Contains found next → next.first < next.last → ⊥)
      → map (with_more ranks aim sequences) (map unfiled found) ≡ map unfiled found
  nothing-filed [] none = refl
  nothing-filed (next ∷ found) none =
      let here : with_more ranks aim sequences (unfiled next) ≡ unfiled next =
      elim (cases_lt next.first next.last) [
        | inl some ↦ absurd (none next (Contains-first next found) some)
        | inr past ↦ more-nowhere (unfiled next) past
      ] in
      let others = nothing-filed found (λ other held. none other (Contains-other next found other held)) in
      λ i. here i ∷ others i

-- ---- what visits may be asked

pub visits-of : (course : Course) (groups : List (List Stand)) (visits : List Visit) (sequences : List (List Visit)) → AllZip (AreVisits course) groups sequences
    → AreSequences visits sequences → AreVisitsOf course groups visits
visits-of course [] visits [] zip are = are
visits-of course [] visits (here ∷ sequences) zip are = absurd zip
visits-of course (group ∷ groups) visits [] zip are = absurd zip
visits-of course (group ∷ groups) visits (here ∷ sequences) (exact, zip) (behind, cut, marks, are) =
    (here, behind, cut, exact, visits-of course groups behind sequences zip are)

-- of each visit in a buffer of all the ranks may be asked for
pub buffer-readable : {W : ℕ} (terrain : Terrain W) (aim : Aim) (stands : List Stand) (room : ℕ) → IsReady terrain aim stands room
    → (course : Course) → course ≡ course_over terrain.rows.items terrain.records aim → (visits : List Visit)
    → ((groups : List (List Stand)) → AreGroups stands groups → AreWalked course groups [] visits)
    → All (IsReadable (ranks_of terrain.records.table) (CanAskOf terrain.records.table) room) visits
buffer-readable terrain aim stands room ready course same visits walked =
    ready-readable terrain aim stands room ready stands [] (λ groups are. ([], groups, refl, are)) course same visits (λ groups are.
    let walk = walked groups are in
    record {
      done = walk.done;
      rest = walk.rest;
      cut = walk.cut;
      left_are = walk.left_are;
      visits_are = visits-of course walk.done visits walk.sequences walk.walked walk.cut_are;
    })
