-- What one more walk from the stands of a prefix finds, beside those before it.
use Rattle.std.proofs.Common.{◌≡◌, ℕ, ◌^◌, ◌≤◌, ◌<◌, Bool, true, false, Some, List, [], ◌∷◌, ◌++◌, length, map, refl, sym, ap, ◌∙◌, subst, arith, append_assoc}
use Rattle.std.specs.List.{All, AllPairs, AllZip, slice_get}
use Rattle.std.proofs.lemmas.List.{append-nil}
use Rattle.std.proofs.lemmas.Option.{slice_get_within}
use Rattle.mine_model.specs.declared.item.Item.{Item}
use Rattle.mine_model.proofs.ElementLemmas.{get-some}
use Rattle.sequence_grids.specs.Grids.{GridList}
use Rattle.walk_memo.specs.Memos.{MemoValue}
use Rattle.place_walk.specs.declared.stand.Stand.{Stand}
use Rattle.place_walk.specs.declared.visit.Visit.{Visit}
use Rattle.place_walk.specs.Courses.{Course, course_of}
use Rattle.place_walk.specs.Visits.{AreVisits, AreVisitsOf}
use Rattle.place_walk.specs.Groups.{AreGroups, AreWalked as AreWalkedOnce}
use Rattle.stand_sums.specs.declared.aim.Aim.{Aim}
use Rattle.stand_sums.specs.declared.next_rank.NextRank.{NextRank}
use Rattle.stand_sums.specs.Writings.{Ranks, IsReadable}
use Rattle.stand_sums.specs.Sequences.{AreSequences}
use Rattle.stand_sums.specs.Sums.{Tally, empty_tally, AreCounted}
use Rattle.stand_sums.specs.Files.{Filed, unfiled, with_more, HasRoom}
use Rattle.stand_sums.proofs.LawLemmas.{groups-sequences}
use Rattle.place_records.specs.Ranks.{ranks_of, CanAskOf}
use Rattle.place_records.specs.Values.{RecordsValue, moves_for}
use Rattle.snapshot_project.specs.declared.terrain.Terrain.{Terrain}
use Rattle.snapshot_project.specs.Aims.{goes}
use Rattle.snapshot_project.specs.Grouped.{course_for, AreGroupsIn}
use Rattle.snapshot_project.specs.Founds.{IsReady, course_over, AreWalked, AreSummed}
use Rattle.snapshot_project.specs.Longer.{HaveAllPlaces}
use Rattle.snapshot_project.proofs.GroupLemmas.{zip-both, stands-cut}
use Rattle.snapshot_project.proofs.StandLemmas.{stands-placed, stands-in-states, stands-ordered, moves-known}
use Rattle.snapshot_project.proofs.RoomLemmas.{sequences-append, all-behind, all-none, files-room}
use Rattle.snapshot_project.proofs.UniqueLemmas.{sequences-unique, sequences-cut}
use Rattle.snapshot_project.proofs.VisitNextLemmas.{all-readable}
use Rattle.mask_sums.proofs.RunLemmas.{counts-more}

-- ---- groups

-- groups behind some of those of these grids are those of some of the grids
pub groups-behind : (part : GridList) (prefix : List Item) (seen : Bool) (grids : List ℕ) (done rest : List (List Stand))
    → AreGroupsIn part prefix seen grids (done ++ rest) → (others : List ℕ) × AreGroupsIn part prefix seen others rest
groups-behind part prefix seen grids [] rest are = (grids, are)
groups-behind part prefix seen [] (group ∷ done) rest are = absurd are
groups-behind part prefix seen (grid ∷ grids) (group ∷ done) rest (here, are) = groups-behind part prefix seen grids done rest are

-- no stands make no groups
pub groups-none : (groups : List (List Stand)) → AreGroups [] groups → groups ≡ []
groups-none [] are = refl
groups-none ([] ∷ groups) (behind, cut, is, are) = absurd (let some = is.some in omega arith)
groups-none ((stand ∷ group) ∷ groups) (behind, cut, is, are) = absurd (let long : 0 ≡ length ((stand ∷ group) ++ behind) = ap length cut in omega arith)

-- the groups begin with some of these, and the stands left are those of the others
abbrev pub IsCutBefore : List (List Stand) → List Stand → Type 0
IsCutBefore groups left = (done : List (List Stand)) × (rest : List (List Stand)) × (groups ≡ done ++ rest) × AreGroups left rest

-- ---- what a walk asks for

-- the moves for paths that go on or not
moves-chosen : (rows : List ℕ) (value : RecordsValue) (on : Bool)
    → course_for rows value.places value.early value.late on ≡ record { rows = rows; moves = moves_for value on; places = value.places }
moves-chosen rows value true = refl
moves-chosen rows value false = refl

-- a memo of them has the course of the terrain
pub course-same : (memo : MemoValue) (rows : List ℕ) (value : RecordsValue) (aim : Aim) → memo.rows ≡ rows
    → memo.moves ≡ moves_for value (goes aim.seen aim.need) → course_of memo value.places ≡ course_over rows value aim
course-same memo rows value aim rows_same moves_same =
    (λ i. record { rows = rows_same i; moves = moves_same i; places = value.places }) ∙ sym (moves-chosen rows value (goes aim.seen aim.need))

module _ {W : ℕ} (terrain : Terrain W) (aim : Aim) (stands : List Stand) (room : ℕ) (ready : IsReady terrain aim stands room) where
  pub ready-few : length terrain.records.places < 2 ^ 32
  ready-few = ready.ground.records_are.few

  pub ready-moves : (on : Bool) → All (λ entry. entry.of < length (moves_for terrain.records on)) terrain.records.places
  ready-moves true =
      (moves-known ready.part terrain.records.places terrain.records.early terrain.records.late (ranks_of terrain.records.table) (CanAskOf terrain.records.table) ready.ground.records_are).1
  ready-moves false =
      (moves-known ready.part terrain.records.places terrain.records.early terrain.records.late (ranks_of terrain.records.table) (CanAskOf terrain.records.table) ready.ground.records_are).0

  pub ready-placed : All (λ stand. stand.place < length terrain.records.places) stands
  ready-placed =
      let for = ready.stands_for in
      stands-placed ready.part for.is for.prefixes for.list for.are stands for.stands_are
      terrain.records.places terrain.records.early terrain.records.late (ranks_of terrain.records.table) (CanAskOf terrain.records.table) ready.ground.records_are

  pub ready-states : All (λ stand. stand.state < length terrain.rows.items) stands
  ready-states =
      let for = ready.stands_for in
      stands-in-states ready.part for.is for.prefixes for.list for.are stands for.stands_are W terrain.rows.items ready.ground.rows_are

  pub ready-ordered : AllPairs (λ one other. one.place ≤ other.place) stands
  ready-ordered =
      let for = ready.stands_for in
      stands-ordered ready.part for.is for.prefixes for.list for.are stands for.stands_are

  -- they are groups
  pub ready-groups : (groups : List (List Stand)) × AreGroups stands groups
  ready-groups =
      let for = ready.stands_for in
      let (groups, are, groups_in, all) = stands-cut ready.part for.is for.prefixes for.list for.are for.stands_are.grids stands for.stands_are.rising for.stands_are.are in
      (groups, are)

  -- the ranks of the visits of a walk may be asked for
  pub ready-readable : (left further : List Stand) → ((groups : List (List Stand)) → AreGroups stands groups → IsCutBefore groups left)
      → (course : Course) → course ≡ course_over terrain.rows.items terrain.records aim → (visits : List Visit)
      → ((groups : List (List Stand)) → AreGroups left groups → AreWalkedOnce course groups further visits)
      → All (IsReadable (ranks_of terrain.records.table) (CanAskOf terrain.records.table) room) visits
  ready-readable left further begun course same visits found =
      let for = ready.stands_for in
      let ranks : Ranks = ranks_of terrain.records.table in
      let (groups, are, groups_in, all) = stands-cut ready.part for.is for.prefixes for.list for.are for.stands_are.grids stands for.stands_are.rising for.stands_are.are in
      let (done, rest, cut, left_are) = begun groups are in
      let (others, behind) = groups-behind ready.part for.are.prefix for.list.seen for.stands_are.grids done rest
      (subst (λ (l : List (List Stand)). AreGroupsIn ready.part for.are.prefix for.list.seen for.stands_are.grids l) cut groups_in) in
      let walk = found rest left_are in
      let chosen : course_over terrain.rows.items terrain.records aim
      ≡ course_for terrain.rows.items terrain.records.places terrain.records.early terrain.records.late (goes for.list.seen ready.part.bound.need) =
      λ i. course_for terrain.rows.items terrain.records.places terrain.records.early terrain.records.late (goes (for.seen i) (for.need i)) in
      let readable = all-readable ready.part for.is W terrain.rows.items ready.ground.rows_are terrain.records.places terrain.records.early terrain.records.late
      ranks (CanAskOf terrain.records.table) ready.ground.records_are for.are.prefix for.list.seen others walk.done walk.rest
      (subst (λ (l : List (List Stand)). AreGroupsIn ready.part for.are.prefix for.list.seen others l) walk.cut behind) visits
      (subst (λ (c : Course). AreVisitsOf c walk.done visits) (same ∙ chosen) walk.visits_are) in
      λ k d below.
      let here = readable k d below in record {
        asked = here.asked;
        once = here.once;
        within = λ i e inside. (let less = here.within i e inside in let most = ready.most in omega arith);
      }

-- ---- sums

-- the visits of a walk, cut into those of each sequence
pub walked-cut : (course : Course) (groups : List (List Stand)) (left : List Stand) (visits : List Visit) → AreWalkedOnce course groups left visits
    → AreWalked course groups left visits
walked-cut course groups left visits walk =
    let (sequences, cut, walked) = groups-sequences course walk.done visits walk.visits_are in
    record { done = walk.done; rest = walk.rest; cut = walk.cut; left_are = walk.left_are; sequences = sequences; walked = walked; cut_are = cut }

-- the sums with one more walk
pub summed-more : (course : Course) (ranks : Ranks) (aim : Aim) (weights : List ℕ) (groups : List (List Stand)) (left further : List Stand)
    (before after : List Tally) → AreSummed course ranks aim weights groups left before → length after ≡ length before → (visits : List Visit)
    → ((others : List (List Stand)) → AreGroups left others → AreWalkedOnce course others further visits)
    → ((sequences : List (List Visit)) → AreSequences visits sequences → (rank : ℕ) (one other : Tally) → slice_get before rank ≡ Some one
    → slice_get after rank ≡ Some other → AreCounted ranks aim weights rank visits sequences one other)
    → AreSummed course ranks aim weights groups further after
summed-more course ranks aim weights groups left further before after summed long visits found counted =
    let first = summed.walk in
    let next = walked-cut course first.rest further visits (found first.rest first.left_are) in
    record {
      visits = summed.visits ++ visits;
      walk = record {
        done = first.done ++ next.done;
        rest = next.rest;
        cut = first.cut ∙ ap (λ (l : List (List Stand)). first.done ++ l) next.cut ∙ sym (append_assoc first.done next.done next.rest);
        left_are = next.left_are;
        sequences = first.sequences ++ next.sequences;
        walked = zip-both (AreVisits course) first.done first.sequences next.done next.sequences first.walked next.walked;
        cut_are = sequences-append summed.visits visits first.sequences next.sequences first.cut_are next.cut_are;
      };
      tallied = λ rank tally at.
          let inside : rank < length after = slice_get_within after rank tally at in
          let (old, old_at) = get-some before rank (omega arith) in
          counts-more ranks aim weights rank summed.visits visits first.sequences next.sequences empty_tally old tally
          (summed.tallied rank old old_at) (counted next.sequences next.cut_are rank old tally old_at at);
    }

-- ---- files

-- walks over the first of the groups have filed the stands behind what their paths write
pub record AreFiledTo (course : Course) (ranks : Ranks) (aim : Aim) (found : List NextRank) (groups : List (List Stand)) (left : List Stand) (files : List Filed)
    : Type 0 where
  pub done : List (List Stand)
  pub rest : List (List Stand)
  pub cut : groups ≡ done ++ rest
  pub left_are : AreGroups left rest
  pub sequences : List (List Visit)
  pub walked : AllZip (AreVisits course) done sequences
  pub filed : files ≡ map (with_more ranks aim sequences) (map unfiled found)

module _ (course : Course) (ranks : Ranks) (aim : Aim) (found : List NextRank) where
  -- of no walk yet
  pub filed-none : (groups : List (List Stand)) (left : List Stand) → AreGroups left groups → (files : List Filed) → files ≡ map unfiled found
      → AreFiledTo course ranks aim found groups left files
  filed-none groups left are files begun =
      record { done = []; rest = groups; cut = refl; left_are = are; sequences = []; walked = tt; filed = begun ∙ sym (all-none ranks aim (map unfiled found)) }

  module _ (groups : List (List Stand)) (left further : List Stand) (files : List Filed) (filed : AreFiledTo course ranks aim found groups left files)
      (visits : List Visit) (walk : AreWalkedOnce course filed.rest further visits) where
    -- there is room for those of the next walk
    pub filed-room : (all : List (List Visit)) → AllZip (AreVisits course) groups all → HaveAllPlaces ranks aim all found → All (HasRoom ranks aim visits) files
    filed-room all visited places =
        let next = walked-cut course filed.rest further visits walk in
        let (others, cut, behind) = sequences-cut course groups filed.done filed.rest all filed.sequences filed.cut visited filed.walked in
        let (later, split, last) = sequences-cut course filed.rest next.done next.rest others next.sequences next.cut behind next.walked in
        subst (λ (l : List Filed). All (HasRoom ranks aim visits) l) (sym filed.filed)
        (files-room ranks aim all found places filed.sequences next.sequences later visits
        (cut ∙ ap (λ (l : List (List Visit)). filed.sequences ++ l) split ∙ sym (append_assoc filed.sequences next.sequences later)) next.cut_are)

    -- with them
    pub filed-more : (after : List Filed) → ((sequences : List (List Visit)) → AreSequences visits sequences → after ≡ map (with_more ranks aim sequences) files)
        → AreFiledTo course ranks aim found groups further after
    filed-more after more =
        let next = walked-cut course filed.rest further visits walk in record {
          done = filed.done ++ next.done;
          rest = next.rest;
          cut = filed.cut ∙ ap (λ (l : List (List Stand)). filed.done ++ l) next.cut ∙ sym (append_assoc filed.done next.done next.rest);
          left_are = next.left_are;
          sequences = filed.sequences ++ next.sequences;
          walked = zip-both (AreVisits course) filed.done filed.sequences next.done next.sequences filed.walked next.walked;
          filed = more next.sequences next.cut_are ∙ ap (map (with_more ranks aim next.sequences)) filed.filed ∙ all-behind ranks aim filed.sequences next.sequences (map unfiled found);
        }

  -- those of all groups
  pub filed-all : (groups : List (List Stand)) (left : List Stand) (files : List Filed) → AreFiledTo course ranks aim found groups left files → left ≡ []
      → (all : List (List Visit)) → AllZip (AreVisits course) groups all → files ≡ map (with_more ranks aim all) (map unfiled found)
  filed-all groups left files filed nothing all visited =
      let none : filed.rest ≡ [] = groups-none filed.rest (subst (λ (l : List Stand). AreGroups l filed.rest) nothing filed.left_are) in
      let whole : groups ≡ filed.done = filed.cut ∙ ap (λ (l : List (List Stand)). filed.done ++ l) none ∙ append-nil filed.done in
      let same : filed.sequences ≡ all = sequences-unique course filed.done filed.sequences all filed.walked
      (subst (λ (l : List (List Stand)). AllZip (AreVisits course) l all) whole visited) in
      filed.filed ∙ ap (λ (l : List (List Visit)). map (with_more ranks aim l) (map unfiled found)) same
