-- A graph over what a part keeps, while nodes are expanded.
use Rattle.std.proofs.Common.{◌≡◌, ℕ, ◌<◌, Bool, true, false, if◌then◌else◌, Option, Some, None, List, length, refl, sym, ap, ◌∙◌, subst}
use Rattle.std.specs.Prelude.{IfSome}
use Rattle.std.specs.List.{slice_get}
use Rattle.mine_model.proofs.ElementLemmas.{get-some, slice_get-mapped_by, get-from}
use Rattle.sequence_grids.specs.Grids.{GridList, items_at}
use Rattle.walk_memo.specs.Memos.{MemoValue}
use Rattle.walk_places.specs.declared.places.Record.{Record}
use Rattle.place_walk.specs.Courses.{Course, course_of}
use Rattle.stand_sums.specs.Writings.{Ranks}
use Rattle.candidate_graph.specs.Courses.{Courses, course_in, AreStandsOn, IsGround as CanWalk}
use Rattle.candidate_graph.specs.Graphs.{Standpoint, Node, IsGraph, Grows}
use Rattle.place_records.specs.Ranks.{RanksValue, ranks_of, CanAskOf}
use Rattle.place_records.specs.Values.{RecordsValue, moves_for}
use Rattle.snapshot_project.specs.Aims.{goes}
use Rattle.snapshot_project.specs.Snapshots.{IsPart}
use Rattle.snapshot_project.specs.Terrains.{IsGround}
use Rattle.sequence_candidates.specs.declared.terrain.Terrain.{Terrain}
use Rattle.sequence_candidates.specs.declared.terrain.AnyTerrain.{AnyTerrain}
use Rattle.sequence_candidates.specs.declared.terrain.AnyTerrain.TheVariants.{Unknown, One, Four, Wide}
use Rattle.sequence_candidates.specs.Candidates.{AreCandidates}
use Rattle.sequence_candidates.specs.Terrains.{courses_over, root_at, IsTerrainOf, IsBegun, IsBegunOn, IsBegunOver, IsOn, IsKept}
use Rattle.sequence_candidates.proofs.GraphLemmas.{candidates-are}
use Rattle.sequence_candidates.proofs.PlaceLemmas.{ground-is, root-on}

moves-are : (value : RecordsValue) (on : Bool) → moves_for value on ≡ (if on then value.late else value.early)
moves-are value true = refl
moves-are value false = refl

-- what a memo walks over
pub course-is : (memo : MemoValue) (places : List Record) (rows : List ℕ) (value : RecordsValue) (need : Option ℕ) (seen : Bool) → memo.rows ≡ rows
    → memo.moves ≡ moves_for value (goes seen need) → places ≡ value.places → course_in (courses_over rows value need) seen ≡ course_of memo places
course-is memo places rows value need seen rows_are moves places_are = sym (λ i. record {
  rows = rows_are i;
  moves = (moves ∙ moves-are value (goes seen need)) i;
  places = places_are i;
})

-- the first node stays
pub grown-begun : (part : GridList) (rows : List ℕ) (value : RecordsValue) (index : ℕ) (nodes now : List Node) → IsBegun part rows value index nodes → Grows nodes now
    → IsGraph (courses_over rows value part.bound.need) (ranks_of value.table) part.bound.need now → IsBegun part rows value index now
grown-begun part rows value index nodes now begun grows graph =
    let (node, there, at_is) = get-from (λ (n : Node). n.at) nodes 0 (root_at part index) begun.root in
    let (after, there_now, same, kept) = grows 0 node there in
    record {
      known = begun.known;
      graph = graph;
      root = slice_get-mapped_by (λ (n : Node). n.at) now 0 after there_now ∙ ap (λ (p : Standpoint). Some p) (same ∙ sym at_is);
    }

-- the graph of one node
pub root-begun : (part : GridList) → IsPart part → (width : ℕ) (rows : List ℕ) (value : RecordsValue) → IsGround width part rows value → (index : ℕ)
    → index < length part.sequences → (nodes : List Node) → (root : Node) → root.at ≡ root_at part index → slice_get nodes 0 ≡ Some root
    → ((courses : Courses) (ranks : Ranks) (need : Option ℕ) → AreStandsOn (course_in courses root.at.seen) root.at.stands → IsGraph courses ranks need nodes)
    → IsBegun part rows value index nodes
root-begun part is width rows value ground index known nodes root root_is there graph = record {
  known = known;
  graph = graph (courses_over rows value part.bound.need) (ranks_of value.table) part.bound.need
      (subst (λ (p : Standpoint). AreStandsOn (course_in (courses_over rows value part.bound.need) p.seen) p.stands) (sym root_is)
      (root-on part is width rows ground.rows_are value.places value.early value.late (ranks_of value.table) (CanAskOf value.table) ground.records_are
      (goes (root_at part index).seen part.bound.need) index known));
  root = slice_get-mapped_by (λ (n : Node). n.at) nodes 0 root there ∙ ap (λ (p : Standpoint). Some p) root_is;
}

module _ {W : ℕ} (part : GridList) (need : Option ℕ) (terrain : Terrain W) (index room : ℕ) (nodes : List Node) (on : IsOn part need terrain index room nodes)
    (number : ℕ) (inside : number < length nodes) (seen : Bool) (seen_is : (n : Node) → slice_get nodes number ≡ Some n → seen ≡ n.at.seen)
    (memo : MemoValue) (late : Bool) (late_is : goes seen need ≡ late) (rows_are : memo.rows ≡ terrain.early.rows) (moves_are : memo.moves ≡ moves_for terrain.records late)
    (places : List Record) (places_are : places ≡ terrain.records.places) (table : RanksValue) (table_is : table ≡ terrain.records.table) where
  -- the memo is that of the paths of the node
  node-course : (n : Node) → slice_get nodes number ≡ Some n
      → course_in (courses_over terrain.early.rows terrain.records part.bound.need) n.at.seen ≡ course_of memo places
  node-course n there =
      let goes_is : goes n.at.seen part.bound.need ≡ late =
      ap (λ (b : Bool). goes b part.bound.need) (sym (seen_is n there)) ∙ ap (goes seen) on.need_is ∙ late_is in
      course-is memo places terrain.early.rows terrain.records part.bound.need n.at.seen rows_are
      (moves_are ∙ ap (moves_for terrain.records) (sym goes_is)) places_are

  -- walks can be made from the node
  pub node-walks : CanWalk (course_of memo places) (ranks_of table) (CanAskOf table) room
      × ((n : Node) → slice_get nodes number ≡ Some n → AreStandsOn (course_of memo places) n.at.stands)
  node-walks =
      let ground = on.terrain_is.ground in
      let (some, there) = get-some nodes number inside in
      let walk : CanWalk (course_of memo places) (ranks_of terrain.records.table) (CanAskOf terrain.records.table) room =
      subst (λ (c : Course). CanWalk c (ranks_of terrain.records.table) (CanAskOf terrain.records.table) room) (node-course some there)
      (ground-is part on.part_is W terrain.early.rows ground.rows_are terrain.records.places terrain.records.early terrain.records.late
      (ranks_of terrain.records.table) (CanAskOf terrain.records.table) ground.records_are (goes some.at.seen part.bound.need) room on.room_is) in (
        subst (λ (t : RanksValue). CanWalk (course_of memo places) (ranks_of t) (CanAskOf t) room) (sym table_is) walk,
        (λ n at. subst (λ (c : Course). AreStandsOn c n.at.stands) (node-course n at)
            (on.begun_is.graph.on number n.at (slice_get-mapped_by (λ (n : Node). n.at) nodes number n at))),
      )

  -- and the graph is one over the same, still
  pub node-grown : (now : List Node) → Grows nodes now
      → ((courses : Courses) (n : Node) → slice_get nodes number ≡ Some n → course_in courses n.at.seen ≡ course_of memo places
      → IsGraph courses (ranks_of table) need nodes → IsGraph courses (ranks_of table) need now)
      → IsBegunOn part terrain index now
  node-grown now grows law =
      let (some, there) = get-some nodes number inside in
      let courses : Courses = courses_over terrain.early.rows terrain.records part.bound.need in
      let moved : (some : List Node) → IsGraph courses (ranks_of terrain.records.table) part.bound.need some → IsGraph courses (ranks_of table) need some =
      λ some graph. subst (λ (t : RanksValue). IsGraph courses (ranks_of t) need some) (sym table_is)
      (subst (λ (o : Option ℕ). IsGraph courses (ranks_of terrain.records.table) o some) on.need_is graph) in
      let back : (some : List Node) → IsGraph courses (ranks_of table) need some → IsGraph courses (ranks_of terrain.records.table) part.bound.need some =
      λ some graph. subst (λ (o : Option ℕ). IsGraph courses (ranks_of terrain.records.table) o some) (sym on.need_is)
      (subst (λ (t : RanksValue). IsGraph courses (ranks_of t) need some) table_is graph) in
      grown-begun part terrain.early.rows terrain.records index nodes now on.begun_is grows
      (back now (law courses some there (node-course some there) (moved nodes on.begun_is.graph)))

-- ---- whatever the width

pub begun-candidates : (part : GridList) → IsPart part → (terrain : AnyTerrain) → IsTerrainOf part terrain → (index : ℕ) (nodes : List Node)
    → IsBegunOver part terrain index nodes → AreCandidates part (items_at part index) nodes
begun-candidates part is Unknown over index nodes begun = absurd begun
begun-candidates part is (One terrain) over index nodes begun =
    candidates-are part is 1 terrain.early.rows terrain.records over.ground index nodes begun
begun-candidates part is (Four terrain) over index nodes begun =
    candidates-are part is 4 terrain.early.rows terrain.records over.ground index nodes begun
begun-candidates part is (Wide terrain) over index nodes begun =
    candidates-are part is 17 terrain.early.rows terrain.records over.ground index nodes begun

pub kept-candidates : (part : GridList) (terrain : AnyTerrain) (starts : List ℕ) (begun : Option ℕ) (room : ℕ) (nodes : List Node)
    → IsKept part terrain starts begun room nodes → IfSome begun (λ index. AreCandidates part (items_at part index) nodes)
kept-candidates part terrain starts None room nodes kept = tt
kept-candidates part terrain starts (Some index) room nodes kept =
    begun-candidates part kept.part_is terrain kept.terrain_is index nodes kept.begun_is
