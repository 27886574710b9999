-- What is kept of a part, through the calls.
use Rattle.std.proofs.Common.{◌≡◌, ℕ, ◌≤◌, ◌<◌, Bool, true, Option, Some, None, List, [], ◌∷◌, length, refl, sym, ap, ◌∙◌, subst, arith}
use Rattle.std.specs.Prelude.{IfSome}
use Rattle.std.specs.List.{slice_get}
use Rattle.std.proofs.lemmas.List.{length-map}
use Rattle.std.proofs.lemmas.Option.{same_Some, slice_get_within}
use Rattle.mine_model.specs.declared.item.Item.{Item}
use Rattle.mining_job.specs.declared.bound.Bound.{Bound}
use Rattle.mining_job.specs.Problems.{Problem, IsWhole}
use Rattle.sequence_grids.specs.Grids.{GridList, items_at}
use Rattle.stand_sums.specs.Writings.{Ranks}
use Rattle.candidate_graph.specs.Courses.{Courses, course_in, AreStandsOn}
use Rattle.candidate_graph.specs.Graphs.{Node, points_of, IsGraph, IsExpanded, IsWhole as IsAll, Grows}
use Rattle.place_records.specs.Records.{start_of}
use Rattle.snapshot_project.specs.Snapshots.{IsPart}
use Rattle.sequence_candidates.specs.declared.terrain.Terrain.{Terrain}
use Rattle.sequence_candidates.specs.declared.terrain.AnyTerrain.{AnyTerrain}
use Rattle.sequence_candidates.specs.declared.terrain.AnyTerrain.TheVariants.{Unknown, One, Four, Wide}
use Rattle.sequence_candidates.specs.Candidates.{AreCandidates}
use Rattle.sequence_candidates.specs.Terrains.{seen_first, root_at, IsTerrain, IsTerrainOf, IsBegunOn, IsBegunOver, IsOn, IsKept, AreStarts}
use Rattle.sequence_candidates.proofs.StartLemmas.{starts-none}
use Rattle.sequence_candidates.proofs.ExpandLemmas.{root-begun}

-- of no sequences
pub kept-none : (problem : Problem) (bound : Bound) → IsWhole problem → bound.top ≤ length problem.ranking.order → (room : ℕ) → length problem.ranking.order < room
    → (nodes : List Node) → IsKept (record { problem = problem; bound = bound; sequences = [] }) Unknown [] None room nodes
kept-none problem bound whole top room most nodes = record {
  part_is = record { whole = whole; top = top; rising = λ i j d less inside. absurd (omega (arith, inside)); within = tt };
  terrain_is = refl;
  room_is = most;
  starts_are = starts-none (record { problem = problem; bound = bound; sequences = [] });
  begun_is = tt;
}

pub kept-empty : (problem : Problem) (bound : Bound) → IsWhole problem → bound.top ≤ length problem.ranking.order → (room : ℕ) → length problem.ranking.order < room
    → (nodes : List Node) (sequences starts : List ℕ) → sequences ≡ [] → starts ≡ []
    → IsKept (record { problem = problem; bound = bound; sequences = sequences }) Unknown starts None room nodes
kept-empty problem bound whole top room most nodes sequences starts none nothing =
    subst (λ (l : List ℕ). IsKept (record { problem = problem; bound = bound; sequences = l }) Unknown starts None room nodes) (sym none)
    (subst (λ (l : List ℕ). IsKept (record { problem = problem; bound = bound; sequences = [] }) Unknown l None room nodes) (sym nothing)
    (kept-none problem bound whole top room most nodes))

-- of a part that was entered
pub kept-entered : (part : GridList) → IsPart part → (terrain : AnyTerrain) → IsTerrainOf part terrain → (starts : List ℕ) → AreStarts part starts
    → (room : ℕ) → length part.problem.ranking.order < room → (nodes : List Node) → IsKept part terrain starts None room nodes
kept-entered part is terrain over starts starts_are room most nodes = record {
  part_is = is;
  terrain_is = over;
  room_is = most;
  starts_are = starts_are;
  begun_is = tt;
}

-- where no sequence is begun, nodes do not matter
pub kept-left : (part : GridList) (terrain : AnyTerrain) (starts : List ℕ) (begun : Option ℕ) (room later : ℕ) (nodes now : List Node)
    → IsKept part terrain starts begun room nodes → later ≡ room → IsKept part terrain starts None later now
kept-left part terrain starts begun room later nodes now kept same =
    kept-entered part kept.part_is terrain kept.terrain_is starts kept.starts_are later (subst (λ (n : ℕ). length part.problem.ranking.order < n) (sym same) kept.room_is) now

-- ---- a sequence is begun

module _ (part : GridList) (is : IsPart part) (index : ℕ) (known : index < length part.sequences) (nodes : List Node) (seen : Bool) (place : ℕ)
    (seen_is : seen ≡ seen_first part.bound.need) (place_is : place ≡ start_of part index)
    (nodes_are : nodes ≡ record { at = record { seen = seen; stands = record { place = place; state = 0; first = true } ∷ [] }; edges = None } ∷ [])
    (graph : (courses : Courses) (ranks : Ranks) (need : Option ℕ) → AreStandsOn (course_in courses seen) (record { place = place; state = 0; first = true } ∷ [])
    → IsGraph courses ranks need nodes) where
  abbrev root : Node
  root = record { at = record { seen = seen; stands = record { place = place; state = 0; first = true } ∷ [] }; edges = None }

  root-same : root.at ≡ root_at part index
  root-same = λ i. record { seen = seen_is i; stands = record { place = place_is i; state = 0; first = true } ∷ [] }

  begun-on : (width : ℕ) (terrain : Terrain width) → IsTerrain part terrain → IsBegunOn part terrain index nodes
  begun-on width terrain over =
      root-begun part is width terrain.early.rows terrain.records over.ground index known nodes root root-same (ap (λ (l : List Node). slice_get l 0) nodes_are) graph

  begun-over : (terrain : AnyTerrain) → IsTerrainOf part terrain → IsBegunOver part terrain index nodes
  begun-over Unknown none = absurd (let few : length part.sequences ≡ 0 = ap length none in omega (arith, few, known))
  begun-over (One terrain) over = begun-on 1 terrain over
  begun-over (Four terrain) over = begun-on 4 terrain over
  begun-over (Wide terrain) over = begun-on 17 terrain over

pub kept-begun : (part : GridList) (terrain : AnyTerrain) (starts : List ℕ) (begun : Option ℕ) (room later : ℕ) (before : List Node)
    → IsKept part terrain starts begun room before → later ≡ room → (index : ℕ) → index < length part.sequences → (place : ℕ) → slice_get starts index ≡ Some place
    → (seen : Bool) → seen ≡ seen_first part.bound.need → (nodes : List Node)
    → nodes ≡ record { at = record { seen = seen; stands = record { place = place; state = 0; first = true } ∷ [] }; edges = None } ∷ []
    → ((courses : Courses) (ranks : Ranks) (need : Option ℕ) → AreStandsOn (course_in courses seen) (record { place = place; state = 0; first = true } ∷ [])
    → IsGraph courses ranks need nodes)
    → IsKept part terrain starts (Some index) later nodes
kept-begun part terrain starts begun room later before kept same index known place at seen seen_is nodes nodes_are graph =
    let place_is : place ≡ start_of part index = same_Some place (start_of part index) (sym at ∙ kept.starts_are.each index known) in
    record {
      part_is = kept.part_is;
      terrain_is = kept.terrain_is;
      room_is = subst (λ (n : ℕ). length part.problem.ranking.order < n) (sym same) kept.room_is;
      starts_are = kept.starts_are;
      begun_is = begun-over part kept.part_is index known nodes seen place seen_is place_is nodes_are graph terrain kept.terrain_is;
    }

-- ---- a node is expanded

begun-at : (begun : Option ℕ) (P : ℕ → Type 0) (index : ℕ) → IfSome begun P → begun ≡ Some index → P index
begun-at begun P index is same = subst (λ (o : Option ℕ). IfSome o P) same is

module _ (part : GridList) (any : AnyTerrain) (starts : List ℕ) (begun : Option ℕ) (room : ℕ) (nodes : List Node) (kept : IsKept part any starts begun room nodes)
    (index : ℕ) (begun_is : begun ≡ Some index) where
  pub on-one : (over : Terrain 1) → any ≡ One over → IsOn part part.bound.need over index room nodes
  on-one over same =
      let here : IsKept part (One over) starts begun room nodes = subst (λ (a : AnyTerrain). IsKept part a starts begun room nodes) same kept in
      record {
        part_is = kept.part_is;
        need_is = refl;
        terrain_is = here.terrain_is;
        room_is = kept.room_is;
        begun_is = begun-at begun (λ i. IsBegunOver part (One over) i nodes) index here.begun_is begun_is;
      }

  pub on-four : (over : Terrain 4) → any ≡ Four over → IsOn part part.bound.need over index room nodes
  on-four over same =
      let here : IsKept part (Four over) starts begun room nodes = subst (λ (a : AnyTerrain). IsKept part a starts begun room nodes) same kept in
      record {
        part_is = kept.part_is;
        need_is = refl;
        terrain_is = here.terrain_is;
        room_is = kept.room_is;
        begun_is = begun-at begun (λ i. IsBegunOver part (Four over) i nodes) index here.begun_is begun_is;
      }

  pub on-wide : (over : Terrain 17) → any ≡ Wide over → IsOn part part.bound.need over index room nodes
  on-wide over same =
      let here : IsKept part (Wide over) starts begun room nodes = subst (λ (a : AnyTerrain). IsKept part a starts begun room nodes) same kept in
      record {
        part_is = kept.part_is;
        need_is = refl;
        terrain_is = here.terrain_is;
        room_is = kept.room_is;
        begun_is = begun-at begun (λ i. IsBegunOver part (Wide over) i nodes) index here.begun_is begun_is;
      }

pub kept-grown : (part : GridList) (terrain now : AnyTerrain) (starts : List ℕ) (begun : Option ℕ) (room later : ℕ) (nodes more : List Node)
    → IsKept part terrain starts begun room nodes → (index : ℕ) → begun ≡ Some index → IsTerrainOf part now → length part.problem.ranking.order < later
    → IsBegunOver part now index more → IsKept part now starts begun later more
kept-grown part terrain now starts begun room later nodes more kept index same over most on = record {
  part_is = kept.part_is;
  terrain_is = over;
  room_is = most;
  starts_are = kept.starts_are;
  begun_is = subst (λ (o : Option ℕ). IfSome o (λ i. IsBegunOver part now i more)) (sym same) on;
}

-- ---- nodes grow

pub grows-same : (nodes : List Node) → Grows nodes nodes
grows-same nodes number node there = (node, there, refl, (λ edges known. known))

pub grows-on : (first second third : List Node) → Grows first second → Grows second third → Grows first third
grows-on first second third one other number node there =
    let (middle, at, same, kept) = one number node there in
    let (last, at_last, same_last, kept_last) = other number middle at in
    (last, at_last, same_last ∙ same, (λ edges known. kept_last edges (kept edges known)))

-- what was expanded stays so
pub expanded-on : (before now : List Node) → Grows before now → (number : ℕ) → IsExpanded before number → IsExpanded now number
expanded-on before now grows number (node, edges, there, known) =
    let (after, at, same, kept) = grows number node there in
    (after, edges, at, kept edges known)

-- all are known
pub all-expanded : (nodes : List Node) (count : ℕ) → length nodes ≤ count → ((number : ℕ) → number < count → IsExpanded nodes number) → IsAll nodes
all-expanded nodes count few each number node there =
    let inside : number < length nodes = slice_get_within nodes number node there in
    let (other, edges, at, known) = each number (omega (arith, inside, few)) in
    (edges, subst (λ (n : Node). n.edges ≡ Some edges) (same_Some other node (sym at ∙ there)) known)

-- The nodes of the sequence that was begun

-- a part, and nodes, under other names
pub begun-are : (part later : GridList) (begun : Option ℕ) (index : ℕ) (nodes others : List Node) → later ≡ part → begun ≡ Some index → others ≡ nodes
    → IfSome begun (λ i. AreCandidates later (items_at later i) nodes) → AreCandidates part (items_at part index) others
begun-are part later begun index nodes others same is also are =
    let here : AreCandidates later (items_at later index) nodes = subst (λ (o : Option ℕ). IfSome o (λ i. AreCandidates later (items_at later i) nodes)) is are in
    let there : AreCandidates part (items_at part index) nodes = subst (λ (p : GridList). AreCandidates p (items_at p index) nodes) same here in
    subst (AreCandidates part (items_at part index)) (sym also) there

pub some-nodes : (part : GridList) (items : List Item) (nodes : List Node) → AreCandidates part items nodes → 0 < length nodes
some-nodes part items nodes are =
    let below : 0 < length (points_of nodes) = slice_get_within (points_of nodes) 0 are.root are.root_is in
    omega (arith, below, length-map nodes (λ (node : Node). node.at))
