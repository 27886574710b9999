-- A graph over what a part keeps has the candidates.
use Rattle.std.proofs.Common.{◌≡◌, ◌≢◌, ℕ, suc, ◌+◌, ◌<◌, ◌⊎◌, inl, inr, Bool, true, IsTrue, Option, List, [], ◌∷◌, length, drop, filter, refl, sym, ap, ◌∙◌, subst, arith}
use Rattle.std.specs.List.{Contains}
use Rattle.std.proofs.lemmas.Bool.{or_cases, and_parts}
use Rattle.std.proofs.lemmas.Option.{slice_get_within}
use Rattle.mine_model.specs.declared.item.Item.{Item}
use Rattle.mine_model.proofs.ListLemmas.{Contains-cases, Contains-first, Contains-none, filter-Contains}
use Rattle.sequence_grids.specs.Grids.{GridList, Continues, items_at}
use Rattle.sequence_grids.specs.Kinds.{IsTarget}
use Rattle.sequence_grids.proofs.GridLemmas.{both_ways, continues-unseen}
use Rattle.sequence_grids.proofs.PathLemmas.{target-of}
use Rattle.place_walk.specs.declared.stand.Stand.{Stand}
use Rattle.place_walk.specs.Stands.{StandsAt}
use Rattle.stand_sums.specs.declared.aim.Aim.{Aim}
use Rattle.stand_sums.specs.Aims.{sees_with}
use Rattle.stand_sums.specs.Writings.{writes, goes_on, opens, ends}
use Rattle.candidate_graph.specs.declared.edge.Edge.{Edge}
use Rattle.candidate_graph.specs.Courses.{Courses, course_in}
use Rattle.candidate_graph.specs.Graphs.{Standpoint, Node, points_of, aim_at, point_behind, AreEdges}
use Rattle.candidate_graph.specs.Paths.{CanWrite}
use Rattle.candidate_graph.proofs.PointLemmas.{at-by, visit-is}
use Rattle.place_records.specs.Records.{start_of}
use Rattle.place_records.specs.Ranks.{ranks_of, CanAskOf}
use Rattle.place_records.specs.Values.{RecordsValue}
use Rattle.snapshot_project.specs.Aims.{goes}
use Rattle.snapshot_project.specs.Extensions.{GeneratesWithin}
use Rattle.snapshot_project.specs.Snapshots.{IsPart}
use Rattle.snapshot_project.specs.Terrains.{IsGround}
use Rattle.snapshot_project.proofs.StartLemmas.{place-once}
use Rattle.sequence_candidates.specs.Writings.{WritesRanks}
use Rattle.sequence_candidates.specs.Terrains.{courses_over, seen_first, root_at, IsBegun}
use Rattle.sequence_candidates.specs.Candidates.{CanGoOn, AreCandidates}
use Rattle.sequence_candidates.proofs.WriteLemmas.{continues-writes, writes-generates, generates-writes}
use Rattle.sequence_candidates.proofs.PlaceLemmas.{visit-taken}
use Rattle.sequence_candidates.proofs.PathLemmas.{marks-say, can-writes, written-can}

module _ (part : GridList) (is : IsPart part) (width : ℕ) (rows : List ℕ) (value : RecordsValue) (ground : IsGround width part rows value) where
  abbrev need : Option ℕ
  need = part.bound.need

  abbrev courses : Courses
  courses = courses_over rows value need

  abbrev ranks : ℕ → ℕ → List ℕ
  ranks = ranks_of value.table

  -- ---- from the first node the patterns are written

  module _ (index : ℕ) (known : index < length part.sequences) where
    abbrev root : Standpoint
    root = root_at part index

    abbrev first : Stand
    first = record { place = start_of part index; state = 0; first = true }

    root-generates : (list : List ℕ) → CanWrite courses ranks need root list → (list ≢ []) × GeneratesWithin part list (items_at part index)
    root-generates [] none = absurd none
    root-generates (rank ∷ rest) can =
        let (stand, held, from) = can-writes part is width rows ground.rows_are value ground.records_are (rank ∷ rest) root can in
        elim (Contains-cases first [] stand held) [
          | inl same ↦
              let place : stand.place ≡ start_of part index = ap (λ (s : Stand). s.place) same in
              let state : stand.state ≡ 0 = ap (λ (s : Stand). s.state) same in
              let behind : start_of part index ≡ start_of part index + 0 = omega arith in
              let there : start_of part from.grid + from.position ≡ start_of part index + 0 = sym from.place_is ∙ place ∙ behind in
              let (grid_is, position_is) = place-once part from.grid from.position index 0 from.known known from.within (omega arith) there in
              let all : WritesRanks part.problem part.bound (drop 0 (items_at part index)) 0 (seen_first need) (rank ∷ rest) =
              subst (λ (s : ℕ). WritesRanks part.problem part.bound (drop 0 (items_at part index)) s (seen_first need) (rank ∷ rest)) state
              (subst (λ (p : ℕ). WritesRanks part.problem part.bound (drop p (items_at part index)) stand.state (seen_first need) (rank ∷ rest)) position_is
              (subst (λ (g : ℕ). WritesRanks part.problem part.bound (drop from.position (items_at part g)) stand.state (seen_first need) (rank ∷ rest)) grid_is from.writes)) in
              ((λ none. nil-not-cons-ranks rank rest (sym none)), writes-generates part is.whole (items_at part index) rank rest all)
          | inr none ↦ absurd (Contains-none stand none)
        ]
      where
        nil-not-cons-ranks : (rank : ℕ) (rest : List ℕ) → [] ≡ rank ∷ rest → ⊥
        nil-not-cons-ranks rank rest e = let h : 0 ≡ suc (length rest) = ap length e in omega arith

    generates-root : (list : List ℕ) → (list ≢ []) × GeneratesWithin part list (items_at part index) → CanWrite courses ranks need root list
    generates-root [] (some, generates) = absurd (some refl)
    generates-root (rank ∷ rest) (some, generates) =
        let behind : start_of part index ≡ start_of part index + 0 = omega arith in
        written-can part is width rows ground.rows_are value ground.records_are index known (items_at part index) 0 refl (omega arith) root 0 (omega arith)
        (inr (first, Contains-first first [], behind, refl)) rank rest (generates-writes part is.whole (items_at part index) rank rest generates)

  -- ---- each edge ends or leads on

  module _ (nodes : List Node) (at : Standpoint) (edges : List Edge)
      (are : AreEdges (course_in courses at.seen) (points_of nodes) ranks (aim_at at need) at.stands edges) where
    abbrev aim : Aim
    aim = aim_at at need

    edge-on : (edge : Edge) → Contains edges edge → IsTrue edge.ends ⊎ CanGoOn courses ranks need nodes edge.next
    edge-on edge held =
        let right = are.right edge held in
        let (visit, there, passes) = right.follows in
        let sees : Bool = sees_with at.seen need edge.rank in
        elim (or_cases (opens ranks aim edge.rank visit) (ends ranks aim edge.rank visit) passes) [
          | inl opening ↦
              let is_visit = visit-is (course_in courses at.seen) at.stands are.visits are.exact visit there in
              let taken = visit-taken part is width rows ground.rows_are value.places value.early value.late ranks (CanAskOf value.table) ground.records_are
              (goes at.seen need) at.stands visit.place visit.kind visit.action is_visit in
              let inside : taken.position < length (items_at part taken.grid) = slice_get_within (items_at part taken.grid) taken.position taken.t taken.here in
              let before_is : is_visit.before ≡ start_of part taken.grid + taken.position = taken.before_is in
              let behind : visit.place ≡ is_visit.before + 1 = is_visit.behind in
              let place_is : visit.place ≡ start_of part taken.grid + (taken.position + 1) = omega (arith, before_is, behind) in
              let left : List Item = drop (taken.position + 1) (items_at part taken.grid) in
              let target : IsTarget part.problem visit.action.state = target-of part.problem is.whole is_visit.from visit.action.state taken.leads in
              let (writes_it, on) = and_parts (writes ranks edge.rank visit) (goes_on aim edge.rank visit.action) opening in
              let continues : Continues part.problem part.bound left visit.action.state (goes sees need) =
              (marks-say (λ b. Continues part.problem part.bound left visit.action.state b) need visit.action taken.more
              (both_ways taken.unseen (continues-unseen part.problem part.bound left visit.action.state)) sees).0 on in
              let (rank, rest, later) = continues-writes part.problem is.whole part.bound left visit.action.state sees continues in
              let point : Standpoint = point_behind ranks aim edge.rank are.visits in
              let kept = filter-Contains (opens ranks aim edge.rank) are.visits visit there opening in
              let stands : StandsAt point.stands visit.place visit.action.state = at-by (filter (opens ranks aim edge.rank) are.visits) visit kept in
              inr (
                point,
                rank ∷ rest,
                right.next,
                written-can part is width rows ground.rows_are value ground.records_are taken.grid taken.known left (taken.position + 1) refl
                    (omega (arith, inside)) point visit.action.state target.1
                    (inr (subst (λ (p : ℕ). StandsAt point.stands p visit.action.state) place_is stands)) rank rest later,
              )
          | inr ending ↦ inl (right.ends.1 (visit, there, ending))
        ]

  -- ---- so they are the candidates

  pub candidates-are : (index : ℕ) (nodes : List Node) → IsBegun part rows value index nodes → AreCandidates part (items_at part index) nodes
  candidates-are index nodes begun = record {
    courses = courses;
    ranks = ranks;
    graph = begun.graph;
    root = root_at part index;
    root_is = begun.root;
    exact = λ list. (root-generates index begun.known list, generates-root index begun.known list);
    on = λ number rank edge (node, edges, there, known, held, rank_is). edge-on nodes node.at edges (begun.graph.edges number node edges there known) edge held;
  }
