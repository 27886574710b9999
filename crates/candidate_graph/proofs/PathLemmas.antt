-- Paths of the graph are the candidates.
use Rattle.std.proofs.Common.{◌≡◌, ◌↔◌, ℕ, ◌≤◌, ◌<◌, ◌⊎◌, inl, inr, Bool, true, IsTrue, Option, Some, List, [], ◌∷◌, filter, get_or, refl, sym, ap, ◌∙◌, subst, arith}
use Rattle.std.specs.List.{AllPairs, Contains, slice_get}
use Rattle.std.proofs.lemmas.Bool.{cases_lt, or_left, or_right}
use Rattle.std.proofs.lemmas.Option.{same_Some, slice_get_within, get_or_from_slice_get}
use Rattle.mine_model.proofs.ListLemmas.{Contains-cases, Contains-first, Contains-none, Contains-filter, filter-Contains}
use Rattle.mine_model.proofs.ElementLemmas.{get-place, get-from}
use Rattle.walk_memo.specs.declared.action.Action.{Action}
use Rattle.place_walk.specs.declared.stand.Stand.{Stand}
use Rattle.place_walk.specs.declared.visit.Visit.{Visit}
use Rattle.place_walk.specs.Courses.{Course}
use Rattle.place_walk.specs.Stands.{StandsAt}
use Rattle.place_walk.specs.Visits.{IsVisit}
use Rattle.stand_sums.specs.declared.aim.Aim.{Aim}
use Rattle.stand_sums.specs.Aims.{sees}
use Rattle.stand_sums.specs.Writings.{Ranks, opens, ends}
use Rattle.stand_sums.specs.Sequences.{HasOne}
use Rattle.stand_sums.specs.Files.{stand_at, stands_in}
use Rattle.stand_sums.proofs.WritingLemmas.{bare}
use Rattle.candidate_graph.specs.declared.edge.Edge.{Edge}
use Rattle.candidate_graph.specs.Courses.{Courses, course_in}
use Rattle.candidate_graph.specs.Graphs.{Standpoint, Node, points_of, aim_at, point_behind, AreEdges, IsGraph, IsWhole}
use Rattle.candidate_graph.specs.Paths.{step_to, CanWrite, HasEdge, Accepts}
use Rattle.candidate_graph.proofs.PointLemmas.{at-from, at-by, visit-is, visit-more, visit-behind, on-rising}

-- what a visit writes hangs on its kind and its action
tests-same : (test : Visit → Bool) (by : ℕ → Action → Bool) → ((visit : Visit) → test visit ≡ by visit.kind visit.action) → (one other : Visit) → one.kind ≡ other.kind
    → one.action ≡ other.action → test one ≡ test other
tests-same test by is one other kind action = is one ∙ ap (λ (k : ℕ). by k one.action) kind ∙ ap (by other.kind) action ∙ sym (is other)

-- the only stand
stands-one : (one stand : Stand) → Contains (one ∷ []) stand → stand ≡ one
stands-one one stand held = elim (Contains-cases one [] stand held) [
  | inl same ↦ same
  | inr none ↦ absurd (Contains-none stand none)
]

module _ (each : (course : Course) (stands : List Stand) (place kind : ℕ) (action : Action) → IsVisit course stands place kind action
    ↔ ((stand : Stand) × Contains stands stand × IsVisit course (stand ∷ []) place kind action))
    (courses : Courses) (ranks : Ranks) (need : Option ℕ) where
  -- more stands write more
  write-more : (seen : Bool) (one other : List Stand) → ((place state : ℕ) → StandsAt one place state → StandsAt other place state) → (list : List ℕ)
      → CanWrite courses ranks need (record { seen = seen; stands = one }) list → CanWrite courses ranks need (record { seen = seen; stands = other }) list
  write-more seen one other within [] none = none
  write-more seen one other within (rank ∷ rest) (visit, is, either) =
      (visit, visit-more (course_in courses seen) one other within visit.place visit.kind visit.action is, either)

  -- each stand writes alone what all write
  write-one : (at : Standpoint) (list : List ℕ) → CanWrite courses ranks need at list
      → (stand : Stand) × Contains at.stands stand × CanWrite courses ranks need (record { seen = at.seen; stands = stand ∷ [] }) list
  write-one at [] none = absurd none
  write-one at (rank ∷ rest) (visit, is, either) =
      let (stand, held, alone) = (each (course_in courses at.seen) at.stands visit.place visit.kind visit.action).0 is in
      (stand, held, (visit, alone, either))

  module _ (at : Standpoint) (points : List Standpoint) (edges : List Edge)
      (are : AreEdges (course_in courses at.seen) points ranks (aim_at at need) at.stands edges) (rank : ℕ) (rest : List ℕ) where
    abbrev aim' : Aim
    aim' = aim_at at need

    abbrev Behind : Type 0
    Behind = (edge : Edge) × Contains edges edge × (edge.rank ≡ rank)
        × (((rest ≡ []) × IsTrue edge.ends) ⊎ ((next : Standpoint) × (slice_get points edge.next ≡ Some next) × CanWrite courses ranks need next rest))

    ends-forth : (visit : Visit) → Contains are.visits visit → rest ≡ [] → ends ranks aim' rank visit ≡ true → Behind
    ends-forth visit held none passes =
        let (edge, in', is) = are.all rank (visit, held, or_right (opens ranks aim' rank visit) (ends ranks aim' rank visit) passes) in
        let has : HasOne (ends ranks aim' edge.rank) are.visits = subst (λ (r : ℕ). HasOne (ends ranks aim' r) are.visits) (sym is) (visit, held, passes) in
        (edge, in', is, inl (none, (are.right edge in').ends.1 has))

    opens-forth : (visit : Visit) → Contains are.visits visit → opens ranks aim' rank visit ≡ true → CanWrite courses ranks need (step_to at need rank visit) rest → Behind
    opens-forth visit held passes can =
        let (edge, in', is) = are.all rank (visit, held, or_left (opens ranks aim' rank visit) (ends ranks aim' rank visit) passes) in
        let all : CanWrite courses ranks need (point_behind ranks aim' rank are.visits) rest =
        write-more (sees aim' rank) (stand_at true visit ∷ []) (stands_in ranks aim' rank are.visits) (λ place state (stand, one, place_is, state_is).
        let same : stand ≡ stand_at true visit = stands-one (stand_at true visit) stand one in
        let (other, there, place', state') = at-by (filter (opens ranks aim' rank) are.visits) visit (filter-Contains (opens ranks aim' rank) are.visits visit held passes) in
        (other, there, place' ∙ ap (λ (s : Stand). s.place) (sym same) ∙ place_is, state' ∙ ap (λ (s : Stand). s.state) (sym same) ∙ state_is)) rest can in (
          edge,
          in',
          is,
          inr (
            point_behind ranks aim' edge.rank are.visits,
            (are.right edge in').next,
            subst (λ (r : ℕ). CanWrite courses ranks need (point_behind ranks aim' r are.visits) rest) (sym is) all,
          ),
        )

    forth : CanWrite courses ranks need at (rank ∷ rest) → Behind
    forth (visit, is, either) =
        let (one, held, place, kind, action) = (are.exact.exact visit.place visit.kind visit.action).1 is in
        elim either [
          | inl (none, passes) ↦
              ends-forth one held none
              (tests-same (ends ranks aim' rank) (λ k a. ends ranks aim' rank (bare k a)) (λ v. refl) one visit kind action ∙ passes)
          | inr (passes, can) ↦
              let seen : Bool = sees aim' rank in
              opens-forth one held
              (tests-same (opens ranks aim' rank) (λ k a. opens ranks aim' rank (bare k a)) (λ v. refl) one visit kind action ∙ passes)
              (write-more seen (stand_at true visit ∷ []) (stand_at true one ∷ []) (λ p s (stand, single, place_is, state_is).
              let same : stand ≡ stand_at true visit = stands-one (stand_at true visit) stand single in (
                stand_at true one,
                Contains-first (stand_at true one) [],
                place ∙ ap (λ (t : Stand). t.place) (sym same) ∙ place_is,
                ap (λ (a : Action). a.state) action ∙ ap (λ (t : Stand). t.state) (sym same) ∙ state_is,
              )) rest can)
        ]

    back : Behind → CanWrite courses ranks need at (rank ∷ rest)
    back (edge, in', is, either) = elim either [
      | inl (none, yes') ↦
          let (visit, held, passes) = subst (λ (r : ℕ). HasOne (ends ranks aim' r) are.visits) is ((are.right edge in').ends.0 yes') in
          (visit, visit-is (course_in courses at.seen) at.stands are.visits are.exact visit held, inl (none, passes))
      | inr (next, next_is, can) ↦
          let same : next ≡ point_behind ranks aim' edge.rank are.visits =
          same_Some next (point_behind ranks aim' edge.rank are.visits) (sym next_is ∙ (are.right edge in').next) in
          let all : CanWrite courses ranks need (point_behind ranks aim' rank are.visits) rest =
          subst (λ (p : Standpoint). CanWrite courses ranks need p rest) (same ∙ ap (λ (r : ℕ). point_behind ranks aim' r are.visits) is) can in
          let (stand, held, alone) = write-one (point_behind ranks aim' rank are.visits) rest all in
          let (visit, kept, (place, state)) = at-from (filter (opens ranks aim' rank) are.visits) stand held in
          let (there, passes) = Contains-filter (opens ranks aim' rank) are.visits visit kept in (
            visit,
            visit-is (course_in courses at.seen) at.stands are.visits are.exact visit there,
            inr (
              passes,
              write-more (sees aim' rank) (stand ∷ []) (stand_at true visit ∷ []) (λ p s (other, single, place_is, state_is).
                  let one : other ≡ stand = stands-one stand other single in (
                    stand_at true visit,
                    Contains-first (stand_at true visit) [],
                    sym place ∙ ap (λ (t : Stand). t.place) (sym one) ∙ place_is,
                    sym state ∙ ap (λ (t : Stand). t.state) (sym one) ∙ state_is,
                  )) rest alone,
            ),
          )
    ]

    pub step-is : CanWrite courses ranks need at (rank ∷ rest) ↔ Behind
    step-is = (forth, back)

  module _ (nodes : List Node) (graph : IsGraph courses ranks need nodes) (whole : IsWhole nodes) where
    pub paths-are : (list : List ℕ) (number : ℕ) (at : Standpoint) → slice_get (points_of nodes) number ≡ Some at
        → Accepts nodes number list ↔ CanWrite courses ranks need at list
    paths-are [] number at is = ((λ none. none), (λ none. none))
    paths-are (rank ∷ rest) number at is =
        let (node, there, at_is) = get-from (λ (n : Node). n.at) nodes number at is in
        let (edges, known) = whole number node there in
        let are : AreEdges (course_in courses at.seen) (points_of nodes) ranks (aim_at at need) at.stands edges =
        subst (λ (a : Standpoint). AreEdges (course_in courses a.seen) (points_of nodes) ranks (aim_at a need) a.stands edges) (sym at_is) (graph.edges number node edges there known) in
        let step = step-is at (points_of nodes) edges are rank rest in (
          (λ (edge, (node', edges', there', known', in', rank_is), either).
              let same_node : node' ≡ node = same_Some node' node (sym there' ∙ there) in
              let same_edges : edges' ≡ edges = same_Some edges' edges (sym known' ∙ ap (λ (n : Node). n.edges) same_node ∙ known) in
              let held : Contains edges edge = subst (λ (l : List Edge). Contains l edge) same_edges in' in
              step.1 (
                edge,
                held,
                rank_is,
                elim either [
                  | inl end ↦ inl end
                  | inr accepts ↦
                      let next = point_behind ranks (aim_at at need) edge.rank are.visits in
                      inr (next, (are.right edge held).next, (paths-are rest edge.next next (are.right edge held).next).0 accepts)
                ],
              )),
          (λ can.
              let (edge, held, rank_is, either) = step.0 can in (
                edge,
                (node, edges, there, known, held, rank_is),
                elim either [
                  | inl end ↦ inl end
                  | inr (next, next_is, more) ↦ inr ((paths-are rest edge.next next next_is).1 more)
                ],
              )),
        )

module _ (courses : Courses) (ranks : Ranks) (need : Option ℕ) (nodes : List Node) (graph : IsGraph courses ranks need nodes) where
  pub one-edge : (number rank : ℕ) (one other : Edge) → HasEdge nodes number rank one → HasEdge nodes number rank other → one ≡ other
  one-edge number rank one other (node, edges, there, known, held, is) (node', edges', there', known', held', is') =
      let same_node : node' ≡ node = same_Some node' node (sym there' ∙ there) in
      let same_edges : edges' ≡ edges = same_Some edges' edges (sym known' ∙ ap (λ (n : Node). n.edges) same_node ∙ known) in
      let (k, at) = get-place edges one held in
      let (j, at') = get-place edges other (subst (λ (l : List Edge). Contains l other) same_edges held') in
      let are = graph.edges number node edges there known in
      elim (cases_lt k j) [
        | inl less ↦ absurd (apart edges are.rising k j one other at at' less is is')
        | inr most ↦ elim (cases_lt j k) [
          | inl less ↦ absurd (apart edges are.rising j k other one at' at less is' is)
          | inr least ↦
              let same : k ≡ j = omega (arith, most, least) in
              same_Some one other (sym at ∙ ap (slice_get edges) same ∙ at')
        ]
      ]
    where
      apart : (edges : List Edge) → AllPairs (λ low high. low.rank < high.rank) edges → (k j : ℕ) (low high : Edge) → slice_get edges k ≡ Some low → slice_get edges j ≡ Some high
          → k < j → low.rank ≡ rank → high.rank ≡ rank → ⊥
      apart edges rising k j low high at at' less is is' =
          let below : (get_or edges k low).rank < (get_or edges j low).rank = rising k j low less (slice_get_within edges j high at') in
          let first : get_or edges k low ≡ low = get_or_from_slice_get edges k low low at in
          let second : get_or edges j low ≡ high = get_or_from_slice_get edges j high low at' in
          let ranked : low.rank < high.rank = subst (λ (e : Edge). e.rank < high.rank) first (subst (λ (e : Edge). (get_or edges k low).rank < e.rank) second below) in
          omega (arith, ranked, is, is')

  pub places-rise : (number rank : ℕ) (edge : Edge) → HasEdge nodes number rank edge → (at next : Standpoint) → slice_get (points_of nodes) number ≡ Some at
      → slice_get (points_of nodes) edge.next ≡ Some next → (first stand : Stand) → slice_get at.stands 0 ≡ Some first → Contains next.stands stand → first.place < stand.place
  places-rise number rank edge (node, edges, there, known, held, is) at next at_is next_is first stand first_is in' =
      let (node', there', same) = get-from (λ (n : Node). n.at) nodes number at at_is in
      let same_node : node' ≡ node = same_Some node' node (sym there' ∙ there) in
      let at_node : node.at ≡ at = ap (λ (n : Node). n.at) (sym same_node) ∙ sym same in
      let are : AreEdges (course_in courses at.seen) (points_of nodes) ranks (aim_at at need) at.stands edges =
      subst (λ (a : Standpoint). AreEdges (course_in courses a.seen) (points_of nodes) ranks (aim_at a need) a.stands edges) at_node (graph.edges number node edges there known) in
      let behind : next ≡ point_behind ranks (aim_at at need) edge.rank are.visits =
      same_Some next (point_behind ranks (aim_at at need) edge.rank are.visits) (sym next_is ∙ (are.right edge held).next) in
      let stand_in : Contains (stands_in ranks (aim_at at need) edge.rank are.visits) stand = subst (λ (p : Standpoint). Contains p.stands stand) behind in' in
      let (visit, kept, (place, state)) = at-from (filter (opens ranks (aim_at at need) edge.rank) are.visits) stand stand_in in
      let there_is = (Contains-filter (opens ranks (aim_at at need) edge.rank) are.visits visit kept).0 in
      let (from, from_in, less) = visit-behind (course_in courses at.seen) at.stands visit.place visit.kind visit.action
      (visit-is (course_in courses at.seen) at.stands are.visits are.exact visit there_is) in
      let lowest : first.place ≤ from.place = least at.stands (on-rising (course_in courses at.seen) at.stands (graph.on number at at_is)) first from first_is from_in in
      omega (arith, lowest, less, place)
    where
      least : (stands : List Stand) → AllPairs (λ one other. one.place ≤ other.place) stands → (first from : Stand) → slice_get stands 0 ≡ Some first → Contains stands from
          → first.place ≤ from.place
      least stands rising first from first_is held =
          let (k, at) = get-place stands from held in
          elim (cases_lt 0 k) [
            | inl more ↦
                let below : (get_or stands 0 first).place ≤ (get_or stands k first).place = rising 0 k first more (slice_get_within stands k from at) in
                let low : get_or stands 0 first ≡ first = get_or_from_slice_get stands 0 first first first_is in
                let high : get_or stands k first ≡ from = get_or_from_slice_get stands k from first at in
                let low_place : (get_or stands 0 first).place ≡ first.place = ap (λ (s : Stand). s.place) low in
                let high_place : (get_or stands k first).place ≡ from.place = ap (λ (s : Stand). s.place) high in
                omega (arith, below, low_place, high_place)
            | inr none ↦
                let zero' : k ≡ 0 = omega (arith, none) in
                let same : first ≡ from = same_Some first from (sym first_is ∙ ap (slice_get stands) (sym zero') ∙ at) in
                let places : first.place ≡ from.place = ap (λ (s : Stand). s.place) same in
                omega (arith, places)
          ]

  -- an edge leaves a node that has stands
  pub edge-leaves : (number rank : ℕ) (edge : Edge) → HasEdge nodes number rank edge → (at : Standpoint) → slice_get (points_of nodes) number ≡ Some at
      → (first : Stand) × (slice_get at.stands 0 ≡ Some first)
  edge-leaves number rank edge (node, edges, there, known, held, is) at at_is =
      let (node', there', same) = get-from (λ (n : Node). n.at) nodes number at at_is in
      let same_node : node' ≡ node = same_Some node' node (sym there' ∙ there) in
      let at_node : node.at ≡ at = ap (λ (n : Node). n.at) (sym same_node) ∙ sym same in
      let are : AreEdges (course_in courses at.seen) (points_of nodes) ranks (aim_at at need) at.stands edges =
      subst (λ (a : Standpoint). AreEdges (course_in courses a.seen) (points_of nodes) ranks (aim_at a need) a.stands edges) at_node (graph.edges number node edges there known) in
      let (visit, there_is, passes) = (are.right edge held).follows in
      let (from, from_in, less) = visit-behind (course_in courses at.seen) at.stands visit.place visit.kind visit.action
      (visit-is (course_in courses at.seen) at.stands are.visits are.exact visit there_is) in
      some at.stands from from_in
    where
      some : (stands : List Stand) (from : Stand) → Contains stands from → (first : Stand) × (slice_get stands 0 ≡ Some first)
      some [] from held = absurd (Contains-none from held)
      some (first ∷ stands) from held = (first, refl)

  -- an edge leads to a node
  pub edge-leads : (number rank : ℕ) (edge : Edge) → HasEdge nodes number rank edge → (next : Standpoint) × (slice_get (points_of nodes) edge.next ≡ Some next)
  edge-leads number rank edge (node, edges, there, known, held, is) =
      let are = graph.edges number node edges there known in
      (point_behind ranks (aim_at node.at need) edge.rank are.visits, (are.right edge held).next)
