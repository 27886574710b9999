use Rattle.std.proofs.Common.{◌∙◌, ℕ, List, length, sym, subst, arith}
use Rattle.std.specs.List.{All}
use Rattle.std.proofs.lemmas.Result.{on_ok_weaker}
use Rattle.place_walk.specs.declared.visit.Visit.{Visit}
use Rattle.place_walk.specs.Courses.{course_of}
use Rattle.stand_sums.specs.declared.next_rank.NextRank.{NextRank}
use Rattle.stand_sums.specs.Writings.{IsReadable}
use Rattle.candidate_graph.specs.Kept.{AreFound, AreInRun}
use Rattle.candidate_graph.proofs.PointLemmas.{all-readable}
use Rattle.candidate_graph.proofs.EdgeLemmas.{run-marked, run-within, points-on, edges-are, empty-edges}
use Rattle.candidate_graph.proofs.expanding.expand.Given.{Over}
use Rattle.candidate_graph.proofs.expanding.expand.Goals as goal
use Rattle.candidate_graph.proofs.expanding.expand.Goals.{In_ok-walk, In_ok-run, After-push_edges}

pub returns-then-is_empty-clause-edges : goal.returns-then-is_empty-clause-edges
returns-then-is_empty-clause-edges g c =
    let test = sym c.is_empty.ensures ∙ c.if-is_empty.true in
    empty-edges (course_of c.args.memo.now c.args.places.now) c.args.nodes.now (g.T.Outputs.ranks c.args.table.now) c.args.aim c.args.stands.now c.args.edges.now.items (grind (arith, test))

pub find-requires-clause-readable : goal.find-requires-clause-readable
find-requires-clause-readable g c =
    let ranks = g.T.Outputs.ranks c.args.table.now in
    let CanAsk = g.T.Outputs.CanAsk c.args.table.now in
    let readable : All (IsReadable ranks CanAsk c.args.rooms.now.files.room) c.walk.new.visits =
    all-readable (course_of c.args.memo.now c.args.places.now) c.args.stands.now c.walk.new.visits c.in_ok-walk.ensures.visits ranks CanAsk c.args.rooms.now.files.room c.requires.ground in
    subst (λ (n : ℕ). All (IsReadable ranks CanAsk n) c.as_slice.result.now) (sym c.requires.room)
    (subst (All (IsReadable ranks CanAsk c.args.rooms.now.files.room)) (sym c.as_slice.ensures) readable)

pub file-requires-clause-readable : goal.file-requires-clause-readable
file-requires-clause-readable g c =
    let ranks = g.T.Outputs.ranks c.args.table.now in
    let CanAsk = g.T.Outputs.CanAsk c.args.table.now in
    let readable : All (IsReadable ranks CanAsk c.args.rooms.now.files.room) c.walk.new.visits =
    all-readable (course_of c.args.memo.now c.args.places.now) c.args.stands.now c.walk.new.visits c.in_ok-walk.ensures.visits ranks CanAsk c.args.rooms.now.files.room c.requires.ground in
    subst (All (IsReadable ranks CanAsk c.args.rooms.now.files.room)) (sym c.as_slice-2.ensures) readable

module _ (g : Over) (c : In_ok-run g) where
  found-are : AreFound (g.T.Outputs.ranks c.args.table.now) c.args.aim (length c.args.rooms.now.sums) c.walk.new.visits c.in_ok-found.found.items
  found-are = subst (λ (l : List Visit). AreFound (g.T.Outputs.ranks c.args.table.now) c.args.aim (length c.args.rooms.now.sums) l c.in_ok-found.found.items) c.as_slice.ensures c.in_ok-found.ensures.found

  run-is : AreInRun (g.T.Outputs.ranks c.args.table.now) c.args.aim c.walk.new.visits c.in_ok-found.found.items c.in_ok-run.run'.stands
  run-is =
      subst (λ (l : List Visit). AreInRun (g.T.Outputs.ranks c.args.table.now) c.args.aim l c.in_ok-found.found.items c.in_ok-run.run'.stands) c.as_slice-2.ensures
      (subst (λ (l : List NextRank). AreInRun (g.T.Outputs.ranks c.args.table.now) c.args.aim c.as_slice-2.result.now l c.in_ok-run.run'.stands) c.as_slice-3.ensures.value c.in_ok-run.ensures.run)

pub push_edges-requires-clause-marked : goal.push_edges-requires-clause-marked
push_edges-requires-clause-marked g c =
    let at = (goal.at.push_edges-requires-clause-marked g c).In_ok-run in
    rw (c.as_slice-4.ensures.value, c.stands.ensures)
    (run-marked (g.T.Outputs.ranks c.args.table.now) c.args.aim (length c.args.rooms.now.sums) c.walk.new.visits c.in_ok-found.found.items c.in_ok-run.run'.stands (found-are g at) (run-is g at))

pub push_edges-requires-clause-within : goal.push_edges-requires-clause-within
push_edges-requires-clause-within g c =
    let at = (goal.at.push_edges-requires-clause-within g c).In_ok-run in
    rw (c.as_slice-4.ensures.value, c.stands.ensures)
    (run-within (g.T.Outputs.ranks c.args.table.now) c.args.aim (length c.args.rooms.now.sums) c.walk.new.visits c.in_ok-found.found.items c.in_ok-run.run'.stands (found-are g at) (run-is g at))

pub returns-clause-points : goal.returns-clause-points
returns-clause-points g c =
    let at = (goal.at.returns-clause-points g c).In_ok-run in
    let (more, is, each) = rw (c.as_slice-4.ensures.value, c.stands.ensures) at c.push_edges.ensures.points in (
      more,
      is,
      (λ point held.
          let (next, among, same) = each point held in
          points-on (g.T.Outputs.ranks c.args.table.now) c.args.aim (length c.args.rooms.now.sums) c.walk.new.visits c.in_ok-found.found.items c.in_ok-run.run'.stands (found-are g at) (run-is g at)
          (course_of c.args.memo.now c.args.places.now) c.args.stands.now c.in_ok-walk.ensures.visits (g.T.Outputs.CanAsk c.args.table.now) c.args.rooms.now.files.room c.requires.ground point next among same),
    )

pub returns-clause-edges : goal.returns-clause-edges
returns-clause-edges g c =
    let at = (goal.at.returns-clause-edges g c).In_ok-run in
    let found = c.in_ok-found.found.items in
    let run = c.in_ok-run.run'.stands in
    let base = length c.args.edges.now.items in
    let made = rw (c.as_slice-4.ensures.value, c.stands.ensures) at c.push_edges.ensures.made in
    on_ok_weaker c.push_edges.result
    (λ are.
    edges-are (g.T.Outputs.ranks c.args.table.now) c.args.aim (length c.args.rooms.now.sums) c.walk.new.visits found run (found-are g at) (run-is g at) c.push_edges.new.nodes base c.push_edges.new.edges.items are
    (course_of c.args.memo.now c.args.places.now) c.args.stands.now c.in_ok-walk.ensures.visits)
    made
