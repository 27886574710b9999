use Rattle.std.proofs.Common.{◌≡◌, ◌∙◌, Some, sym, ap}
use Rattle.candidate_graph.specs.Courses.{course_in}
use Rattle.candidate_graph.specs.Graphs.{Standpoint}
use Rattle.candidate_graph.proofs.PointLemmas.{stands-same}
use Rattle.candidate_graph.proofs.laws.equal_stands_are_one_node.Goals as goal

pub returns : goal.returns
returns c courses ranks need nodes graph number other at there at_is there_is seen same =
    let stands : at.stands ≡ there.stands =
    stands-same (course_in courses at.seen) (course_in courses there.seen) at.stands there.stands (graph.on number at at_is) (graph.on other there there_is) same in
    let points : there ≡ at = λ i. record { seen = sym seen i; stands = sym stands i } in
    graph.distinct number other at at_is (there_is ∙ ap (λ (p : Standpoint). Some p) points)
