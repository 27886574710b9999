use Rattle.std.proofs.Common.{◌≡◌, ◌∙◌, ◌<◌, ◌+◌, nat_le, ◌++◌, ◌∷◌, List, [], ℕ, length, get_or, append_assoc, sym, ap, subst}
use Rattle.std.specs.List.{Contains}
use Rattle.std.proofs.lemmas.Option.{slice_get-get_or}
use Rattle.std.proofs.lemmas.List.{get_or_default}
use Rattle.stand_sums.specs.declared.next_rank.NextRank.{NextRank}
use Rattle.candidate_graph.specs.declared.edge.Edge.{Edge}
use Rattle.candidate_graph.specs.Graphs.{Standpoint}
use Rattle.candidate_graph.specs.Kept.{point_in, AreMade}
use Rattle.candidate_graph.proofs.EdgeLemmas.{grown-more, made-more, made-one, point-made}
use Rattle.candidate_graph.proofs.expanding.push_edges.Goals as goal

abbrev nowhere : NextRank
nowhere = record { rank = 0; weight = 0; support = 0; longer = 0; first = 0; last = 0 }

held-at : (found : List NextRank) (k : ℕ) → k < length found → Contains found (get_or found k nowhere)
held-at found k below = (k, below, get_or_default found k (get_or found k nowhere) nowhere below)

pub stands_of-requires : goal.stands_of-requires
stands_of-requires c = c.requires.within (get_or c.args.found.now c.loop-next.next-index nowhere) (held-at c.args.found.now c.loop-next.next-index c.loop-next-test.true)

pub returns-in_err-push-clause-points : goal.returns-in_err-push-clause-points
returns-in_err-push-clause-points c =
    let next : NextRank = get_or c.args.found.now c.loop-next.next-index nowhere in
    let here : Standpoint = record { seen = c.sees.result; stands = c.stands_of.result } in
    grown-more (λ (at : Standpoint). (next : NextRank) × Contains c.args.found.now next × (at ≡ point_in c.args.aim c.args.run.now next)) c.args.nodes.now c.loop-next.nodes c.number.new.self here
    c.loop-next.invariant.points c.number.ensures.grows (
      next,
      held-at c.args.found.now c.loop-next.next-index c.loop-next-test.true,
      point-made c.args.aim c.args.run.now next c.sees.result c.stands_of.result c.sees.ensures c.stands_of.ensures,
    )

pub loop-next-preserved : goal.loop-next-preserved
loop-next-preserved c =
    let next : NextRank = get_or c.args.found.now c.loop-next.next-index nowhere in
    let here : Standpoint = record { seen = c.sees.result; stands = c.stands_of.result } in
    let (more, kept) = c.loop-next.invariant.kept in
    let is = made-one c.number.new.self c.args.aim c.args.run.now next c.in_ok-number.number c.sees.result c.stands_of.result c.sees.ensures c.stands_of.ensures c.in_ok-number.ensures.number in
    let edge : Edge = record { rank = next.rank; ends = nat_le 1 next.support; next = c.in_ok-number.number } in
    record {
      points = grown-more (λ (at : Standpoint). (next : NextRank) × Contains c.args.found.now next × (at ≡ point_in c.args.aim c.args.run.now next)) c.args.nodes.now c.loop-next.nodes c.number.new.self here
          c.loop-next.invariant.points c.number.ensures.grows (
            next,
            held-at c.args.found.now c.loop-next.next-index c.loop-next-test.true,
            point-made c.args.aim c.args.run.now next c.sees.result c.stands_of.result c.sees.ensures c.stands_of.ensures,
          );
      kept = (more ++ edge ∷ [], c.in_ok-push.ensures.items ∙ ap (λ (l : List Edge). l ++ edge ∷ []) kept ∙ append_assoc c.args.edges.now.items more (edge ∷ []));
      made = subst (AreMade c.number.new.self c.args.aim c.args.run.now c.args.found.now (c.loop-next.next-index + 1) (length c.args.edges.now.items)) (sym c.in_ok-push.ensures.items)
          (made-more c.loop-next.nodes c.number.new.self here c.args.aim c.args.run.now c.args.found.now c.loop-next.next-index (length c.args.edges.now.items) c.loop-next.edges.items next edge
          c.number.ensures.grows c.loop-next.invariant.made (slice_get-get_or c.args.found.now c.loop-next.next-index nowhere c.loop-next-test.true) is);
    }
