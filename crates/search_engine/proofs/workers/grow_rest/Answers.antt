use Rattle.std.proofs.Common.{◌≡◌, [], ◌∷◌, ◌++◌, map, Some, append_assoc, ap, subst, ◌∙◌}
use Rattle.std.proofs.lemmas.List.Elements.{All-append, All-pop}
use Rattle.search_engine.specs.Shifts.{PostedFrom}
use Rattle.search_engine.proofs.BalanceLemmas.{rest-step}
use Rattle.search_engine.proofs.workers.grow_rest.Goals as goal

pub nodes-preserved : goal.nodes-preserved
nodes-preserved g c =
    let inv = c.nodes.invariant in
    let (posted, made_is, is) = inv.posted in
    let front = c.pop.new.self.items in
    let node = c.in-Some-pop.node in
    let more = c.in_ok-kids.kids.items in
    let label = g.T.Task.label_of in
    let kids = g.S.Grow.kids_of c.args.crew.now.search.now in
    let first = map label c.args.rest.items in
    record {
      pass_is = c.in_ok-kids.ensures.pass.0;
      number_is = c.in_ok-kids.ensures.pass.1 ∙ inv.number_is;
      roomy = c.in_ok-kids.ensures.room;
      own = rw c.in_ok-append.ensures.items (All-append (λ task. g.T.Task.ground_of task ≡ c.args.crew.now.job.now) front more
          (All-pop (λ task. g.T.Task.ground_of task ≡ c.args.crew.now.job.now) c.nodes.rest.items front (Some node) c.in-Some-pop.ensures.items inv.own).0
          c.in_ok-kids.ensures.own);
      posted = (
        posted ++ label node ∷ [],
        c.in_ok-kids.ensures.posted ∙ ap (λ l. l ++ label node ∷ []) made_is ∙ append_assoc _ posted (label node ∷ []),
        rw c.in_ok-append.ensures.items (rest-step label kids first posted front more node
            (subst (λ l. PostedFrom kids first posted (map label l)) c.in-Some-pop.ensures.items is)
            c.in_ok-kids.ensures.kids),
      );
    }
