use Rattle.std.proofs.Common.{◌∙◌, ◌++◌, ◌∷◌, [], List, ap}
use Rattle.place_walk.specs.declared.stand.Stand.{Stand}
use Rattle.stand_sums.proofs.RunLemmas.{take-get}
use Rattle.stand_sums.proofs.run.Run.plain.Goals as goal

pub loop-index-preserved : goal.loop-index-preserved
loop-index-preserved c = record {
  taken = c.in_ok-push.ensures.items ∙ ap (λ (l : List Stand). l ++ c.get.result ∷ []) c.loop-index.invariant.taken ∙ take-get c.stands-stands.result c.loop-index.index c.get.result c.get.ensures;
}
