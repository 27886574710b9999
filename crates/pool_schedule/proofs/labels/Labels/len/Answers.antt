use Rattle.std.proofs.Common.{[], ℕ, List, length, ap, arith}
use Rattle.pool_schedule.proofs.CodingLemmas.{length-labels_by}
use Rattle.pool_schedule.proofs.labels.Labels.len.Goals as goal

pub returns : goal.returns
returns c =
    omega (arith, c.len.ensures, length-labels_by [] c.self.inside.codes.items c.self.inside.numbers.items, ap (λ (l : List (List ℕ)). length l) c.self.view_is, c.self.inside.codes.ok.0)
