use Rattle.std.proofs.Common.{false, refl}
use Rattle.stand_sums.specs.Writings.{opens, ends, follows}
use Rattle.stand_sums.proofs.LawLemmas.{union-of}
use Rattle.stand_sums.proofs.laws.visits_behind_stands_are_those_behind_each.Goals as goal

pub returns : goal.returns
returns c course stands visits alone are all ranks aim rank =
    let each = c.visits_are_those_of_each_stand.ensures course stands in (
      union-of course stands visits alone each are all
          (λ kind action. follows ranks aim rank (record { place = 0; kind = kind; action = action; first = false })) (follows ranks aim rank) (λ visit. refl),
      union-of course stands visits alone each are all
          (λ kind action. ends ranks aim rank (record { place = 0; kind = kind; action = action; first = false })) (ends ranks aim rank) (λ visit. refl),
      union-of course stands visits alone each are all
          (λ kind action. opens ranks aim rank (record { place = 0; kind = kind; action = action; first = false })) (opens ranks aim rank) (λ visit. refl),
    )
