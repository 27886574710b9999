use Rattle.std.proofs.Common.{◌≡◌, ℕ, false, Option, sym, subst, map}
use Rattle.place_walk.specs.Ways.{visit_of}
use Rattle.stand_sums.specs.Sequences.{HasOne}
use Rattle.level_ahead.specs.Behind.{goes_further}
use Rattle.level_ahead.proofs.following.add_following.Goals as goal

pub returns-in-None-clause-goes : goal.returns-in-None-clause-goes
returns-in-None-clause-goes g c stays place =
    subst (λ (o : Option ℕ). HasOne (goes_further (g.T.Outputs.ranks c.args.table.now) o) (map (visit_of place c.args.kind) c.args.actions.now)) (sym c.in-None.is)
    (c.add_ended.ensures.goes stays place)

pub returns-in-Some-clause-goes : goal.returns-in-Some-clause-goes
returns-in-Some-clause-goes g c stays place =
    subst (λ (o : Option ℕ). HasOne (goes_further (g.T.Outputs.ranks c.args.table.now) o) (map (visit_of place c.args.kind) c.args.actions.now)) (sym c.in-Some.is)
    (c.add_needed.ensures.goes stays place)
