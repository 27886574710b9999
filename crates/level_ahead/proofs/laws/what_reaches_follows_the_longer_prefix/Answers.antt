use Rattle.level_ahead.proofs.NextLemmas.{longer-summed, longer-next, none-past}
use Rattle.level_ahead.proofs.laws.what_reaches_follows_the_longer_prefix.Goals as goal

pub returns : goal.returns
returns c course ranks aim later sequences groups kids visits before after aim_seen later_seen added nothing groups_are zip are count few =
    let each = c.visits_are_those_of_each_stand.ensures course in (
      longer-summed course each ranks aim later sequences groups kids visits before after aim_seen later_seen added nothing groups_are zip are count few,
      (λ least enough found some readable reached.
          longer-next after.counts count least enough found some few
          (none-past course each ranks aim later sequences groups kids visits before after aim_seen later_seen added nothing groups_are zip are count readable) reached),
    )
