use Rattle.std.proofs.Common.{◌≡◌, length, ap, arith}
use Rattle.place_records.proofs.whole.made_alone.Goals as goal

pub returns-clause-exact : goal.returns-clause-exact
returns-clause-exact g c i =
    let is = c.in_ok-twins.ensures.exact i in
    let all : c.sequences-count.result ≡ length c.args.job.now.sequences = omega (arith, c.sequences-count.ensures.count, ap length c.db.ensures.sequences) in (
      (λ held. let (_, below, so) = is.0 held in (omega (arith, below, all), so)),
      (λ h. let (below, so) = h in is.1 (omega arith, omega (arith, below, all), so)),
    )
