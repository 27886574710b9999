use Rattle.std.proofs.Common.{◌≡◌, arith, subst}
use Rattle.place_records.specs.Twins.{AreTargets}
use Rattle.place_records.proofs.TwinLemmas.{targets-none, targets-more}
use Rattle.place_records.proofs.twins.targets_below.Goals as goal

pub loop-k-init : goal.loop-k-init
loop-k-init g c = rw c.new-targets.ensures targets-none

pub loop-k-preserved : goal.loop-k-preserved
loop-k-preserved g c = targets-more c.loop-k.targets c.add.new.self c.loop-k.k (omega arith) c.loop-k.invariant c.add.ensures

pub returns : goal.returns
returns g c =
    let all : c.loop-k.k ≡ c.args.states = omega arith in
    subst (λ n. AreTargets n c.loop-k.targets) all c.loop-k.invariant
