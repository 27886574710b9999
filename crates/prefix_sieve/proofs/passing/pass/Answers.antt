use Rattle.std.proofs.Common.{◌<◌, List, length, refl, sym, subst}
use Rattle.std.specs.List.{Contains}
use Rattle.candidate_graph.specs.Graphs.{Node}
use Rattle.prefix_sieve.specs.declared.fronts.Front.{Front}
use Rattle.prefix_sieve.specs.Fronts.{HaveRaised}
use Rattle.prefix_sieve.proofs.FrontLemmas.{passed}
use Rattle.prefix_sieve.proofs.PathLemmas.{grows-both}
use Rattle.prefix_sieve.proofs.passing.pass.Goals as goal

pub raise_all-requires-clause-within : goal.raise_all-requires-clause-within
raise_all-requires-clause-within g c =
    subst (λ (fs : List Front). (front : Front) → Contains fs front → front.node < length (g.B.Branches.nodes c.go_down.new.branches)) (sym c.as_slice.ensures.value) c.in_ok-go_down.ensures.fronts.within

pub returns-in_err-raise_all-clause-grows : goal.returns-in_err-raise_all-clause-grows
returns-in_err-raise_all-clause-grows g c =
    grows-both (g.B.Branches.nodes c.args.branches.now) (g.B.Branches.nodes c.go_down.new.branches) (g.B.Branches.nodes c.raise_all.new.branches) c.go_down.ensures.grows c.raise_all.ensures.grows

pub returns-clause-grows : goal.returns-clause-grows
returns-clause-grows g c =
    grows-both (g.B.Branches.nodes c.args.branches.now) (g.B.Branches.nodes c.go_down.new.branches) (g.B.Branches.nodes c.raise_all.new.branches) c.go_down.ensures.grows c.raise_all.ensures.grows

pub returns-clause-passed : goal.returns-clause-passed
returns-clause-passed g c =
    let now : List Node = g.B.Branches.nodes c.raise_all.new.branches in
    let raised : HaveRaised now c.go_down.new.here.items c.args.weight c.args.buckets.now c.raise_all.new.buckets =
    subst (λ (fs : List Front). HaveRaised now fs c.args.weight c.args.buckets.now c.raise_all.new.buckets) c.as_slice.ensures.value c.in_ok-raise_all.ensures.raised in
    passed c.args.sieve.now (g.B.Branches.nodes c.go_down.new.branches) now c.raise_all.ensures.grows (length c.args.sieve.now) c.go_down.new.here.items c.in_ok-go_down.ensures.fronts
    c.args.weight c.args.buckets.now c.raise_all.new.buckets refl raised
