use Rattle.std.proofs.Common.{◌≡◌, ◌∙◌, refl, ℕ, ◌+◌, ◌<◌, List, Vec, Global, length, sym, subst, arith}
use Rattle.std.specs.List.{slice_get, Contains}
use Rattle.candidate_graph.specs.Graphs.{Node}
use Rattle.prefix_sieve.specs.declared.fronts.Front.{Front}
use Rattle.prefix_sieve.specs.Fronts.{AreFronts, AreGone}
use Rattle.prefix_sieve.proofs.FrontLemmas.{fronts-first, fronts-next}
use Rattle.prefix_sieve.proofs.PathLemmas.{grows-same, grows-both}
use Rattle.prefix_sieve.proofs.fronts.go_down.Goals as goal

pub loop-before-init : goal.loop-before-init
loop-before-init g c = record {
  ground = refl;
  begun = c.requires.begun;
  grows = grows-same (g.B.Branches.nodes c.args.branches.now);
  fronts = fronts-first c.args.sieve.now (g.B.Branches.nodes c.args.branches.now) c.args.here.now.items c.requires.root c.requires.here;
}

pub go_on-requires-clause-within : goal.go_on-requires-clause-within
go_on-requires-clause-within g c = subst (λ (fs : List Front). (front : Front) → Contains fs front → front.node < length (g.B.Branches.nodes c.loop-before.branches)) (sym c.as_slice.ensures.value) c.loop-before.invariant.fronts.within

pub loop-before-preserved : goal.loop-before-preserved
loop-before-preserved g c =
    let levels = c.args.sieve.now in
    let mid : List Node = g.B.Branches.nodes c.loop-before.branches in
    let now : List Node = g.B.Branches.nodes c.go_on.new.branches in
    let gone : AreGone (slice_get levels c.loop-before.before) now c.loop-before.here.items c.go_on.new.next.items =
    subst (λ (fs : List Front). AreGone (slice_get levels c.loop-before.before) now fs c.go_on.new.next.items) c.as_slice.ensures.value c.in_ok-go_on.ensures.gone in
    record {
      ground = c.go_on.ensures.ground ∙ c.loop-before.invariant.ground;
      begun = c.go_on.ensures.begun;
      grows = grows-both (g.B.Branches.nodes c.args.branches.now) mid now c.loop-before.invariant.grows c.go_on.ensures.grows;
      fronts = subst (λ (v : Vec Front Global). AreFronts levels now (c.loop-before.before + 1) v.items) (sym c.swap.ensures.x_after)
          (fronts-next levels mid now c.go_on.ensures.grows c.loop-before.before c.loop-before.here.items c.loop-before.invariant.fronts c.go_on.new.next.items gone);
    }

pub returns-in_err-go_on-clause-grows : goal.returns-in_err-go_on-clause-grows
returns-in_err-go_on-clause-grows g c =
    grows-both (g.B.Branches.nodes c.args.branches.now) (g.B.Branches.nodes c.loop-before.branches) (g.B.Branches.nodes c.go_on.new.branches) c.loop-before.invariant.grows c.go_on.ensures.grows

pub returns-clause-fronts : goal.returns-clause-fronts
returns-clause-fronts g c =
    let all : c.loop-before.before ≡ length c.args.sieve.now = omega (arith, c.loop-before-test.false, c.loop-before.auto.before-end, c.depth-before-end.ensures) in
    subst (λ (n : ℕ). AreFronts c.args.sieve.now (g.B.Branches.nodes c.loop-before.branches) n c.loop-before.here.items) all c.loop-before.invariant.fronts
