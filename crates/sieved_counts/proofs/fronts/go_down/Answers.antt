use Rattle.std.proofs.Common.{◌≡◌, ℕ, ◌+◌, ◌-◌, ◌≤◌, ◌<◌, ◌∙◌, refl, ◌^◌, List, Vec, Global, [], length, vec_len, sym, subst, arith}
use Rattle.std.proofs.lemmas.Bool.{eqb-true}
use Rattle.std.proofs.lemmas.List.{nil_from_length}
use Rattle.std.specs.List.{slice_get}
use Rattle.candidate_graph.specs.Graphs.{Node}
use Rattle.prefix_sieve.proofs.PathLemmas.{grows-same, grows-both}
use Rattle.sieved_counts.specs.declared.fronts.Front.{Front}
use Rattle.prefix_counts.specs.Sums.{sum_of}
use Rattle.sieved_counts.specs.Counted.{HasCounted}
use Rattle.sieved_counts.specs.Fronts.{AreFrontsAt, HasGoneOn}
use Rattle.sieved_counts.proofs.LevelLemmas.{counted-first, fronts-first, fronts-next, counted-next, counted-early}
use Rattle.sieved_counts.proofs.fronts.go_down.Goals as goal

pub loop-before-init : goal.loop-before-init
loop-before-init g c = record {
  begun = c.requires.begun;
  ground = refl;
  grows = grows-same (g.B.Branches.nodes c.args.branches.now);
  fronts =
      fronts-first c.args.sieve.now c.args.weight (g.B.Branches.nodes c.args.branches.now) c.args.counts.now.lists c.args.here.now.items c.requires.root
      c.len-held.ensures.prefixes.first c.requires.here;
  counted = counted-first c.args.sieve.now c.args.weight (g.B.Branches.nodes c.args.branches.now) c.args.counts.now;
}

pub go_on-requires-clause-fronts : goal.go_on-requires-clause-fronts
go_on-requires-clause-fronts g c =
    subst (AreFrontsAt c.args.sieve.now (g.B.Branches.nodes c.loop-before.branches) c.loop-before.before c.loop-before.counts.lists) (sym c.as_slice.ensures.value)
    c.loop-before.invariant.fronts

pub go_on-requires-clause-room : goal.go_on-requires-clause-room
go_on-requires-clause-room g c = λ list long.
    let value : sum_of c.loop-before.counts list ≡ sum_of c.args.counts.now list =
    c.loop-before.invariant.counted.others list (λ is. let short : length list ≤ c.loop-before.before = is.short in omega (arith, long, short)) in
    let room : sum_of c.args.counts.now list + c.args.weight < 2 ^ 64 = c.requires.room list in
    omega (arith, value, room)

pub loop-before-preserved : goal.loop-before-preserved
loop-before-preserved g c =
    let levels = c.args.sieve.now in
    let mid : List Node = g.B.Branches.nodes c.loop-before.branches in
    let now : List Node = g.B.Branches.nodes c.go_on.new.branches in
    let gone : HasGoneOn (slice_get levels c.loop-before.before) c.args.weight now c.loop-before.here.items c.loop-before.counts c.go_on.new.counts c.go_on.new.next.items =
    subst (λ (fs : List Front). HasGoneOn (slice_get levels c.loop-before.before) c.args.weight now fs c.loop-before.counts c.go_on.new.counts c.go_on.new.next.items) c.as_slice.ensures.value
    c.in_ok-go_on.ensures.gone in
    record {
      begun = c.go_on.ensures.begun;
      ground = c.go_on.ensures.ground ∙ c.loop-before.invariant.ground;
      grows = grows-both (g.B.Branches.nodes c.args.branches.now) mid now c.loop-before.invariant.grows c.go_on.ensures.grows;
      fronts = subst (λ (v : Vec Front Global). AreFrontsAt levels now (c.loop-before.before + 1) c.go_on.new.counts.lists v.items) (sym c.swap.ensures.x_after)
          (fronts-next levels c.args.weight mid now c.go_on.ensures.grows c.loop-before.before c.args.counts.now c.loop-before.counts c.go_on.new.counts
          c.loop-before.here.items c.go_on.new.next.items c.loop-before.invariant.counted c.loop-before.invariant.fronts gone);
      counted =
          counted-next levels c.args.weight mid now c.go_on.ensures.grows c.loop-before.before c.args.counts.now c.loop-before.counts c.go_on.new.counts
          c.loop-before.here.items c.go_on.new.next.items c.loop-before.invariant.counted c.loop-before.invariant.fronts gone;
    }

pub returns-in_err-go_on-clause-grows : goal.returns-in_err-go_on-clause-grows
returns-in_err-go_on-clause-grows g c =
    grows-both (g.B.Branches.nodes c.args.branches.now) (g.B.Branches.nodes c.loop-before.branches) (g.B.Branches.nodes c.go_on.new.branches) c.loop-before.invariant.grows c.go_on.ensures.grows

pub returns-then-is_empty-clause-counted : goal.returns-then-is_empty-clause-counted
returns-then-is_empty-clause-counted g c =
    let now : List Node = g.B.Branches.nodes c.loop-before.branches in
    let test : vec_len c.loop-before.here ≡ 0 = eqb-true (vec_len c.loop-before.here) 0 (sym c.is_empty.ensures ∙ c.if-is_empty.true) in
    let none : c.loop-before.here.items ≡ [] = nil_from_length c.loop-before.here.items (omega (arith, test)) in
    let whole : c.args.longest - c.loop-before.before + c.loop-before.before ≡ c.args.longest = omega (arith, c.loop-before-test.true) in
    subst (λ (n : ℕ). HasCounted c.args.sieve.now c.args.weight n now c.args.counts.now c.loop-before.counts) whole
    (counted-early c.args.sieve.now c.args.weight now c.args.counts.now c.loop-before.counts (c.args.longest - c.loop-before.before) c.loop-before.before
    c.loop-before.invariant.counted
    (subst (AreFrontsAt c.args.sieve.now now c.loop-before.before c.loop-before.counts.lists) none c.loop-before.invariant.fronts))

pub returns-clause-counted : goal.returns-clause-counted
returns-clause-counted g c =
    let all : c.loop-before.before ≡ c.args.longest = omega (arith, c.loop-before-test.false, c.loop-before.auto.before-end) in
    subst (λ (n : ℕ). HasCounted c.args.sieve.now c.args.weight n (g.B.Branches.nodes c.loop-before.branches) c.args.counts.now c.loop-before.counts) all c.loop-before.invariant.counted
