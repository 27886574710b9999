use Rattle.std.proofs.Common.{◌≡◌, ◌^◌, ℕ, ◌+◌, ◌++◌, ◌∷◌, [], ◌∙◌, refl, ap, Some, get_or}
use Rattle.std.specs.List.{slice_get}
use Rattle.std.proofs.lemmas.List.{length_push}
use Rattle.std.proofs.lemmas.Option.{slice_get-get_or}
use Rattle.mine_model.proofs.ElementLemmas.{get-held}
use Rattle.prefix_sieve.proofs.PathLemmas.{grows-same, grows-both, grows-within}
use Rattle.sieved_counts.specs.declared.fronts.Front.{Front}
use Rattle.sieved_counts.proofs.GoneLemmas.{front-kept, on-none, on-room, on-more, on-all}
use Rattle.sieved_counts.proofs.fronts.go_on.Goals as goal

abbrev no_front : Front
no_front = record { node = 0; number = 0; hash = 0 }

pub loop-front-init : goal.loop-front-init
loop-front-init g c = record {
  begun = c.requires.begun;
  ground = refl;
  grows = grows-same (g.B.Branches.nodes c.args.branches.now);
  gone =
      on-none (slice_get c.args.sieve.now c.args.before) c.args.weight c.args.here.now (g.B.Branches.nodes c.args.branches.now) c.args.counts.now
      c.clear.new.self.items c.clear.ensures.items;
}

pub go_behind-requires-clause-node : goal.go_behind-requires-clause-node
go_behind-requires-clause-node g c =
    let front : Front = get_or c.args.here.now c.loop-front.front-index no_front in
    let at : slice_get c.args.here.now c.loop-front.front-index ≡ Some front = slice_get-get_or c.args.here.now c.loop-front.front-index no_front c.loop-front-test.true in
    grows-within (g.B.Branches.nodes c.args.branches.now) (g.B.Branches.nodes c.loop-front.branches) c.loop-front.invariant.grows front.node
    (c.requires.fronts.within front (get-held c.args.here.now c.loop-front.front-index front at))

pub go_behind-requires-clause-front : goal.go_behind-requires-clause-front
go_behind-requires-clause-front g c =
    let front : Front = get_or c.args.here.now c.loop-front.front-index no_front in
    let at : slice_get c.args.here.now c.loop-front.front-index ≡ Some front = slice_get-get_or c.args.here.now c.loop-front.front-index no_front c.loop-front-test.true in
    let (list, of, there) = c.requires.fronts.fronts.each front (get-held c.args.here.now c.loop-front.front-index front at) in
    let (more, is, led) = c.loop-front.invariant.gone.gone.kept in
    (list, front-kept c.args.counts.now.lists c.loop-front.counts.lists more is list front of)

pub go_behind-requires-clause-room : goal.go_behind-requires-clause-room
go_behind-requires-clause-room g c = λ other rank there.
    let front : Front = get_or c.args.here.now c.loop-front.front-index no_front in
    let at : slice_get c.args.here.now c.loop-front.front-index ≡ Some front = slice_get-get_or c.args.here.now c.loop-front.front-index no_front c.loop-front-test.true in
    let (list, of, (long, passes, way)) = c.requires.fronts.fronts.each front (get-held c.args.here.now c.loop-front.front-index front at) in
    on-room (slice_get c.args.sieve.now c.args.before) c.args.weight c.args.here.now (g.B.Branches.nodes c.loop-front.branches) c.args.counts.now c.loop-front.counts
    c.len-held.ensures.prefixes.distinct c.requires.fronts.fronts.apart c.loop-front.front-index front list at of c.loop-front.next.items c.loop-front.invariant.gone
    rank (2 ^ 64) (c.requires.room (list ++ rank ∷ []) (length_push list rank ∙ ap (λ (n : ℕ). n + 1) long)) other there

pub loop-front-preserved : goal.loop-front-preserved
loop-front-preserved g c =
    let front : Front = get_or c.args.here.now c.loop-front.front-index no_front in
    let at : slice_get c.args.here.now c.loop-front.front-index ≡ Some front = slice_get-get_or c.args.here.now c.loop-front.front-index no_front c.loop-front-test.true in
    let (list, of, there) = c.requires.fronts.fronts.each front (get-held c.args.here.now c.loop-front.front-index front at) in
    let (more, is, led) = c.loop-front.invariant.gone.gone.kept in
    record {
      begun = c.go_behind.ensures.begun;
      ground = c.go_behind.ensures.ground ∙ c.loop-front.invariant.ground;
      grows = grows-both (g.B.Branches.nodes c.args.branches.now) (g.B.Branches.nodes c.loop-front.branches) (g.B.Branches.nodes c.go_behind.new.branches) c.loop-front.invariant.grows c.go_behind.ensures.grows;
      gone =
          on-more (slice_get c.args.sieve.now c.args.before) c.args.weight c.args.here.now (g.B.Branches.nodes c.loop-front.branches) (g.B.Branches.nodes c.go_behind.new.branches)
          c.go_behind.ensures.grows c.args.counts.now c.loop-front.counts c.go_behind.new.counts c.len-held.ensures.prefixes.distinct c.requires.fronts.fronts.apart
          c.loop-front.front-index front list at of c.loop-front.next.items c.go_behind.new.next.items c.loop-front.invariant.gone
          (c.in_ok-go_behind.ensures.gone list (front-kept c.args.counts.now.lists c.loop-front.counts.lists more is list front of));
    }

pub returns-in_err-go_behind-clause-grows : goal.returns-in_err-go_behind-clause-grows
returns-in_err-go_behind-clause-grows g c =
    grows-both (g.B.Branches.nodes c.args.branches.now) (g.B.Branches.nodes c.loop-front.branches) (g.B.Branches.nodes c.go_behind.new.branches) c.loop-front.invariant.grows c.go_behind.ensures.grows

pub returns-clause-gone : goal.returns-clause-gone
returns-clause-gone g c =
    on-all (slice_get c.args.sieve.now c.args.before) c.args.weight c.args.here.now (g.B.Branches.nodes c.loop-front.branches) c.loop-front.front-index
    c.loop-front-test.false c.args.counts.now c.loop-front.counts c.loop-front.next.items c.loop-front.invariant.gone
