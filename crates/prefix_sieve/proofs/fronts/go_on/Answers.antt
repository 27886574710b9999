use Rattle.std.proofs.Common.{◌≡◌, ◌∙◌, refl, Some, get_or}
use Rattle.std.specs.List.{slice_get}
use Rattle.std.proofs.lemmas.Option.{slice_get-get_or}
use Rattle.prefix_sieve.specs.declared.fronts.Front.{Front}
use Rattle.prefix_sieve.proofs.FrontLemmas.{gone-none, gone-more, gone-all}
use Rattle.prefix_sieve.proofs.PathLemmas.{grows-same, grows-both, grows-within}
use Rattle.prefix_sieve.proofs.fronts.go_on.Goals as goal
use Rattle.mine_model.proofs.ElementLemmas.{get-held}

abbrev no_front : Front
no_front = record { node = 0; hash = 0 }

pub loop-front-init : goal.loop-front-init
loop-front-init g c = record {
  ground = refl;
  begun = c.requires.begun;
  grows = grows-same (g.B.Branches.nodes c.args.branches.now);
  gone = gone-none (slice_get c.args.sieve.now c.args.before) c.args.here.now (g.B.Branches.nodes c.args.branches.now) c.clear.new.self.items c.clear.ensures.items;
}

pub go_behind-requires-clause-node : goal.go_behind-requires-clause-node
go_behind-requires-clause-node g c =
    let front : Front = get_or c.args.here.now c.loop-front.front-index no_front in
    let at : slice_get c.args.here.now c.loop-front.front-index ≡ Some front = slice_get-get_or c.args.here.now c.loop-front.front-index no_front c.loop-front-test.true in
    grows-within (g.B.Branches.nodes c.args.branches.now) (g.B.Branches.nodes c.loop-front.branches) c.loop-front.invariant.grows front.node
    (c.requires.within front (get-held c.args.here.now c.loop-front.front-index front at))

pub loop-front-preserved : goal.loop-front-preserved
loop-front-preserved g c =
    let front : Front = get_or c.args.here.now c.loop-front.front-index no_front in
    let at : slice_get c.args.here.now c.loop-front.front-index ≡ Some front = slice_get-get_or c.args.here.now c.loop-front.front-index no_front c.loop-front-test.true in
    record {
      ground = c.go_behind.ensures.ground ∙ c.loop-front.invariant.ground;
      begun = c.go_behind.ensures.begun;
      grows = grows-both (g.B.Branches.nodes c.args.branches.now) (g.B.Branches.nodes c.loop-front.branches) (g.B.Branches.nodes c.go_behind.new.branches) c.loop-front.invariant.grows c.go_behind.ensures.grows;
      gone = gone-more (slice_get c.args.sieve.now c.args.before) c.args.here.now c.loop-front.front-index front (g.B.Branches.nodes c.loop-front.branches) (g.B.Branches.nodes c.go_behind.new.branches)
          c.loop-front.next.items c.go_behind.new.next.items c.go_behind.ensures.grows at c.loop-front.invariant.gone c.in_ok-go_behind.ensures.gone;
    }

pub returns-in_err-go_behind-clause-grows : goal.returns-in_err-go_behind-clause-grows
returns-in_err-go_behind-clause-grows g c =
    grows-both (g.B.Branches.nodes c.args.branches.now) (g.B.Branches.nodes c.loop-front.branches) (g.B.Branches.nodes c.go_behind.new.branches) c.loop-front.invariant.grows c.go_behind.ensures.grows

pub returns-clause-gone : goal.returns-clause-gone
returns-clause-gone g c =
    gone-all (slice_get c.args.sieve.now c.args.before) c.args.here.now c.loop-front.front-index (g.B.Branches.nodes c.loop-front.branches) c.loop-front.next.items
    c.loop-front-test.false c.loop-front.invariant.gone
