use Rattle.std.proofs.Common.{◌≡◌, ◌∙◌, refl, Some, get_or}
use Rattle.std.specs.List.{slice_get}
use Rattle.std.proofs.lemmas.Option.{slice_get-get_or}
use Rattle.prefix_sieve.specs.declared.fronts.Front.{Front}
use Rattle.prefix_sieve.proofs.FrontLemmas.{have-none, have-more, have-all}
use Rattle.prefix_sieve.proofs.PathLemmas.{grows-same, grows-both, grows-within}
use Rattle.prefix_sieve.proofs.raising.raise_all.Goals as goal
use Rattle.mine_model.proofs.ElementLemmas.{get-held}

abbrev no_front : Front
no_front = record { node = 0; hash = 0 }

pub loop-front-init : goal.loop-front-init
loop-front-init g c = record {
  ground = refl;
  begun = c.requires.begun;
  grows = grows-same (g.B.Branches.nodes c.args.branches.now);
  long = refl;
  raised = have-none c.args.here.now c.args.weight (g.B.Branches.nodes c.args.branches.now) c.args.buckets.now;
}

pub raise_behind-requires-clause-node : goal.raise_behind-requires-clause-node
raise_behind-requires-clause-node g c =
    let front : Front = get_or c.args.here.now c.loop-front.front-index no_front in
    let at : slice_get c.args.here.now c.loop-front.front-index ≡ Some front = slice_get-get_or c.args.here.now c.loop-front.front-index no_front c.loop-front-test.true in
    grows-within (g.B.Branches.nodes c.args.branches.now) (g.B.Branches.nodes c.loop-front.branches) c.loop-front.invariant.grows front.node
    (c.requires.within front (get-held c.args.here.now c.loop-front.front-index front at))

pub loop-front-preserved : goal.loop-front-preserved
loop-front-preserved g c =
    let front : Front = get_or c.args.here.now c.loop-front.front-index no_front in
    let at : slice_get c.args.here.now c.loop-front.front-index ≡ Some front = slice_get-get_or c.args.here.now c.loop-front.front-index no_front c.loop-front-test.true in
    record {
      ground = c.raise_behind.ensures.ground ∙ c.loop-front.invariant.ground;
      begun = c.raise_behind.ensures.begun;
      grows = grows-both (g.B.Branches.nodes c.args.branches.now) (g.B.Branches.nodes c.loop-front.branches) (g.B.Branches.nodes c.raise_behind.new.branches) c.loop-front.invariant.grows c.raise_behind.ensures.grows;
      long = c.raise_behind.ensures.long ∙ c.loop-front.invariant.long;
      raised = have-more c.args.here.now c.args.weight c.loop-front.front-index front (g.B.Branches.nodes c.loop-front.branches) (g.B.Branches.nodes c.raise_behind.new.branches)
          c.args.buckets.now c.loop-front.buckets c.raise_behind.new.buckets c.raise_behind.ensures.grows at c.loop-front.invariant.raised c.in_ok-raise_behind.ensures.raised;
    }

pub returns-in_err-raise_behind-clause-grows : goal.returns-in_err-raise_behind-clause-grows
returns-in_err-raise_behind-clause-grows g c =
    grows-both (g.B.Branches.nodes c.args.branches.now) (g.B.Branches.nodes c.loop-front.branches) (g.B.Branches.nodes c.raise_behind.new.branches) c.loop-front.invariant.grows c.raise_behind.ensures.grows

pub returns-clause-raised : goal.returns-clause-raised
returns-clause-raised g c =
    have-all c.args.here.now c.args.weight c.loop-front.front-index (g.B.Branches.nodes c.loop-front.branches) c.args.buckets.now c.loop-front.buckets
    c.loop-front-test.false c.loop-front.invariant.raised
