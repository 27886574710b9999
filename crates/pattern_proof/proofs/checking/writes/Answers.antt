use Rattle.std.proofs.Common.{suc, true≢false, ◌∷◌, get_or, drop, drop-cons, sym, subst, arith}
use Rattle.std.proofs.lemmas.List.{length-map}
use Rattle.pattern_proof.specs.Reading.{numbers_of}
use Rattle.pattern_proof.specs.Steps.{IsRun}
use Rattle.pattern_proof.proofs.EdgeLemmas.{run-length}
use Rattle.pattern_proof.proofs.checking.writes.Goals as goal

pub returns-then-items-path : goal.returns-then-items-path
returns-then-items-path c = (
  (λ wrong. absurd (true≢false (sym wrong))),
  (λ run.
      let same = run-length c.args.hierarchy.now.links c.args.fst.now 0 (numbers_of c.args.path.now) c.args.items.now c.args.pattern.now run in
      let long = length-map c.args.path.now (λ state. state.0) in
      let apart = c.if-items-path.true in
      absurd (omega (arith, same, long, apart))),
)

pub returns-in-None : goal.returns-in-None
returns-in-None c = (
  (λ wrong. absurd (true≢false (sym wrong))),
  (λ run.
      let at = c.loop-at.at in
      let few = c.loop-at-test.true in
      let apart = c.if-items-path.false in
      let here = c.loop-at.invariant.same.0 run in
      let states = drop-cons c.args.path.now at (record { 0 = 0 }) (omega (arith, few, apart)) in
      let items = drop-cons c.args.items.now at (record { 0 = 0 }) few in
      let stated : IsRun c.args.hierarchy.now.links c.args.fst.now c.loop-at.state.0 (numbers_of (get_or c.args.path.now at (record { 0 = 0 }) ∷ drop (suc at) c.args.path.now))
      (drop at c.args.items.now) c.loop-at.rest.now =
      subst (λ l. IsRun c.args.hierarchy.now.links c.args.fst.now c.loop-at.state.0 (numbers_of l) (drop at c.args.items.now) c.loop-at.rest.now) states here in
      absurd (c.in-None.ensures (numbers_of (drop (suc at) c.args.path.now)) (drop (suc at) c.args.items.now)
      (subst (λ l. IsRun c.args.hierarchy.now.links c.args.fst.now c.loop-at.state.0 (numbers_of (get_or c.args.path.now at (record { 0 = 0 }) ∷ drop (suc at) c.args.path.now)) l c.loop-at.rest.now)
      items stated))),
)
