use Rattle.std.proofs.Common.{◌≡◌, ◌≢◌, ◌∙◌, ◌<◌, ◌≤◌, inl, inr, length, refl, sym, subst, arith, length-set, get_or-set_same, get_or-set_other}
use Rattle.std.specs.List.{All, Contains, slice_index}
use Rattle.sequence_grids.specs.Readings.{outputs_at}
use Rattle.pivot_partition.specs.Tops.{GoesUpTo}
use Rattle.pivot_partition.proofs.RowLemmas.{written-none, written-more}
use Rattle.pivot_partition.proofs.FrontLemmas.{written-with}
use Rattle.pivot_partition.proofs.finding.pass.Goals as goal

pub loop-state-init : goal.loop-state-init
loop-state-init c = record {
  front_long = length-set c.args.front.now 0 4294967295;
  marks_long = refl;
  marked = c.requires.marked;
  found = λ rank below. (
    (λ held. inl held),
    (λ either. elim either [ inl held ↦ held | inr (state, least, less, low, under, out) ↦ absurd (omega (arith, least, less)) ]),
  );
  start = get_or-set_same c.args.front.now 0 4294967295 0 (omega (arith, c.requires.some));
  least = written-none (λ state p. GoesUpTo c.args.reading.now state p × (slice_index c.args.entered.now state ≤ p)) _;
}

pub pass_state-requires-clause-outputs : goal.pass_state-requires-clause-outputs
pass_state-requires-clause-outputs c =
    c.requires.outputs c.loop-state.state c.loop-state.auto.state (omega (arith, c.loop-state-test.true, c.requires.entered))

pub pass_state-requires-clause-within : goal.pass_state-requires-clause-within
pass_state-requires-clause-within c =
    subst (λ n. All (λ rank. rank < n) (outputs_at c.args.reading.now c.loop-state.state)) (sym c.loop-state.invariant.marks_long)
    (c.requires.within c.loop-state.state c.loop-state.auto.state (omega (arith, c.loop-state-test.true, c.requires.entered)))

pub loop-state-preserved : goal.loop-state-preserved
loop-state-preserved c =
    let ne : 0 ≢ c.loop-state.state = omega (arith, c.loop-state.auto.state) in
    record {
      front_long = length-set c.loop-state.front c.loop-state.state _ ∙ c.loop-state.invariant.front_long;
      marks_long = c.pass_state.ensures.long ∙ c.loop-state.invariant.marks_long;
      marked = c.pass_state.ensures.marked;
      found = λ rank below.
          let old = c.loop-state.invariant.found rank below in
          let new' = c.in_ok-front.ensures.found rank below in
          written-with (λ state. slice_index c.args.entered.now state ≤ rank) (λ state. slice_index c.args.below.now state ≤ rank) (λ state. Contains (outputs_at c.args.reading.now state) rank)
          (Contains c.args.found.now.items rank) (Contains c.loop-state.found.items rank) (Contains c.pass_state.new.found.items rank) c.loop-state.state c.loop-state.auto.state old new';
      start = get_or-set_other c.loop-state.front c.loop-state.state 0 _ 0 ne ∙ c.loop-state.invariant.start;
      least = written-more (λ state p. GoesUpTo c.args.reading.now state p × (slice_index c.args.entered.now state ≤ p)) c.loop-state.front c.loop-state.state _
          (omega (arith, c.loop-state-test.true, c.requires.entered, c.loop-state.invariant.front_long)) c.in_ok-front.ensures.least c.loop-state.invariant.least;
    }

pub returns-clause-found : goal.returns-clause-found
returns-clause-found c = λ rank below.
    let is = c.loop-state.invariant.found rank below in
    let all : c.loop-state.state ≡ length c.args.front.now = omega (arith, c.loop-state-test.false, c.loop-state.auto.state-end (omega (arith, c.requires.entered, c.requires.some)), c.requires.entered) in
    rw all at is

pub returns-clause-least : goal.returns-clause-least
returns-clause-least c = λ state p least less below. c.loop-state.invariant.least state p least (omega (arith, less, c.loop-state-test.false, c.requires.entered)) below
