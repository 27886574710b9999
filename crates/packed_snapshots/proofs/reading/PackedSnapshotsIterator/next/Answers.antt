use Rattle.std.proofs.Common.{◌≡◌, ◌<◌, ◌^◌, ◌∷◌, length, sym, ◌∙◌, ap, subst, arith}
use Rattle.packed_snapshots.specs.declared.snapshot.PlainSnapshot.{PlainSnapshot}
use Rattle.packed_snapshots.specs.declared.snapshot.Place.{Place}
use Rattle.packed_snapshots.specs.Snapshots.{place_of}
use Rattle.packed_snapshots.specs.Packed.{IsPackedBehind}
use Rattle.packed_snapshots.specs.Ahead.{number_ahead, bytes_behind, IsAhead, numbers_in, snapshots_behind}
use Rattle.packed_snapshots.proofs.SnapshotLemmas.{first-small, second-small, third-small, next-of, is-taken}
use Rattle.packed_snapshots.proofs.reading.PackedSnapshotsIterator.next.Goals as goal

pub take_number-ahead-requires-clause-ahead : goal.take_number-ahead-requires-clause-ahead
take_number-ahead-requires-clause-ahead c =
    (next-of c.self.inside.before c.self.inside.bytes.now c.self.invariant (sym c.is_empty.ensures ∙ c.if-is_empty.false)).first

pub take_number-ahead-requires-clause-small : goal.take_number-ahead-requires-clause-small
take_number-ahead-requires-clause-small c =
    first-small c.self.inside.before c.self.inside.bytes.now (next-of c.self.inside.before c.self.inside.bytes.now c.self.invariant (sym c.is_empty.ensures ∙ c.if-is_empty.false))

pub take_number-step-requires-clause-ahead : goal.take_number-step-requires-clause-ahead
take_number-step-requires-clause-ahead c =
    let next = next-of c.self.inside.before c.self.inside.bytes.now c.self.invariant (sym c.is_empty.ensures ∙ c.if-is_empty.false) in
    subst IsAhead (sym c.take_number-ahead.ensures.rest) next.second

pub take_number-step-requires-clause-small : goal.take_number-step-requires-clause-small
take_number-step-requires-clause-small c =
    let next = next-of c.self.inside.before c.self.inside.bytes.now c.self.invariant (sym c.is_empty.ensures ∙ c.if-is_empty.false) in
    subst (λ bytes. number_ahead bytes < 2 ^ 32) (sym c.take_number-ahead.ensures.rest) (second-small c.self.inside.before c.self.inside.bytes.now next)

pub take_number-code-requires-clause-ahead : goal.take_number-code-requires-clause-ahead
take_number-code-requires-clause-ahead c =
    let next = next-of c.self.inside.before c.self.inside.bytes.now c.self.invariant (sym c.is_empty.ensures ∙ c.if-is_empty.false) in
    subst IsAhead (sym (c.take_number-step.ensures.rest ∙ ap bytes_behind c.take_number-ahead.ensures.rest)) next.third

pub take_number-code-requires-clause-small : goal.take_number-code-requires-clause-small
take_number-code-requires-clause-small c =
    let next = next-of c.self.inside.before c.self.inside.bytes.now c.self.invariant (sym c.is_empty.ensures ∙ c.if-is_empty.false) in
    subst (λ bytes. number_ahead bytes < 2 ^ 32) (sym (c.take_number-step.ensures.rest ∙ ap bytes_behind c.take_number-ahead.ensures.rest)) (third-small c.self.inside.before c.self.inside.bytes.now next)

pub snapshot_of-next-requires-clause-sequence : goal.snapshot_of-next-requires-clause-sequence
snapshot_of-next-requires-clause-sequence c =
    (is-taken c.self.inside.before c.self.inside.bytes.now
    (next-of c.self.inside.before c.self.inside.bytes.now c.self.invariant (sym c.is_empty.ensures ∙ c.if-is_empty.false))
    c.take_number-ahead.result.0 c.take_number-ahead.result.1.now c.take_number-step.result.0 c.take_number-step.result.1.now c.take_number-code.result.0 c.take_number-code.result.1.now
    c.take_number-ahead.ensures.number c.take_number-ahead.ensures.rest c.take_number-step.ensures.number c.take_number-step.ensures.rest c.take_number-code.ensures.number c.take_number-code.ensures.rest).sequence

pub snapshot_of-next-requires-clause-position : goal.snapshot_of-next-requires-clause-position
snapshot_of-next-requires-clause-position c =
    (is-taken c.self.inside.before c.self.inside.bytes.now
    (next-of c.self.inside.before c.self.inside.bytes.now c.self.invariant (sym c.is_empty.ensures ∙ c.if-is_empty.false))
    c.take_number-ahead.result.0 c.take_number-ahead.result.1.now c.take_number-step.result.0 c.take_number-step.result.1.now c.take_number-code.result.0 c.take_number-code.result.1.now
    c.take_number-ahead.ensures.number c.take_number-ahead.ensures.rest c.take_number-step.ensures.number c.take_number-step.ensures.rest c.take_number-code.ensures.number c.take_number-code.ensures.rest).position

pub snapshot_of-next-requires-clause-state : goal.snapshot_of-next-requires-clause-state
snapshot_of-next-requires-clause-state c =
    (is-taken c.self.inside.before c.self.inside.bytes.now
    (next-of c.self.inside.before c.self.inside.bytes.now c.self.invariant (sym c.is_empty.ensures ∙ c.if-is_empty.false))
    c.take_number-ahead.result.0 c.take_number-ahead.result.1.now c.take_number-step.result.0 c.take_number-step.result.1.now c.take_number-code.result.0 c.take_number-code.result.1.now
    c.take_number-ahead.ensures.number c.take_number-ahead.ensures.rest c.take_number-step.ensures.number c.take_number-step.ensures.rest c.take_number-code.ensures.number c.take_number-code.ensures.rest).small

pub invariant_of-self : goal.invariant_of-self
invariant_of-self c =
    let next = next-of c.self.inside.before c.self.inside.bytes.now c.self.invariant (sym c.is_empty.ensures ∙ c.if-is_empty.false) in
    let taken = is-taken c.self.inside.before c.self.inside.bytes.now
    (next-of c.self.inside.before c.self.inside.bytes.now c.self.invariant (sym c.is_empty.ensures ∙ c.if-is_empty.false))
    c.take_number-ahead.result.0 c.take_number-ahead.result.1.now c.take_number-step.result.0 c.take_number-step.result.1.now c.take_number-code.result.0 c.take_number-code.result.1.now
    c.take_number-ahead.ensures.number c.take_number-ahead.ensures.rest c.take_number-step.ensures.number c.take_number-step.ensures.rest c.take_number-code.ensures.number c.take_number-code.ensures.rest in
    let place = c.place-self-inside.ensures ∙ ap place_of (c.snapshot_of-next.ensures ∙ taken.made) in
    (next.more, subst (λ (place : Place). IsPackedBehind place next.more c.take_number-code.result.1.now) (sym place) taken.rest)

pub returns-clause-steps : goal.returns-clause-steps
returns-clause-steps c =
    let taken = is-taken c.self.inside.before c.self.inside.bytes.now
    (next-of c.self.inside.before c.self.inside.bytes.now c.self.invariant (sym c.is_empty.ensures ∙ c.if-is_empty.false))
    c.take_number-ahead.result.0 c.take_number-ahead.result.1.now c.take_number-step.result.0 c.take_number-step.result.1.now c.take_number-code.result.0 c.take_number-code.result.1.now
    c.take_number-ahead.ensures.number c.take_number-ahead.ensures.rest c.take_number-step.ensures.number c.take_number-step.ensures.rest c.take_number-code.ensures.number c.take_number-code.ensures.rest in
    sym c.self.view_is ∙ (taken.whole
    ∙ (ap (λ (one : PlainSnapshot). one ∷ snapshots_behind (place_of one) (numbers_in c.take_number-code.result.1.now)) (sym (c.snapshot_of-next.ensures ∙ taken.made))
    ∙ ap (λ (place : Place). c.snapshot_of-next.result ∷ snapshots_behind place (numbers_in c.take_number-code.result.1.now)) (sym c.place-self-inside.ensures)))

pub returns-clause-goes : goal.returns-clause-goes
returns-clause-goes c =
    let taken = is-taken c.self.inside.before c.self.inside.bytes.now
    (next-of c.self.inside.before c.self.inside.bytes.now c.self.invariant (sym c.is_empty.ensures ∙ c.if-is_empty.false))
    c.take_number-ahead.result.0 c.take_number-ahead.result.1.now c.take_number-step.result.0 c.take_number-step.result.1.now c.take_number-code.result.0 c.take_number-code.result.1.now
    c.take_number-ahead.ensures.number c.take_number-ahead.ensures.rest c.take_number-step.ensures.number c.take_number-step.ensures.rest c.take_number-code.ensures.number c.take_number-code.ensures.rest in
    let all : c.args.self.now ≡ c.snapshot_of-next.result ∷ snapshots_behind c.place-self-inside.result (numbers_in c.take_number-code.result.1.now) =
    sym c.self.view_is ∙ (taken.whole
    ∙ (ap (λ (one : PlainSnapshot). one ∷ snapshots_behind (place_of one) (numbers_in c.take_number-code.result.1.now)) (sym (c.snapshot_of-next.ensures ∙ taken.made))
    ∙ ap (λ (place : Place). c.snapshot_of-next.result ∷ snapshots_behind place (numbers_in c.take_number-code.result.1.now)) (sym c.place-self-inside.ensures))) in
    record { on = λ _. (tt, tt, omega (arith, ap length all)); keeps = tt; rests = λ _. tt }
