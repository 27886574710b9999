use Rattle.std.proofs.Common.{refl, subst, List, ◌<◌, arith, ℕ, length}
use Rattle.open_addressing.specs.Table.{held_at}
use Rattle.open_addressing.specs.Searching.{IsFirstFree}
use Rattle.open_addressing.proofs.TableLemmas.{IsTable-placed, no_room}
use Rattle.prefix_counts.specs.declared.table.Key.{Key}
use Rattle.prefix_counts.specs.declared.table.Slot.{Slot}
use Rattle.prefix_counts.specs.Table.{hash, layout}
use Rattle.prefix_counts.proofs.table.place.Goals as goal

pub returns-in-Some-clause-table : goal.returns-in-Some-clause-table
returns-in-Some-clause-table c keys table number room =
    let key : Key = record { parent = c.args.parent; rank = c.args.rank } in
    let First : List Slot → ℕ → Type 0 = λ slots hash. IsFirstFree layout slots hash c.in-Some.at in
    let met : First c.args.slots.now.items c.hash.result = subst (λ slots. First slots c.hash.result) c.as_slice.ensures.value c.in-Some.ensures in
    let first : First c.args.slots.now.items (hash key) = subst (First c.args.slots.now.items) c.hash.ensures met in
    IsTable-placed layout keys c.args.slots.now.items key c.in-Some.at _ table first refl (omega (arith, number))

pub returns-in_default-clause-table : goal.returns-in_default-clause-table
returns-in_default-clause-table c keys table number room =
    let All : List Slot → Type 0 = λ slots. (at : ℕ) → at < length slots → 0 < held_at layout slots at in
    absurd (no_room layout keys c.args.slots.now.items table (omega (arith, number, room)) (subst All c.as_slice.ensures.value c.in_default.ensures))
