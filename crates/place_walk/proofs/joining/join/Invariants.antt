use Rattle.std.proofs.Common.{◌≡◌, ℕ, ◌-◌, ◌<◌, ◌≤◌, ◌⊎◌, ◌↔◌, length, Some}
use Rattle.std.specs.List.{slice_get, slice_index}
use Rattle.state_bits.specs.Members.{Has}
use Rattle.place_walk.specs.declared.stand.Stand.{Stand}
use Rattle.place_walk.specs.Ways.{Joins}
use Rattle.place_walk.proofs.joining.join.Given as goal

abbrev pub invariant-stands : goal.invariant-stands
invariant-stands g l = record {
  rows : l.memo.rows ≡ l.initial.memo.rows;
  moves : l.memo.moves ≡ l.initial.memo.moves;
  number : l.number < length l.memo.sets;
  forward : l.taken ≤ l.next;
  within : l.next ≤ length l.group;
  taken : (k : ℕ) (stand : Stand) → l.taken ≤ k → k < l.next → slice_get l.group k ≡ Some stand → stand.place ≤ l.place;
  states : (state : ℕ) → Has (slice_index l.memo.sets l.number) state ↔ (Has (slice_index l.initial.memo.sets l.set) state ⊎ Joins l.group l.taken l.next state);
}

abbrev pub decreases-stands : goal.decreases-stands
decreases-stands g l = length l.group - l.next
