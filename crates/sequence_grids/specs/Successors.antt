-- Where edges lead from each state, as sets of states in one of three widths.
use Rattle.std.specs.Prelude.{◌≡◌, ℕ, ◌+◌, ◌*◌, ◌<◌, ◌≤◌, ◌↔◌, List, length, slice_index}
use Rattle.state_bits.specs.Members.{Has}
use Rattle.fst_compile.specs.Transducer.{Transducer, Leads}
use Rattle.sequence_grids.specs.declared.successors.Successors.{Successors}
use Rattle.sequence_grids.specs.declared.successors.Successors.TheVariants.{One, Four, Wide}

-- by the number of a state, the states to which edges lead from it; sets of so many words have room for all
pub record AreSuccessors (width : ℕ) (transducer : Transducer) (sets : List ℕ) : Type 0 where
  pub all : length sets ≡ length transducer.labels + 1
  pub room : length transducer.labels < 64 * width
  pub leads : (from to : ℕ) → from ≤ length transducer.labels
      → Has (slice_index sets from) to ↔ Leads transducer from to

-- the successors are those of the transducer's states
abbrev pub AreSuccessorsOf : Transducer → Successors → Type 0
AreSuccessorsOf transducer (One sets) = AreSuccessors 1 transducer sets.items
AreSuccessorsOf transducer (Four sets) = AreSuccessors 4 transducer sets.items
AreSuccessorsOf transducer (Wide sets) = AreSuccessors 17 transducer sets.items

-- an edge leads from one of the states to this one
abbrev pub LeadsFrom : Transducer → ℕ → ℕ → Type 0
LeadsFrom transducer states to = (from : ℕ) × Has states from × Leads transducer from to
