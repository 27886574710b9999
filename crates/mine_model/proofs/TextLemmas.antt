-- No text fault in a sound line.
use Rattle.std.proofs.Common.{ℕ, inl, inr, List}
use Rattle.mine_model.specs.declared.fault.Fault.{Fault}
use Rattle.mine_model.specs.declared.fault.Which.{Which}
use Rattle.mine_model.specs.Text.{bad_byte, long_name, IsSoundLine}
use Rattle.mine_model.specs.Refusal.{IsTextRefusal}

-- a sound line has no fault of its text
pub no_text_fault : (file : Which) (line : ℕ) (text : List ℕ) (fault : Fault) → IsSoundLine text → IsTextRefusal file line text fault → ⊥
no_text_fault file line text fault sound (column, inl first) = sound bad_byte column first.0.0
no_text_fault file line text fault sound (column, inr first) = sound long_name column first.0.0
