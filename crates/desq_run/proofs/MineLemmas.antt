-- How mining ends where a name is unknown.
use Rattle.std.proofs.Common.{◌≡◌, ◌⊎◌, inl, inr, List, [], ℕ, sym, ap, ◌∙◌}
use Rattle.mine_model.specs.declared.fault.Fault.{Fault}
use Rattle.mine_model.specs.declared.fault.Fault.TheVariants.{NoMemory}
use Rattle.mine_model.specs.Grammar.{Use}
use Rattle.mine_model.specs.Refusal.{IsUnknown}
use Rattle.mine_model.specs.Status.{fault_status}
use Rattle.desq_run.proofs.EndLemmas.{unknown-use}

-- want of memory and an unknown name are no other fault
pub no_other : (known : List (List ℕ)) (uses : List Use) (fault other : Fault) → (fault ≡ NoMemory) ⊎ IsUnknown known uses fault → fault ≡ other
    → (7 ≡ fault_status other → ⊥) → (3 ≡ fault_status other → ⊥) → ⊥
no_other known uses fault other (inl memory) same not_memory not_unknown = not_memory (sym (ap fault_status memory) ∙ ap fault_status same)
no_other known uses fault other (inr unknown) same not_memory not_unknown =
    let (u, inside, is) = unknown-use known [] uses fault unknown in
    not_unknown (sym (ap fault_status is) ∙ ap fault_status same)
