-- What was written of a text.
use Rattle.std.proofs.Common.{◌≡◌, ℕ, ◌++◌, Result, Ok, Err, OnOk, OnErr, Option, Some, None, IfSome, ◌<◌, List, [], take, drop, length, refl, sym}
use Rattle.std.proofs.lemmas.List.{take-append-drop, append-nil}
use Rattle.desq_run.specs.Reported.{IsReported}

-- the whole text, or after a fault its first bytes
pub written_of : {T E : Type 0} (r : Result T E) (before after : Option (List ℕ)) (text : List ℕ) (Faulty : Type 0)
    → OnOk r (IfSome before (λ b. after ≡ Some (b ++ text)))
    → OnErr r (IfSome before (λ b. (n : ℕ) × (n < length text) × (after ≡ Some (b ++ take n text))))
    → OnErr r Faulty
    → IsReported before after Faulty text
written_of r None after text Faulty whole cut failed = tt
written_of (Ok t) (Some b) after text Faulty whole cut failed = (text, whole, ([], sym (append-nil text)), (λ clean. refl))
written_of (Err e) (Some b) after text Faulty whole (n, less, is) failed =
    (take n text, is, (drop n text, sym (take-append-drop n text)), (λ clean. absurd (clean failed)))
