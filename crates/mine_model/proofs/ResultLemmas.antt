-- What is known of the value of a result.
use Rattle.std.proofs.Common.{Result, Ok, Err, IfOk}

-- two facts are both true of it
pub ok_both : {X E : Type 0} (r : Result X E) (P Q : X → Type 0) → IfOk r P → IfOk r Q → IfOk r (λ x. P x × Q x)
ok_both (Ok x) P Q p q = (p, q)
ok_both (Err e) P Q p q = p
