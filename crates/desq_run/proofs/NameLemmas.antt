-- Names of files, one by one.
use Rattle.std.proofs.Common.{ℕ, zero, suc, ◌<◌, ◌≢◌, true, List, [], ◌∷◌, length, arith}
use Rattle.std.specs.List.{AllByRecursion, slice_index_or}
use Rattle.mine_model.specs.Names.{AreDistinct, IsFileName}
use Rattle.mine_model.specs.Text.{is_name_byte}
use Rattle.mine_model.specs.Tokens.{Each}
use Rattle.pattern_proof.specs.ProofLines.{AreFileNames}

index-all : {X : Type 0} (P : X → Type 0) (d : X) (xs : List X) → ((k : ℕ) → k < length xs → P (slice_index_or xs k d)) → AllByRecursion P xs
index-all P d [] each = tt
index-all P d (x ∷ xs) each = (each 0 (omega arith), index-all P d xs (λ k less. each (suc k) (omega (arith, less))))

all-index : {X : Type 0} (P : X → Type 0) (d : X) (xs : List X) (k : ℕ) → k < length xs → AllByRecursion P xs → P (slice_index_or xs k d)
all-index P d [] k less all = absurd (omega (arith, less))
all-index P d (x ∷ xs) zero less all = all.0
all-index P d (x ∷ xs) (suc k) less all = all-index P d xs k (omega (arith, less)) all.1

pub names-from : (names : List (List ℕ)) → AreDistinct names → ((k : ℕ) → k < length names → IsFileName (slice_index_or names k [])) → AreFileNames names
names-from names distinct each = record {
  distinct = distinct;
  some = index-all (λ name. name ≢ []) [] names (λ k less. (each k less).0);
  bytes = index-all (Each is_name_byte true) [] names (λ k less. (each k less).1);
}

pub name-at : (names : List (List ℕ)) (k : ℕ) → k < length names → AreFileNames names → IsFileName (slice_index_or names k [])
name-at names k less are = (all-index (λ name. name ≢ []) [] names k less are.some, all-index (Each is_name_byte true) [] names k less are.bytes)
