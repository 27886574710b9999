-- Cases of the format, in both directions.
use Rattle.std.proofs.Common.{◌≡◌, ℕ, List, [], ◌∷◌, refl, arith, codes}
use Rattle.mining_job.specs.Problems.{Problem}
use Rattle.pattern_proof.specs.ProofLines.{Cited, SaysRow, SaysPath}
use Rattle.pattern_proof.specs.Proofs.{IsGood}
use Rattle.pattern_proof.proofs.TextLemmas.{path-unique}

-- an empty file is a good proof with no row
pub empty-good : (problem : Problem) (names : List (List ℕ)) → IsGood problem names [] 0
empty-good problem names = record { entries = []; said = refl; rise = tt; proved = tt; counted = refl }

abbrev names : List (List ℕ)
names = codes "a" ∷ codes "b" ∷ codes "c" ∷ []

-- `2 TAB a b` says the row of a and b with the support 2
pub row-of-two : SaysRow names (50 ∷ 9 ∷ 97 ∷ 32 ∷ 98 ∷ []) (record { pattern = (record { 0 = 0 }) ∷ (record { 0 = 1 }) ∷ []; support = 2 })
row-of-two = (50 ∷ [], refl, ((refl, tt), (λ none. (cc)), refl), (λ none. (cc)), (omega arith, (omega arith, tt)))

-- with a leading zero as well
pub row-with-zero : SaysRow names (48 ∷ 50 ∷ 9 ∷ 97 ∷ 32 ∷ 98 ∷ []) (record { pattern = (record { 0 = 0 }) ∷ (record { 0 = 1 }) ∷ []; support = 2 })
row-with-zero = (48 ∷ 50 ∷ [], refl, ((refl, (refl, tt)), (λ none. (cc)), refl), (λ none. (cc)), (omega arith, (omega arith, tt)))

-- `TAB 2 2 3` says the path over the second sequence by the states 2 and 3
pub path-of-two : SaysPath (9 ∷ 50 ∷ 32 ∷ 50 ∷ 32 ∷ 51 ∷ []) (record { place = 1; states = 2 ∷ 3 ∷ [] })
path-of-two = (50 ∷ [], (50 ∷ []) ∷ (51 ∷ []) ∷ [], refl, ((refl, tt), (λ none. (cc)), refl), (((refl, tt), (λ none. (cc)), refl), (((refl, tt), (λ none. (cc)), refl), tt)))

-- and no other
pub path-of-two-only : (path : Cited) → SaysPath (9 ∷ 50 ∷ 32 ∷ 50 ∷ 32 ∷ 51 ∷ []) path → path ≡ record { place = 1; states = 2 ∷ 3 ∷ [] }
path-of-two-only path says = path-unique _ path (record { place = 1; states = 2 ∷ 3 ∷ [] }) says path-of-two
