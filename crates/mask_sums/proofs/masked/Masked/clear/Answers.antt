use Rattle.std.proofs.Common.{◌≡◌, ◌∙◌, ℕ, List, get_or, ap}
use Rattle.mask_sums.proofs.SetLemmas.{none-counted}
use Rattle.mask_sums.proofs.masked.Masked.clear.Goals as goal

pub returns : goal.returns
returns c rank =
    let followed : get_or c.clear.new.self rank 0 ≡ 0 = ap (λ (l : List ℕ). get_or l rank 0) c.clear.ensures ∙ none-counted 256 rank in
    let ended : get_or c.clear-2.new.self rank 0 ≡ 0 = ap (λ (l : List ℕ). get_or l rank 0) c.clear-2.ensures ∙ none-counted 256 rank in
    let opened : get_or c.clear-3.new.self rank 0 ≡ 0 = ap (λ (l : List ℕ). get_or l rank 0) c.clear-3.ensures ∙ none-counted 256 rank in
    let stands : get_or c.clear-4.new.self rank 0 ≡ 0 = ap (λ (l : List ℕ). get_or l rank 0) c.clear-4.ensures ∙ none-counted 256 rank in
    λ i. record { weight = followed i; support = ended i; longer = opened i; stands = stands i }
