use Rattle.std.proofs.Common.{◌≡◌, ◌∙◌, ℕ, List, get_or, ap}
use Rattle.mask_sums.proofs.SetLemmas.{none-counted}
use Rattle.mask_sums.proofs.masked.Masked.new.Goals as goal

pub returns : goal.returns
returns c rank =
    let followed : get_or c.new.result rank 0 ≡ 0 = ap (λ (l : List ℕ). get_or l rank 0) c.new.ensures ∙ none-counted 256 rank in
    let ended : get_or c.new-2.result rank 0 ≡ 0 = ap (λ (l : List ℕ). get_or l rank 0) c.new-2.ensures ∙ none-counted 256 rank in
    let opened : get_or c.new-3.result rank 0 ≡ 0 = ap (λ (l : List ℕ). get_or l rank 0) c.new-3.ensures ∙ none-counted 256 rank in
    let stands : get_or c.new-4.result rank 0 ≡ 0 = ap (λ (l : List ℕ). get_or l rank 0) c.new-4.ensures ∙ none-counted 256 rank in
    λ i. record { weight = followed i; support = ended i; longer = opened i; stands = stands i }
