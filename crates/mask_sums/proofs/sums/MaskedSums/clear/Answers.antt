use Rattle.std.proofs.Common.{◌∙◌, ℕ, List, length, replicate, sym, ap}
use Rattle.stand_sums.specs.Sums.{Tally, empty_tally}
use Rattle.mask_sums.proofs.RoomLemmas.{together-none, together-long}
use Rattle.mask_sums.proofs.sums.MaskedSums.clear.Goals as goal

pub returns : goal.returns
returns c =
    together-none c.clear-2.new.self 0 c.clear.new.self c.clear-2.ensures ∙ c.clear.ensures
    ∙ ap (λ (n : ℕ). replicate n empty_tally)
    (sym (together-long c.self.inside.masked 0 c.self.inside.sums) ∙ ap (λ (l : List Tally). length l) c.self.view_is)
