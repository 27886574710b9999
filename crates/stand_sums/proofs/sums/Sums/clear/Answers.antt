use Rattle.std.proofs.Common.{◌∙◌, ℕ, List, length, map, replicate, sym, ap}
use Rattle.std.proofs.lemmas.List.{length-map}
use Rattle.stand_sums.specs.Sums.{Tally, empty_tally}
use Rattle.stand_sums.specs.Kept.{tally_of}
use Rattle.stand_sums.proofs.SumLemmas.{no-tallies}
use Rattle.stand_sums.proofs.sums.Sums.clear.Goals as goal

pub returns : goal.returns
returns c =
    ap (map tally_of) c.forget.ensures ∙ no-tallies (length c.self.inside.sums.items)
    ∙ ap (λ (n : ℕ). replicate n empty_tally) (sym (length-map c.self.inside.sums.items tally_of) ∙ ap (λ (l : List Tally). length l) c.self.view_is)
