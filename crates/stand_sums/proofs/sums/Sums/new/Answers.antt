use Rattle.std.proofs.Common.{◌≡◌, ◌∙◌, map, replicate, ap}
use Rattle.stand_sums.specs.Kept.{tally_of, nothing}
use Rattle.stand_sums.proofs.SumLemmas.{no-tallies}
use Rattle.stand_sums.proofs.sums.Sums.new.Goals as goal

pub returns : goal.returns
returns c =
    let are : c.in_ok-vec.field-0.items ≡ replicate c.args.ranks nothing = c.in_ok-vec.ensures.items_if_clones_equal (λ y same. same) in
    ap (map tally_of) are ∙ no-tallies c.args.ranks
