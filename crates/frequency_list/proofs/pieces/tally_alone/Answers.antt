use Rattle.std.proofs.Common.{◌≡◌, List, [], Result, Ok, Err, IfOk, length, subst, arith}
use Rattle.std.specs.List.{slice_range}
use Rattle.mine_model.specs.declared.item.Item.{Item}
use Rattle.mine_model.specs.Support.{Sequence}
use Rattle.mine_model.specs.Ranks.{AreFrequencies}
use Rattle.mine_model.proofs.AncestryLemmas.{slice_range-behind}
use Rattle.frequency_list.specs.Tallies.{IsTally}
use Rattle.frequency_list.proofs.pieces.tally_alone.Goals as goal

-- what two facts of an answer say together
if_both : {T E : Type 0} (r : Result T E) (P Q R : T → Type 0) → IfOk r P → IfOk r Q → ((v : T) → P v → Q v → R v) → IfOk r R
if_both (Ok v) P Q R p q both = both v p q
if_both (Err e) P Q R p q both = tt

pub returns : goal.returns
returns c =
    let db : List (Sequence Item) = c.args.db.now in
    let same : slice_range db 0 c.sequences-sequences.result ≡ db = slice_range-behind [] db c.sequences-sequences.result (omega (arith, c.sequences-sequences.ensures.count)) in
    if_both c.tally.result (λ sums. length sums.items ≡ c.args.hierarchy.now.items)
    (λ sums. AreFrequencies c.args.hierarchy.now.links (slice_range db 0 c.sequences-sequences.result) sums.items) (λ sums. IsTally c.args.hierarchy.now db sums.items)
    c.tally.ensures.length c.tally.ensures.sums
    (λ sums whole exact. record { whole = whole; exact = subst (λ s. AreFrequencies c.args.hierarchy.now.links s sums.items) same exact })
