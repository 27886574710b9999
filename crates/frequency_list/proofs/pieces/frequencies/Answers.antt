use Rattle.std.proofs.Common.{◌≡◌, ℕ, ◌*◌, ◌≤◌, List, Result, Ok, Err, IfOk, length, sym, ap, ◌∙◌, subst, arith}
use Rattle.std.specs.List.{All, slice_index}
use Rattle.std.specs.Global.{Vec}
use Rattle.mine_model.specs.Limits.{most_sequences, most_weight}
use Rattle.frequency_list.specs.Tallies.{IsTally, AreTallies}
use Rattle.frequency_list.proofs.PieceLemmas.{sum_at, AreTallies-whole, AreTallies-room, IsTally-total}
use Rattle.frequency_list.proofs.pieces.frequencies.Goals as goal

-- what two facts of an answer say together
if_both : {T E : Type 0} (r : Result T E) (P Q R : T → Type 0) → IfOk r P → IfOk r Q → ((v : T) → P v → Q v → R v) → IfOk r R
if_both (Ok v) P Q R p q both = both v p q
if_both (Err e) P Q R p q both = tt

pub total-requires-clause-lengths : goal.total-requires-clause-lengths
total-requires-clause-lengths g c =
    let are : AreTallies c.args.hierarchy.now c.in_ok-ends.ends.items c.args.db.now c.in_ok-parts.parts.items =
    subst (λ ends. AreTallies c.args.hierarchy.now ends c.args.db.now c.in_ok-parts.parts.items) c.as_slice.ensures.value c.in_ok-parts.ensures in
    let whole : All (λ part. length part.items ≡ c.args.hierarchy.now.items) c.in_ok-parts.parts.items =
    AreTallies-whole c.args.hierarchy.now c.in_ok-ends.ends.items c.args.db.now c.in_ok-parts.parts.items are in
    let Whole : ℕ → List (Vec ℕ) → Type 0 = λ items parts. All (λ part. length part.items ≡ items) parts in
    subst (λ items. Whole items c.as_slice-2.result.now) (sym c.items.ensures.number)
    (subst (Whole c.args.hierarchy.now.items) (sym c.as_slice-2.ensures.value) whole)

pub total-requires-clause-room : goal.total-requires-clause-room
total-requires-clause-room g c k =
    let are : AreTallies c.args.hierarchy.now c.in_ok-ends.ends.items c.args.db.now c.in_ok-parts.parts.items =
    subst (λ ends. AreTallies c.args.hierarchy.now ends c.args.db.now c.in_ok-parts.parts.items) c.as_slice.ensures.value c.in_ok-parts.ensures in
    let few : length c.args.db.now ≤ most_sequences = omega (arith, c.sequences.ensures.count, c.sequences.ensures.most) in
    let most : sum_at c.in_ok-parts.parts.items k ≤ most_sequences * most_weight =
    AreTallies-room c.args.hierarchy.now c.in_ok-ends.ends.items c.args.db.now c.in_ok-parts.parts.items c.in_ok-ends.ensures.cut c.sequences.ensures.limits few are k in
    let same : sum_at c.as_slice-2.result.now k ≡ sum_at c.in_ok-parts.parts.items k = ap (λ parts. sum_at parts k) c.as_slice-2.ensures.value in
    omega (arith, most, same)

pub returns : goal.returns
returns g c =
    let are : AreTallies c.args.hierarchy.now c.in_ok-ends.ends.items c.args.db.now c.in_ok-parts.parts.items =
    subst (λ ends. AreTallies c.args.hierarchy.now ends c.args.db.now c.in_ok-parts.parts.items) c.as_slice.ensures.value c.in_ok-parts.ensures in
    if_both c.total.result (λ sums. length sums.items ≡ c.items.result) (λ sums. (k : ℕ) → slice_index sums.items k ≡ sum_at c.as_slice-2.result.now k) (λ sums. IsTally c.args.hierarchy.now c.args.db.now sums.items)
    c.total.ensures.length c.total.ensures.sums
    (λ sums whole same. IsTally-total c.args.hierarchy.now c.in_ok-ends.ends.items c.args.db.now c.in_ok-parts.parts.items sums.items c.in_ok-ends.ensures.cut are
    (whole ∙ c.items.ensures.number) (λ k. same k ∙ ap (λ parts. sum_at parts k) c.as_slice-2.ensures.value))
