use Rattle.std.proofs.Common.{◌≡◌, ◌∙◌, ℕ, ◌+◌, ◌^◌, ◌<◌, ◌++◌, ◌∷◌, true, List, [], sym, subst, arith}
use Rattle.std.proofs.lemmas.Option.{same_Some, slice_get_within}
use Rattle.prefix_counts.specs.Sums.{sum_of, IsTaken}
use Rattle.prefix_counts.proofs.JoinLemmas.{parent-place, node-sum}
use Rattle.prefix_counts.proofs.joining.join_next.Goals as goal

pub number_at-before-requires : goal.number_at-before-requires
number_at-before-requires c = let low = c.node-node.ensures.before in omega (arith, low, c.requires.long)

pub add_longer-requires-clause-number : goal.add_longer-requires-clause-number
add_longer-requires-clause-number c =
    let (list, here, there) =
    parent-place c.args.counts.now c.args.other.now c.args.numbers.now c.args.number c.node-node.result c.number_at-before.result c.node-node.ensures c.requires.within
    c.number_at-before.ensures c.requires.held in
    slice_get_within c.args.counts.now.lists c.number_at-before.result list here

pub add_longer-requires-clause-room : goal.add_longer-requires-clause-room
add_longer-requires-clause-room c = λ list at.
    let node = c.node-node.result in
    let (own, here, there) =
    parent-place c.args.counts.now c.args.other.now c.args.numbers.now c.args.number node c.number_at-before.result c.node-node.ensures c.requires.within
    c.number_at-before.ensures c.requires.held in
    let one : own ≡ list = same_Some own list (sym here ∙ at) in
    let room : sum_of c.args.counts.now (own ++ node.rank ∷ []) + node.sum < 2 ^ 64 =
    (let both = c.requires.room (own ++ node.rank ∷ []) there in
    omega (arith, both, node-sum c.args.other.now c.args.number node (own ++ node.rank ∷ []) c.len-held.ensures.prefixes c.node-node.ensures there)) in
    subst (λ (xs : List ℕ). sum_of c.args.counts.now (xs ++ node.rank ∷ []) + node.sum < 2 ^ 64) one room

pub returns : goal.returns
returns c = λ list at.
    let node = c.node-node.result in
    let (own, here, there) =
    parent-place c.args.counts.now c.args.other.now c.args.numbers.now c.args.number node c.number_at-before.result c.node-node.ensures c.requires.within
    c.number_at-before.ensures c.requires.held in
    let one : own ++ node.rank ∷ [] ≡ list = same_Some (own ++ node.rank ∷ []) list (sym there ∙ at) in
    let weight : node.sum ≡ sum_of c.args.other.now list = node-sum c.args.other.now c.args.number node list c.len-held.ensures.prefixes c.node-node.ensures at in
    let taken : IsTaken list true node.sum c.in_ok-place.place c.args.counts.now c.add_longer.new.counts =
    subst (λ (xs : List ℕ). IsTaken xs true node.sum c.in_ok-place.place c.args.counts.now c.add_longer.new.counts) one (c.in_ok-place.ensures own here) in
    subst (λ (w : ℕ). IsTaken list true w c.in_ok-place.place c.args.counts.now c.add_longer.new.counts) weight taken
