use Rattle.std.proofs.Common.{◌≡◌, ℕ, ◌+◌, ◌^◌, ◌<◌, ◌++◌, ◌∷◌, List, [], inl, inr, Some, get_or, refl, arith, slice_get}
use Rattle.std.proofs.lemmas.Option.{slice_get-get_or, slice_get_within}
use Rattle.prefix_counts.specs.Sums.{sum_of}
use Rattle.prefix_counts.proofs.SumLemmas.{not-first, taken-value, taken}
use Rattle.sieved_counts.proofs.edges.take.Goals as goal

pub add-requires-clause-some : goal.add-requires-clause-some
add-requires-clause-some c =
    let list : List ℕ = get_or c.args.counts.now.lists c.args.number [] in
    let at : slice_get c.args.counts.now.lists c.args.number ≡ Some list = slice_get-get_or c.args.counts.now.lists c.args.number [] c.requires.number in
    not-first c.longer.new.self c.in_ok-longer.longer c.args.edge.rank list c.len-held.ensures.prefixes (c.in_ok-longer.ensures.number list at)

pub add-requires-clause-within : goal.add-requires-clause-within
add-requires-clause-within c =
    let list : List ℕ = get_or c.args.counts.now.lists c.args.number [] in
    let at : slice_get c.args.counts.now.lists c.args.number ≡ Some list = slice_get-get_or c.args.counts.now.lists c.args.number [] c.requires.number in
    slice_get_within c.longer.new.self.lists c.in_ok-longer.longer (list ++ c.args.edge.rank ∷ []) (c.in_ok-longer.ensures.number list at)

pub add-requires-clause-room : goal.add-requires-clause-room
add-requires-clause-room c =
    let list : List ℕ = get_or c.args.counts.now.lists c.args.number [] in
    let at : slice_get c.args.counts.now.lists c.args.number ≡ Some list = slice_get-get_or c.args.counts.now.lists c.args.number [] c.requires.number in
    let value : get_or c.longer.new.self.sums c.in_ok-longer.longer 0 ≡ sum_of c.args.counts.now (list ++ c.args.edge.rank ∷ []) =
    taken-value c.args.counts.now c.longer.new.self c.longer.new.self c.args.number c.args.edge.rank c.in_ok-longer.longer c.args.weight list
    c.in_ok-longer.ensures.grown c.len-held.ensures.prefixes at (c.in_ok-longer.ensures.number list at) in
    let room : sum_of c.args.counts.now (list ++ c.args.edge.rank ∷ []) + c.args.weight < 2 ^ 64 = c.requires.room list at in
    omega (arith, value, room)

pub returns-then-edge : goal.returns-then-edge
returns-then-edge c = λ list at.
    taken c.args.counts.now c.longer.new.self c.add.new.self c.args.number c.args.edge.rank c.in_ok-longer.longer c.args.weight list
    c.in_ok-longer.ensures.grown c.len-held.ensures.prefixes at (c.in_ok-longer.ensures.number list at) c.args.edge.ends
    (inr (c.if-edge.true, c.add.ensures.lists, c.add.ensures.sums))

pub returns-else-edge : goal.returns-else-edge
returns-else-edge c = λ list at.
    taken c.args.counts.now c.longer.new.self c.longer.new.self c.args.number c.args.edge.rank c.in_ok-longer.longer c.args.weight list
    c.in_ok-longer.ensures.grown c.len-held.ensures.prefixes at (c.in_ok-longer.ensures.number list at) c.args.edge.ends
    (inl (c.if-edge.false, refl))
