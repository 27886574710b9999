use Rattle.std.proofs.Common.{◌≡◌, List, ap, ◌∙◌, subst, sym, refl, arith, rules}
use Rattle.std.specs.List.Sorted.{IsPermutation}
use Rattle.std.proofs.lemmas.List.{take_all}
use Rattle.std.proofs.lemmas.List.Sorted.{IsNonDecreasingBy-from_sort_by_key}
use Rattle.stand_sums.specs.declared.next_rank.NextRank.{NextRank}
use Rattle.stand_sums.specs.Sums.{AreNext}
use Rattle.stand_sums.specs.Kept.{tally_of}
use Rattle.std.proofs.Common.{map}
use Rattle.stand_sums.proofs.SumLemmas.{touched-within}
use Rattle.stand_sums.proofs.ReachLemmas.{found_of, reaching-sorted}
use Rattle.stand_sums.proofs.reaching.reaching.Goals as goal

pub returns : goal.returns
returns c =
    let (number, are) = c.requires in
    let all : c.loop-rank.found.items ≡ found_of c.args.least c.args.longer c.args.sums.now c.args.touched.now =
    c.loop-rank.invariant ∙ ap (found_of c.args.least c.args.longer c.args.sums.now) (take_all c.loop-rank.rank-index c.args.touched.now (omega arith)) in
    subst (AreNext c.args.least c.args.longer (map tally_of c.args.sums.now)) (sym c.in_ok-lay_out.ensures)
    (reaching-sorted c.args.least c.args.longer number c.args.sums.now c.args.touched.now are c.sort_unstable_by_key.new.self.items
    (subst (λ (l : List NextRank). IsPermutation l c.sort_unstable_by_key.new.self.items) all c.sort_unstable_by_key.ensures.permutation)
    (IsNonDecreasingBy-from_sort_by_key (λ (next : NextRank). next.rank) _ c.sort_unstable_by_key.ensures.sorted (λ a r q k. search rules)))

pub bounds-sums-rank : goal.bounds-sums-rank
bounds-sums-rank c =
    let (number, are) = c.requires in
    let within = touched-within c.args.sums.now c.args.touched.now c.loop-rank.rank-index c.loop-rank-test.true number c.args.sums.now are refl in
    search rules
