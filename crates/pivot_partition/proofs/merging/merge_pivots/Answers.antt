use Rattle.std.proofs.Common.{◌≡◌, ◌↔◌, ◌⊎◌, ℕ, ◌<◌, ◌++◌, length, get_or, max, sym, ap, ◌∙◌, subst, rules, eqb, leb}
use Rattle.std.specs.List.{AllPairs, Contains, filter}
use Rattle.std.specs.List.Sorted.{IsPermutation}
use Rattle.std.proofs.lemmas.Fn.{filter_same}
use Rattle.std.proofs.lemmas.List.{get_or_read}
use Rattle.std.proofs.lemmas.List.Filters.{dedup_is}
use Rattle.pivot_partition.specs.Pivots.{IsGreaterOf, HasUpTo}
use Rattle.pivot_partition.proofs.MergeLemmas.{kept, some_inside, merged-rising, merged-either, merged-greater}
use Rattle.pivot_partition.proofs.merging.merge_pivots.Goals as goal

kept_is : (c : goal.After-retain) → c.retain.new.self.items ≡ kept c.sort_unstable.new.self.items c.max-least.result
kept_is c =
    let dedup_of = dedup_is eqb c.sort_unstable.new.self.items c.dedup.new.self.items c.dedup.ensures.filtered in
    filter_same _ (λ x. leb c.max-least.result x) _ (λ x b f' k. search rules) _ _ c.retain.ensures.filtered ∙ ap (filter (λ x. leb c.max-least.result x)) dedup_of

both : (c : goal.After-retain) → c.extend_from_slice.new.self.items ≡ c.args.u.now.items ++ c.args.v.now
both c = c.in_ok-extend_from_slice.ensures.items

least_is : (c : goal.After-retain) → c.max-least.result ≡ max (get_or c.args.u.now.items 0 0) (get_or c.args.v.now 0 0)
least_is c =
    let inside : 0 < length c.args.u.now.items = some_inside c.args.u.now.items c.requires.some in
    c.max-least.ensures ∙ ap (λ x. max x (get_or c.args.v.now 0 0)) (get_or_read c.args.u.now.items 0 c.index.result.now inside c.index.ensures 0)

sorted_of : (c : goal.After-retain) → IsPermutation (c.args.u.now.items ++ c.args.v.now) c.sort_unstable.new.self.items
sorted_of c = subst (λ l. IsPermutation l c.sort_unstable.new.self.items) (both c) c.sort_unstable.ensures.permutation

pub returns-clause-rising : goal.returns-clause-rising
returns-clause-rising c =
    subst (AllPairs (λ low high. low < high)) (sym (kept_is c))
    (merged-rising c.sort_unstable.new.self.items c.sort_unstable.ensures.sorted c.max-least.result)

pub returns-clause-greater : goal.returns-clause-greater
returns-clause-greater c =
    subst (λ l. (w : ℕ) → Contains l w ↔ IsGreaterOf c.args.u.now.items c.args.v.now w) (sym (kept_is c))
    (merged-greater c.args.u.now.items c.args.v.now c.sort_unstable.new.self.items c.max-least.result c.requires.first c.requires.second c.requires.some c.requires.other (sorted_of c) c.sort_unstable.ensures.sorted (least_is c))

pub returns-clause-either : goal.returns-clause-either
returns-clause-either c =
    subst (λ l. (w : ℕ) → Contains l w ↔ ((Contains c.args.u.now.items w ⊎ Contains c.args.v.now w) × HasUpTo c.args.u.now.items w × HasUpTo c.args.v.now w)) (sym (kept_is c))
    (merged-either c.args.u.now.items c.args.v.now c.sort_unstable.new.self.items c.max-least.result c.requires.first c.requires.second c.requires.some c.requires.other (sorted_of c) c.sort_unstable.ensures.sorted (least_is c))
