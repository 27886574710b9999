use Rattle.std.proofs.Common.{◌≡◌, ℕ, ◌≤◌, ◌<◌, ◌↔◌, List, length, get_or, sym, ap, subst, arith}
use Rattle.std.specs.List.{All, AllByRecursion, AllPairs, Contains, slice_index}
use Rattle.std.proofs.lemmas.List.Elements.{Contains-get_or}
use Rattle.std.proofs.lemmas.Result.{IfOk-weaker}
use Rattle.mine_model.specs.declared.item.Item.{Item}
use Rattle.mine_model.specs.Ranks.{AreRanks, AreTiesByName}
use Rattle.frequency_list.specs.Order.{ComesBefore}
use Rattle.frequency_list.proofs.RankingLemmas.{order_apart, AreRanks-sorted, AreTiesByName-sorted}
use Rattle.frequency_list.proofs.count.Goals as goal

pub new-requires-clause-different : goal.new-requires-clause-different
new-requires-clause-different g c = order_apart c.as_slice.result.now c.args.names.now c.in_ok-order.order.items c.in_ok-order.ensures.sorted

pub new-requires-clause-within : goal.new-requires-clause-within
new-requires-clause-within g c k d below =
    let both = (c.in_ok-order.ensures.frequent (get_or c.in_ok-order.order.items k d)).0 (Contains-get_or c.in_ok-order.order.items k d below) in
    omega (arith, both.0, ap length c.as_slice.ensures.value)

pub new-requires-clause-few : goal.new-requires-clause-few
new-requires-clause-few g c = omega (arith, c.in_ok-frequencies.ensures.whole, c.items-items.ensures.number)

pub returns-clause-ranks : goal.returns-clause-ranks
returns-clause-ranks g c =
    let frequencies : List ℕ = c.in_ok-frequencies.frequencies.items in
    let order : List Item = c.in_ok-order.order.items in
    let same : c.as_slice.result.now ≡ frequencies = c.as_slice.ensures.value in
    let whole : length frequencies ≡ c.args.hierarchy.now.items = c.in_ok-frequencies.ensures.whole in
    let sorted : AllPairs (ComesBefore frequencies c.args.names.now) order = subst (λ fs. AllPairs (ComesBefore fs c.args.names.now) order) same c.in_ok-order.ensures.sorted in
    let frequent : (w : Item) → Contains order w ↔ ((w.0 < length frequencies) × (c.args.threshold ≤ slice_index frequencies w.0)) =
    subst (λ fs. (w : Item) → Contains order w ↔ ((w.0 < length fs) × (c.args.threshold ≤ slice_index fs w.0))) same c.in_ok-order.ensures.frequent in
    let ends : All (λ link. (link.child.0 < length frequencies) × (link.parent.0 < length frequencies)) c.args.hierarchy.now.links =
    subst (λ n. All (λ link. (link.child.0 < n) × (link.parent.0 < n)) c.args.hierarchy.now.links) (sym whole) c.items-items.ensures.within in
    let within : AllByRecursion (λ s. AllByRecursion (λ t. t.0 < length frequencies) s.items) c.args.db.now =
    subst (λ n. AllByRecursion (λ s. AllByRecursion (λ t. t.0 < n) s.items) c.args.db.now) (sym whole) c.requires.items in
    let ranked : AreRanks c.args.hierarchy.now.links c.args.db.now c.args.threshold (record { order = order; frequencies = frequencies }) =
    AreRanks-sorted frequencies c.args.names.now order sorted c.args.hierarchy.now.links c.args.db.now c.args.threshold ends within c.requires.threshold c.in_ok-frequencies.ensures.exact frequent in
    IfOk-weaker c.new.result (λ ranks. ranks ≡ record { order = order; frequencies = frequencies }) (AreRanks c.args.hierarchy.now.links c.args.db.now c.args.threshold)
    (λ ranks is. subst (AreRanks c.args.hierarchy.now.links c.args.db.now c.args.threshold) (sym is) ranked) c.new.ensures

pub returns-clause-ties : goal.returns-clause-ties
returns-clause-ties g c =
    let frequencies : List ℕ = c.in_ok-frequencies.frequencies.items in
    let order : List Item = c.in_ok-order.order.items in
    let same : c.as_slice.result.now ≡ frequencies = c.as_slice.ensures.value in
    let sorted : AllPairs (ComesBefore frequencies c.args.names.now) order = subst (λ fs. AllPairs (ComesBefore fs c.args.names.now) order) same c.in_ok-order.ensures.sorted in
    IfOk-weaker c.new.result (λ ranks. ranks ≡ record { order = order; frequencies = frequencies }) (AreTiesByName c.args.names.now)
    (λ ranks is. subst (AreTiesByName c.args.names.now) (sym is) (AreTiesByName-sorted frequencies c.args.names.now order sorted)) c.new.ensures
