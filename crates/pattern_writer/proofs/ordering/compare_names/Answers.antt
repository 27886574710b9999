use Rattle.std.proofs.Common.{rules, ◌≡◌, ℕ, ◌-◌, List, length, take, drop, map, refl, ◌∙◌}
use Rattle.std.specs.Ordering.{nat_cmp}
use Rattle.std.specs.Cmp.Lexicographic.{slice_cmp}
use Rattle.std.proofs.lemmas.Iterator.{YieldsList-from_slice, YieldsList-from_map_by}
use Rattle.std.proofs.lemmas.Iterator.Consumers.{YieldsList-at}
use Rattle.std.proofs.lemmas.Iterator.Search.{cmp_from_yields_List}
use Rattle.mine_model.specs.declared.item.Item.{Item}
use Rattle.mine_model.specs.Names.{name_of}
use Rattle.pattern_writer.specs.Order.{names_cmp}
use Rattle.pattern_writer.proofs.OrderLemmas.{behind_same}
use Rattle.pattern_writer.proofs.ordering.compare_names.Goals as goal

pub returns : goal.returns
returns c =
    let n : ℕ = c.count_same-same.result in
    let first : List Item = take (length c.args.first.now - n) (drop n c.args.first.now) in
    let second : List Item = take (length c.args.second.now - n) (drop n c.args.second.now) in
    let behind : c.cmp.result ≡ names_cmp (map (name_of c.args.names.now) first) (map (name_of c.args.names.now) second) =
    cmp_from_yields_List (λ x y. y ≡ x) _ (slice_cmp nat_cmp) _ c.cmp.ensures.ran
    (YieldsList-from_map_by _ (λ r. r.now) (name_of c.args.names.now) (YieldsList-from_slice first (cc)) c.map-first.ensures.closure (λ x r q k. search rules))
    (λ it e. YieldsList-at e (YieldsList-from_map_by _ (λ r. r.now) (name_of c.args.names.now) (YieldsList-from_slice second (cc)) c.map-second.ensures.closure (λ x r q k. search rules)))
    (λ x y. refl) in
    behind ∙ behind_same c.args.names.now c.args.first.now c.args.second.now n c.count_same-same.ensures.same
