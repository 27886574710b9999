use Rattle.std.proofs.Common.{◌≡◌, ℕ, ◌+◌, List, [], ◌∷◌, ◌++◌, length, ap, sym, ◌∙◌, arith}
use Rattle.std.proofs.lemmas.List.{length_push}
use Rattle.mine_model.specs.declared.item.Item.{Item}
use Rattle.mine_model.specs.Ancestry.{item_at}
use Rattle.mine_model.proofs.AncestryLemmas.{lists-more, links-more}
use Rattle.mine_model.proofs.hierarchy.Hierarchy.cover.Goals as goal

pub loop-number-preserved : goal.loop-number-preserved
loop-number-preserved c =
    let ends : List ℕ = c.loop-number.self-inside.ends.items in
    let lists : List Item = c.loop-number.self-inside.lists.items in
    let lists_are : c.push_reserved.new.self.items ≡ lists ++ item_at (length ends) ∷ [] =
    c.push_reserved.ensures.items ∙ ap (λ n. lists ++ item_at n ∷ []) (sym c.loop-number.invariant.items) in
    let size : c.len.result ≡ length lists + 1 = omega (arith, c.len.ensures, c.push_reserved.ensures.len, c.loop-number.self-inside.lists.ok.0) in
    let ends_are : c.push_reserved-in-loop-number.new.self.items ≡ ends ++ (length lists + 1) ∷ [] =
    c.push_reserved-in-loop-number.ensures.items ∙ ap (λ n. ends ++ n ∷ []) size in
    record {
      are = rw (lists_are, ends_are) (lists-more ends lists c.loop-number.invariant.are);
      items = rw ends_are (length_push ends (length lists + 1) ∙ ap (λ n. n + 1) c.loop-number.invariant.items);
      links = rw (lists_are, ends_are) (links-more ends lists c.loop-number.invariant.are ∙ c.loop-number.invariant.links);
      few = rw lists_are (omega (arith, length_push lists (item_at (length ends)), c.loop-number.invariant.few));
      room_in_ends = omega (arith, c.push_reserved-in-loop-number.ensures.len, c.push_reserved-in-loop-number.ensures.capacity, c.loop-number.invariant.room_in_ends);
      room_in_lists = omega (arith, c.push_reserved.ensures.len, c.push_reserved.ensures.capacity, c.loop-number.invariant.room_in_lists);
    }
