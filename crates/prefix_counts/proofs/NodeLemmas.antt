-- Lists of nodes.
use Rattle.std.proofs.Common.{◌≡◌, ℕ, zero, suc, ◌+◌, ◌-◌, ◌≤◌, ◌<◌, Some, List, [], ◌∷◌, ◌++◌, length, map, set, get_or, refl, sym, subst, ap, ◌∙◌, inl, inr, arith, Contains}
use mathlib.Core.List.{reverse}
use Rattle.std.specs.List.{slice_get}
use Rattle.std.proofs.lemmas.Bool.{cases_eq}
use Rattle.std.proofs.lemmas.List.{append_assoc, length_push, length-map, length-set, map_push, get_or_append_left, get_or_default, get_or_push, same_from_push, reverse-append}
use Rattle.std.proofs.lemmas.Option.{none-some, same_Some, slice_get-get_or, slice_get_within, get_or_from_slice_get}
use Rattle.mine_model.specs.Names.{AreDistinct}
use Rattle.mine_model.proofs.NameLemmas.{AreDistinct-push}
use Rattle.mine_model.proofs.ElementLemmas.{get-some, get-held, get-from, get_snoc, get_set_same, get_set_other, slice_get-mapped_by, same-some, stands_last}
use Rattle.open_addressing.specs.Table.{IsTable}
use Rattle.prefix_counts.specs.declared.node.Node.{Node}
use Rattle.prefix_counts.specs.declared.table.Slot.{Slot}
use Rattle.prefix_counts.specs.Prefixes.{ArePrefixes}
use Rattle.prefix_counts.specs.Nodes.{list_behind, lists_with, lists_of, sums_of, prefixes_of, AreNodes, IsNodeOf}
use Rattle.prefix_counts.specs.Table.{key_of, layout, pairs_of}

-- ---- one more node

lists_with-push : (lists : List (List ℕ)) (nodes : List Node) (node : Node)
    → lists_with lists (nodes ++ node ∷ []) ≡ lists_with lists nodes ++ list_behind (lists_with lists nodes) node ∷ []
lists_with-push lists [] node = refl
lists_with-push lists (first ∷ nodes) node = lists_with-push (lists ++ list_behind lists first ∷ []) nodes node

pub lists_of-push : (nodes : List Node) (node : Node) → lists_of (nodes ++ node ∷ []) ≡ lists_of nodes ++ list_behind (lists_of nodes) node ∷ []
lists_of-push nodes node = lists_with-push ([] ∷ []) nodes node

lists_with-length : (lists : List (List ℕ)) (nodes : List Node) → length (lists_with lists nodes) ≡ length lists + length nodes
lists_with-length lists [] = omega arith
lists_with-length lists (first ∷ nodes) =
    let rest = lists_with-length (lists ++ list_behind lists first ∷ []) nodes in
    let more = length_push lists (list_behind lists first) in
    omega (arith, rest, more)

pub lists_of-length : (nodes : List Node) → length (lists_of nodes) ≡ length nodes + 1
lists_of-length nodes = let long = lists_with-length ([] ∷ []) nodes in omega (arith, long)

lists_with-first : (lists : List (List ℕ)) (nodes : List Node) (i : ℕ) (d : List ℕ) → i < length lists → get_or (lists_with lists nodes) i d ≡ get_or lists i d
lists_with-first lists [] i d within = refl
lists_with-first lists (first ∷ nodes) i d within =
    lists_with-first (lists ++ list_behind lists first ∷ []) nodes i d (let more = length_push lists (list_behind lists first) in omega (arith, within, more))
    ∙ get_or_append_left lists (list_behind lists first ∷ []) d i within

pub first_is_empty : (nodes : List Node) (d : List ℕ) → get_or (lists_of nodes) 0 d ≡ []
first_is_empty nodes d = lists_with-first ([] ∷ []) nodes 0 d (omega arith)

-- ---- what nodes say

module _ (nodes : List Node) (slots : List Slot) (are : AreNodes nodes slots) where
  pub prefixes : ArePrefixes (prefixes_of nodes)
  prefixes =
      let lists = lists_of-length nodes in
      let sums = length-map nodes (λ node. node.sum) in
      record {
        first = slice_get-get_or (lists_of nodes) 0 [] (omega (arith, lists)) ∙ ap Some (first_is_empty nodes []);
        nothing = refl;
        distinct = are.distinct;
        each = omega (arith, lists, sums);
      }

  -- a node with this parent and this rank has the list
  pub list_found : (at parent rank : ℕ) (list : List ℕ) → slice_get (pairs_of nodes) at ≡ Some (parent ∷ rank ∷ []) → slice_get (lists_of nodes) parent ≡ Some list
      → slice_get (lists_of nodes) (at + 1) ≡ Some (list ++ rank ∷ [])
  list_found at parent rank list found is =
      let (node, stands, same) = get-from (λ (node : Node). node.parent ∷ node.rank ∷ []) nodes at (parent ∷ rank ∷ []) found in
      let within : at + 1 < length (lists_of nodes) = let inside = slice_get_within nodes at node stands in let long = lists_of-length nodes in omega (arith, inside, long) in
      let own : get_or (lists_of nodes) (at + 1) [] ≡ get_or (lists_of nodes) parent [] ++ rank ∷ [] =
      are.each at node stands ∙ sym (λ j. get_or (lists_of nodes) (get_or (same j) 0 0) [] ++ get_or (same j) 1 0 ∷ []) in
      slice_get-get_or (lists_of nodes) (at + 1) [] within
      ∙ ap Some (own ∙ ap (λ w. w ++ rank ∷ []) (get_or_from_slice_get (lists_of nodes) parent list [] is))

  -- where there is none, no list is the same
  pub list_is_new : (parent rank : ℕ) → parent < length (lists_of nodes) → (Contains (pairs_of nodes) (parent ∷ rank ∷ []) → ⊥)
      → Contains (lists_of nodes) (get_or (lists_of nodes) parent [] ++ rank ∷ []) → ⊥
  list_is_new parent rank within new (zero, inside, is) =
      let long = ap length (sym (first_is_empty nodes _) ∙ is) in
      let more = length_push (get_or (lists_of nodes) parent []) rank in
      omega (arith, long, more)
  list_is_new parent rank within new (suc j, inside, is) =
      let long = lists_of-length nodes in
      let (node, at) = get-some nodes j (omega (arith, inside, long)) in
      let next : j + 1 ≡ suc j = omega arith in
      let own = are.each j node at in
      let same : list_behind (lists_of nodes) node ≡ get_or (lists_of nodes) parent [] ++ rank ∷ [] =
      sym own ∙ ap (λ n. get_or (lists_of nodes) n []) next ∙ get_or_default (lists_of nodes) (suc j) [] _ inside ∙ is in
      let (fronts, ranks) = same_from_push (get_or (lists_of nodes) node.parent []) (get_or (lists_of nodes) parent []) node.rank rank same in
      let low = are.before j node at in
      let parents : node.parent ≡ parent = are.distinct node.parent parent (omega (arith, low, inside)) within fronts in
      new (get-held (pairs_of nodes) j (parent ∷ rank ∷ []) (slice_get-mapped_by (λ (node : Node). node.parent ∷ node.rank ∷ []) nodes j node at ∙ ap Some (λ k. parents k ∷ ranks k ∷ [])))

  -- one more node
  module _ (node : Node) (within : node.parent < length (lists_of nodes)) where
    here : (i : ℕ) (d : List ℕ) → i < length (lists_of nodes) → get_or (lists_of (nodes ++ node ∷ [])) i d ≡ get_or (lists_of nodes) i d
    here i d inside =
        ap (λ (w : List (List ℕ)). get_or w i d) (lists_of-push nodes node) ∙ get_or_append_left (lists_of nodes) (list_behind (lists_of nodes) node ∷ []) d i inside

    behind_same : (n : Node) → n.parent < length (lists_of nodes) → list_behind (lists_of nodes) n ≡ list_behind (lists_of (nodes ++ node ∷ [])) n
    behind_same n inside = ap (λ w. w ++ n.rank ∷ []) (sym (here n.parent [] inside))

    pub pushed : (Contains (pairs_of nodes) (node.parent ∷ node.rank ∷ []) → ⊥) → length nodes < 4294967294 → (after : List Slot)
        → IsTable layout (map key_of (pairs_of nodes) ++ (record { parent = node.parent; rank = node.rank }) ∷ []) after
        → AreNodes (nodes ++ node ∷ []) after
    pushed new few after table = record {
      before = λ number n stands. elim (get_snoc nodes node number n stands) [
        | inl old ↦ are.before number n old
        | inr last ↦ let long = lists_of-length nodes in subst (λ (m : Node). m.parent ≤ number) last.1 (omega (arith, within, long, last.0))
      ];
      each = λ number n stands. elim (get_snoc nodes node number n stands) [
        | inl old ↦
            let long = lists_of-length nodes in
            let inside = slice_get_within nodes number n old in
            let low = are.before number n old in
            here (number + 1) [] (omega (arith, inside, long)) ∙ are.each number n old ∙ behind_same n (omega (arith, inside, long, low))
        | inr last ↦
            let long = lists_of-length nodes in
            ap (λ (w : List (List ℕ)). get_or w (number + 1) []) (lists_of-push nodes node)
            ∙ get_or_push (lists_of nodes) (list_behind (lists_of nodes) node) [] (number + 1) (omega (arith, long, last.0))
            ∙ behind_same node within ∙ ap (list_behind (lists_of (nodes ++ node ∷ []))) last.1
      ];
      distinct = subst AreDistinct (sym (lists_of-push nodes node)) (AreDistinct-push (lists_of nodes) (list_behind (lists_of nodes) node) are.distinct (list_is_new node.parent node.rank within new));
      few = let more = length_push nodes node in omega (arith, more, few);
      table =
          subst (λ keys. IsTable layout keys after)
          (sym (ap (map key_of) (map_push (λ (node : Node). node.parent ∷ node.rank ∷ []) nodes node) ∙ map_push key_of (pairs_of nodes) (node.parent ∷ node.rank ∷ [])))
          table;
    }

-- ---- another sum

lists_with-set : (lists : List (List ℕ)) (nodes : List Node) (i : ℕ) (node other : Node) → slice_get nodes i ≡ Some node → other.parent ≡ node.parent → other.rank ≡ node.rank
    → lists_with lists (set nodes i other) ≡ lists_with lists nodes
lists_with-set lists [] i node other at parent rank = absurd (none-some node at)
lists_with-set lists (first ∷ nodes) zero node other at parent rank =
    let same = same_Some first node at in
    λ j. lists_with (lists ++ (get_or lists ((parent ∙ sym (ap (λ (n : Node). n.parent) same)) j) [] ++ (rank ∙ sym (ap (λ (n : Node). n.rank) same)) j ∷ []) ∷ []) nodes
lists_with-set lists (first ∷ nodes) (suc i) node other at parent rank = lists_with-set (lists ++ list_behind lists first ∷ []) nodes i node other at parent rank

pairs_of-set : (nodes : List Node) (i : ℕ) (node other : Node) → slice_get nodes i ≡ Some node → other.parent ≡ node.parent → other.rank ≡ node.rank
    → pairs_of (set nodes i other) ≡ pairs_of nodes
pairs_of-set [] i node other at parent rank = absurd (none-some node at)
pairs_of-set (first ∷ nodes) zero node other at parent rank =
    let same = same_Some first node at in
    λ j. ((parent ∙ sym (ap (λ (n : Node). n.parent) same)) j ∷ (rank ∙ sym (ap (λ (n : Node). n.rank) same)) j ∷ []) ∷ pairs_of nodes
pairs_of-set (first ∷ nodes) (suc i) node other at parent rank = ap (λ w. (first.parent ∷ first.rank ∷ []) ∷ w) (pairs_of-set nodes i node other at parent rank)

pub sums_of-set : (nodes : List Node) (i : ℕ) (other : Node) → map (λ (node : Node). node.sum) (set nodes i other) ≡ set (map (λ (node : Node). node.sum) nodes) i other.sum
sums_of-set [] i other = refl
sums_of-set (first ∷ nodes) zero other = refl
sums_of-set (first ∷ nodes) (suc i) other = ap (λ w. first.sum ∷ w) (sums_of-set nodes i other)

module _ (nodes : List Node) (i : ℕ) (node other : Node) (at : slice_get nodes i ≡ Some node) (parent : other.parent ≡ node.parent) (rank : other.rank ≡ node.rank) where
  pub lists_of-set : lists_of (set nodes i other) ≡ lists_of nodes
  lists_of-set = lists_with-set ([] ∷ []) nodes i node other at parent rank

  pub set_nodes : (slots : List Slot) → AreNodes nodes slots → AreNodes (set nodes i other) slots
  set_nodes slots are = record {
    before = λ number n stands. elim (cases_eq number i) [
      | inl same ↦
          let is : other ≡ n = same-some other n (slice_get (set nodes i other) number) (ap (slice_get (set nodes i other)) same ∙ get_set_same nodes i node other at) stands in
          let low = are.before i node at in
          subst (λ (m : Node). m.parent ≤ number) is (omega (arith, parent, low, same))
      | inr apart ↦ are.before number n (sym (get_set_other nodes i number other apart) ∙ stands)
    ];
    each = λ number n stands. elim (cases_eq number i) [
      | inl same ↦
          let is : other ≡ n = same-some other n (slice_get (set nodes i other) number) (ap (slice_get (set nodes i other)) same ∙ get_set_same nodes i node other at) stands in
          subst (λ (m : Node). get_or (lists_of (set nodes i other)) (number + 1) [] ≡ list_behind (lists_of (set nodes i other)) m) is
          (rw lists_of-set (ap (λ k. get_or (lists_of nodes) (k + 1) []) same ∙ are.each i node at ∙ sym (λ j. get_or (lists_of nodes) (parent j) [] ++ rank j ∷ [])))
      | inr apart ↦ rw lists_of-set (are.each number n (sym (get_set_other nodes i number other apart) ∙ stands))
    ];
    distinct = rw lists_of-set are.distinct;
    few = let long = length-set nodes i other in let few = are.few in omega (arith, long, few);
    table = subst (λ (pairs : List (List ℕ)). IsTable layout (map key_of pairs) slots) (sym (pairs_of-set nodes i node other at parent rank)) are.table;
  }

-- ---- by numbers

-- the sum of a node
pub sum_here : (nodes : List Node) (i number : ℕ) (node : Node) → slice_get nodes i ≡ Some node → number ≡ suc i → slice_get (sums_of nodes) number ≡ Some node.sum
sum_here nodes i number node at is = ap (slice_get (sums_of nodes)) is ∙ slice_get-mapped_by (λ (node : Node). node.sum) nodes i node at

-- what a node is made of
pub node_here : (nodes : List Node) (slots : List Slot) → AreNodes nodes slots → (number : ℕ) (node : Node) → 0 < number → slice_get nodes (number - 1) ≡ Some node
    → IsNodeOf (prefixes_of nodes) number node
node_here nodes slots are number node some at =
    let back : number - 1 + 1 ≡ number = omega (arith, some) in
    let next : number ≡ suc (number - 1) = omega (arith, some) in
    let low = are.before (number - 1) node at in
    let inside = slice_get_within nodes (number - 1) node at in
    let long = lists_of-length nodes in
    record {
      before = omega (arith, low, some);
      list = λ list parent.
          let own = are.each (number - 1) node at in
          let whole : get_or (lists_of nodes) number [] ≡ list ++ node.rank ∷ [] =
          sym (ap (λ k. get_or (lists_of nodes) k []) back) ∙ own ∙ ap (λ w. w ++ node.rank ∷ []) (get_or_from_slice_get (lists_of nodes) node.parent list [] parent) in
          slice_get-get_or (lists_of nodes) number [] (omega (arith, inside, long, some)) ∙ ap Some whole;
      sum = sum_here nodes (number - 1) number node at next;
    }

-- a weight more in a node's sum
pub sums_added : (nodes : List Node) (i number weight : ℕ) (node : Node) → slice_get nodes i ≡ Some node → number ≡ suc i
    → sums_of (set nodes i (record { parent = node.parent; rank = node.rank; sum = node.sum + weight })) ≡ set (sums_of nodes) number (get_or (sums_of nodes) number 0 + weight)
sums_added nodes i number weight node at is =
    let other : Node = record { parent = node.parent; rank = node.rank; sum = node.sum + weight } in
    let value = get_or_from_slice_get (sums_of nodes) number node.sum 0 (sum_here nodes i number node at is) in
    ap (λ w. 0 ∷ w) (sums_of-set nodes i other) ∙ ap (λ v. set (sums_of nodes) (suc i) (v + weight)) (sym value)
    ∙ ap (λ k. set (sums_of nodes) k (get_or (sums_of nodes) number 0 + weight)) (sym is)

-- the list of the last node
pub list_pushed : (nodes : List Node) (node : Node) (number : ℕ) (list : List ℕ) → number ≡ length nodes + 1 → slice_get (lists_of nodes) node.parent ≡ Some list
    → slice_get (lists_of (nodes ++ node ∷ [])) number ≡ Some (list ++ node.rank ∷ [])
list_pushed nodes node number list is stands =
    ap (λ (w : List (List ℕ)). slice_get w number) (lists_of-push nodes node)
    ∙ stands_last (lists_of nodes) (list_behind (lists_of nodes) node) number (let long = lists_of-length nodes in omega (arith, long, is))
    ∙ ap Some (ap (λ w. w ++ node.rank ∷ []) (get_or_from_slice_get (lists_of nodes) node.parent list [] stands))

-- one rank more of a list that is read from its end on
pub read_more : (nodes : List Node) (slots : List Slot) → AreNodes nodes slots → (here : ℕ) (node : Node) (rest whole : List ℕ) → 0 < here → slice_get nodes (here - 1) ≡ Some node
    → get_or (lists_of nodes) here [] ++ reverse rest ≡ whole → get_or (lists_of nodes) node.parent [] ++ reverse (rest ++ node.rank ∷ []) ≡ whole
read_more nodes slots are here node rest whole some at so_far =
    let back : here - 1 + 1 ≡ here = omega (arith, some) in
    let own = are.each (here - 1) node at in
    ap (λ w. get_or (lists_of nodes) node.parent [] ++ w) (reverse-append rest (node.rank ∷ []))
    ∙ sym (append_assoc (get_or (lists_of nodes) node.parent []) (node.rank ∷ []) (reverse rest))
    ∙ ap (λ w. w ++ reverse rest) (sym own ∙ ap (λ k. get_or (lists_of nodes) k []) back) ∙ so_far
