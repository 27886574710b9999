use Rattle.std.proofs.Common.{◌≡◌, ◌≢◌, ◌↔◌, ◌+◌, List, [], ◌∷◌, ◌++◌, length, inl, inr, sym, ap, ◌∙◌, subst, arith}
use Rattle.std.specs.List.{Contains}
use Rattle.std.proofs.lemmas.List.{length_push, length-append}
use Rattle.std.proofs.lemmas.List.Elements.{Contains-get_or, Contains-push_cases}
use Rattle.std.proofs.lemmas.List.Quantifiers.{all_pairs_push}
use Rattle.std.proofs.lemmas.List.Sorted.{length_permutation, Contains-permutation, IsPermutation-sym}
use Rattle.mine_model.specs.declared.item.Item.{Item}
use Rattle.mine_model.specs.Hierarchy.{IsAncestor}
use Rattle.mine_model.proofs.ListLemmas.{Contains-cases, Contains-none}
use Rattle.item_hierarchy.specs.Edges.{links_of}
use Rattle.item_hierarchy.specs.Gathering.{part_at}
use Rattle.item_hierarchy.proofs.GatheringLemmas.{adds}
use Rattle.item_hierarchy.proofs.ancestors.Ancestors.add.Goals as goal

pub returns-then-room-eq0-clause-overflows : goal.returns-then-room-eq0-clause-overflows
returns-then-room-eq0-clause-overflows c off = (
  c.args.t ∷ [],
  λ i j d less below same. absurd (omega arith),
  λ w held. elim (Contains-cases c.args.t [] w held) [ inl same ↦ ([], sym same) | inr none ↦ absurd (Contains-none w none) ],
  omega (arith, c.if-room-eq0.true, c.len-room.ensures, c.args.self.now.lists.ok.0),
)

pub returns-then-not-branch-clause-overflows : goal.returns-then-not-branch-clause-overflows
returns-then-not-branch-clause-overflows c off =
    let (w, up, not_gathered, size) = c.in_ok-gather_parents.ensures.full c.if-not-branch.true in
    let gathered : List Item = c.gather_parents.new.self.gathered.items in (
      gathered ++ w ∷ [],
      all_pairs_push (λ v w. v ≢ w) gathered w c.in_ok-gather_parents.ensures.stamped.apart
          (λ k d below same. not_gathered (subst (Contains gathered) same (Contains-get_or gathered k d below))),
      λ v held. elim (Contains-push_cases gathered w v held) [
        | inl old ↦ c.in_ok-gather_parents.ensures.sound v old
        | inr same ↦ subst (λ v. IsAncestor (links_of c.args.rows.now) v c.args.t) same up
      ],
      omega (arith, size, length_push gathered w, c.len-room.ensures, c.args.self.now.lists.ok.0, c.requires.few),
    )

pub keep-requires-clause-few : goal.keep-requires-clause-few
keep-requires-clause-few c =
    let size : length c.sort.new.items.items ≡ length c.gather_parents.new.self.gathered.items = length_permutation _ _ c.sort.ensures.same in
    let lists : length c.gather_parents.new.self.lists.items ≡ length c.args.self.now.lists.items = ap (λ v. length v.items) c.in_ok-gather_parents.ensures.lists in
    omega (arith, size, lists, c.in_ok-gather_parents.ensures.room, c.len-room.ensures, c.args.self.now.lists.ok.0, c.requires.few)

pub returns-clause-adds : goal.returns-clause-adds
returns-clause-adds c on =
    let lists : c.gather_parents.new.self.lists.items ≡ c.args.self.now.lists.items = ap (λ v. v.items) c.in_ok-gather_parents.ensures.lists in
    let parts : c.gather_parents.new.self.parts.items ≡ c.args.self.now.parts.items = ap (λ v. v.items) c.in_ok-gather_parents.ensures.parts in
    let sorted : List Item = c.sort.new.items.items in
    let now : c.keep.new.self.lists.items ≡ c.args.self.now.lists.items ++ sorted = c.in_ok-keep.ensures.lists ∙ ap (λ l. l ++ sorted) lists in
    let one : (w : Item) → (Contains sorted w ↔ IsAncestor (links_of c.args.rows.now) w c.args.t) = λ w. (
      λ held. c.in_ok-gather_parents.ensures.sound w (Contains-permutation _ _ w (IsPermutation-sym _ _ c.sort.ensures.same) held),
      λ up. Contains-permutation _ _ w c.sort.ensures.same (c.in_ok-gather_parents.ensures.all c.if-not-branch.false w up),
    ) in
    rw now (adds (links_of c.args.rows.now) c.args.t c.args.self.now.parts.items c.keep.new.self.parts.items c.args.self.now.lists.items [] sorted
    (c.in_ok-keep.ensures.size ∙ ap (λ p. length p) parts) c.requires.inside
    (λ n other. c.in_ok-keep.ensures.others n other ∙ ap (λ p. part_at p n) parts)
    (c.in_ok-keep.ensures.from ∙ ap (λ l. length l) lists) (c.in_ok-keep.ensures.to ∙ ap (λ l. length l + length sorted) lists)
    c.sort.ensures.rising one)

pub returns-clause-few : goal.returns-clause-few
returns-clause-few c on =
    let size : length c.sort.new.items.items ≡ length c.gather_parents.new.self.gathered.items = length_permutation _ _ c.sort.ensures.same in
    let lists : length c.gather_parents.new.self.lists.items ≡ length c.args.self.now.lists.items = ap (λ v. length v.items) c.in_ok-gather_parents.ensures.lists in
    omega (
      arith,
      ap (λ l. length l) c.in_ok-keep.ensures.lists,
      length-append c.gather_parents.new.self.lists.items c.sort.new.items.items,
      size,
      lists,
      c.in_ok-gather_parents.ensures.room,
      c.len-room.ensures,
      c.args.self.now.lists.ok.0,
      c.requires.few,
    )
