use Rattle.std.proofs.Common.{◌≡◌, ℕ, ◌<◌, ◌-◌, List, ◌∷◌, ◌++◌, length, take, drop, map, get_or, ap, ◌∙◌, subst, arith, All, rules}
use Rattle.std.specs.List.{flat_map, join_with_byte}
use Rattle.std.proofs.lemmas.List.Elements.{All-tail}
use Rattle.std.proofs.lemmas.Slice.{first_rest}
use Rattle.mine_model.specs.declared.item.Item.{Item}
use Rattle.mine_model.specs.Bytes.{space}
use Rattle.mine_model.specs.Names.{name_of, HasName}
use Rattle.pattern_writer.proofs.PieceLemmas.{joined_names}
use Rattle.pattern_writer.proofs.WrittenLemmas.{held_last, cut_last, cut_more, on_err}
use Rattle.pattern_writer.proofs.writing.put_names.Goals as goal

abbrev no_item : Item
no_item = record { 0 = 0 }

-- all items but the first
abbrev others_of : List Item → List Item
others_of items = take (length items - 1) (drop 1 items)

all_joined : (names : List (List ℕ)) (items : List Item) (front name : List ℕ) → 0 < length items → name ≡ name_of names (get_or items 0 no_item)
    → (front ++ name) ++ flat_map (λ item. space ∷ name_of names item) (others_of items) ≡ front ++ join_with_byte space (map (name_of names) items)
all_joined names items front name some is =
    ap (λ w. (front ++ w) ++ flat_map (λ item. space ∷ name_of names item) (others_of items)) is
    ∙ joined_names space (name_of names) front items (get_or items 0 no_item) (others_of items) (first_rest items no_item some)

others_named : (P : Item → Type 0) (items : List Item) → 0 < length items → All P items → All P (others_of items)
others_named P items some all = All-tail P (get_or items 0 no_item) (others_of items) (subst (All P) (first_rest items no_item some) all)

pub returns-in_err-behind_first-clause-cut : goal.returns-in_err-behind_first-clause-cut
returns-in_err-behind_first-clause-cut g c =
    let front : List ℕ = take c.args.filled c.args.room.now in
    let some : 0 < length c.args.items.now = search rules in
    on_err _ _ (cut_more (g.O.Sink.written c.args.out.now) (g.O.Sink.written c.put.new.out) (front ++ c.text.result.now)
    (flat_map (λ item. space ∷ name_of c.args.names.now item) (others_of c.args.items.now)) _ c.in_err-behind_first.ensures.cut
    (all_joined c.args.names.now c.args.items.now front c.text.result.now some c.text.ensures))

pub put_others-requires-clause-named : goal.put_others-requires-clause-named
put_others-requires-clause-named g c =
    let some : 0 < length c.args.items.now = search rules in
    others_named (HasName c.args.names.now) c.args.items.now some c.requires.named

pub returns-clause-held : goal.returns-clause-held
returns-clause-held g c =
    let front : List ℕ = take c.args.filled c.args.room.now in
    let some : 0 < length c.args.items.now = search rules in
    held_last _ (g.O.Sink.written c.args.out.now) (g.O.Sink.written c.put.new.out) (g.O.Sink.written c.put_others.new.out) c.put_others.new.room
    (take c.in_ok-behind_first.behind_first c.put.new.room) (front ++ c.text.result.now)
    (flat_map (λ item. space ∷ name_of c.args.names.now item) (others_of c.args.items.now)) _
    c.in_ok-behind_first.ensures.held c.put_others.ensures.held
    (all_joined c.args.names.now c.args.items.now front c.text.result.now some c.text.ensures)

pub returns-clause-cut : goal.returns-clause-cut
returns-clause-cut g c =
    let front : List ℕ = take c.args.filled c.args.room.now in
    let some : 0 < length c.args.items.now = search rules in
    cut_last _ (g.O.Sink.written c.args.out.now) (g.O.Sink.written c.put.new.out) (g.O.Sink.written c.put_others.new.out)
    (take c.in_ok-behind_first.behind_first c.put.new.room) (front ++ c.text.result.now)
    (flat_map (λ item. space ∷ name_of c.args.names.now item) (others_of c.args.items.now)) _
    c.in_ok-behind_first.ensures.held c.put_others.ensures.cut
    (all_joined c.args.names.now c.args.items.now front c.text.result.now some c.text.ensures)
