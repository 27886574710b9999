use Rattle.std.proofs.Common.{◌≡◌, ℕ, ◌<◌, ◌+◌, List, ◌∷◌, ◌++◌, length, take, drop, get_or, ap, ◌∙◌, arith}
use Rattle.std.specs.List.{flat_map}
use Rattle.mine_model.specs.declared.item.Item.{Item}
use Rattle.mine_model.specs.Bytes.{space}
use Rattle.mine_model.specs.Names.{name_of}
use Rattle.pattern_writer.proofs.PieceLemmas.{one_more, all_of_both}
use Rattle.pattern_writer.proofs.WrittenLemmas.{held_then, cut_then, cut_more, on_err}
use Rattle.pattern_writer.proofs.writing.put_others.Goals as goal

abbrev no_item : Item
no_item = record { 0 = 0 }

-- a space and the next name go on behind the ones before
goes_on : (names : List (List ℕ)) (items : List Item) (i : ℕ) (front name : List ℕ) → i < length items
    → name ≡ name_of names (get_or items i no_item)
    → (front ++ flat_map (λ item. space ∷ name_of names item) (take i items)) ++ (space ∷ name)
    ≡ front ++ flat_map (λ item. space ∷ name_of names item) (take (i + 1) items)
goes_on names items i front name within is =
    ap (λ w. (front ++ flat_map (λ item. space ∷ name_of names item) (take i items)) ++ (space ∷ w)) is
    ∙ one_more (λ item. space ∷ name_of names item) items i no_item front within

pub returns-in_err-held-clause-cut : goal.returns-in_err-held-clause-cut
returns-in_err-held-clause-cut g c =
    let front : List ℕ = take c.args.filled c.args.room.now in
    let i : ℕ = c.loop-item.item-index in
    let f : Item → List ℕ = λ item. space ∷ name_of c.args.names.now item in
    let within : i < length c.args.items.now = omega arith in
    let next = goes_on c.args.names.now c.args.items.now i front c.text.result.now within c.text.ensures in
    on_err _ _ (cut_more (g.O.Sink.written c.args.out.now) (g.O.Sink.written c.put_other.new.out)
    (front ++ flat_map f (take (i + 1) c.args.items.now)) (flat_map f (drop (i + 1) c.args.items.now)) _
    (cut_then (g.O.Sink.written c.args.out.now) (g.O.Sink.written c.loop-item.out) (g.O.Sink.written c.put_other.new.out)
    (take c.loop-item.held c.loop-item.room) (front ++ flat_map f (take i c.args.items.now)) (space ∷ c.text.result.now) _
    c.loop-item.invariant.text c.in_err-held.ensures.cut next)
    (all_of_both f c.args.items.now (i + 1) front))

pub loop-item-preserved : goal.loop-item-preserved
loop-item-preserved g c =
    let front : List ℕ = take c.args.filled c.args.room.now in
    let i : ℕ = c.loop-item.item-index in
    let f : Item → List ℕ = λ item. space ∷ name_of c.args.names.now item in
    let within : i < length c.args.items.now = omega arith in
    let next = goes_on c.args.names.now c.args.items.now i front c.text.result.now within c.text.ensures in
    record {
      within = c.in_ok-held.ensures.fits;
      text = held_then (g.O.Sink.written c.args.out.now) (g.O.Sink.written c.loop-item.out) (g.O.Sink.written c.put_other.new.out)
          (take c.loop-item.held c.loop-item.room) (front ++ flat_map f (take i c.args.items.now)) (space ∷ c.text.result.now)
          (take c.in_ok-held.held c.put_other.new.room) _ c.loop-item.invariant.text c.in_ok-held.ensures.held next;
      passed = c.in_ok-held.ensures.passed ∙ c.loop-item.invariant.passed;
    }
