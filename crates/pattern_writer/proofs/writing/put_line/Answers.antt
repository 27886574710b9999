use Rattle.std.proofs.Common.{◌≡◌, ℕ, List, [], ◌∷◌, ◌++◌, take, map, refl, sym, ap, ◌∙◌, append_assoc}
use Rattle.std.specs.Fmt.{decimal}
use Rattle.std.specs.List.{join_with_byte}
use Rattle.mine_model.specs.Bytes.{space, tab, line_feed}
use Rattle.mine_model.specs.Names.{name_of, named_row}
use Rattle.mine_model.specs.AnswerText.{line_of}
use Rattle.mine_model.specs.declared.item.Item.{Item}
use Rattle.mine_model.specs.declared.row.Row.{Row}
use Rattle.pattern_writer.specs.Written.{IsHeld}
use Rattle.pattern_writer.proofs.WrittenLemmas.{held_then, held_last, cut_then, cut_last, cut_more, on_err}
use Rattle.pattern_writer.proofs.writing.put_line.Goals as goal

-- a line, part by part
parts : (all : List (List ℕ)) (row : Row) (front digits : List ℕ) (items : List Item) → digits ≡ decimal row.support → items ≡ row.pattern
    → (((front ++ digits) ++ tab ∷ []) ++ join_with_byte space (map (name_of all) items)) ++ line_feed ∷ [] ≡ front ++ line_of (named_row all row)
parts all row front digits items is same =
    let names : List ℕ = join_with_byte space (map (name_of all) items) in
    append_assoc ((front ++ digits) ++ tab ∷ []) names (line_feed ∷ [])
    ∙ append_assoc (front ++ digits) (tab ∷ []) (names ++ line_feed ∷ [])
    ∙ append_assoc front digits (tab ∷ (names ++ line_feed ∷ []))
    ∙ ap (λ w. front ++ w) (sym (append_assoc digits (tab ∷ names) (line_feed ∷ [])))
    ∙ (λ i. front ++ ((is i ++ (tab ∷ join_with_byte space (map (name_of all) (same i)))) ++ line_feed ∷ []))

pub returns-in_err-behind_tab-clause-cut : goal.returns-in_err-behind_tab-clause-cut
returns-in_err-behind_tab-clause-cut g c =
    let front : List ℕ = take c.args.filled c.args.room.now in
    let digits : List ℕ = c.as_bytes.result.now in
    let is : digits ≡ decimal c.args.row.now.support = c.as_bytes.ensures.value ∙ c.format.ensures.text in
    let names : List ℕ = join_with_byte space (map (name_of c.args.names.now) c.args.row.now.pattern) in
    let behind : List ℕ = (front ++ digits) ++ tab ∷ [] in
    on_err _ _ (cut_more (g.O.Sink.written c.args.out.now) (g.O.Sink.written c.put-2.new.out) behind (names ++ line_feed ∷ []) _
    (cut_then (g.O.Sink.written c.args.out.now) (g.O.Sink.written c.put.new.out) (g.O.Sink.written c.put-2.new.out)
    (take c.in_ok-behind_support.behind_support c.put.new.room) (front ++ digits) (tab ∷ []) behind
    c.in_ok-behind_support.ensures.held c.in_err-behind_tab.ensures.cut refl)
    (sym (append_assoc behind names (line_feed ∷ [])) ∙ parts c.args.names.now c.args.row.now front digits c.args.row.now.pattern is refl))

pub returns-in_err-behind_names-clause-cut : goal.returns-in_err-behind_names-clause-cut
returns-in_err-behind_names-clause-cut g c =
    let front : List ℕ = take c.args.filled c.args.room.now in
    let digits : List ℕ = c.as_bytes.result.now in
    let is : digits ≡ decimal c.args.row.now.support = c.as_bytes.ensures.value ∙ c.format.ensures.text in
    let names : List ℕ = join_with_byte space (map (name_of c.args.names.now) c.items.result.now) in
    let behind : List ℕ = (front ++ digits) ++ tab ∷ [] in
    let held : IsHeld (g.O.Sink.written c.args.out.now) (g.O.Sink.written c.put-2.new.out) (take c.in_ok-behind_tab.behind_tab c.put-2.new.room) behind =
    held_then (g.O.Sink.written c.args.out.now) (g.O.Sink.written c.put.new.out) (g.O.Sink.written c.put-2.new.out)
    (take c.in_ok-behind_support.behind_support c.put.new.room) (front ++ digits) (tab ∷ [])
    (take c.in_ok-behind_tab.behind_tab c.put-2.new.room) behind c.in_ok-behind_support.ensures.held c.in_ok-behind_tab.ensures.held refl in
    on_err _ _ (cut_more (g.O.Sink.written c.args.out.now) (g.O.Sink.written c.put_names.new.out) (behind ++ names) (line_feed ∷ []) _
    (cut_then (g.O.Sink.written c.args.out.now) (g.O.Sink.written c.put-2.new.out) (g.O.Sink.written c.put_names.new.out)
    (take c.in_ok-behind_tab.behind_tab c.put-2.new.room) behind names (behind ++ names)
    held c.in_err-behind_names.ensures.cut refl)
    (parts c.args.names.now c.args.row.now front digits c.items.result.now is c.items.ensures))

pub returns-clause-held : goal.returns-clause-held
returns-clause-held g c =
    let front : List ℕ = take c.args.filled c.args.room.now in
    let digits : List ℕ = c.as_bytes.result.now in
    let is : digits ≡ decimal c.args.row.now.support = c.as_bytes.ensures.value ∙ c.format.ensures.text in
    let names : List ℕ = join_with_byte space (map (name_of c.args.names.now) c.items.result.now) in
    let behind : List ℕ = (front ++ digits) ++ tab ∷ [] in
    let held : IsHeld (g.O.Sink.written c.args.out.now) (g.O.Sink.written c.put-2.new.out) (take c.in_ok-behind_tab.behind_tab c.put-2.new.room) behind =
    held_then (g.O.Sink.written c.args.out.now) (g.O.Sink.written c.put.new.out) (g.O.Sink.written c.put-2.new.out)
    (take c.in_ok-behind_support.behind_support c.put.new.room) (front ++ digits) (tab ∷ [])
    (take c.in_ok-behind_tab.behind_tab c.put-2.new.room) behind c.in_ok-behind_support.ensures.held c.in_ok-behind_tab.ensures.held refl in
    let named : IsHeld (g.O.Sink.written c.args.out.now) (g.O.Sink.written c.put_names.new.out) (take c.in_ok-behind_names.behind_names c.put_names.new.room) (behind ++ names) =
    held_then (g.O.Sink.written c.args.out.now) (g.O.Sink.written c.put-2.new.out) (g.O.Sink.written c.put_names.new.out)
    (take c.in_ok-behind_tab.behind_tab c.put-2.new.room) behind names
    (take c.in_ok-behind_names.behind_names c.put_names.new.room) (behind ++ names) held c.in_ok-behind_names.ensures.held refl in
    held_last _ (g.O.Sink.written c.args.out.now) (g.O.Sink.written c.put_names.new.out) (g.O.Sink.written c.put-3.new.out) c.put-3.new.room
    (take c.in_ok-behind_names.behind_names c.put_names.new.room) (behind ++ names) (line_feed ∷ []) _ named c.put-3.ensures.held
    (parts c.args.names.now c.args.row.now front digits c.items.result.now is c.items.ensures)

pub returns-clause-cut : goal.returns-clause-cut
returns-clause-cut g c =
    let front : List ℕ = take c.args.filled c.args.room.now in
    let digits : List ℕ = c.as_bytes.result.now in
    let is : digits ≡ decimal c.args.row.now.support = c.as_bytes.ensures.value ∙ c.format.ensures.text in
    let names : List ℕ = join_with_byte space (map (name_of c.args.names.now) c.items.result.now) in
    let behind : List ℕ = (front ++ digits) ++ tab ∷ [] in
    let held : IsHeld (g.O.Sink.written c.args.out.now) (g.O.Sink.written c.put-2.new.out) (take c.in_ok-behind_tab.behind_tab c.put-2.new.room) behind =
    held_then (g.O.Sink.written c.args.out.now) (g.O.Sink.written c.put.new.out) (g.O.Sink.written c.put-2.new.out)
    (take c.in_ok-behind_support.behind_support c.put.new.room) (front ++ digits) (tab ∷ [])
    (take c.in_ok-behind_tab.behind_tab c.put-2.new.room) behind c.in_ok-behind_support.ensures.held c.in_ok-behind_tab.ensures.held refl in
    let named : IsHeld (g.O.Sink.written c.args.out.now) (g.O.Sink.written c.put_names.new.out) (take c.in_ok-behind_names.behind_names c.put_names.new.room) (behind ++ names) =
    held_then (g.O.Sink.written c.args.out.now) (g.O.Sink.written c.put-2.new.out) (g.O.Sink.written c.put_names.new.out)
    (take c.in_ok-behind_tab.behind_tab c.put-2.new.room) behind names
    (take c.in_ok-behind_names.behind_names c.put_names.new.room) (behind ++ names) held c.in_ok-behind_names.ensures.held refl in
    cut_last _ (g.O.Sink.written c.args.out.now) (g.O.Sink.written c.put_names.new.out) (g.O.Sink.written c.put-3.new.out)
    (take c.in_ok-behind_names.behind_names c.put_names.new.room) (behind ++ names) (line_feed ∷ []) _ named c.put-3.ensures.cut
    (parts c.args.names.now c.args.row.now front digits c.items.result.now is c.items.ensures)
