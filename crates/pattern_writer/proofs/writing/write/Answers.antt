use Rattle.std.proofs.Common.{◌≡◌, ℕ, ◌<◌, ◌≤◌, ◌+◌, List, [], ◌++◌, length, take, drop, map, get_or, sym, ap, ◌∙◌, arith}
use Rattle.std.specs.List.{flat_map}
use Rattle.std.proofs.lemmas.List.{take_all}
use Rattle.std.proofs.lemmas.List.Folds.{flat_map-map}
use Rattle.mine_model.specs.declared.row.Row.{Row}
use Rattle.mine_model.specs.AnswerText.{line_of, text_of}
use Rattle.mine_model.specs.Names.{named_row}
use Rattle.pattern_writer.proofs.PieceLemmas.{one_more, all_of_both}
use Rattle.pattern_writer.proofs.WrittenLemmas.{held_then, cut_then, cut_more, over_last, cut_over, on_err}
use Rattle.pattern_writer.proofs.writing.write.Goals as goal

module _ (names : List (List ℕ)) (rows : List Row) where
  abbrev named_line : Row → List ℕ
  named_line row = line_of (named_row names row)

  goes_on : (i : ℕ) (row : Row) → i < length rows → row ≡ get_or rows i row
      → flat_map named_line (take i rows) ++ named_line row ≡ flat_map named_line (take (i + 1) rows)
  goes_on i row within is =
      ap (λ w. flat_map named_line (take i rows) ++ named_line w) is ∙ one_more named_line rows i row [] within

  all_lines : flat_map named_line rows ≡ text_of (map (named_row names) rows)
  all_lines = sym (flat_map-map line_of (named_row names) rows)

  all_after : (n : ℕ) → length rows ≤ n → flat_map named_line (take n rows) ≡ text_of (map (named_row names) rows)
  all_after n most = ap (flat_map named_line) (take_all n rows most) ∙ all_lines

pub returns-in_err-held-clause-cut : goal.returns-in_err-held-clause-cut
returns-in_err-held-clause-cut g c =
    let i : ℕ = c.loop-row.row-index in
    let names : List (List ℕ) = c.args.names.now in
    let rows : List Row = c.args.rows.now in
    let row : Row = c.row-item.result in
    let within : i < length rows = omega arith in
    let next = goes_on names rows i row within c.row-item.is in
    on_err _ _ (cut_more (g.O.Sink.written c.args.out.now) (g.O.Sink.written c.put_line.new.out)
    (flat_map (named_line names rows) (take (i + 1) rows)) (flat_map (named_line names rows) (drop (i + 1) rows)) _
    (cut_then (g.O.Sink.written c.args.out.now) (g.O.Sink.written c.loop-row.out) (g.O.Sink.written c.put_line.new.out)
    (take c.loop-row.held c.loop-row.room) (flat_map (named_line names rows) (take i rows)) (named_line names rows row) _
    c.loop-row.invariant.text c.in_err-held.ensures.cut next)
    (all_of_both (named_line names rows) rows (i + 1) [] ∙ all_lines names rows))

pub returns-clause-written : goal.returns-clause-written
returns-clause-written g c =
    let i : ℕ = c.loop-row.row-index in
    let names : List (List ℕ) = c.args.names.now in
    let rows : List Row = c.args.rows.now in
    let most : length rows ≤ i = omega arith in
    over_last _ (g.O.Sink.written c.args.out.now) (g.O.Sink.written c.loop-row.out) (g.O.Sink.written c.hand_over.new.out)
    (take c.loop-row.held c.loop-row.room) (flat_map (named_line names rows) (take i rows)) _
    c.loop-row.invariant.text c.hand_over.ensures.written (all_after names rows i most)

pub returns-clause-cut : goal.returns-clause-cut
returns-clause-cut g c =
    let i : ℕ = c.loop-row.row-index in
    let names : List (List ℕ) = c.args.names.now in
    let rows : List Row = c.args.rows.now in
    let most : length rows ≤ i = omega arith in
    cut_over _ (g.O.Sink.written c.args.out.now) (g.O.Sink.written c.loop-row.out) (g.O.Sink.written c.hand_over.new.out)
    (take c.loop-row.held c.loop-row.room) (flat_map (named_line names rows) (take i rows)) _
    c.loop-row.invariant.text c.hand_over.ensures.cut (all_after names rows i most)
