use Rattle.std.proofs.Common.{◌≡◌, ◌+◌, ◌<◌, ◌∷◌, ◌++◌, length, take, drop, map, sym, ap, ◌∙◌, subst, arith}
use Rattle.std.proofs.lemmas.List.{take-append-drop, take_rest}
use Rattle.std.specs.List.{join_with_byte}
use Rattle.mine_model.specs.Grammar.{IsDecimal}
use Rattle.mine_model.specs.Names.{name_of}
use Rattle.pattern_proof.proofs.PieceLemmas.{begins-cut, tail-cut, row-cut}
use Rattle.pattern_proof.proofs.lines.row_in.Goals as goal

pub returns-in_default : goal.returns-in_default
returns-in_default c = λ sound row says most.
    let (digits, is, number, some, known) = says in
    let cut = row-cut c.args.names.now c.args.text.now c.place_of-end.result c.place_of-end.ensures.before c.place_of-end.ensures.behind row says in
    c.in_default.ensures row.support (subst (λ l. IsDecimal l row.support) (sym cut.0) number) most

pub returns-then-not-branch : goal.returns-then-not-branch
returns-then-not-branch c = λ sound row says most.
    let none = rw c.if-not-branch.true at c.in_ok-names_in.ensures in
    let text = c.args.text.now in let end = c.place_of-end.result in
    let (digits, is, number, some, known) = says in
    let cut = row-cut c.args.names.now text end c.place_of-end.ensures.before c.place_of-end.ensures.behind row says in
    none sound row.pattern (take_rest text (end + 1) ∙ tail-cut text end 9 (join_with_byte 32 (map (name_of c.args.names.now) row.pattern)) cut.1, some, known)

pub returns : goal.returns
returns c =
    let said = rw c.if-not-branch.false at c.in_ok-names_in.ensures in
    let text = c.args.text.now in let end = c.place_of-end.result in
    let few = c.place_of-end.ensures.within in let apart = c.if-end-text.false in
    let less : end < length text = omega (arith, few, apart) in
    let names : drop (end + 1) text ≡ join_with_byte 32 (map (name_of c.args.names.now) c.names_in.new.items.items) = sym (take_rest text (end + 1)) ∙ said.0 in
    let spelled : text ≡ take end text ++ 9 ∷ join_with_byte 32 (map (name_of c.args.names.now) c.names_in.new.items.items) =
    sym (take-append-drop end text) ∙ ap (λ l. take end text ++ l) (begins-cut 9 text end less c.place_of-end.ensures.behind ∙ ap (λ l. 9 ∷ l) names) in
    ((take end text, spelled, c.in-Some.ensures.0, said.1, said.2), c.in-Some.ensures.1)
