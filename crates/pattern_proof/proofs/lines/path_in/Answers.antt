use Rattle.std.proofs.Common.{◌≡◌, ℕ, ◌+◌, ◌-◌, ◌<◌, ◌≤◌, List, [], ◌∷◌, length, take, drop, sym, ap, ◌∙◌, subst, arith}
use Rattle.std.proofs.lemmas.List.{take_rest}
use Rattle.pattern_proof.specs.ProofLines.{SaysPath}
use Rattle.pattern_proof.specs.Reading.{SaysStates}
use Rattle.pattern_proof.proofs.PieceLemmas.{path-cut, path-head, same-number}
use Rattle.pattern_proof.proofs.lines.path_in.Goals as goal

head : (text : List ℕ) → Rattle.pattern_proof.specs.ProofLines.is_path_line text ≡ Rattle.std.proofs.Common.true → text ≡ 9 ∷ take (length text - 1) (drop 1 text)
head text is = path-head text is ∙ ap (λ l. 9 ∷ l) (sym (take_rest text 1))

pub returns-in_default : goal.returns-in_default
returns-in_default c = λ path says small.
    let text = c.args.text.now in
    let cut = path-cut (take (length text - 1) (drop 1 text)) c.place_of-end.result c.place_of-end.ensures.before c.place_of-end.ensures.behind path (subst (λ t. SaysPath t path) (head text c.requires) says) in
    c.in_default.ensures (path.place + 1) cut.0 small.0

pub returns-in_default-checked_sub : goal.returns-in_default-checked_sub
returns-in_default-checked_sub c = λ path says small.
    let text = c.args.text.now in
    let behind = take (length text - 1) (drop 1 text) in
    let cut = path-cut behind c.place_of-end.result c.place_of-end.ensures.before c.place_of-end.ensures.behind path (subst (λ t. SaysPath t path) (head text c.requires) says) in
    let same = same-number (take c.place_of-end.result behind) c.in-Some.line (path.place + 1) c.in-Some.ensures cut.0 in
    c.in_default-checked_sub.ensures (omega (arith, same))

pub returns-then-not-branch : goal.returns-then-not-branch
returns-then-not-branch c = λ path says small.
    let none = rw c.if-not-branch.true at c.in_ok-states_in.ensures in
    let text = c.args.text.now in
    let behind = take (length text - 1) (drop 1 text) in
    let cut = path-cut behind c.place_of-end.result c.place_of-end.ensures.before c.place_of-end.ensures.behind path (subst (λ t. SaysPath t path) (head text c.requires) says) in
    none path.states (subst (λ l. SaysStates l path.states) (sym (take_rest behind c.place_of-end.result)) cut.1) small.1
