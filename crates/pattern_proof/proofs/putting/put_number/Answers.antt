use Rattle.std.proofs.Common.{◌≡◌, List, ℕ, [], ◌∷◌, ◌++◌, take, ap, ◌∙◌, append_assoc}
use Rattle.std.specs.Fmt.{decimal}
use Rattle.pattern_writer.proofs.WrittenLemmas.{held_last, cut_last}
use Rattle.pattern_proof.proofs.putting.put_number.Goals as goal

joined : (front digits : List ℕ) (before number : ℕ) → digits ≡ decimal number → (front ++ before ∷ []) ++ digits ≡ front ++ (before ∷ decimal number)
joined front digits before number is = append_assoc front (before ∷ []) digits ∙ ap (λ l. front ++ (before ∷ l)) is

pub returns-clause-held : goal.returns-clause-held
returns-clause-held g c =
    let front : List ℕ = take c.args.filled c.args.text.now in
    let digits : List ℕ = c.as_bytes.result.now in
    let is : digits ≡ decimal c.args.number = c.as_bytes.ensures.value ∙ c.format.ensures.text in
    held_last _ (g.O.Sink.written c.args.out.now) (g.O.Sink.written c.put.new.out) (g.O.Sink.written c.put-2.new.out) c.put-2.new.room
    (take c.in_ok-behind_byte.behind_byte c.put.new.room) (front ++ c.args.before ∷ []) digits _
    c.in_ok-behind_byte.ensures.held c.put-2.ensures.held (joined front digits c.args.before c.args.number is)

pub returns-clause-cut : goal.returns-clause-cut
returns-clause-cut g c =
    let front : List ℕ = take c.args.filled c.args.text.now in
    let digits : List ℕ = c.as_bytes.result.now in
    let is : digits ≡ decimal c.args.number = c.as_bytes.ensures.value ∙ c.format.ensures.text in
    cut_last _ (g.O.Sink.written c.args.out.now) (g.O.Sink.written c.put.new.out) (g.O.Sink.written c.put-2.new.out)
    (take c.in_ok-behind_byte.behind_byte c.put.new.room) (front ++ c.args.before ∷ []) digits _
    c.in_ok-behind_byte.ensures.held c.put-2.ensures.cut (joined front digits c.args.before c.args.number is)
