use Rattle.std.proofs.Common.{◌≡◌, ℕ, ◌+◌, List, [], ◌∷◌, ◌++◌, take, map, refl, sym, ap, ◌∙◌, append_assoc}
use Rattle.std.specs.Fmt.{decimal}
use Rattle.std.specs.List.{flat_map}
use Rattle.fst_compile.specs.declared.edge.State.{State}
use Rattle.pattern_writer.specs.Written.{IsHeld}
use Rattle.pattern_writer.proofs.WrittenLemmas.{held_then, held_last, cut_then, cut_last, cut_more, on_err}
use Rattle.pattern_proof.specs.ProofLines.{path_line_of, spaced}
use Rattle.pattern_proof.specs.Reading.{numbers_of}
use Rattle.pattern_proof.proofs.putting.put_path.Goals as goal

abbrev states_text : List State → List ℕ
states_text states = flat_map (λ state. 32 ∷ decimal state.0) states

spaced-states : (states : List State) → states_text states ≡ spaced (map (λ n. decimal n) (numbers_of states))
spaced-states [] = refl
spaced-states (state ∷ states) = ap (λ l. (32 ∷ decimal state.0) ++ l) (spaced-states states)

-- a line, part by part
parts : (front : List ℕ) (place : ℕ) (states : List State)
    → ((front ++ (9 ∷ decimal (place + 1))) ++ states_text states) ++ 10 ∷ [] ≡ front ++ path_line_of (record { place = place; states = numbers_of states })
parts front place states =
    append_assoc (front ++ (9 ∷ decimal (place + 1))) (states_text states) (10 ∷ [])
    ∙ append_assoc front (9 ∷ decimal (place + 1)) (states_text states ++ 10 ∷ [])
    ∙ ap (λ w. front ++ w) (sym (append_assoc (9 ∷ decimal (place + 1)) (states_text states) (10 ∷ [])))
    ∙ ap (λ w. front ++ ((9 ∷ decimal (place + 1)) ++ w ++ 10 ∷ [])) (spaced-states states)

pub returns-in_err-behind_line-clause-cut : goal.returns-in_err-behind_line-clause-cut
returns-in_err-behind_line-clause-cut g c =
    let front : List ℕ = take c.args.filled c.args.text.now in
    let states : List State = c.args.states.now in
    on_err _ _ (cut_more (g.O.Sink.written c.args.out.now) (g.O.Sink.written c.put_number.new.out) (front ++ (9 ∷ decimal (c.args.place + 1))) (states_text states ++ 10 ∷ []) _
    c.in_err-behind_line.ensures.cut
    (sym (append_assoc (front ++ (9 ∷ decimal (c.args.place + 1))) (states_text states) (10 ∷ [])) ∙ parts front c.args.place states))

pub returns-in_err-behind_states-clause-cut : goal.returns-in_err-behind_states-clause-cut
returns-in_err-behind_states-clause-cut g c =
    let front : List ℕ = take c.args.filled c.args.text.now in
    let states : List State = c.args.states.now in
    let line : List ℕ = front ++ (9 ∷ decimal (c.args.place + 1)) in
    on_err _ _ (cut_more (g.O.Sink.written c.args.out.now) (g.O.Sink.written c.put_states.new.out) (line ++ states_text states) (10 ∷ []) _
    (cut_then (g.O.Sink.written c.args.out.now) (g.O.Sink.written c.put_number.new.out) (g.O.Sink.written c.put_states.new.out)
    (take c.in_ok-behind_line.behind_line c.put_number.new.text) line (states_text states) (line ++ states_text states)
    c.in_ok-behind_line.ensures.held c.in_err-behind_states.ensures.cut refl)
    (parts front c.args.place states))

pub returns-clause-held : goal.returns-clause-held
returns-clause-held g c =
    let front : List ℕ = take c.args.filled c.args.text.now in
    let states : List State = c.args.states.now in
    let line : List ℕ = front ++ (9 ∷ decimal (c.args.place + 1)) in
    let held : IsHeld (g.O.Sink.written c.args.out.now) (g.O.Sink.written c.put_states.new.out) (take c.in_ok-behind_states.behind_states c.put_states.new.text) (line ++ states_text states) =
    held_then (g.O.Sink.written c.args.out.now) (g.O.Sink.written c.put_number.new.out) (g.O.Sink.written c.put_states.new.out)
    (take c.in_ok-behind_line.behind_line c.put_number.new.text) line (states_text states)
    (take c.in_ok-behind_states.behind_states c.put_states.new.text) (line ++ states_text states) c.in_ok-behind_line.ensures.held c.in_ok-behind_states.ensures.held refl in
    held_last _ (g.O.Sink.written c.args.out.now) (g.O.Sink.written c.put_states.new.out) (g.O.Sink.written c.put.new.out) c.put.new.room
    (take c.in_ok-behind_states.behind_states c.put_states.new.text) (line ++ states_text states) (10 ∷ []) _ held c.put.ensures.held
    (parts front c.args.place states)

pub returns-clause-cut : goal.returns-clause-cut
returns-clause-cut g c =
    let front : List ℕ = take c.args.filled c.args.text.now in
    let states : List State = c.args.states.now in
    let line : List ℕ = front ++ (9 ∷ decimal (c.args.place + 1)) in
    let held : IsHeld (g.O.Sink.written c.args.out.now) (g.O.Sink.written c.put_states.new.out) (take c.in_ok-behind_states.behind_states c.put_states.new.text) (line ++ states_text states) =
    held_then (g.O.Sink.written c.args.out.now) (g.O.Sink.written c.put_number.new.out) (g.O.Sink.written c.put_states.new.out)
    (take c.in_ok-behind_line.behind_line c.put_number.new.text) line (states_text states)
    (take c.in_ok-behind_states.behind_states c.put_states.new.text) (line ++ states_text states) c.in_ok-behind_line.ensures.held c.in_ok-behind_states.ensures.held refl in
    cut_last _ (g.O.Sink.written c.args.out.now) (g.O.Sink.written c.put_states.new.out) (g.O.Sink.written c.put.new.out)
    (take c.in_ok-behind_states.behind_states c.put_states.new.text) (line ++ states_text states) (10 ∷ []) _ held c.put.ensures.cut
    (parts front c.args.place states)
