use Rattle.std.proofs.Common.{ℕ, ◌<◌, ◌+◌, List, ◌∷◌, ◌++◌, length, take, drop, get_or, ◌∙◌, arith}
use Rattle.std.specs.Fmt.{decimal}
use Rattle.std.specs.List.{flat_map}
use Rattle.fst_compile.specs.declared.edge.State.{State}
use Rattle.pattern_writer.proofs.PieceLemmas.{one_more, all_of_both}
use Rattle.pattern_writer.proofs.WrittenLemmas.{held_then, cut_then, cut_more, on_err}
use Rattle.pattern_proof.proofs.putting.put_states.Goals as goal

abbrev none : State
none = record { 0 = 0 }

abbrev piece : State → List ℕ
piece state = 32 ∷ decimal state.0

pub returns-in_err-held-clause-cut : goal.returns-in_err-held-clause-cut
returns-in_err-held-clause-cut g c =
    let front : List ℕ = take c.args.filled c.args.text.now in
    let states : List State = c.args.states.now in
    let i : ℕ = c.loop-state.state-index in
    let within : i < length states = omega arith in
    let next = one_more piece states i none front within in
    on_err _ _ (cut_more (g.O.Sink.written c.args.out.now) (g.O.Sink.written c.put_number.new.out)
    (front ++ flat_map piece (take (i + 1) states)) (flat_map piece (drop (i + 1) states)) _
    (cut_then (g.O.Sink.written c.args.out.now) (g.O.Sink.written c.loop-state.out) (g.O.Sink.written c.put_number.new.out)
    (take c.loop-state.held c.loop-state.text) (front ++ flat_map piece (take i states)) (piece (get_or states i none)) _
    c.loop-state.invariant.text c.in_err-held.ensures.cut next)
    (all_of_both piece states (i + 1) front))

pub loop-state-preserved : goal.loop-state-preserved
loop-state-preserved g c =
    let front : List ℕ = take c.args.filled c.args.text.now in
    let states : List State = c.args.states.now in
    let i : ℕ = c.loop-state.state-index in
    let within : i < length states = omega arith in
    let next = one_more piece states i none front within in
    record {
      within = c.in_ok-held.ensures.fits;
      text = held_then (g.O.Sink.written c.args.out.now) (g.O.Sink.written c.loop-state.out) (g.O.Sink.written c.put_number.new.out)
          (take c.loop-state.held c.loop-state.text) (front ++ flat_map piece (take i states)) (piece (get_or states i none))
          (take c.in_ok-held.held c.put_number.new.text) _ c.loop-state.invariant.text c.in_ok-held.ensures.held next;
      passed = c.in_ok-held.ensures.passed ∙ c.loop-state.invariant.passed;
    }
