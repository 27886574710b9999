use Rattle.std.proofs.Common.{◌≡◌, ◌-◌, ◌+◌, ◌*◌, ◌≤◌, [], ◌∷◌, ◌∙◌, sym, length, get_or, ap, arith, w64}
use Rattle.std.specs.Int.{trailing_zeros}
use Rattle.std.proofs.lemmas.Bool.{ltb-true, ltb-false}
use Rattle.state_bits.specs.Left.{left}
use Rattle.state_bits.proofs.LeftLemmas.{left-next, left-none, left-take, IsPlace-next, without_lowest}
use Rattle.state_bits.proofs.state_iter.StateIterIterator.next.Goals as goal

pub returns-in_err-self-inside-clause-steps : goal.returns-in_err-self-inside-clause-steps
returns-in_err-self-inside-clause-steps g c =
    let (are, place, same) = c.loop-self.invariant in
    let past = ltb-false c.loop-self.self-inside.read (length c.loop-self.self-inside.words.now) (sym c.in_err-self-inside.ensures.lookup.0) in
    let over : g.row.W ≤ c.loop-self.self-inside.read = omega (arith, are.long) in
    let none : left g.row.W c.loop-self.self-inside.words.now c.loop-self.self-inside.read c.loop-self.self-inside.rest ≡ [] =
    rw c.loop-self-test.true (left-none g.row.W c.loop-self.self-inside.words.now c.loop-self.self-inside.read over) in
    rw c.from_residual.ensures (sym c.self.view_is ∙ (sym same ∙ none), none)

pub loop-self-preserved : goal.loop-self-preserved
loop-self-preserved g c =
    let (are, place, same) = c.loop-self.invariant in
    let inside = ltb-true c.loop-self.self-inside.read (length c.loop-self.self-inside.words.now) (sym c.in_ok-self-inside.ensures.lookup.0) in
    let word : c.in_ok-self-inside.field-0.now ≡ get_or c.loop-self.self-inside.words.now c.loop-self.self-inside.read 0 =
    c.in_ok-self-inside.ensures.lookup.4 (omega arith) 0 in
    let stays : left g.row.W c.loop-self.self-inside.words.now c.loop-self.self-inside.read 0 ≡ left g.row.W c.self.inside.words.now c.self.inside.read c.self.inside.rest =
    rw c.loop-self-test.true at same in
    rw word (
      are,
      IsPlace-next g.row.W c.loop-self.self-inside.words.now c.loop-self.self-inside.read c.loop-self.self-inside.rest are place inside,
      sym (left-next g.row.W c.loop-self.self-inside.words.now c.loop-self.self-inside.read) ∙ stays,
    )

pub returns-clause-steps : goal.returns-clause-steps
returns-clause-steps g c =
    let (are, place, same) = c.loop-self.invariant in
    sym c.self.view_is ∙ (sym same ∙ left-take g.row.W c.loop-self.self-inside.words.now c.loop-self.self-inside.read c.loop-self.self-inside.rest place (omega (arith, c.loop-self-test.false)))

pub returns-clause-goes : goal.returns-clause-goes
returns-clause-goes g c =
    let (are, place, same) = c.loop-self.invariant in
    let taken : c.args.self.now ≡ ((c.loop-self.self-inside.read - 1) * 64 + trailing_zeros w64 c.loop-self.self-inside.rest) ∷
    left g.row.W c.loop-self.self-inside.words.now c.loop-self.self-inside.read (without_lowest c.loop-self.self-inside.rest) =
    sym c.self.view_is ∙ (sym same ∙ left-take g.row.W c.loop-self.self-inside.words.now c.loop-self.self-inside.read c.loop-self.self-inside.rest place (omega (arith, c.loop-self-test.false))) in
    record { on = λ _. (tt, tt, omega (arith, ap length taken)); keeps = tt; rests = λ _. tt }
