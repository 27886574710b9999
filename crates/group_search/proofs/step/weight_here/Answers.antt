use Rattle.std.proofs.Common.{◌≡◌, ℕ, List, ◌+◌, Bool, true, false, cond, take, get_or, sym, ap, ◌∙◌, arith, true≢false}
use Rattle.std.proofs.lemmas.List.Elements.{Contains-get_or}
use Rattle.std.proofs.lemmas.List.Sums.{sum_by_more, sum_by_more_le_part}
use Rattle.automaton_model.specs.Automata.{StateValue}
use Rattle.group_search.specs.declared.loads.LoadedState.{LoadedState}
use Rattle.group_search.specs.Steps.{state_at, weigh}
use Rattle.group_search.proofs.WeighLemmas.{at-there, cond-most}
use Rattle.group_search.proofs.step.weight_here.Goals.{then-accepts, else-accepts}
use Rattle.group_search.proofs.step.weight_here.Goals as goal

abbrev none : LoadedState
none = record { state = 0; weight = 0 }

added : (b : Bool) (weight before all now : ℕ) → b ≡ true → now ≡ before + weight → all ≡ before + cond b weight 0 → now ≡ all
added true weight before all now is new sum = omega (arith, new, sum)
added false weight before all now is new sum = absurd (true≢false (sym is))

kept : (b : Bool) (weight before all now : ℕ) → b ≡ false → now ≡ before → all ≡ before + cond b weight 0 → now ≡ all
kept true weight before all now is new sum = absurd (true≢false is)
kept false weight before all now is new sum = omega (arith, new, sum)

pub overflow_add-weight : goal.overflow_add-weight
overflow_add-weight g c =
    omega (
      arith,
      sum_by_more_le_part (λ (load : LoadedState). cond (state_at (g.A.Automata.states_of c.args.automata.now) load.state).accepts load.weight 0) (λ (load : LoadedState). load.weight)
          c.args.loads.now c.loads.load-index none c.loads-test.true (λ load. cond-most (state_at (g.A.Automata.states_of c.args.automata.now) load.state).accepts load.weight),
      c.requires.fits,
      c.loads.invariant,
    )

pub accepts-requires : goal.accepts-requires
accepts-requires g c = c.requires.there (get_or c.args.loads.now c.loads.load-index none) (Contains-get_or c.args.loads.now c.loads.load-index none c.loads-test.true)

pub loads-preserved : goal.loads-preserved
loads-preserved g c =
    let states : List StateValue = g.A.Automata.states_of c.args.automata.now in
    let load : LoadedState = get_or c.args.loads.now c.loads.load-index none in
    let all : ℕ = weigh (λ state. (state_at states state).accepts) (take (c.loads.load-index + 1) c.args.loads.now) in
    let more = sum_by_more (λ (load : LoadedState). cond (state_at states load.state).accepts load.weight 0) c.args.loads.now c.loads.load-index none c.loads-test.true in
    let flag : (state_at states load.state).accepts ≡ c.accepts.result = ap (λ (s : StateValue). s.accepts) (at-there states load.state c.accepts.ensures.0 c.accepts.ensures.1) ∙ sym c.accepts.ensures.2 in
    let sum : all ≡ c.loads.weight + cond (state_at states load.state).accepts load.weight 0 =
    more ∙ ap (λ n. n + cond (state_at states load.state).accepts load.weight 0) (sym c.loads.invariant) in
    elim c.if-accepts.branch [
      | then-accepts w ↦ added (state_at states load.state).accepts load.weight c.loads.weight all c.if-accepts.weight (flag ∙ w.if-accepts.true) w.weight-is sum
      | else-accepts w ↦ kept (state_at states load.state).accepts load.weight c.loads.weight all c.if-accepts.weight (flag ∙ w.if-accepts.false) w.weight-is sum
    ]
