use Rattle.std.proofs.Common.{rules, ◌≡◌, ◌∙◌, ◌+◌, ◌<◌, ℕ, List, [], length, get_or, ap, subst, refl, arith, Some}
use Rattle.std.specs.List.{slice_get, slice_index}
use Rattle.std.proofs.lemmas.List.{get_or_read}
use Rattle.std.proofs.lemmas.Option.{slice_get_read}
use Rattle.fst_compile.specs.Transducer.{Transducer}
use Rattle.sequence_grids.specs.declared.kinds.Act.{Act}
use Rattle.sequence_grids.specs.Columns.{IsColumnOf}
use Rattle.sequence_grids.specs.Grids.{Reads}
use Rattle.sequence_grids.specs.Kinds.{IsAct, Writes, Needs, AreEntered}
use Rattle.sequence_grids.proofs.KindLemmas.{entered_more, IsAct-alike}
use Rattle.sequence_grids.proofs.kinds.enter.Goals as goal
use Rattle.sequence_grids.proofs.kinds.enter.Goals.{After-index-column}

pub index-column-requires : goal.index-column-requires
index-column-requires c =
    let all = c.requires.columns.all in
    let states : c.states-k-end.result ≡ length c.args.job.now.transducer.labels + 1 = c.states-k-end.ensures.states ∙ ap (λ (m : Transducer). length m.labels + 1) c.fst.ensures.transducer in
    let inside : c.loop-k.k < length c.args.columns.now.numbers.items = omega (arith, all, states, c.loop-k-test.true) in
    search rules

-- the column of the state
the_column : (c : After-index-column) → (c.index-column.result.now ≡ slice_index c.args.columns.now.numbers.items c.loop-k.k)
    × IsColumnOf c.args.job.now.transducer.labels c.args.columns.now.heads.items c.loop-k.k (slice_index c.args.columns.now.numbers.items c.loop-k.k)
the_column c =
    let all = c.requires.columns.all in
    let states : c.states-k-end.result ≡ length c.args.job.now.transducer.labels + 1 = c.states-k-end.ensures.states ∙ ap (λ (m : Transducer). length m.labels + 1) c.fst.ensures.transducer in
    let inside : c.loop-k.k < length c.args.columns.now.numbers.items = omega (arith, all, states, c.loop-k-test.true) in (
      get_or_read c.args.columns.now.numbers.items c.loop-k.k c.index-column.result.now inside c.index-column.ensures 0,
      c.requires.columns.numbers_are c.loop-k.k c.loop-k.invariant.least (omega (arith, all, inside)),
    )

act_inside : (c : After-index-column) → c.index-column.result.now < length c.loop-k.scratch.acts.items
act_inside c =
    let (is, of) = the_column c in
    let below = of.0 in
    let long = c.requires.acts.long in
    let same : length c.loop-k.scratch.acts.items ≡ length c.args.scratch.now.acts.items = ap length c.loop-k.invariant.acts in
    omega (arith, is, below, long, same)

pub index-act-requires : goal.index-act-requires
index-act-requires c =
    let inside : c.index-column.result.now < length c.loop-k.scratch.acts.items = act_inside (goal.at.index-act-requires c).After-index-column in
    search rules

pub loop-k-preserved : goal.loop-k-preserved
loop-k-preserved c =
    let (is, of) = the_column (goal.at.loop-k-preserved c).After-index-column in
    let inside : c.index-column.result.now < length c.args.scratch.now.acts.items =
    subst (λ (xs : List Act). c.index-column.result.now < length xs) c.loop-k.invariant.acts (act_inside (goal.at.loop-k-preserved c).After-index-column) in
    let there : slice_get c.args.scratch.now.acts.items c.index-column.result.now ≡ Some c.index-act.result.now =
    slice_get_read c.args.scratch.now.acts.items (length c.args.scratch.now.acts.items) c.index-column.result.now c.index-act.result.now refl inside
    (c.index-act.ensures ∙ ap (λ (xs : List Act). get_or xs c.index-column.result.now c.index-act.result.now) c.loop-k.invariant.acts) in
    let act : IsAct c.args.job.now c.args.bound c.args.t c.loop-k.k c.index-act.result.now =
    IsAct-alike c.args.job.now c.args.bound c.args.t (slice_index c.args.columns.now.heads.items (slice_index c.args.columns.now.numbers.items c.loop-k.k)) c.loop-k.k of.1 c.index-act.result.now
    (subst (λ (n : ℕ). IsAct c.args.job.now c.args.bound c.args.t (slice_index c.args.columns.now.heads.items n) c.index-act.result.now) is
    (c.requires.acts.are c.index-column.result.now c.index-act.result.now there)) in
    let least = c.loop-k.invariant.least in
    let entered = c.loop-k.invariant.entered in
    record {
      least = omega arith;
      acts = c.loop-k.invariant.acts;
      entered = record {
        silent_are = entered_more (λ k. Reads c.args.job.now c.args.t k []) c.loop-k.scratch.silent.items c.push_if.new.list.items c.loop-k.k c.index-act.result.now.silent least entered.silent_are
            c.in_ok-push_if.ensures act.silent;
        writes_are = entered_more (λ k. Writes c.args.job.now c.args.bound c.args.t k) c.loop-k.scratch.writes.items c.push_if-in-loop-k.new.list.items c.loop-k.k c.index-act.result.now.writes least entered.writes_are
            c.in_ok-push_if-2.ensures act.writes;
        needs_are = entered_more (λ k. Needs c.args.job.now c.args.bound c.args.t k) c.loop-k.scratch.needs.items c.push_if-in-loop-k-2.new.list.items c.loop-k.k c.index-act.result.now.needs least entered.needs_are
            c.in_ok-push_if-3.ensures act.needs;
      };
    }

pub returns : goal.returns
returns c =
    let states : c.states-k-end.result ≡ length c.args.job.now.transducer.labels + 1 = c.states-k-end.ensures.states ∙ ap (λ (m : Transducer). length m.labels + 1) c.fst.ensures.transducer in
    let last : c.loop-k.k ≡ length c.args.job.now.transducer.labels + 1 = omega (arith, states, c.loop-k-test.false, c.loop-k.auto.k-end) in
    subst (λ (count : ℕ). AreEntered c.args.job.now c.args.bound c.args.t count c.loop-k.scratch.silent.items c.loop-k.scratch.writes.items c.loop-k.scratch.needs.items) last c.loop-k.invariant.entered
