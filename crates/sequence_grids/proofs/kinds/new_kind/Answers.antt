use Rattle.std.proofs.Common.{◌≡◌, ◌∙◌, ◌+◌, sym, ap, arith, refl, length, []}
use Rattle.std.specs.Global.{Vec}
use Rattle.std.proofs.lemmas.List.{append-nil}
use Rattle.sequence_grids.specs.declared.kinds.Kind.{Kind}
use Rattle.sequence_grids.specs.Grids.{Reads}
use Rattle.sequence_grids.specs.Tables.{IsClassOf}
use Rattle.sequence_grids.specs.Kinds.{Writes, Needs, IsKind, KindsGrow}
use Rattle.mine_model.proofs.ElementLemmas.{stands_last}
use Rattle.sequence_grids.proofs.KindLemmas.{Extends-nothing, entered_below, IsClassFor-of, IsKind-of}
use Rattle.sequence_grids.proofs.CutLemmas.{AreReadable-same, AreReadable-more}
use Rattle.sequence_grids.proofs.kinds.new_kind.Goals as goal
use Rattle.sequence_grids.proofs.kinds.new_kind.Goals.{In_ok-class, After-take_back}

pub returns-in_err-push_outputs-clause-readable : goal.returns-in_err-push_outputs-clause-readable
returns-in_err-push_outputs-clause-readable c =
    AreReadable-same c.args.job.now c.args.bound c.args.t c.args.kinds.now _ c.requires.readable
    (record { columns = refl; kinds = Extends-nothing c.args.kinds.now.kinds.items; ends = c.push_outputs.ensures.ends; ranks = c.push_outputs.ensures.ranks }) refl

pub returns-in_err-enter-clause-readable : goal.returns-in_err-enter-clause-readable
returns-in_err-enter-clause-readable c =
    AreReadable-same c.args.job.now c.args.bound c.args.t c.args.kinds.now _ c.requires.readable
    (record { columns = refl; kinds = Extends-nothing c.args.kinds.now.kinds.items; ends = c.push_outputs.ensures.ends; ranks = c.push_outputs.ensures.ranks }) refl

pub class_number-requires-clause-silent : goal.class_number-requires-clause-silent
class_number-requires-clause-silent c =
    rw c.as_slice.ensures.value (entered_below (λ k. Reads c.args.job.now c.args.t k []) c.enter.new.scratch.silent.items (length c.args.job.now.transducer.labels + 1)
    (length c.args.tables.now.predecessors) c.in_ok-enter.ensures.silent_are (sym c.requires.states))

pub class_number-requires-clause-writes : goal.class_number-requires-clause-writes
class_number-requires-clause-writes c =
    rw c.as_slice-2.ensures.value (entered_below (λ k. Writes c.args.job.now c.args.bound c.args.t k) c.enter.new.scratch.writes.items (length c.args.job.now.transducer.labels + 1)
    (length c.args.tables.now.predecessors) c.in_ok-enter.ensures.writes_are (sym c.requires.states))

pub class_number-requires-clause-needs : goal.class_number-requires-clause-needs
class_number-requires-clause-needs c =
    rw c.as_slice-3.ensures.value (entered_below (λ k. Needs c.args.job.now c.args.bound c.args.t k) c.enter.new.scratch.needs.items (length c.args.job.now.transducer.labels + 1)
    (length c.args.tables.now.predecessors) c.in_ok-enter.ensures.needs_are (sym c.requires.states))

pub returns-in_err-class-clause-readable : goal.returns-in_err-class-clause-readable
returns-in_err-class-clause-readable c =
    AreReadable-same c.args.job.now c.args.bound c.args.t c.args.kinds.now _ c.requires.readable
    (record { columns = refl; kinds = Extends-nothing c.args.kinds.now.kinds.items; ends = c.push_outputs.ensures.ends; ranks = c.push_outputs.ensures.ranks }) refl

pub returns-in_err-number-clause-readable : goal.returns-in_err-number-clause-readable
returns-in_err-number-clause-readable c =
    AreReadable-same c.args.job.now c.args.bound c.args.t c.args.kinds.now _ c.requires.readable
    (record { columns = refl; kinds = Extends-nothing c.args.kinds.now.kinds.items; ends = c.push_outputs.ensures.ends; ranks = c.push_outputs.ensures.ranks }) refl

pub returns-in_err-keep_hint-clause-readable : goal.returns-in_err-keep_hint-clause-readable
returns-in_err-keep_hint-clause-readable c =
    AreReadable-same c.args.job.now c.args.bound c.args.t c.args.kinds.now _ c.requires.readable
    (record { columns = refl; kinds = Extends-nothing c.args.kinds.now.kinds.items; ends = c.push_outputs.ensures.ends; ranks = c.push_outputs.ensures.ranks }) refl

pub returns-in_err-push-clause-readable : goal.returns-in_err-push-clause-readable
returns-in_err-push-clause-readable c =
    AreReadable-same c.args.job.now c.args.bound c.args.t c.args.kinds.now _ c.requires.readable
    (record { columns = refl; kinds = ([], c.in_err-push.ensures.items ∙ sym (append-nil c.args.kinds.now.kinds.items)); ends = c.push_outputs.ensures.ends; ranks = c.push_outputs.ensures.ranks }) c.in_err-push.ensures.items

-- what was found out is the kind of the item
is-kind : (c : In_ok-class) → IsKind c.args.job.now c.args.bound c.class_number.new.self.classes c.args.kinds.now.columns c.push_outputs.new.ends.items c.push_outputs.new.ranks.items c.args.t
    (record { class = c.in_ok-class.class; base = c.len-base.result })
is-kind c =
    let (class, found, are) = c.in_ok-class.ensures.class in
    let of : IsClassOf class c.enter.new.scratch.silent.items c.enter.new.scratch.writes.items c.enter.new.scratch.needs.items =
    rw (c.as_slice.ensures.value, c.as_slice-2.ensures.value, c.as_slice-3.ensures.value) at are in
    let base : c.len-base.result ≡ length c.args.kinds.now.ends.items = omega (arith, c.len-base.ensures) in
    IsKind-of c.args.job.now c.args.bound c.class_number.new.self.classes c.args.kinds.now.columns c.push_outputs.new.ends.items c.push_outputs.new.ranks.items c.args.t
    (record { class = c.in_ok-class.class; base = c.len-base.result }) (length c.args.kinds.now.ends.items) base c.requires.readable.columns_are c.in_ok-push_outputs.ensures.row class found
    (IsClassFor-of c.args.job.now c.args.bound c.args.t class c.enter.new.scratch.silent.items c.enter.new.scratch.writes.items c.enter.new.scratch.needs.items of
    c.in_ok-enter.ensures)

pub returns-clause-kind : goal.returns-clause-kind
returns-clause-kind c =
    let number : c.in_ok-number.number ≡ length c.args.kinds.now.kinds.items = omega (arith, c.in_ok-number.ensures.number, c.len.ensures) in
    let kind : Kind = record { class = c.in_ok-class.class; base = c.len-base.result } in (
      kind,
      (rw c.in_ok-push.ensures.items (stands_last c.args.kinds.now.kinds.items kind c.in_ok-number.number number)),
      is-kind (goal.at.returns-clause-kind c).In_ok-class,
    )

pub returns-clause-readable : goal.returns-clause-readable
returns-clause-readable c =
    let kind : Kind = record { class = c.in_ok-class.class; base = c.len-base.result } in
    AreReadable-more c.args.job.now c.args.bound c.args.t c.args.kinds.now _ c.class_number.new.self.classes kind c.requires.readable
    (record { columns = refl; kinds = (_, c.in_ok-push.ensures.items); ends = c.push_outputs.ensures.ends; ranks = c.push_outputs.ensures.ranks }) c.in_ok-push.ensures.items
    (is-kind (goal.at.returns-clause-readable c).In_ok-class)

pub alike_kind-requires-clause-readable : goal.alike_kind-requires-clause-readable
alike_kind-requires-clause-readable c =
    AreReadable-same c.args.job.now c.args.bound c.args.t c.args.kinds.now _ c.requires.readable
    (record { columns = refl; kinds = Extends-nothing c.args.kinds.now.kinds.items; ends = c.push_outputs.ensures.ends; ranks = c.push_outputs.ensures.ranks }) refl

pub alike_kind-requires-clause-kind : goal.alike_kind-requires-clause-kind
alike_kind-requires-clause-kind c = is-kind (goal.at.alike_kind-requires-clause-kind c).In_ok-class

pub take_back-requires-clause-columns : goal.take_back-requires-clause-columns
take_back-requires-clause-columns c = c.requires.readable.columns_are

-- what was there before stays
kept-back : (c : After-take_back) → KindsGrow c.args.kinds.now c.take_back.new.kinds
kept-back c =
    c.take_back.ensures.kept c.args.kinds.now
    (record { columns = refl; kinds = Extends-nothing c.args.kinds.now.kinds.items; ends = c.push_outputs.ensures.ends; ranks = c.push_outputs.ensures.ranks })
    (omega (arith, c.len-base.ensures)) (omega (arith, c.len-first.ensures))

pub returns-in-Some-clause-readable : goal.returns-in-Some-clause-readable
returns-in-Some-clause-readable c =
    AreReadable-same c.args.job.now c.args.bound c.args.t c.args.kinds.now c.take_back.new.kinds c.requires.readable (kept-back (goal.at.returns-in-Some-clause-readable c).After-take_back)
    (ap (λ (found : Vec Kind). found.items) c.take_back.ensures.kinds)

pub returns-in-Some-clause-grow : goal.returns-in-Some-clause-grow
returns-in-Some-clause-grow c = kept-back (goal.at.returns-in-Some-clause-grow c).After-take_back
