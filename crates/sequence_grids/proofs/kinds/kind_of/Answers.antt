use Rattle.std.proofs.Common.{◌≡◌, ◌∙◌, ℕ, ◌+◌, ◌<◌, sym, ap, arith, refl, List, length, []}
use Rattle.std.specs.Global.{Vec}
use Rattle.std.specs.List.{slice_index}
use Rattle.std.proofs.lemmas.List.{append-nil}
use Rattle.sequence_grids.specs.declared.kinds.Kind.{Kind}
use Rattle.sequence_grids.specs.Grids.{Reads}
use Rattle.sequence_grids.specs.Tables.{IsClassOf}
use Rattle.sequence_grids.specs.Kinds.{Writes, Needs, AreKinds, KindsGrow}
use Rattle.mine_model.proofs.ElementLemmas.{stands_last}
use Rattle.sequence_grids.proofs.KindLemmas.{AreKinds-grow, AreKinds-more, Extends-nothing, KindsGrow-nothing, entered_below, IsClassFor-of, IsKind-of, IsMet-set, IsMet-kept}
use Rattle.sequence_grids.proofs.kinds.kind_of.Goals as goal
use Rattle.sequence_grids.proofs.kinds.kind_of.Goals.{After-take_back}

pub returns-in_err-push_outputs-clause-kinds : goal.returns-in_err-push_outputs-clause-kinds
returns-in_err-push_outputs-clause-kinds c =
    AreKinds-grow c.args.job.now c.args.bound c.args.tables.now.classes c.args.tables.now.classes c.args.kinds.now _ c.requires.kinds (Extends-nothing c.args.tables.now.classes)
    (record { columns = refl; kinds = Extends-nothing c.args.kinds.now.kinds.items; ends = c.push_outputs.ensures.ends; ranks = c.push_outputs.ensures.ranks }) refl

pub returns-in_err-enter-clause-kinds : goal.returns-in_err-enter-clause-kinds
returns-in_err-enter-clause-kinds c =
    AreKinds-grow c.args.job.now c.args.bound c.args.tables.now.classes c.args.tables.now.classes c.args.kinds.now _ c.requires.kinds (Extends-nothing c.args.tables.now.classes)
    (record { columns = refl; kinds = Extends-nothing c.args.kinds.now.kinds.items; ends = c.push_outputs.ensures.ends; ranks = c.push_outputs.ensures.ranks }) refl

pub class_number-requires-clause-silent : goal.class_number-requires-clause-silent
class_number-requires-clause-silent c =
    rw c.as_slice.ensures.value (entered_below (λ k. Reads c.args.job.now c.args.t k []) c.enter.new.scratch.silent.items (length c.args.job.now.transducer.labels + 1)
    (length c.args.tables.now.predecessors) c.in_ok-enter.ensures.silent_are (sym c.requires.states))

pub class_number-requires-clause-writes : goal.class_number-requires-clause-writes
class_number-requires-clause-writes c =
    rw c.as_slice-2.ensures.value (entered_below (λ k. Writes c.args.job.now c.args.bound c.args.t k) c.enter.new.scratch.writes.items (length c.args.job.now.transducer.labels + 1)
    (length c.args.tables.now.predecessors) c.in_ok-enter.ensures.writes_are (sym c.requires.states))

pub class_number-requires-clause-needs : goal.class_number-requires-clause-needs
class_number-requires-clause-needs c =
    rw c.as_slice-3.ensures.value (entered_below (λ k. Needs c.args.job.now c.args.bound c.args.t k) c.enter.new.scratch.needs.items (length c.args.job.now.transducer.labels + 1)
    (length c.args.tables.now.predecessors) c.in_ok-enter.ensures.needs_are (sym c.requires.states))

pub returns-in_err-class-clause-kinds : goal.returns-in_err-class-clause-kinds
returns-in_err-class-clause-kinds c =
    AreKinds-grow c.args.job.now c.args.bound c.args.tables.now.classes c.class_number.new.self.classes c.args.kinds.now _ c.requires.kinds c.class_number.ensures.grows.classes
    (record { columns = refl; kinds = Extends-nothing c.args.kinds.now.kinds.items; ends = c.push_outputs.ensures.ends; ranks = c.push_outputs.ensures.ranks }) refl

pub returns-in_err-number-clause-kinds : goal.returns-in_err-number-clause-kinds
returns-in_err-number-clause-kinds c =
    AreKinds-grow c.args.job.now c.args.bound c.args.tables.now.classes c.class_number.new.self.classes c.args.kinds.now _ c.requires.kinds c.class_number.ensures.grows.classes
    (record { columns = refl; kinds = Extends-nothing c.args.kinds.now.kinds.items; ends = c.push_outputs.ensures.ends; ranks = c.push_outputs.ensures.ranks }) refl

pub returns-in_err-keep_hint-clause-kinds : goal.returns-in_err-keep_hint-clause-kinds
returns-in_err-keep_hint-clause-kinds c =
    AreKinds-grow c.args.job.now c.args.bound c.args.tables.now.classes c.class_number.new.self.classes c.args.kinds.now _ c.requires.kinds c.class_number.ensures.grows.classes
    (record { columns = refl; kinds = Extends-nothing c.args.kinds.now.kinds.items; ends = c.push_outputs.ensures.ends; ranks = c.push_outputs.ensures.ranks }) refl

pub returns-in_err-push-clause-kinds : goal.returns-in_err-push-clause-kinds
returns-in_err-push-clause-kinds c =
    AreKinds-grow c.args.job.now c.args.bound c.args.tables.now.classes c.class_number.new.self.classes c.args.kinds.now _ c.requires.kinds c.class_number.ensures.grows.classes
    (record { columns = refl; kinds = ([], c.in_err-push.ensures.items ∙ sym (append-nil c.args.kinds.now.kinds.items)); ends = c.push_outputs.ensures.ends; ranks = c.push_outputs.ensures.ranks }) refl

pub returns-clause-kind : goal.returns-clause-kind
returns-clause-kind c =
    let (class, found, are) = c.in_ok-class.ensures.class in
    let of : IsClassOf class c.enter.new.scratch.silent.items c.enter.new.scratch.writes.items c.enter.new.scratch.needs.items =
    rw (c.as_slice.ensures.value, c.as_slice-2.ensures.value, c.as_slice-3.ensures.value) at are in
    let number : c.in_ok-number.number ≡ length c.args.kinds.now.kinds.items = omega (arith, c.in_ok-number.ensures.number, c.len.ensures) in
    let base : c.len-base.result ≡ length c.args.kinds.now.ends.items = omega (arith, c.len-base.ensures) in
    let kind : Kind = record { class = c.in_ok-class.class; base = c.len-base.result } in (
      kind,
      (rw c.in_ok-push.ensures.items (stands_last c.args.kinds.now.kinds.items kind c.in_ok-number.number number)),
      IsKind-of c.args.job.now c.args.bound c.class_number.new.self.classes c.args.kinds.now.columns c.push_outputs.new.ends.items c.push_outputs.new.ranks.items c.args.t kind (length c.args.kinds.now.ends.items) base
          c.requires.kinds.columns_are c.in_ok-push_outputs.ensures.row class found
          (IsClassFor-of c.args.job.now c.args.bound c.args.t class c.enter.new.scratch.silent.items c.enter.new.scratch.writes.items c.enter.new.scratch.needs.items of
          c.in_ok-enter.ensures),
    )

pub returns-clause-kinds : goal.returns-clause-kinds
returns-clause-kinds c =
    let grown : AreKinds c.args.job.now c.args.bound c.class_number.new.self.classes c.args.kinds.now =
    AreKinds-grow c.args.job.now c.args.bound c.args.tables.now.classes c.class_number.new.self.classes c.args.kinds.now c.args.kinds.now c.requires.kinds c.class_number.ensures.grows.classes
    (KindsGrow-nothing c.args.kinds.now) refl in
    AreKinds-more c.args.job.now c.args.bound c.class_number.new.self.classes c.args.kinds.now _ c.args.t c.in_ok-number.number grown
    (record { columns = refl; kinds = (_, c.in_ok-push.ensures.items); ends = c.push_outputs.ensures.ends; ranks = c.push_outputs.ensures.ranks })
    (omega (arith, c.requires.item, c.requires.kinds.all)) refl (returns-clause-kind c)

pub alike-requires-clause-kinds : goal.alike-requires-clause-kinds
alike-requires-clause-kinds c =
    AreKinds-grow c.args.job.now c.args.bound c.args.tables.now.classes c.class_number.new.self.classes c.args.kinds.now _ c.requires.kinds c.class_number.ensures.grows.classes
    (record { columns = refl; kinds = Extends-nothing c.args.kinds.now.kinds.items; ends = c.push_outputs.ensures.ends; ranks = c.push_outputs.ensures.ranks }) refl

pub alike-requires-clause-kind : goal.alike-requires-clause-kind
alike-requires-clause-kind c =
    let (class, found, are) = c.in_ok-class.ensures.class in
    let of : IsClassOf class c.enter.new.scratch.silent.items c.enter.new.scratch.writes.items c.enter.new.scratch.needs.items =
    rw (c.as_slice.ensures.value, c.as_slice-2.ensures.value, c.as_slice-3.ensures.value) at are in
    let base : c.len-base.result ≡ length c.args.kinds.now.ends.items = omega (arith, c.len-base.ensures) in
    IsKind-of c.args.job.now c.args.bound c.class_number.new.self.classes c.args.kinds.now.columns c.push_outputs.new.ends.items c.push_outputs.new.ranks.items c.args.t
    (record { class = c.in_ok-class.class; base = c.len-base.result }) (length c.args.kinds.now.ends.items) base c.requires.kinds.columns_are c.in_ok-push_outputs.ensures.row class found
    (IsClassFor-of c.args.job.now c.args.bound c.args.t class c.enter.new.scratch.silent.items c.enter.new.scratch.writes.items c.enter.new.scratch.needs.items of
    c.in_ok-enter.ensures)

pub take_back-requires-clause-columns : goal.take_back-requires-clause-columns
take_back-requires-clause-columns c = c.requires.kinds.columns_are

-- what was there before stays
kept-back : (c : After-take_back) → KindsGrow c.args.kinds.now c.take_back.new.kinds
kept-back c =
    c.take_back.ensures.kept c.args.kinds.now
    (record { columns = refl; kinds = Extends-nothing c.args.kinds.now.kinds.items; ends = c.push_outputs.ensures.ends; ranks = c.push_outputs.ensures.ranks })
    (omega (arith, c.len-base.ensures)) (omega (arith, c.len-first.ensures))

numbers-back : (c : After-take_back) → c.take_back.new.kinds.numbers.items ≡ c.args.kinds.now.numbers.items
numbers-back c = ap (λ (found : Vec ℕ). found.items) c.take_back.ensures.numbers

inside-back : (c : After-take_back) → c.args.t.0 < length c.take_back.new.kinds.numbers.items
inside-back c = omega (arith, c.requires.item, c.requires.kinds.all, ap length (numbers-back c))

pub returns-in-Some-clause-grow : goal.returns-in-Some-clause-grow
returns-in-Some-clause-grow c =
    let grow = kept-back (goal.at.returns-in-Some-clause-grow c).After-take_back in
    record { columns = grow.columns; kinds = grow.kinds; ends = grow.ends; ranks = grow.ranks }

pub returns-in-Some-clause-kinds : goal.returns-in-Some-clause-kinds
returns-in-Some-clause-kinds c =
    let at : After-take_back = (goal.at.returns-in-Some-clause-kinds c).After-take_back in
    let kinds = c.take_back.new.kinds in
    let grown : AreKinds c.args.job.now c.args.bound c.class_number.new.self.classes kinds =
    AreKinds-grow c.args.job.now c.args.bound c.args.tables.now.classes c.class_number.new.self.classes c.args.kinds.now kinds c.requires.kinds c.class_number.ensures.grows.classes
    (kept-back at) (numbers-back at) in
    AreKinds-more c.args.job.now c.args.bound c.class_number.new.self.classes kinds _ c.args.t c.in-Some.number grown
    (record { columns = refl; kinds = Extends-nothing kinds.kinds.items; ends = Extends-nothing kinds.ends.items; ranks = Extends-nothing kinds.ranks.items })
    (inside-back at) refl c.take_back.ensures.kind

pub returns-in-Some-clause-met : goal.returns-in-Some-clause-met
returns-in-Some-clause-met c = IsMet-set c.take_back.new.kinds.numbers.items c.args.t.0 c.in-Some.number (inside-back (goal.at.returns-in-Some-clause-met c).After-take_back) c.in-Some.ensures.some

pub returns-in-Some-clause-kept : goal.returns-in-Some-clause-kept
returns-in-Some-clause-kept c other met =
    let at : After-take_back = (goal.at.returns-in-Some-clause-kept c).After-take_back in
    IsMet-kept c.take_back.new.kinds.numbers.items c.args.t.0 c.in-Some.number (inside-back at) c.in-Some.ensures.some other.0
    (λ none. met (ap (λ (ns : List ℕ). slice_index ns other.0) (sym (numbers-back at)) ∙ none))

pub returns-clause-met : goal.returns-clause-met
returns-clause-met c = IsMet-set c.args.kinds.now.numbers.items c.args.t.0 c.in_ok-number.number (omega (arith, c.requires.item, c.requires.kinds.all)) c.in_ok-number.ensures.some

pub returns-clause-kept : goal.returns-clause-kept
returns-clause-kept c other = IsMet-kept c.args.kinds.now.numbers.items c.args.t.0 c.in_ok-number.number (omega (arith, c.requires.item, c.requires.kinds.all)) c.in_ok-number.ensures.some other.0
