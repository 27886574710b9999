use Rattle.std.proofs.Common.{◌∙◌, ◌<◌, length, refl, sym, arith}
use Rattle.std.proofs.lemmas.List.{get_or_read}
use Rattle.std.proofs.lemmas.Option.{get_or_from_slice_get}
use Rattle.sequence_grids.specs.Places.{IsTableOf}
use Rattle.sequence_grids.proofs.KindLemmas.{AreKinds-grow, HasKind-grow, HasKind-at, KindsGrow-nothing}
use Rattle.sequence_grids.proofs.PlaceLemmas.{HasTriple-step, HasTriple-grow, IsTableOf-grow}
use Rattle.sequence_grids.proofs.places.push_place.Goals as goal

pub returns-clause-kinds : goal.returns-clause-kinds
returns-clause-kinds c =
    AreKinds-grow c.args.job.now c.args.bound c.args.tables.now.classes c.step.new.self.classes c.args.kinds.now c.args.kinds.now c.requires.kinds c.step.ensures.grows.classes
    (KindsGrow-nothing c.args.kinds.now) refl

pub returns-clause-table : goal.returns-clause-table
returns-clause-table c = IsTableOf-grow c.args.job.now c.args.tables.now c.step.new.self c.requires.table c.step.ensures.grows

pub returns-clause-place : goal.returns-clause-place
returns-clause-place c =
    let kinds = c.args.kinds.now in
    let number = c.index-kind.result.now in
    let known : c.args.t.0 < length kinds.numbers.items = omega (arith, c.requires.item, c.requires.kinds.all) in
    let read = get_or_read kinds.numbers.items c.args.t.0 number known c.index-kind.ensures 0 in
    let kind = HasKind-at c.args.job.now c.args.bound c.args.tables.now.classes kinds c.requires.kinds c.args.t.0 number known read (λ none. c.requires.met (sym read ∙ none)) in (
      number,
      c.push_reserved.ensures.items,
      HasKind-grow c.args.job.now c.args.bound c.args.tables.now.classes c.step.new.self.classes kinds kinds c.args.t number kind c.step.ensures.grows.classes (KindsGrow-nothing kinds),
    )

pub returns-clause-triple : goal.returns-clause-triple
returns-clause-triple c rest has =
    let table : IsTableOf c.args.job.now c.step.new.self = IsTableOf-grow c.args.job.now c.args.tables.now c.step.new.self c.requires.table c.step.ensures.grows in
    let kinds = c.args.kinds.now in
    let number = c.index-kind.result.now in
    let known : c.args.t.0 < length kinds.numbers.items = omega (arith, c.requires.item, c.requires.kinds.all) in
    let read = get_or_read kinds.numbers.items c.args.t.0 number known c.index-kind.ensures 0 in
    let was = HasKind-at c.args.job.now c.args.bound c.args.tables.now.classes kinds c.requires.kinds c.args.t.0 number known read (λ none. c.requires.met (sym read ∙ none)) in
    let kind = HasKind-grow c.args.job.now c.args.bound c.args.tables.now.classes c.step.new.self.classes kinds kinds c.args.t number was c.step.ensures.grows.classes (KindsGrow-nothing kinds) in
    let there = HasTriple-grow c.args.job.now c.args.bound c.args.tables.now.triples c.step.new.self.triples rest c.args.after has c.step.ensures.grows.triples in
    HasTriple-step c.args.job.now c.threshold-threshold.ensures.whole c.args.bound c.step.new.self table kinds c.args.t number kind c.index.result.now
    (λ k found. c.index.ensures ∙ get_or_from_slice_get kinds.kinds.items number k c.index.result.now found)
    c.args.after c.in_ok-triple.triple c.in_ok-triple.ensures.step rest there
