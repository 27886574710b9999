use Rattle.std.proofs.Common.{◌∙◌}
use Rattle.std.proofs.lemmas.Option.{get_or_from_slice_get}
use Rattle.sequence_grids.specs.Places.{IsTableOf}
use Rattle.sequence_grids.proofs.KindLemmas.{HasKind-grow, KindsGrow-nothing, Extends-twice}
use Rattle.sequence_grids.proofs.PlaceLemmas.{HasTriple-step, HasTriple-grow, IsTableOf-grow}
use Rattle.sequence_grids.proofs.CutLemmas.{AreCuts-grow}
use Rattle.sequence_grids.proofs.cuts.push_place.Goals as goal

pub returns-in_err-triple-clause-cuts : goal.returns-in_err-triple-clause-cuts
returns-in_err-triple-clause-cuts c =
    AreCuts-grow c.args.job.now c.args.bound c.cut_kind.new.tables.classes c.step.new.self.classes c.cut_kind.new.kinds c.cut_kind.new.kinds c.args.all.now c.cut_kind.new.cuts c.cut_kind.ensures.cuts
    c.cut_kind.ensures.cuts.readable c.step.ensures.grows.classes (KindsGrow-nothing c.cut_kind.new.kinds)

pub returns-clause-cuts : goal.returns-clause-cuts
returns-clause-cuts c =
    AreCuts-grow c.args.job.now c.args.bound c.cut_kind.new.tables.classes c.step.new.self.classes c.cut_kind.new.kinds c.cut_kind.new.kinds c.args.all.now c.cut_kind.new.cuts c.cut_kind.ensures.cuts
    c.cut_kind.ensures.cuts.readable c.step.ensures.grows.classes (KindsGrow-nothing c.cut_kind.new.kinds)

pub returns-clause-table : goal.returns-clause-table
returns-clause-table c =
    IsTableOf-grow c.args.job.now c.cut_kind.new.tables c.step.new.self (IsTableOf-grow c.args.job.now c.args.tables.now c.cut_kind.new.tables c.requires.table c.cut_kind.ensures.tables) c.step.ensures.grows

pub returns-clause-place : goal.returns-clause-place
returns-clause-place c = (
  c.in_ok-kind.kind,
  c.push_reserved.ensures.items,
  HasKind-grow c.args.job.now c.args.bound c.cut_kind.new.tables.classes c.step.new.self.classes c.cut_kind.new.kinds c.cut_kind.new.kinds c.args.t c.in_ok-kind.kind c.in_ok-kind.ensures.kind
      c.step.ensures.grows.classes (KindsGrow-nothing c.cut_kind.new.kinds),
)

pub returns-clause-triple : goal.returns-clause-triple
returns-clause-triple c rest has =
    let kinds = c.cut_kind.new.kinds in
    let number = c.in_ok-kind.kind in
    let table : IsTableOf c.args.job.now c.step.new.self =
    IsTableOf-grow c.args.job.now c.cut_kind.new.tables c.step.new.self (IsTableOf-grow c.args.job.now c.args.tables.now c.cut_kind.new.tables c.requires.table c.cut_kind.ensures.tables) c.step.ensures.grows in
    let kind = HasKind-grow c.args.job.now c.args.bound c.cut_kind.new.tables.classes c.step.new.self.classes kinds kinds c.args.t number c.in_ok-kind.ensures.kind c.step.ensures.grows.classes (KindsGrow-nothing kinds) in
    let there = HasTriple-grow c.args.job.now c.args.bound c.args.tables.now.triples c.step.new.self.triples rest c.args.after has
    (Extends-twice c.args.tables.now.triples c.cut_kind.new.tables.triples c.step.new.self.triples c.cut_kind.ensures.tables.triples c.step.ensures.grows.triples) in
    HasTriple-step c.args.job.now c.threshold-threshold.ensures.whole c.args.bound c.step.new.self table kinds c.args.t number kind c.index.result.now
    (λ k found. c.index.ensures ∙ get_or_from_slice_get kinds.kinds.items number k c.index.result.now found)
    c.args.after c.in_ok-triple.triple c.in_ok-triple.ensures.step rest there
