use Rattle.std.proofs.Common.{◌<◌, length, arith}
use Rattle.std.proofs.lemmas.List.{get_or_read}
use Rattle.sequence_grids.specs.Kinds.{HasKind}
use Rattle.sequence_grids.specs.Wholes.{whole_bound}
use Rattle.sequence_grids.specs.Cuts.{AreCuts}
use Rattle.sequence_grids.proofs.KindLemmas.{HasKind-at}
use Rattle.sequence_grids.proofs.CutLemmas.{AreCuts-grow, AreCuts-set}
use Rattle.sequence_grids.proofs.cuts.cut_kind.Goals as goal

pub returns-then-whole-clause-cuts : goal.returns-then-whole-clause-cuts
returns-then-whole-clause-cuts c =
    AreCuts-grow c.args.job.now c.args.bound c.args.tables.now.classes c.new_kind.new.tables.classes c.args.kinds.now c.new_kind.new.kinds c.args.all.now c.args.cuts.now c.requires.cuts
    c.new_kind.ensures.readable c.new_kind.ensures.tables.classes c.new_kind.ensures.grow

pub returns-in_err-number-clause-cuts : goal.returns-in_err-number-clause-cuts
returns-in_err-number-clause-cuts c =
    AreCuts-grow c.args.job.now c.args.bound c.args.tables.now.classes c.new_kind-2.new.tables.classes c.args.kinds.now c.new_kind-2.new.kinds c.args.all.now c.args.cuts.now c.requires.cuts
    c.new_kind-2.ensures.readable c.new_kind-2.ensures.tables.classes c.new_kind-2.ensures.grow

pub returns-clause-cuts : goal.returns-clause-cuts
returns-clause-cuts c =
    let job = c.args.job.now in
    let all = c.args.all.now in
    let whole = c.index-whole.result.now in
    let items = c.requires.alphabet.kinds_are.all in
    let inside : c.args.t.0 < length all.kinds.numbers.items = omega (arith, c.requires.item, items) in
    let has : HasKind job (whole_bound job) all.tables.classes all.kinds c.args.t whole =
    HasKind-at job (whole_bound job) all.tables.classes all.kinds c.requires.alphabet.kinds_are c.args.t.0 whole inside (get_or_read all.kinds.numbers.items c.args.t.0 whole inside c.index-whole.ensures 0) c.if-whole.false in
    let grown : AreCuts job c.args.bound c.new_kind-2.new.tables.classes c.new_kind-2.new.kinds all c.args.cuts.now =
    AreCuts-grow job c.args.bound c.args.tables.now.classes c.new_kind-2.new.tables.classes c.args.kinds.now c.new_kind-2.new.kinds all c.args.cuts.now c.requires.cuts
    c.new_kind-2.ensures.readable c.new_kind-2.ensures.tables.classes c.new_kind-2.ensures.grow in
    AreCuts-set job c.args.bound c.new_kind-2.new.tables.classes c.new_kind-2.new.kinds all c.args.cuts.now whole c.in_ok-number.number c.args.t grown
    (omega (arith, c.if-whole-cuts.false)) has c.in_ok-number.ensures.kind
