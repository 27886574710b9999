use Rattle.std.proofs.Common.{◌≡◌, ◌∙◌, ap, Some}
use Rattle.std.specs.List.{slice_get}
use Rattle.std.proofs.lemmas.Option.{get_or_from_slice_get}
use Rattle.sequence_grids.specs.declared.kinds.Kind.{Kind}
use Rattle.sequence_grids.proofs.GridLemmas.{both_ways}
use Rattle.sequence_grids.proofs.CutLemmas.{AreOutputs-cut}
use Rattle.sequence_grids.proofs.cuts.cut_at.Goals as goal

pub returns-clause-silent : goal.returns-clause-silent
returns-clause-silent c =
    let (kind, found, is) = c.requires.kind in
    let same : c.index.result.now ≡ kind = c.index.ensures ∙ get_or_from_slice_get c.args.all.now.kinds.kinds.items c.args.number kind c.index.result.now found in
    let (class, at_class, right) = is.class in
    let at_index : slice_get c.args.all.now.tables.classes c.index.result.now.class ≡ Some class = ap (λ (k : Kind). slice_get c.args.all.now.tables.classes k.class) same ∙ at_class in
    both_ways (c.is_silent.ensures class at_index) (right.silent c.args.k c.requires.state)

pub returns-clause-outputs : goal.returns-clause-outputs
returns-clause-outputs c =
    let (kind, found, is) = c.requires.kind in
    let cell = is.cells c.args.k c.requires.state in
    let (more, is_more, rising, cut) = c.in_ok-push_up_to.ensures.cut in
    (more, is_more, AreOutputs-cut c.args.job.now c.args.bound c.args.t c.args.k c.outputs_of.result.now more (rw (c.outputs_of.ensures kind found) cell.outputs) rising cut)
