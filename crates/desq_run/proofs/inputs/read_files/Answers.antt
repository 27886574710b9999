use Rattle.std.proofs.Common.{rules, ◌≡◌, ◌∙◌, ap, Err}
use Rattle.mine_model.specs.declared.fault.Fault.TheVariants.{Read, Write, NoMemory}
use Rattle.desq_run.specs.Ends.{no_memory}
use Rattle.desq_run.proofs.inputs.read_files.Goals as goal

pub returns-in_err-names-clause-ends : goal.returns-in_err-names-clause-ends
returns-in_err-names-clause-ends g c = λ words has.
    let same : c.from_residual.result ≡ Err NoMemory = search rules in
    rw same no_memory

pub returns-in_err-hierarchy-clause-ends : goal.returns-in_err-hierarchy-clause-ends
returns-in_err-hierarchy-clause-ends g c = λ words has.
    let same : c.from_residual-in_err-hierarchy.result ≡ Err c.in_err-hierarchy.field-0.0 = search rules in
    rw same (c.in_err-hierarchy.ensures.ends words has)

pub returns-in_err-hierarchy-clause-read_fault : goal.returns-in_err-hierarchy-clause-read_fault
returns-in_err-hierarchy-clause-read_fault g c = λ file is.
    let same : c.from_residual-in_err-hierarchy.result ≡ Err c.in_err-hierarchy.field-0.0 = search rules in
    let e : c.in_err-hierarchy.field-0.0 ≡ Read file = cc in
    c.in_err-hierarchy.ensures.read_fault file (ap Err e)

pub returns-in_err-hierarchy-clause-no_write : goal.returns-in_err-hierarchy-clause-no_write
returns-in_err-hierarchy-clause-no_write g c = λ is.
    let same : c.from_residual-in_err-hierarchy.result ≡ Err c.in_err-hierarchy.field-0.0 = search rules in
    let e : c.in_err-hierarchy.field-0.0 ≡ Write = cc in
    c.in_err-hierarchy.ensures.no_write (ap Err e)

pub returns-in_err-cover-clause-ends : goal.returns-in_err-cover-clause-ends
returns-in_err-cover-clause-ends g c = λ words has.
    let same : c.from_residual-in_err-cover.result ≡ Err NoMemory = search rules in
    rw same no_memory

pub returns-clause-inputs : goal.returns-clause-inputs
returns-clause-inputs g c =
    let read = c.in_ok-hierarchy.ensures.inputs in
    record {
      known = read.known;
      added = read.added;
      behind = read.behind;
      before = read.before;
      within = read.within;
      links = c.cover.ensures.links ∙ read.links;
      hierarchy = read.hierarchy;
      sequences = read.sequences;
    }
