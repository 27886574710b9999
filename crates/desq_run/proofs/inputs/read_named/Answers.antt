use Rattle.std.proofs.Common.{ap, ◌∙◌, subst, Err, length}
use Rattle.text_ports.specs.Faults.{Rose}
use Rattle.item_hierarchy.specs.Edges.{IsCloseRefusal}
use Rattle.desq_run.proofs.FailLemmas.{rows-fail, close-fail}
use Rattle.desq_run.proofs.ReadLemmas.{told-rows, told-refusal}
use Rattle.desq_run.proofs.inputs.read_named.Goals as goal

pub returns-in-Err-clause-fails : goal.returns-in-Err-clause-fails
returns-in-Err-clause-fails g c =
    let refused = rw c.requires.empty at c.read.ensures.refused in
    rw c.from.ensures
    (rows-fail (g.F.Files.holds c.args.files.now c.args.name.now) (Rose (g.F.Files.faults c.args.files.now) (g.F.Files.faults c.read.new.files))
    c.in-Err.fault (refused c.in-Err.fault c.in-Err.is) (λ same. c.read.ensures.failed (c.in-Err.is ∙ ap Err same)))

pub returns-in-Ok-order-clause-rows : goal.returns-in-Ok-order-clause-rows
returns-in-Ok-order-clause-rows g c =
    let grown = rw c.requires.empty at c.in-Ok.ensures.grown in
    let accepted = rw c.requires.empty at c.in-Ok.ensures.accepted in
    told-rows (g.F.Files.holds c.args.files.now c.args.name.now) c.read.new.names c.in-Ok.edges.rows.items c.in-Ok-order.ordered
    c.count-count.ensures.distinct c.in-Ok.ensures.within c.in-Ok.ensures.rows grown accepted
    (c.in-Ok-order.ensures.items ∙ c.in-Ok.ensures.items) c.in-Ok-order.ensures.rows

pub returns-in-Ok-order-clause-items : goal.returns-in-Ok-order-clause-items
returns-in-Ok-order-clause-items g c = λ h closes.
    (closes c.in-Ok.edges.rows.items c.in-Ok-order.ensures.rows).items_are ∙ c.in-Ok-order.ensures.items ∙ c.in-Ok.ensures.items

pub returns-in-Err-order-clause-fails : goal.returns-in-Err-order-clause-fails
returns-in-Err-order-clause-fails g c =
    let grown = rw c.requires.empty at c.in-Ok.ensures.grown in
    let accepted = rw c.requires.empty at c.in-Ok.ensures.accepted in
    let is : IsCloseRefusal (length c.read.new.names) c.in-Ok.edges.rows.items c.in-Err-order.fault =
    subst (λ n. IsCloseRefusal n c.in-Ok.edges.rows.items c.in-Err-order.fault) c.in-Ok.ensures.items c.in-Err-order.ensures.refusal in
    rw c.from-in-Err-order.ensures
    (close-fail (g.F.Files.holds c.args.files.now c.args.name.now) (Rose (g.F.Files.faults c.args.files.now) (g.F.Files.faults c.read.new.files))
    c.in-Err-order.fault
    (told-refusal (g.F.Files.holds c.args.files.now c.args.name.now) c.read.new.names c.in-Ok.edges.rows.items
    c.count-count.ensures.distinct c.in-Ok.ensures.within c.in-Ok.ensures.rows grown accepted c.in-Err-order.fault is))
