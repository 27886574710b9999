use Rattle.std.proofs.Common.{◌++◌, sym, subst, refl}
use Rattle.sequence_reader.specs.declared.reading.Reading.{Reading}
use Rattle.sequence_reader.specs.declared.joining.Waiting.{Waiting}
use Rattle.sequence_reader.specs.Taking.{IsTaken, with_waiting}
use Rattle.sequence_reader.proofs.JoiningLemmas.{waiting-joined}
use Rattle.sequence_reader.proofs.joining.number.Goals as goal

pub returns-clause-joined : goal.returns-clause-joined
returns-clause-joined c _ names old earlier lines added weighted size is taken own =
    let last : Waiting = record { known = c.args.known; own = c.intern_all.new.items; db = c.args.piece.db } in
    let all : Reading = record { weighted = c.args.all.now.weighted; names = c.intern_all.new.self; items = c.args.all.now.items; db = c.args.all.now.db } in
    subst (λ pieces. IsTaken names weighted (earlier ++ lines) (with_waiting all pieces)) (sym c.in_ok-push.ensures.items)
    (waiting-joined names old added weighted earlier lines c.args.all.now all c.args.piece c.args.waiting.now.items last is taken own (sym size) refl c.in-Ok.ensures.items c.in-Ok.ensures.grown c.in-Ok.ensures.room refl refl c.requires.few)
