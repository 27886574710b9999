use Rattle.std.proofs.Common.{refl, arith}
use Rattle.group_search.specs.declared.stack.Waiting.{Waiting}
use Rattle.group_search.proofs.StackLemmas.{pushed}
use Rattle.group_search.proofs.stack.push_kid.Goals as goal

pub returns : goal.returns
returns c =
    let (more, grown, added) = c.in_ok-push_loads.ensures in
    let entry : Waiting = record { depth = c.len-depth.result; rank = c.args.rank; from = c.len-from.result; end = c.len-end.result } in (
      more,
      added,
      pushed c.args.stack.now _ c.args.rank more entry c.requires.stacked refl grown c.in_ok-push.ensures.items
          (omega (arith, c.len-depth.ensures, c.args.stack.now.prefix.ok.0)) refl (omega (arith, c.len-from.ensures, c.args.stack.now.loads.ok.0))
          (omega (arith, c.len-end.ensures, c.push_loads.new.loads.ok.0)),
    )
