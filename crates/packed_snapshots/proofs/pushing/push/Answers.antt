use Rattle.std.proofs.Common.{◌≡◌, ◌++◌, ◌∙◌, ap, subst, arith}
use Rattle.packed_snapshots.specs.Snapshots.{start}
use Rattle.packed_snapshots.specs.Numbers.{IsNumber}
use Rattle.packed_snapshots.proofs.SnapshotLemmas.{IsPacked-push, last_place-append}
use Rattle.packed_snapshots.proofs.pushing.push.Goals as goal

pub returns-clause-ok : goal.returns-clause-ok
returns-clause-ok c list is same =
    let (first, is_first, to_first) = c.push_number.ensures.bytes in
    let (second, is_second, to_second) = c.push_number-2.ensures.bytes in
    let (third, is_third, to_third) = c.push_number-3.ensures.bytes in
    let written : c.push_number-3.new.bytes.items ≡ ((c.args.bytes.now.items ++ first) ++ second) ++ third =
    to_third ∙ ap (λ bytes. bytes ++ third) (to_second ∙ ap (λ bytes. bytes ++ second) (to_first ∙ ap (λ bytes. bytes ++ first) c.in_ok-reserve.ensures.items)) in (
      rw written (IsPacked-push list c.args.bytes.now.items c.args.before c.args.next first second third (record {
        behind = c.requires;
        held = record { sequence = omega arith; position = omega arith; state = omega arith };
        sequence = is_first;
        position = subst (λ number. IsNumber number second) c.position_step-step.ensures is_second;
        code = subst (λ number. IsNumber number third) c.code_of-code.ensures is_third;
      }) is same),
      last_place-append start list c.args.next,
    )
