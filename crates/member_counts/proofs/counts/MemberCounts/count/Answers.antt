use Rattle.std.proofs.Common.{◌≡◌, List, ℕ, get_or, ap, arith}
use Rattle.member_counts.specs.declared.digits.Digits.{Digits}
use Rattle.member_counts.specs.Counts.{count_in, counts_in}
use Rattle.member_counts.proofs.CountLemmas.{get_or-counts_in, sets_with-take_le}
use Rattle.member_counts.proofs.counts.MemberCounts.count.Goals as goal

pub overflow_add-result : goal.overflow_add-result
overflow_add-result g c =
    omega (arith, c.self.invariant.few c.args.member c.requires, c.waiting_count-waiting.ensures, c.count.ensures, sets_with-take_le c.self.inside.waiting c.self.inside.filled c.args.member)

pub overflow_add-result-2 : goal.overflow_add-result-2
overflow_add-result-2 g c =
    let digits : count_in c.as_slice.result.now c.args.member ≡ count_in c.self.inside.digits.items c.args.member =
    ap (λ (ds : List (Digits g.row.W)). count_in ds c.args.member) c.as_slice.ensures.value in
    omega (
      arith,
      digits,
      c.digits_count.ensures,
      c.self.invariant.few c.args.member c.requires,
      c.waiting_count-waiting.ensures,
      c.count.ensures,
      sets_with-take_le c.self.inside.waiting c.self.inside.filled c.args.member,
    )

pub returns : goal.returns
returns g c =
    let member : ℕ = c.args.member in
    let viewed : get_or (counts_in g.row.W c.self.inside.waiting c.self.inside.filled c.self.inside.low c.self.inside.digits.items) member 0 ≡ get_or c.args.self.now member 0 =
    ap (λ (cs : List ℕ). get_or cs member 0) c.self.view_is in
    let counted = get_or-counts_in {W = g.row.W} c.self.inside.waiting c.self.inside.filled c.self.inside.low c.self.inside.digits.items member c.requires in
    let digits : count_in c.as_slice.result.now member ≡ count_in c.self.inside.digits.items member = ap (λ (ds : List (Digits g.row.W)). count_in ds member) c.as_slice.ensures.value in
    omega (arith, viewed, counted, digits, c.digits_count.ensures, c.waiting_count-waiting.ensures, c.count.ensures)
