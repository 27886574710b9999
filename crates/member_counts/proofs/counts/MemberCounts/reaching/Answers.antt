use Rattle.std.proofs.Common.{◌≡◌, ◌*◌, ◌<◌, ◌++◌, List, ℕ, get_or, ap, arith}
use Rattle.member_counts.specs.declared.digits.Digits.{Digits}
use Rattle.member_counts.specs.Counts.{count_in, counts_in}
use Rattle.member_counts.proofs.CountLemmas.{get_or-counts_in, three-count}
use Rattle.member_counts.proofs.counts.MemberCounts.reaching.Goals as goal

pub returns : goal.returns
returns g c q =
    let inside_is = c.self.inside in
    let is : q < 64 * g.row.W → get_or c.args.self.now q 0 ≡ count_in (c.with-low.result ++ c.as_slice.result.now) q = λ inside.
    let viewed : get_or (counts_in g.row.W inside_is.waiting inside_is.filled inside_is.low inside_is.digits.items) q 0 ≡ get_or c.args.self.now q 0 = ap (λ (cs : List ℕ). get_or cs q 0) c.self.view_is in
    let counted = get_or-counts_in {W = g.row.W} inside_is.waiting inside_is.filled inside_is.low inside_is.digits.items q inside in
    let digits : count_in c.as_slice.result.now q ≡ count_in inside_is.digits.items q = ap (λ (ds : List (Digits g.row.W)). count_in ds q) c.as_slice.ensures.value in
    omega (arith, viewed, counted, digits, c.with-low.ensures q inside, three-count {W = g.row.W} c.with-low.result c.as_slice.result.now q (omega arith)) in (
      (λ has.
          let (member, up) = (c.reaching.ensures q).0 has in
          let inside = (c.self.invariant.known q).0 member in
          let same = is inside in
          (inside, omega (arith, up, same))),
      (λ (inside, up).
          let same = is inside in
          (c.reaching.ensures q).1 ((c.self.invariant.known q).1 inside, omega (arith, up, same))),
    )
