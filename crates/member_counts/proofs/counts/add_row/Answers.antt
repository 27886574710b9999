use Rattle.std.proofs.Common.{◌≡◌, ◌+◌, List, [], ◌∷◌, ◌++◌, None, ◌∙◌, ap, subst, arith}
use Rattle.std.proofs.lemmas.List.{take_at}
use Rattle.member_counts.specs.declared.digits.Digits.{Digits}
use Rattle.member_counts.specs.Digits.{bit_in}
use Rattle.member_counts.specs.Counts.{count_in}
use Rattle.member_counts.proofs.CountLemmas.{count_in-carried}
use Rattle.member_counts.proofs.counts.add_row.Goals as goal

pub returns-in_ok-push-clause-ok : goal.returns-in_ok-push-clause-ok
returns-in_ok-push-clause-ok g c q =
    let written = take_at c.carry_row.new.digits _ c.reserve.new.self.len (omega arith) in
    subst (λ (ds : List (Digits g.row.W)). count_in c.push.new.self.items q ≡ count_in ds q + bit_in c.args.row q) (c.as_mut_slice.ensures.value ∙ c.in_ok-reserve.ensures.items)
    (count_in-carried {W = g.row.W} c.as_mut_slice.result.now c.carry_row.new.digits c.push.new.self.items c.in-Some.bits q (bit_in c.args.row q) (omega arith) (c.in-Some.ensures q) (c.in_ok-push.ensures.items ∙ ap (λ (ds : List (Digits g.row.W)). ds ++ record { bits = c.in-Some.bits; waiting = None } ∷ []) written))
