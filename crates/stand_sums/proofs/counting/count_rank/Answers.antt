use Rattle.std.proofs.Common.{◌≡◌, ◌<◌, ◌++◌, ◌∙◌, Some, List, [], ◌∷◌, get_or, set, sym, ap, subst}
use Rattle.std.specs.List.{slice_get}
use Rattle.std.proofs.lemmas.Option.{slice_get-get_or, same_Some}
use Rattle.mine_model.proofs.ElementLemmas.{get_set_same}
use Rattle.stand_sums.specs.declared.sum.Sum.{Sum}
use Rattle.stand_sums.specs.Kept.{nothing, met, IsSum, AreSums}
use Rattle.stand_sums.proofs.SumLemmas.{met-sum, met-followed, stays-met, is-met}
use Rattle.stand_sums.proofs.counting.count_rank.Goals as goal
use Rattle.stand_sums.proofs.counting.count_rank.Goals.{then-before-eq0+in_ok-note, else-before-eq0}

pub returns-clause-sums : goal.returns-clause-sums
returns-clause-sums c =
    let sums : List Sum = c.args.sums.now in
    let before : Sum = get_or sums c.args.rank nothing in
    let after : Sum = c.count_in.new.sum in
    let at : slice_get sums c.args.rank ≡ Some before = slice_get-get_or sums c.args.rank nothing c.requires.rank in
    let is : after ≡ met c.args.counted c.args.opening c.args.ending before = c.count_in.ensures in
    let right : IsSum c.args.counted.number after =
    subst (IsSum c.args.counted.number) (sym is) (met-sum c.args.counted c.args.opening c.args.ending before (c.requires.sums.right c.args.rank before at) c.requires.weight) in
    let followed : 0 < after.followed =
    subst (λ (s : Sum). 0 < s.followed) (sym is) (met-followed c.args.counted c.args.opening c.args.ending before c.requires.some c.requires.number) in
    elim c.if-before-eq0.branch [
      | then-before-eq0+in_ok-note w ↦
          let now : c.if-before-eq0.touched.items ≡ c.args.touched.now.items ++ c.args.rank ∷ [] = ap (λ v. v.items) w.touched-is ∙ w.in_ok-note.ensures.ok in
          subst (AreSums c.args.counted.number (set sums c.args.rank after)) (sym now)
          (is-met c.args.counted.number sums c.args.touched.now.items c.requires.sums c.args.rank before after at right followed w.if-before-eq0.true)
      | else-before-eq0 w ↦
          let now : c.if-before-eq0.touched.items ≡ c.args.touched.now.items = ap (λ v. v.items) w.touched-is in
          subst (AreSums c.args.counted.number (set sums c.args.rank after)) (sym now)
          (stays-met c.args.counted.number sums c.args.touched.now.items c.requires.sums c.args.rank before after at right followed w.if-before-eq0.false)
    ]

pub returns-clause-this : goal.returns-clause-this
returns-clause-this c before at =
    let sums : List Sum = c.args.sums.now in
    let read : slice_get sums c.args.rank ≡ Some (get_or sums c.args.rank nothing) = slice_get-get_or sums c.args.rank nothing c.requires.rank in
    let same : get_or sums c.args.rank nothing ≡ before = same_Some (get_or sums c.args.rank nothing) before (sym read ∙ at) in
    get_set_same sums c.args.rank before c.count_in.new.sum at
    ∙ ap Some (c.count_in.ensures ∙ ap (met c.args.counted c.args.opening c.args.ending) same)
