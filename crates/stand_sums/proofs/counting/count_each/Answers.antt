use Rattle.std.proofs.Common.{◌≡◌, ◌∙◌, ℕ, inl, inr, Bool, false, Some, List, get_or, take, sym, ap, subst, arith}
use Rattle.std.specs.List.{slice_get}
use Rattle.std.proofs.lemmas.Bool.{cases_eq}
use Rattle.std.proofs.lemmas.List.{take_all}
use Rattle.stand_sums.specs.declared.sum.Sum.{Sum}
use Rattle.stand_sums.specs.Writings.{goes_on, stops}
use Rattle.stand_sums.specs.Kept.{met, behind_ranks}
use Rattle.stand_sums.proofs.SumLemmas.{this-rank, quiet-rank, other-rank}
use Rattle.stand_sums.proofs.counting.count_each.Goals as goal
use Rattle.stand_sums.proofs.counting.count_each.Goals.{then-opening+in_ok-count_rank, else-opening+else-ending}

pub loop-rank-preserved : goal.loop-rank-preserved
loop-rank-preserved c =
    let ranks : List ℕ = c.args.ranks.now in
    let k : ℕ = c.loop-rank.rank-index in
    let inside = c.loop-rank-test.true in
    let opening : ℕ → Bool = λ other. goes_on c.args.aim other c.args.action in
    let ending : ℕ → Bool = λ other. stops c.args.aim other c.args.action in
    elim c.if-opening.branch [
      | then-opening+in_ok-count_rank w ↦ rw (w.sums-is, w.touched-is) (record {
        room = w.in_ok-count_rank.ensures.room ∙ c.loop-rank.invariant.room;
        sums = w.in_ok-count_rank.ensures.sums;
        counted = λ rank before at.
            let done : Sum = behind_ranks opening ending c.args.counted rank (take k ranks) before in
            let there = c.loop-rank.invariant.counted rank before at in
            elim (cases_eq (get_or ranks k 0) rank) [
              | inl same ↦
                  subst (λ (r : ℕ). slice_get w.count_rank.new.sums r ≡ Some (met c.args.counted c.goes_on-opening.result c.stops-ending.result done)) same
                  (w.in_ok-count_rank.ensures.this done (ap (slice_get c.loop-rank.sums) same ∙ there))
                  ∙ ap Some
                  (ap (λ (b : Bool). met c.args.counted b c.stops-ending.result done) (c.goes_on-opening.ensures ∙ ap opening same)
                  ∙ ap (λ (b : Bool). met c.args.counted (opening rank) b done) (c.stops-ending.ensures ∙ ap ending same)
                  ∙ this-rank opening ending c.args.counted ranks c.requires.once k inside rank before same)
              | inr other ↦
                  w.in_ok-count_rank.ensures.others rank (λ same. other (sym same)) ∙ there
                  ∙ ap Some (other-rank opening ending c.args.counted ranks c.requires.once k inside rank before other)
            ];
      })
      | else-opening+else-ending w ↦ rw (w.sums-is, w.touched-is) (record {
        room = c.loop-rank.invariant.room;
        sums = c.loop-rank.invariant.sums;
        counted = λ rank before at.
            c.loop-rank.invariant.counted rank before at
            ∙ ap Some (elim (cases_eq (get_or ranks k 0) rank) [
              | inl same ↦
                  let closed : opening rank ≡ false = sym (c.goes_on-opening.ensures ∙ ap opening same) ∙ w.if-opening.false in
                  let stays : ending rank ≡ false = sym (c.stops-ending.ensures ∙ ap ending same) ∙ w.if-ending.false in
                  quiet-rank opening ending c.args.counted ranks c.requires.once k inside rank before same closed stays
              | inr other ↦ other-rank opening ending c.args.counted ranks c.requires.once k inside rank before other
            ]);
      })
    ]

pub returns-clause-counted : goal.returns-clause-counted
returns-clause-counted c rank before at =
    let opening : ℕ → Bool = λ other. goes_on c.args.aim other c.args.action in
    let ending : ℕ → Bool = λ other. stops c.args.aim other c.args.action in
    c.loop-rank.invariant.counted rank before at
    ∙ ap (λ (l : List ℕ). Some (behind_ranks opening ending c.args.counted rank l before)) (take_all c.loop-rank.rank-index c.args.ranks.now (omega arith))
