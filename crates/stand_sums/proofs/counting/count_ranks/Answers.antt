use Rattle.std.proofs.Common.{◌≡◌, ◌∙◌, ℕ, inl, inr, Bool, Some, List, get_or, take, sym, ap, subst, arith, rules, refl}
use Rattle.std.specs.List.{slice_get}
use Rattle.std.proofs.lemmas.Bool.{cases_eq}
use Rattle.std.proofs.lemmas.List.{take_all}
use Rattle.stand_sums.specs.declared.sum.Sum.{Sum}
use Rattle.stand_sums.specs.Kept.{met, behind_ranks}
use Rattle.stand_sums.proofs.SumLemmas.{this-rank, other-rank}
use Rattle.stand_sums.proofs.counting.count_ranks.Goals as goal

pub loop-rank-init : goal.loop-rank-init
loop-rank-init c = record {
  room = refl;
  sums = c.requires.sums;
  counted = λ rank before at. at;
}

pub loop-rank-preserved : goal.loop-rank-preserved
loop-rank-preserved c =
    let ranks : List ℕ = c.args.ranks.now in
    let k : ℕ = c.loop-rank.rank-index in
    let inside = c.loop-rank-test.true in
    let opening : ℕ → Bool = λ _. c.args.opening in
    let ending : ℕ → Bool = λ _. c.args.ending in
    record {
      room = search rules;
      sums = search rules;
      counted = λ rank before at.
          let done : Sum = behind_ranks opening ending c.args.counted rank (take k ranks) before in
          let there = c.loop-rank.invariant.counted rank before at in
          elim (cases_eq (get_or ranks k 0) rank) [
            | inl same ↦
                subst (λ (r : ℕ). slice_get c.count_rank.new.sums r ≡ Some (met c.args.counted c.args.opening c.args.ending done)) same
                (c.in_ok-count_rank.ensures.this done (ap (slice_get c.loop-rank.sums) same ∙ there))
                ∙ ap Some (this-rank opening ending c.args.counted ranks c.requires.once k inside rank before same)
            | inr other ↦
                c.in_ok-count_rank.ensures.others rank (λ same. other (sym same)) ∙ there
                ∙ ap Some (other-rank opening ending c.args.counted ranks c.requires.once k inside rank before other)
          ];
    }

pub returns-clause-counted : goal.returns-clause-counted
returns-clause-counted c rank before at =
    c.loop-rank.invariant.counted rank before at
    ∙ ap (λ (l : List ℕ). Some (behind_ranks (λ _. c.args.opening) (λ _. c.args.ending) c.args.counted rank l before)) (take_all c.loop-rank.rank-index c.args.ranks.now (omega arith))
