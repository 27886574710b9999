use Rattle.std.proofs.Common.{◌≡◌, ◌∙◌, ◌∷◌, ◌++◌, [], Some, List, ℕ, length, sym, ap, subst, arith}
use Rattle.std.specs.List.{slice_get}
use Rattle.std.proofs.lemmas.Option.{slice_get_within}
use Rattle.mine_model.proofs.ElementLemmas.{stands_last}
use Rattle.pattern_counts.specs.Tally.{Tally}
use Rattle.pattern_counts.proofs.PatternCounts.number.Goals as goal

pub overflow_cast-result : goal.overflow_cast-result
overflow_cast-result c =
    omega (arith, slice_get_within c.self.inside.counts.tally.lists c.in-Some.number c.args.list.now c.in-Some.ensures.number, c.len-count.ensures.few)

pub returns-clause-number : goal.returns-clause-number
returns-clause-number c =
    let lists : c.append.new.self.tally.lists ≡ c.self.inside.counts.tally.lists ++ c.args.list.now ∷ [] =
    c.append.ensures.lists ∙ ap (λ (t : Tally). t.lists ++ c.args.list.now ∷ []) c.in_ok-reserve.ensures.same in
    subst (λ (l : List (List ℕ)). slice_get l c.len-count.result ≡ Some c.args.list.now) (sym lists)
    (stands_last c.self.inside.counts.tally.lists c.args.list.now c.len-count.result c.len-count.ensures.count)
