use Rattle.std.proofs.Common.{◌≡◌, ◌++◌, ◌∷◌, ◌-◌, [], ℕ, List, length, take, drop, refl, sym, ap, ◌∙◌}
use Rattle.pool_schedule.specs.declared.labels.Code.{Code}
use Rattle.pool_schedule.proofs.CodingLemmas.{coded-push, labels-push}
use Rattle.pool_schedule.proofs.labels.Labels.push.Goals as goal

module _ (c : goal.After-push_reserved) where
  abbrev rest : List ℕ
  rest = take (length c.args.label.now - c.shared_length-shared.result) (drop c.shared_length-shared.result c.args.label.now)

  abbrev code : Code
  code = record { shared = c.shared_length-shared.result; fresh = length rest }

  same : take c.shared_length-shared.result c.self.inside.last.items ≡ take c.shared_length-shared.result c.args.label.now
  same = ap (take c.shared_length-shared.result) (sym c.as_slice.ensures.value) ∙ c.shared_length-shared.ensures.shared

  codes : c.push_reserved.new.self.items ≡ c.self.inside.codes.items ++ code ∷ []
  codes = c.push_reserved.ensures.items ∙ ap (λ (l : List Code). l ++ code ∷ []) c.in_ok-reserve.ensures.items

  numbers : c.extend_from_slice-2.new.self.items ≡ c.self.inside.numbers.items ++ rest
  numbers = (rw c.unwrap-2.ensures at c.extend_from_slice-2.ensures.items) ∙ ap (λ l. l ++ rest) c.in_ok-reserve-2.ensures.items

  last : c.extend_from_slice.new.self.items ≡ take c.shared_length-shared.result c.self.inside.last.items ++ rest
  last = (rw c.unwrap.ensures at c.extend_from_slice.ensures.items)
      ∙ ap (λ l. l ++ rest) (c.truncate.ensures.items ∙ ap (take c.shared_length-shared.result) c.in_ok-reserve-3.ensures.items)

pub invariant_of-self-2 : goal.invariant_of-self-2
invariant_of-self-2 c =
    rw (codes c, numbers c, last c)
    (coded-push c.self.inside.codes.items c.self.inside.numbers.items c.self.inside.last.items c.args.label.now c.shared_length-shared.result (rest c) c.self.invariant (same c) refl)

pub returns-clause-pushed : goal.returns-clause-pushed
returns-clause-pushed c =
    rw (codes c, numbers c, ← c.self.view_is)
    (labels-push c.self.inside.codes.items c.self.inside.numbers.items c.self.inside.last.items c.args.label.now c.shared_length-shared.result (rest c) c.self.invariant (same c) refl)
