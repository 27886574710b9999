-- Choices one by one.
use Rattle.std.proofs.Common.{◌≡◌, ℕ, suc, ◌+◌, ◌-◌, ◌/◌, ◌^◌, ◌<◌, ◌≤◌, List, [], ◌∷◌, ◌++◌, refl, sym, ap, ap₂, ◌∙◌, arith}
use Rattle.std.proofs.lemmas.List.{append_assoc, append-nil}
use Rattle.mine_model.specs.Draws.{next_state}
use Rattle.search_engine.specs.Choices.{choices_from}

pub choices_from-none : (state : ℕ) → choices_from 0 state ≡ []
unfolding choices_from
choices_from-none state = refl

choices_from-more : (more state : ℕ) → choices_from (suc more) state ≡ next_state state / 2 ^ 33 ∷ choices_from more (next_state state)
unfolding choices_from
choices_from-more more state = refl

-- of so many choices one more is made
pub choices_from-next : (made count state next choice : ℕ) (choices longer : List ℕ) → made < count → next ≡ next_state state → choice ≡ next / 2 ^ 33
    → longer ≡ choices ++ choice ∷ [] → longer ++ choices_from (count - (made + 1)) next ≡ choices ++ choices_from (count - made) state
choices_from-next made count state next choice choices longer less is_next is_choice is =
    let left : suc (count - (made + 1)) ≡ count - made = omega arith in
    ap (λ l. l ++ choices_from (count - (made + 1)) next) is
    ∙ append_assoc choices (choice ∷ []) (choices_from (count - (made + 1)) next)
    ∙ ap (λ l. choices ++ l)
    (ap₂ (λ c s. c ∷ choices_from (count - (made + 1)) s) (is_choice ∙ ap (λ s. s / 2 ^ 33) is_next) is_next
    ∙ sym (choices_from-more (count - (made + 1)) state) ∙ ap (λ n. choices_from n state) left)

-- all are made
pub choices_from-made : (made count state : ℕ) (choices all : List ℕ) → count ≤ made → choices ++ choices_from (count - made) state ≡ all → choices ≡ all
choices_from-made made count state choices all done so_far =
    let left : count - made ≡ 0 = omega arith in
    sym (append-nil choices) ∙ ap (λ l. choices ++ l) (sym (ap (λ n. choices_from n state) left ∙ choices_from-none state)) ∙ so_far
