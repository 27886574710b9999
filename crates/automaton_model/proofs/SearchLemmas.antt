-- Where the groups that go on behind a prefix weigh too little, no row begins with it.
use Rattle.std.proofs.Common.{◌≡◌, ℕ, ◌+◌, ◌≤◌, ◌<◌, inl, inr, List, [], ◌∷◌, ◌++◌, sym, ◌∙◌, subst, arith}
use Rattle.mine_model.specs.Support.{Counts}
use Rattle.mine_model.proofs.FrequencyLemmas.{Counts-le}
use Rattle.automaton_model.specs.Automata.{Edge, StateValue, Accepts}
use Rattle.automaton_model.specs.Registry.{IsRegistry}
use Rattle.automaton_model.proofs.WalkLemmas.{edge_one}
use Rattle.automaton_model.specs.declared.groups.Group.{Group}
use Rattle.automaton_model.specs.Groups.{LieIn, grouped}
use Rattle.automaton_model.specs.Searches.{BeginIn, Load, Weigh, LeavesBy, AreMoved}

-- what lies in a code behind a prefix begins in it
pub lies-begins : (prefix more : List ℕ) (code : List ℕ) → LieIn (prefix ++ more) code → BeginIn prefix code
lies-begins prefix more code (states, is, accepts) = (states, is, more, accepts)

-- A prefix whose groups weigh too little has no row behind it
pub too-light : (groups : List Group) (prefix more : List ℕ) (n m threshold : ℕ) → Counts (BeginIn prefix) (grouped groups) n → n < threshold
    → Counts (LieIn (prefix ++ more)) (grouped groups) m → threshold ≤ m → ⊥
too-light groups prefix more n m threshold begun light counted enough =
    let less : m ≤ n = Counts-le (LieIn (prefix ++ more)) (BeginIn prefix) (grouped groups) m n (lies-begins prefix more) counted begun in
    omega (arith, less, light, enough)

-- Loads at states of a registry

module _ (states : List StateValue) (registry : IsRegistry states) where
  first : (rank : ℕ) (ranks : List ℕ) (load : Load) (loads : List Load) (edge : Edge) → LeavesBy states load.state rank edge → (others : List Load)
      → ((m : ℕ) → Weigh (λ k. Accepts states k ranks) others m → Weigh (λ k. Accepts states k (rank ∷ ranks)) loads m)
      → (n : ℕ) → Weigh (λ k. Accepts states k ranks) ((record { state = edge.to; weight = load.weight }) ∷ others) n
      → Weigh (λ k. Accepts states k (rank ∷ ranks)) (load ∷ loads) n
  first rank ranks load loads edge (s, is, held, by) others rest n (inl (accepts, (m, sum, weigh))) =
      inl ((s, edge, is, held, by, accepts), (m, sum, rest m weigh))
  first rank ranks load loads edge (s, is, held, by) others rest n (inr (never, weigh)) =
      inr (
        (λ (t, f, also, inside, rank_is, next).
            let same : f ≡ edge = edge_one states registry load.state t s f edge also is inside held (rank_is ∙ sym by) in
            never (subst (λ (e : Edge). Accepts states e.to ranks) same next)),
        rest n weigh,
      )

  -- WHAT THE MOVED LOADS weigh behind the rank is what the loads weigh
  pub moved-weigh : (rank : ℕ) (ranks : List ℕ) (loads moved : List Load) → AreMoved states rank loads moved
      → (n : ℕ) → Weigh (λ k. Accepts states k ranks) moved n → Weigh (λ k. Accepts states k (rank ∷ ranks)) loads n
  moved-weigh rank ranks [] moved are n weigh = subst (λ l. Weigh (λ k. Accepts states k ranks) l n) are weigh
  moved-weigh rank ranks (load ∷ loads) moved (inl go) n weigh =
      first rank ranks load loads go.0 go.1 go.2.0 (λ m w. moved-weigh rank ranks loads go.2.0 go.2.2 m w) n (subst (λ l. Weigh (λ k. Accepts states k ranks) l n) go.2.1 weigh)
  moved-weigh rank ranks (load ∷ loads) moved (inr stay) n weigh =
      inr ((λ (s, e, is, held, by, next). stay.0 e (s, is, held, by)), moved-weigh rank ranks loads moved stay.1 n weigh)

-- loads at one state may be added up
pub weigh-added : (Has : ℕ → Type 0) (state a b : ℕ) (loads : List Load) (n : ℕ)
    → Weigh Has ((record { state = state; weight = a }) ∷ (record { state = state; weight = b }) ∷ loads) n
    → Weigh Has ((record { state = state; weight = a + b }) ∷ loads) n
weigh-added Has state a b loads n (inl (has, (rest, sum, inl (also, (last, rest_is, weigh))))) = inl (has, (last, omega (arith, sum, rest_is), weigh))
weigh-added Has state a b loads n (inl (has, (rest, sum, inr (hasnt, weigh)))) = absurd (hasnt has)
weigh-added Has state a b loads n (inr (hasnt, inl (has, rest))) = absurd (hasnt has)
weigh-added Has state a b loads n (inr (hasnt, inr (also, weigh))) = inr (hasnt, weigh)
