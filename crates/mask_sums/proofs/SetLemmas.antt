-- Sets of the ranks that visits write.
use Rattle.std.proofs.Common.{◌≡◌, ℕ, zero, suc, ◌+◌, ◌⊎◌, ◌↔◌, inl, inr, Bool, true, false, cond, true≢false, ◌==◌, IsTrue, List, [], ◌∷◌, ◌++◌, length, get_or, replicate, refl, sym, ap, ◌∙◌, subst, arith}
use Rattle.std.specs.List.{Contains, list_any}
use Rattle.std.proofs.lemmas.Bool.{cases_eq, eq-eqb, ne_eqb, and_parts, and_from, or_cases, or_left, or_right}
use Rattle.std.proofs.lemmas.List.Elements.{Contains-push, Contains-push_cases, Contains-append_left}
use Rattle.mine_model.proofs.ListLemmas.{Contains-cases, Contains-none}
use Rattle.mine_model.proofs.ElementLemmas.{among-held}
use Rattle.state_bits.specs.Members.{Has}
use Rattle.state_bits.proofs.NeighbourLemmas.{Has-none}
use Rattle.place_walk.specs.declared.visit.Visit.{Visit}
use Rattle.stand_sums.specs.declared.aim.Aim.{Aim}
use Rattle.stand_sums.specs.Writings.{Ranks, goes_on, stops, opens, ends, follows}
use Rattle.stand_sums.specs.Sequences.{HasOne}
use Rattle.stand_sums.specs.Sums.{stands_among}
use Rattle.mask_sums.specs.Kept.{free, OpensIn, EndsIn, IsSetOf, HasOneMore, HasStands}

-- ---- members

-- a rank is in a set or not
pub has-or-not : (set rank : ℕ) → Has set rank ⊎ (Has set rank → ⊥)
unfolding Has
has-or-not set rank = cases_eq _ 1

-- ---- counts of nothing

pub none-counted : (n rank : ℕ) → ◌≡◌ {A = ℕ} (get_or (replicate n 0) rank 0) 0
none-counted zero rank = refl
none-counted (suc n) zero = refl
none-counted (suc n) (suc rank) = none-counted n rank

-- ---- the ranks of a visit

pub among-to : (rank : ℕ) (ranks : List ℕ) → Contains ranks rank → list_any (λ other. other == rank) ranks ≡ true
among-to rank [] held = absurd (Contains-none rank held)
among-to rank (one ∷ ranks) held = elim (cases_eq one rank) [
  | inl same ↦ rw (eq-eqb one rank same) refl
  | inr other ↦ elim (Contains-cases one ranks rank held) [
    | inl same ↦ absurd (other (sym same))
    | inr there ↦ rw (ne_eqb one rank other) (among-to rank ranks there)
  ]
]

module _ (ranks : Ranks) (visit : Visit) (mask : ℕ) (is : (rank : ℕ) → Has mask rank ↔ Contains (ranks visit.kind visit.action.state) rank) (rank : ℕ) where
  -- the rank is written where it is in the set
  writes-from : Has mask rank → list_any (λ other. other == rank) (ranks visit.kind visit.action.state) ≡ true
  writes-from has = among-to rank (ranks visit.kind visit.action.state) ((is rank).0 has)

  writes-to : list_any (λ other. other == rank) (ranks visit.kind visit.action.state) ≡ true → Has mask rank
  writes-to writes = (is rank).1 (among-held rank (ranks visit.kind visit.action.state) writes)

module _ (ranks : Ranks) (visit : Visit) (mask : ℕ) (is : (rank : ℕ) → Has mask rank ↔ Contains (ranks visit.kind visit.action.state) rank) where
  -- behind a visit that goes on, what it writes opens
  pub opens-yes : visit.action.more ≡ true → (rank : ℕ) → Has mask rank ↔ IsTrue (opens ranks free rank visit)
  opens-yes more rank = (
    (λ has. and_from (list_any (λ other. other == rank) (ranks visit.kind visit.action.state)) visit.action.more (writes-from ranks visit mask is rank has) more),
    (λ opening. writes-to ranks visit mask is rank ((and_parts (list_any (λ other. other == rank) (ranks visit.kind visit.action.state)) visit.action.more opening).0)),
  )

  pub ends-yes : visit.action.ends ≡ true → (rank : ℕ) → Has mask rank ↔ IsTrue (ends ranks free rank visit)
  ends-yes stops rank = (
    (λ has. and_from (list_any (λ other. other == rank) (ranks visit.kind visit.action.state)) visit.action.ends (writes-from ranks visit mask is rank has) stops),
    (λ ending. writes-to ranks visit mask is rank ((and_parts (list_any (λ other. other == rank) (ranks visit.kind visit.action.state)) visit.action.ends ending).0)),
  )

-- and else nothing does
pub opens-no : (ranks : Ranks) (visit : Visit) → visit.action.more ≡ false → (rank : ℕ) → IsTrue (opens ranks free rank visit) → ⊥
opens-no ranks visit stays rank opening =
    true≢false (sym ((and_parts (list_any (λ other. other == rank) (ranks visit.kind visit.action.state)) visit.action.more opening).1) ∙ stays)

pub ends-no : (ranks : Ranks) (visit : Visit) → visit.action.ends ≡ false → (rank : ℕ) → IsTrue (ends ranks free rank visit) → ⊥
ends-no ranks visit stays rank ending =
    true≢false (sym ((and_parts (list_any (λ other. other == rank) (ranks visit.kind visit.action.state)) visit.action.ends ending).1) ∙ stays)

-- ---- behind any prefix

module _ (ranks : Ranks) (aim : Aim) (visit : Visit) (mask : ℕ) (is : (rank : ℕ) → Has mask rank ↔ Contains (ranks visit.kind visit.action.state) rank) (rank : ℕ) where
  -- the ranks of its set with which a visit goes on are those that open
  pub opens-set : OpensIn aim visit.action mask rank ↔ IsTrue (opens ranks aim rank visit)
  opens-set = (
    (λ (has, on). and_from (list_any (λ other. other == rank) (ranks visit.kind visit.action.state)) (goes_on aim rank visit.action) (writes-from ranks visit mask is rank has) on),
    (λ opening. (
      writes-to ranks visit mask is rank ((and_parts (list_any (λ other. other == rank) (ranks visit.kind visit.action.state)) (goes_on aim rank visit.action) opening).0),
      (and_parts (list_any (λ other. other == rank) (ranks visit.kind visit.action.state)) (goes_on aim rank visit.action) opening).1,
    )),
  )

  pub ends-set : EndsIn aim visit.action mask rank ↔ IsTrue (ends ranks aim rank visit)
  ends-set = (
    (λ (has, ending). and_from (list_any (λ other. other == rank) (ranks visit.kind visit.action.state)) (stops aim rank visit.action) (writes-from ranks visit mask is rank has) ending),
    (λ ending. (
      writes-to ranks visit mask is rank ((and_parts (list_any (λ other. other == rank) (ranks visit.kind visit.action.state)) (stops aim rank visit.action) ending).0),
      (and_parts (list_any (λ other. other == rank) (ranks visit.kind visit.action.state)) (stops aim rank visit.action) ending).1,
    )),
  )

-- ---- a set with what one visit adds

pub union-with : (before after rank : ℕ) (Adds Passes : Type 0) → Has after rank ↔ (Has before rank ⊎ Adds) → Adds ↔ Passes → Has after rank ↔ (Has before rank ⊎ Passes)
union-with before after rank Adds Passes union is = (
  (λ has. elim (union.0 has) [ inl had ↦ inl had | inr new ↦ inr (is.0 new) ]),
  (λ either. union.1 (elim either [ inl had ↦ inl had | inr passes ↦ inr (is.1 passes) ])),
)

pub union-none : (before rank : ℕ) (Passes : Type 0) → (Passes → ⊥) → Has before rank ↔ (Has before rank ⊎ Passes)
union-none before rank Passes fails = (
  (λ has. inl has),
  (λ either. elim either [ inl had ↦ had | inr passes ↦ absurd (fails passes) ]),
)

-- its stands
true-or-false : (b : Bool) → (b ≡ true) ⊎ (b ≡ false)
true-or-false true = inl refl
true-or-false false = inr refl

pub stands-one : (ranks : Ranks) (aim : Aim) (visit : Visit) (IsMember : Type 0) (rank : ℕ) → IsMember ↔ IsTrue (opens ranks aim rank visit)
    → (before after : ℕ) → (IsMember → after ≡ before + 1) → ((IsMember → ⊥) → after ≡ before) → after ≡ before + stands_among ranks aim rank (visit ∷ [])
stands-one ranks aim visit IsMember rank is before after adds stays = elim (true-or-false (opens ranks aim rank visit)) [
  | inl opening ↦ adds (is.1 opening) ∙ ap (λ (b : Bool). before + length (cond b (visit ∷ []) [])) (sym opening)
  | inr closed ↦
      let same : before ≡ before + 0 = omega arith in
      stays (λ member. true≢false (sym (is.0 member) ∙ closed)) ∙ same ∙ ap (λ (b : Bool). before + length (cond b (visit ∷ []) [])) (sym closed)
]

pub stands-visit : (ranks : Ranks) (aim : Aim) (visit : Visit) (mask : ℕ) → ((rank : ℕ) → Has mask rank ↔ Contains (ranks visit.kind visit.action.state) rank) → (before after : List ℕ)
    → HasOneMore (OpensIn aim visit.action mask) before after → HasStands ranks aim (visit ∷ []) before after
stands-visit ranks aim visit mask is before after more rank few =
    stands-one ranks aim visit (OpensIn aim visit.action mask rank) rank (opens-set ranks aim visit mask is rank) (get_or before rank 0) (get_or after rank 0) (more.members rank few) (more.others rank)

-- ---- one visit more

pub set-none : (test : ℕ → Visit → Bool) → IsSetOf test [] 0
set-none test rank = (λ has. absurd (Has-none rank has), λ (visit, held, passes). absurd (Contains-none visit held))

pub set-more : (test : ℕ → Visit → Bool) (visits : List Visit) (visit : Visit) (before after : ℕ) → IsSetOf test visits before
    → ((rank : ℕ) → Has after rank ↔ (Has before rank ⊎ IsTrue (test rank visit))) → IsSetOf test (visits ++ visit ∷ []) after
set-more test visits visit before after is more rank = (
  (λ has. elim ((more rank).0 has) [
    | inl had ↦ let (one, held, passes) = (is rank).0 had in (one, Contains-append_left visits (visit ∷ []) one held, passes)
    | inr passes ↦ (visit, Contains-push visits visit, passes)
  ]),
  (λ (one, held, passes). (more rank).1 (elim (Contains-push_cases visits visit one held) [
    | inl there ↦ inl ((is rank).1 (one, there, passes))
    | inr same ↦ inr (subst (λ (v : Visit). IsTrue (test rank v)) (sym same) passes)
  ])),
)

-- ---- what follows is what goes on or ends

pub follows-sets : (ranks : Ranks) (aim : Aim) (visits : List Visit) (opened ended : ℕ) → IsSetOf (opens ranks aim) visits opened → IsSetOf (ends ranks aim) visits ended
    → (rank : ℕ) → (Has opened rank ⊎ Has ended rank) ↔ HasOne (follows ranks aim rank) visits
follows-sets ranks aim visits opened ended opening ending rank = (
  (λ has. elim has [
    | inl there ↦ let (one, held, passes) = (opening rank).0 there in (one, held, or_left (opens ranks aim rank one) (ends ranks aim rank one) passes)
    | inr there ↦ let (one, held, passes) = (ending rank).0 there in (one, held, or_right (opens ranks aim rank one) (ends ranks aim rank one) passes)
  ]),
  (λ (one, held, passes). elim (or_cases (opens ranks aim rank one) (ends ranks aim rank one) passes) [
    | inl opens_one ↦ inl ((opening rank).1 (one, held, opens_one))
    | inr ends_one ↦ inr ((ending rank).1 (one, held, ends_one))
  ]),
)

pub either-or-not : (one other rank : ℕ) → (Has one rank ⊎ Has other rank) ⊎ ((Has one rank ⊎ Has other rank) → ⊥)
either-or-not one other rank = elim (has-or-not one rank) [
  | inl here ↦ inl (inl here)
  | inr lacks ↦ elim (has-or-not other rank) [
    | inl there ↦ inl (inr there)
    | inr none ↦ inr (λ either. elim either [ inl here ↦ lacks here | inr there ↦ none there ])
  ]
]
