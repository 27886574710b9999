-- Visits behind a prefix that lacks a rank.
use Rattle.std.proofs.Common.{◌≡◌, ℕ, ◌↔◌, inl, inr, Bool, true, false, true≢false, ◌&&◌, ◌==◌, IsTrue, Option, Some, None, refl, sym, ◌∙◌, subst}
use Rattle.std.specs.List.{Contains}
use Rattle.std.specs.Option.{IfSome}
use Rattle.std.proofs.lemmas.Bool.{cases_eq, eq-eqb, eqb-true, and_parts, and_from, or_cases, or_left, or_right}
use Rattle.mine_model.proofs.ElementLemmas.{among-held}
use Rattle.mask_sums.proofs.SetLemmas.{among-to}
use Rattle.state_bits.specs.Members.{Has}
use Rattle.walk_memo.specs.declared.action.Action.{Action}
use Rattle.place_walk.specs.declared.visit.Visit.{Visit}
use Rattle.stand_sums.specs.declared.aim.Aim.{Aim}
use Rattle.stand_sums.specs.Writings.{Ranks, writes, goes_on, stops, opens, ends, follows}
use Rattle.stand_sums.proofs.WritingLemmas.{bare}
use Rattle.mask_sums.specs.Kept.{lacks}
use Rattle.mask_sums.proofs.LackLemmas.{goes-same, goes-other}
use Rattle.level_ahead.specs.Behind.{goes_further}

-- ---- the ranks of a visit

module _ (ranks : Ranks) (visit : Visit) (mask : ℕ) (is : (rank : ℕ) → Has mask rank ↔ Contains (ranks visit.kind visit.action.state) rank) where
  pub writes-has : (rank : ℕ) → Has mask rank ↔ IsTrue (writes ranks rank visit)
  writes-has rank = (
    (λ has. among-to rank (ranks visit.kind visit.action.state) ((is rank).0 has)),
    (λ written. (is rank).1 (among-held rank (ranks visit.kind visit.action.state) written)),
  )

  -- behind a visit that goes on with the rank, it opens where it is written
  pub opens-has : (aim : Aim) (rank : ℕ) → goes_on aim rank visit.action ≡ true → Has mask rank ↔ IsTrue (opens ranks aim rank visit)
  opens-has aim rank goes = (
    (λ has. and_from (writes ranks rank visit) (goes_on aim rank visit.action) ((writes-has rank).0 has) goes),
    (λ opening. (writes-has rank).1 ((and_parts (writes ranks rank visit) (goes_on aim rank visit.action) opening).0)),
  )

module _ (ranks : Ranks) (need : ℕ) (one : Visit) (unseen : one.action.unseen ≡ false) (quiet : (writes ranks need one && one.action.more) ≡ false) where
  -- nothing goes on
  pub needed-quiet : goes_further ranks (Some need) one ≡ false
  needed-quiet = rw (unseen, quiet) refl

  -- then only the lacking rank follows, where it ends
  pub needed-only : (rank : ℕ) → IsTrue (follows ranks (lacks (Some need)) rank one) → (need ≡ rank) × (IsTrue (writes ranks need one) × IsTrue one.action.ends)
  needed-only rank following = elim (or_cases (opens ranks (lacks (Some need)) rank one) (ends ranks (lacks (Some need)) rank one) following) [
    | inl opening ↦
        let writing : writes ranks rank one ≡ true = (and_parts (writes ranks rank one) (goes_on (lacks (Some need)) rank one.action) opening).0 in
        let going : goes_on (lacks (Some need)) rank one.action ≡ true = (and_parts (writes ranks rank one) (goes_on (lacks (Some need)) rank one.action) opening).1 in
        elim (cases_eq need rank) [
          | inl same ↦ absurd (true≢false
              (sym (and_from (writes ranks need one) one.action.more (subst (λ (r : ℕ). writes ranks r one ≡ true) (sym same) writing) (sym (goes-same need rank one.action same) ∙ going)) ∙ quiet))
          | inr other ↦ absurd (true≢false (sym going ∙ goes-other need rank one.action other ∙ unseen))
        ]
    | inr ending ↦
        let writing : writes ranks rank one ≡ true = (and_parts (writes ranks rank one) (stops (lacks (Some need)) rank one.action) ending).0 in
        let stopping : stops (lacks (Some need)) rank one.action ≡ true = (and_parts (writes ranks rank one) (stops (lacks (Some need)) rank one.action) ending).1 in
        let same : need ≡ rank = eqb-true need rank ((and_parts (need == rank) one.action.ends stopping).0) in
        (same, (subst (λ (r : ℕ). writes ranks r one ≡ true) (sym same) writing, (and_parts (need == rank) one.action.ends stopping).1))
  ]

pub needed-follows : (ranks : Ranks) (need : ℕ) (one : Visit) → IsTrue (writes ranks need one) → IsTrue one.action.ends → IsTrue (follows ranks (lacks (Some need)) need one)
needed-follows ranks need one writing stopping =
    or_right (opens ranks (lacks (Some need)) need one) (ends ranks (lacks (Some need)) need one)
    (and_from (writes ranks need one) (stops (lacks (Some need)) need one.action) writing (and_from (need == need) one.action.ends (eq-eqb need need refl) stopping))

-- ---- what is said of a visit by its kind and its action

pub further-bare : (ranks : Ranks) (lacking : Option ℕ) (one : Visit) → goes_further ranks lacking one ≡ goes_further ranks lacking (bare one.kind one.action)
further-bare ranks None one = refl
further-bare ranks (Some need) one = refl

pub further-marked : (ranks : Ranks) (lacking : Option ℕ) (place kind : ℕ) (action : Action) (one other : Bool)
    → goes_further ranks lacking (record { place = place; kind = kind; action = action; first = one }) ≡ goes_further ranks lacking (record { place = place; kind = kind; action = action; first = other })
further-marked ranks None place kind action one other = refl
further-marked ranks (Some need) place kind action one other = refl

-- ---- ranks that are asked about, of which the lacking one is none

pub going : (lacking : Option ℕ) (visit : Visit) (asked : ℕ) (goes : Bool) → goes ≡ true → ((rank : ℕ) → (lacking ≡ Some rank → ⊥) → goes_on (lacks lacking) rank visit.action ≡ goes)
    → IfSome lacking (λ need. Has asked need → ⊥) → (rank : ℕ) → Has asked rank → goes_on (lacks lacking) rank visit.action ≡ true
going lacking visit asked goes is same apart rank asks = same rank (λ lack. subst (λ (o : Option ℕ). IfSome o (λ need. Has asked need → ⊥)) lack apart asks) ∙ is

-- ---- what opens goes on

pub opens-further : (ranks : Ranks) (lacking : Option ℕ) (rank : ℕ) (visit : Visit) → IsTrue (opens ranks (lacks lacking) rank visit) → IsTrue (goes_further ranks lacking visit)
opens-further ranks None rank visit opening = (and_parts (writes ranks rank visit) visit.action.more opening).1
opens-further ranks (Some need) rank visit opening =
    let writing : writes ranks rank visit ≡ true = (and_parts (writes ranks rank visit) (goes_on (lacks (Some need)) rank visit.action) opening).0 in
    let going : goes_on (lacks (Some need)) rank visit.action ≡ true = (and_parts (writes ranks rank visit) (goes_on (lacks (Some need)) rank visit.action) opening).1 in
    elim (cases_eq need rank) [
      | inl same ↦
          or_right visit.action.unseen (writes ranks need visit && visit.action.more)
          (and_from (writes ranks need visit) visit.action.more (subst (λ (r : ℕ). writes ranks r visit ≡ true) (sym same) writing) (sym (goes-same need rank visit.action same) ∙ going))
      | inr other ↦ or_left visit.action.unseen (writes ranks need visit && visit.action.more) (sym (goes-other need rank visit.action other) ∙ going)
    ]
