-- What is written behind visits.
use Rattle.std.proofs.Common.{◌≡◌, ℕ, ◌⊎◌, ◌↔◌, inl, inr, Bool, true, IsTrue, Option, List, [], ◌∷◌, ◌++◌, refl, sym, ap, ◌∙◌, subst}
use Rattle.std.specs.List.{Contains}
use Rattle.std.proofs.lemmas.List.Elements.{Contains-push, Contains-push_cases, Contains-append_left}
use Rattle.mine_model.proofs.ListLemmas.{Contains-cases, Contains-first, Contains-none}
use Rattle.walk_memo.specs.declared.action.Action.{Action}
use Rattle.place_walk.specs.declared.visit.Visit.{Visit}
use Rattle.place_walk.specs.Courses.{Course}
use Rattle.place_walk.specs.Visits.{AreVisits}
use Rattle.stand_sums.specs.Writings.{Ranks, opens}
use Rattle.stand_sums.specs.Sequences.{HasOne}
use Rattle.stand_sums.specs.Files.{stand_at}
use Rattle.mask_sums.specs.Kept.{lacks}
use Rattle.level_ahead.specs.Behind.{IsBehind, HasBehind}

-- ---- one visit more

-- what is written next behind the visit passes
pub record PassesBehind (course : Course) (test : Visit → Bool) (visit : Visit) : Type 0 where
  pub next : Visit
  pub behind : IsBehind course visit next
  pub passes : IsTrue (test next)

module _ (course : Course) (ranks : Ranks) (lacking : Option ℕ) (rank : ℕ) (test : Visit → Bool) where
  pub behind-none : HasBehind course ranks lacking rank test [] → ⊥
  behind-none has = Contains-none has.visit has.held

  move-visit : (visits : List Visit) (visit one : Visit) → one ≡ visit → Contains visits visit → Contains visits one
  move-visit visits visit one same held = subst (Contains visits) (sym same) held

  pub behind-within : (visits others : List Visit) → ((visit : Visit) → Contains visits visit → Contains others visit) → HasBehind course ranks lacking rank test visits → HasBehind course ranks lacking rank test others
  behind-within visits others within has = record {
    visit = has.visit;
    held = within has.visit has.held;
    opening = has.opening;
    next = has.next;
    behind = has.behind;
    passes = has.passes;
  }

  -- of visits and one more
  pub behind-more : (visits : List Visit) (visit : Visit) → HasBehind course ranks lacking rank test (visits ++ visit ∷ []) ↔ (HasBehind course ranks lacking rank test visits ⊎ HasBehind course ranks lacking rank test (visit ∷ []))
  behind-more visits visit = (
    (λ has. elim (Contains-push_cases visits visit has.visit has.held) [
      | inl there ↦ inl (record { visit = has.visit; held = there; opening = has.opening; next = has.next; behind = has.behind; passes = has.passes })
      | inr same ↦
          inr (record {
            visit = has.visit;
            held = move-visit (visit ∷ []) visit has.visit (sym same) (Contains-first visit []);
            opening = has.opening;
            next = has.next;
            behind = has.behind;
            passes = has.passes;
          })
    ]),
    (λ either. elim either [
      | inl has ↦ behind-within visits (visits ++ visit ∷ []) (λ one held. Contains-append_left visits (visit ∷ []) one held) has
      | inr has ↦
          behind-within (visit ∷ []) (visits ++ visit ∷ [])
          (λ one held. elim (Contains-cases visit [] one held) [
            | inl same ↦ move-visit (visits ++ visit ∷ []) visit one same (Contains-push visits visit)
            | inr no' ↦ absurd (Contains-none one no')
          ]) has
    ]),
  )

  -- behind one visit
  pub one-opens : (visit : Visit) → HasBehind course ranks lacking rank test (visit ∷ []) → IsTrue (opens ranks (lacks lacking) rank visit)
  one-opens visit has = elim (Contains-cases visit [] has.visit has.held) [
    | inl same ↦ subst (λ (v : Visit). IsTrue (opens ranks (lacks lacking) rank v)) same has.opening
    | inr no' ↦ absurd (Contains-none has.visit no')
  ]

  pub one-behind : (visit : Visit) → HasBehind course ranks lacking rank test (visit ∷ []) → PassesBehind course test visit
  one-behind visit has = elim (Contains-cases visit [] has.visit has.held) [
    | inl same ↦ subst (PassesBehind course test) same (record { next = has.next; behind = has.behind; passes = has.passes })
    | inr no' ↦ absurd (Contains-none has.visit no')
  ]

  pub behind-one : (visit : Visit) → IsTrue (opens ranks (lacks lacking) rank visit) → PassesBehind course test visit → HasBehind course ranks lacking rank test (visit ∷ [])
  behind-one visit opening next = record {
    visit = visit;
    held = Contains-first visit [];
    opening = opening;
    next = next.next;
    behind = next.behind;
    passes = next.passes;
  }

-- ---- what is found behind one visit

module _ (course : Course) (visit : Visit) (room : List Visit) (are : AreVisits course (stand_at true visit ∷ []) room)
    (by : ℕ → Action → Bool) (test : Visit → Bool) (tests : (one : Visit) → test one ≡ by one.kind one.action) where
  -- one of its visits passes where something passes that is written next
  pub found-behind : HasOne test room → PassesBehind course test visit
  found-behind (one, held, passes) = record { next = one; behind = (are.exact one.place one.kind one.action).0 (one, held, refl, refl, refl); passes = passes }

  pub behind-found : PassesBehind course test visit → HasOne test room
  behind-found is =
      let next : Visit = is.next in
      let (one, held, place, kind, action) = (are.exact next.place next.kind next.action).1 is.behind in
      (one, held, tests one ∙ ap (λ (k : ℕ). by k one.action) kind ∙ ap (by next.kind) action ∙ sym (tests next) ∙ is.passes)
