-- The sums of a longer prefix.
use Rattle.std.proofs.Common.{◌≡◌, ◌↔◌, ℕ, ◌+◌, inl, inr, Bool, true, false, IsTrue, Option, Some, None, List, [], ◌∷◌, length, refl, sym, ap, ◌∙◌, subst, arith}
use Rattle.std.specs.List.{Contains, filter}
use Rattle.std.proofs.lemmas.List.Elements.{Contains-append_cases}
use Rattle.mine_model.specs.Support.{Counts}
use Rattle.mine_model.proofs.ElementLemmas.{no_members}
use Rattle.mine_model.proofs.ListLemmas.{Contains-cases, Contains-first, Contains-other, Contains-none, Contains-filter, filter-Contains}
use Rattle.walk_memo.specs.declared.action.Action.{Action}
use Rattle.place_walk.specs.declared.visit.Visit.{Visit}
use Rattle.place_walk.specs.declared.stand.Stand.{Stand}
use Rattle.place_walk.specs.Courses.{Course}
use Rattle.place_walk.specs.Stands.{StandsAt}
use Rattle.place_walk.specs.Visits.{IsVisit, AreVisits}
use Rattle.stand_sums.specs.declared.aim.Aim.{Aim}
use Rattle.stand_sums.specs.Writings.{Ranks, opens, ends, follows}
use Rattle.stand_sums.specs.Sequences.{HasOne, all_weighed, AreSequences, weight_of}
use Rattle.stand_sums.specs.Sums.{empty_tally, AreCounted}
use Rattle.stand_sums.specs.Files.{stand_at, stands_in, stands_of}
use Rattle.mask_sums.specs.Kept.{free, IsSeen}
use Rattle.mask_sums.proofs.SetLemmas.{opens-no}
use Rattle.level_ahead.specs.Behind.{HasBehind, FollowsBehind, GoesOnBehind}
use Rattle.level_ahead.specs.Longer.{last_tally}
use Rattle.level_ahead.proofs.ReadLemmas.{follows-is}
use Rattle.level_ahead.proofs.StandLemmas.{visit-alike, mark-alike, behind-stand, stand-behind, AreMatched}

-- what is written next from stands is what is written next from any one of them
abbrev pub EachStand : Course → Type 0
EachStand course =
    (stands : List Stand) (place kind : ℕ) (action : Action) → IsVisit course stands place kind action
    ↔ ((stand : Stand) × Contains stands stand × IsVisit course (stand ∷ []) place kind action)

-- ---- one sequence

module _ (course : Course) (each : EachStand course) (ranks : Ranks) (rank : ℕ) (visits kid : List Visit) (are : AreVisits course (stands_in ranks free rank visits) kid)
    (by : ℕ → Action → Bool) (test : Visit → Bool) (tests : (one : Visit) → test one ≡ by one.kind one.action) where
  abbrev opening : List Visit
  opening = filter (opens ranks free rank) visits

  pub kid-behind : HasOne test kid → HasBehind course ranks None rank test visits
  kid-behind (one, held, passes) =
      let is = (are.exact one.place one.kind one.action).0 (one, held, refl, refl, refl) in
      let (stand, in', from) = (each (stands_in ranks free rank visits) one.place one.kind one.action).0 is in
      let (visit, there, mark, same) = behind-stand opening stand in' in
      let (inside, goes) = Contains-filter (opens ranks free rank) visits visit there in
      record {
        visit = visit;
        held = inside;
        opening = goes;
        next = one;
        behind = visit-alike course (stand ∷ []) (stand_at true visit ∷ [])
            (λ place state stands. mark-alike visit mark true place state (subst (λ (s : Stand). StandsAt (s ∷ []) place state) same stands)) one.place one.kind one.action from;
        passes = passes;
      }

  pub behind-kid : HasBehind course ranks None rank test visits → HasOne test kid
  behind-kid has =
      let visit : Visit = has.visit in
      let next : Visit = has.next in
      let there = filter-Contains (opens ranks free rank) visits visit has.held has.opening in
      let is : IsVisit course (stands_in ranks free rank visits) next.place next.kind next.action = elim (stand-behind opening visit there) [
        | inl held ↦ (each (stands_in ranks free rank visits) next.place next.kind next.action).1 (stand_at true visit, held, has.behind)
        | inr held ↦
            (each (stands_in ranks free rank visits) next.place next.kind next.action).1
            (stand_at false visit, held, visit-alike course (stand_at true visit ∷ []) (stand_at false visit ∷ []) (mark-alike visit true false) next.place next.kind next.action has.behind)
      ] in
      let (one, held, place, kind, action) = (are.exact next.place next.kind next.action).1 is in
      (one, held, tests one ∙ ap (λ (k : ℕ). by k one.action) kind ∙ ap (by next.kind) action ∙ sym (tests next) ∙ has.passes)

-- ---- sequence after sequence

some-weight : (P : List Visit → Type 0) (visits : List Visit) (visit : Visit) → Contains visits visit → weight_of [] visits ≡ 1
some-weight P [] visit held = absurd (Contains-none visit held)
some-weight P (first ∷ visits) visit held = refl

nothing-opens : (course : Course) (ranks : Ranks) (rank : ℕ) (test : Visit → Bool) (here : List Visit) → filter (opens ranks free rank) here ≡ [] → HasBehind course ranks None rank test here → ⊥
nothing-opens course ranks rank test here none has =
    Contains-none has.visit (subst (λ (l : List Visit). Contains l has.visit) none (filter-Contains (opens ranks free rank) here has.visit has.held has.opening))

module _ (course : Course) (each : EachStand course) (ranks : Ranks) (rank : ℕ) where
  follows-by : ℕ → ℕ → Action → Bool
  follows-by other kind action = follows ranks free other (record { place = 0; kind = kind; action = action; first = false })

  by-it : (other : ℕ) (one : Visit) → follows ranks free other one ≡ follows-by other one.kind one.action
  unfolding follows-by
  by-it other one = refl

  goes-by : ℕ → Action → Bool
  goes-by kind action = action.more

  goes-it : (one : Visit) → one.action.more ≡ goes-by one.kind one.action
  unfolding goes-by
  goes-it one = refl

  pub kids-counted : (other : ℕ) (sequences kids : List (List Visit)) (n : ℕ) → AreMatched course ranks rank sequences kids → Counts (FollowsBehind course ranks None rank other) (all_weighed [] sequences) n
      → Counts (HasOne (follows ranks free other)) (all_weighed [] kids) n
  kids-counted other [] kids n none counts = subst (λ (l : List (List Visit)). Counts (HasOne (follows ranks free other)) (all_weighed [] l) n) (sym none) counts
  kids-counted other (here ∷ sequences) kids n (inl none) (inl has) = absurd (nothing-opens course ranks rank (follows ranks free other) here none.0 has.0)
  kids-counted other (here ∷ sequences) kids n (inl none) (inr lacks) = kids-counted other sequences kids n none.1 lacks.1
  kids-counted other (here ∷ sequences) kids n (inr (kid, others, cut, are, matched)) (inl (has, (rest, sum, counts))) =
      let one = behind-kid course each ranks rank here kid are (follows-by other) (follows ranks free other) (by-it other) has in
      let (visit, held, passes) = one in
      let weight : weight_of [] here ≡ weight_of [] kid =
      some-weight (HasOne (follows ranks free other)) here has.visit has.held ∙ sym (some-weight (HasOne (follows ranks free other)) kid visit held) in
      subst (λ (l : List (List Visit)). Counts (HasOne (follows ranks free other)) (all_weighed [] l) n) (sym cut)
      (inl (one, (rest, sum ∙ ap (λ (w : ℕ). w + rest) weight, kids-counted other sequences others rest matched counts)))
  kids-counted other (here ∷ sequences) kids n (inr (kid, others, cut, are, matched)) (inr (lacks, counts)) =
      subst (λ (l : List (List Visit)). Counts (HasOne (follows ranks free other)) (all_weighed [] l) n) (sym cut)
      (inr ((λ one. lacks (kid-behind course each ranks rank here kid are (follows-by other) (follows ranks free other) (by-it other) one)), kids-counted other sequences others n matched counts))

  pub kids-quiet : (sequences kids : List (List Visit)) → AreMatched course ranks rank sequences kids → ((here : List Visit) → Contains sequences here → GoesOnBehind course ranks None rank here → ⊥)
      → (kid : List Visit) → Contains kids kid → HasOne (λ one. one.action.more) kid → ⊥
  kids-quiet [] kids none quiet kid held goes = Contains-none kid (subst (λ (l : List (List Visit)). Contains l kid) none held)
  kids-quiet (here ∷ sequences) kids (inl none) quiet kid held goes = kids-quiet sequences kids none.1 (λ one there. quiet one (Contains-other here sequences one there)) kid held goes
  kids-quiet (here ∷ sequences) kids (inr (first, others, cut, are, matched)) quiet kid held goes = elim (Contains-cases first others kid (subst (λ (l : List (List Visit)). Contains l kid) cut held)) [
    | inl same ↦
        quiet here (Contains-first here sequences)
        (kid-behind course each ranks rank here first are goes-by (λ one. one.action.more) goes-it (subst (HasOne (λ one. one.action.more)) same goes))
    | inr there ↦ kids-quiet sequences others matched (λ one inside. quiet one (Contains-other here sequences one inside)) kid there goes
  ]

-- ---- visits of which none goes on

module _ (ranks : Ranks) (other : ℕ) where
  more-from : (visit : Visit) → IsTrue (opens ranks free other visit) → visit.action.more ≡ true
  more-from visit opening = by visit.action.more refl
    where
      by : (b : Bool) → visit.action.more ≡ b → visit.action.more ≡ true
      by true is = is
      by false is = absurd (opens-no ranks visit is other opening)

  quiet-visit : (visit : Visit) → (IsTrue visit.action.more → ⊥) → visit.action.more ≡ false
  quiet-visit visit quiet = by visit.action.more refl
    where
      by : (b : Bool) → visit.action.more ≡ b → visit.action.more ≡ false
      by true is = absurd (quiet is)
      by false is = is

  ends-counted : (kids : List (List Visit)) (n : ℕ) → ((kid : List Visit) → Contains kids kid → HasOne (λ one. one.action.more) kid → ⊥) → Counts (HasOne (follows ranks free other)) (all_weighed [] kids) n
      → Counts (HasOne (ends ranks free other)) (all_weighed [] kids) n
  ends-counted [] n quiet none = none
  ends-counted (kid ∷ kids) n quiet (inl (has, (rest, sum, counts))) =
      let (visit, held, passes) = has in
      let stays = quiet-visit visit (λ goes. quiet kid (Contains-first kid kids) (visit, held, goes)) in
      inl ((visit, held, sym (follows-is ranks visit other stays) ∙ passes), (rest, sum, ends-counted kids rest (λ one there. quiet one (Contains-other kid kids one there)) counts))
  ends-counted (kid ∷ kids) n quiet (inr (lacks, counts)) =
      inr (
        (λ (visit, held, passes).
            let stays = quiet-visit visit (λ goes. quiet kid (Contains-first kid kids) (visit, held, goes)) in
            lacks (visit, held, follows-is ranks visit other stays ∙ passes)),
        ends-counted kids n (λ one there. quiet one (Contains-other kid kids one there)) counts,
      )

  none-opens : (kids : List (List Visit)) → ((kid : List Visit) → Contains kids kid → HasOne (λ one. one.action.more) kid → ⊥) → Counts (HasOne (opens ranks free other)) (all_weighed [] kids) 0
  none-opens [] quiet = refl
  none-opens (kid ∷ kids) quiet =
      inr ((λ (visit, held, passes). quiet kid (Contains-first kid kids) (visit, held, more-from visit passes)), none-opens kids (λ one there. quiet one (Contains-other kid kids one there)))

  of-kid : (visits : List Visit) (kids : List (List Visit)) → AreSequences visits kids → (visit : Visit) → Contains visits visit → ((kid : List Visit) → Contains kids kid → Contains kid visit → ⊥) → ⊥
  of-kid visits [] none visit held never = Contains-none visit (subst (λ (l : List Visit). Contains l visit) none held)
  of-kid visits (kid ∷ kids) (behind, cut, is, are) visit held never = elim (Contains-append_cases kid behind visit (subst (λ (l : List Visit). Contains l visit) cut held)) [
    | inl here ↦ never kid (Contains-first kid kids) here
    | inr there ↦ of-kid behind kids are visit there (λ one inside. never one (Contains-other kid kids one inside))
  ]

  no-stands : (visits : List Visit) (kids : List (List Visit)) → AreSequences visits kids → ((kid : List Visit) → Contains kids kid → HasOne (λ one. one.action.more) kid → ⊥) → filter (opens ranks free other) visits ≡ []
  no-stands visits kids are quiet = no_members (filter (opens ranks free other) visits) (λ visit held.
      let (inside, opening) = Contains-filter (opens ranks free other) visits visit held in
      of-kid visits kids are visit inside (λ kid there in'. quiet kid there (visit, in', more-from visit opening)))

  pub quiet-counted : (visits : List Visit) (kids : List (List Visit)) (n : ℕ) → AreSequences visits kids → ((kid : List Visit) → Contains kids kid → HasOne (λ one. one.action.more) kid → ⊥)
      → Counts (HasOne (follows ranks free other)) (all_weighed [] kids) n → AreCounted ranks free [] other visits kids empty_tally (last_tally n)
  quiet-counted visits kids n are quiet counts = record {
    weight = (n, counts, omega arith);
    support = (n, ends-counted kids n quiet counts, omega arith);
    longer = (0, none-opens kids quiet, omega arith);
    stands = let none = ap (λ (l : List Visit). length l) (no-stands visits kids are quiet) in omega (arith, none);
  }

-- ---- where nothing is needed that is not yet seen

seen-stands : (ranks : Ranks) (need : Option ℕ) (rank : ℕ) (sequences : List (List Visit)) → stands_of ranks (record { seen = true; need = need }) rank sequences ≡ stands_of ranks free rank sequences
seen-stands ranks None rank sequences = refl
seen-stands ranks (Some need) rank sequences = refl

none-stands : (ranks : Ranks) (seen : Bool) (rank : ℕ) (sequences : List (List Visit)) → stands_of ranks (record { seen = seen; need = None }) rank sequences ≡ stands_of ranks free rank sequences
none-stands ranks seen rank sequences = refl

pub free-stands : (ranks : Ranks) (aim : Aim) (rank : ℕ) (sequences : List (List Visit)) → IsSeen aim → stands_of ranks aim rank sequences ≡ stands_of ranks free rank sequences
free-stands ranks aim rank sequences (inl seen) =
    subst (λ (s : Bool). stands_of ranks (record { seen = s; need = aim.need }) rank sequences ≡ stands_of ranks free rank sequences) (sym seen) (seen-stands ranks aim.need rank sequences)
free-stands ranks aim rank sequences (inr none) =
    subst (λ (n : Option ℕ). stands_of ranks (record { seen = aim.seen; need = n }) rank sequences ≡ stands_of ranks free rank sequences) (sym none) (none-stands ranks aim.seen rank sequences)
