-- Visits of groups of stands, and of single stands.
use Rattle.std.proofs.Common.{◌≡◌, ◌↔◌, ℕ, Bool, true, inl, inr, List, [], ◌∷◌, refl, sym, ap, ◌∙◌, subst}
use Rattle.std.specs.List.{AllZip, Contains}
use Rattle.mine_model.proofs.ListLemmas.{Contains-cases, Contains-first, Contains-other, Contains-none}
use Rattle.walk_memo.specs.declared.action.Action.{Action}
use Rattle.place_walk.specs.declared.stand.Stand.{Stand}
use Rattle.place_walk.specs.declared.visit.Visit.{Visit}
use Rattle.place_walk.specs.Courses.{Course}
use Rattle.place_walk.specs.Visits.{IsVisit, HasVisit, AreVisits, AreVisitsOf}
use Rattle.stand_sums.specs.Sequences.{AreSequences, HasOne, IsUnionOf}

pub groups-sequences : (course : Course) (groups : List (List Stand)) (visits : List Visit) → AreVisitsOf course groups visits
    → (sequences : List (List Visit)) × AreSequences visits sequences × AllZip (AreVisits course) groups sequences
groups-sequences course [] visits none = ([], none, tt)
groups-sequences course (group ∷ groups) visits (here, there, cut, are, others) =
    let (sequences, cuts, all) = groups-sequences course groups there others in
    (here ∷ sequences, (there, cut, are.first, cuts), (are, all))

-- what stands beside an element
beside : {A B : Type 0} (R : A → B → Type 0) (xs : List A) (ys : List B) (x : A) → AllZip R xs ys → Contains xs x → (y : B) × Contains ys y × R x y
beside R [] [] x all held = absurd (Contains-none x held)
beside R [] (y ∷ ys) x all held = absurd all
beside R (x' ∷ xs) [] x all held = absurd all
beside R (x' ∷ xs) (y ∷ ys) x (one, others) held = elim (Contains-cases x' xs x held) [
  | inl here ↦ (y, Contains-first y ys, subst (λ a. R a y) (sym here) one)
  | inr there ↦ let (other, in', is) = beside R xs ys x others there in (other, Contains-other y ys other in', is)
]

beside-back : {A B : Type 0} (R : A → B → Type 0) (xs : List A) (ys : List B) (y : B) → AllZip R xs ys → Contains ys y → (x : A) × Contains xs x × R x y
beside-back R [] [] y all held = absurd (Contains-none y held)
beside-back R [] (y' ∷ ys) y all held = absurd all
beside-back R (x ∷ xs) [] y all held = absurd all
beside-back R (x ∷ xs) (y' ∷ ys) y (one, others) held = elim (Contains-cases y' ys y held) [
  | inl here ↦ (x, Contains-first x xs, subst (λ b. R x b) (sym here) one)
  | inr there ↦ let (other, in', is) = beside-back R xs ys y others there in (other, Contains-other x xs other in', is)
]

module _ (course : Course) (stands : List Stand) (visits : List Visit) (alone : List (List Visit))
    (each : (place kind : ℕ) (action : Action) → IsVisit course stands place kind action ↔ ((stand : Stand) × Contains stands stand × IsVisit course (stand ∷ []) place kind action))
    (are : AreVisits course stands visits) (all : AllZip (λ stand behind. AreVisits course (stand ∷ []) behind) stands alone)
    (by : ℕ → Action → Bool) (test : Visit → Bool) (tests : (visit : Visit) → test visit ≡ by visit.kind visit.action) where
  passes : (visit : Visit) (kind : ℕ) (action : Action) → visit.kind ≡ kind → visit.action ≡ action → test visit ≡ by kind action
  passes visit kind action kind_is action_is = tests visit ∙ ap (λ (k : ℕ). by k visit.action) kind_is ∙ ap (by kind) action_is

  one-of : (visits' : List Visit) (place kind : ℕ) (action : Action) → by kind action ≡ true → HasVisit visits' place kind action → HasOne test visits'
  one-of visits' place kind action passing (visit, held, place_is, kind_is, action_is) = (visit, held, passes visit kind action kind_is action_is ∙ passing)

  pub union-of : IsUnionOf test visits alone
  union-of = (
    λ (visit, held, passing).
        let passing' : by visit.kind visit.action ≡ true = sym (tests visit) ∙ passing in
        let (stand, in', is) = (each visit.place visit.kind visit.action).0 ((are.exact visit.place visit.kind visit.action).0 (visit, held, refl, refl, refl)) in
        let (behind, among, those) = beside (λ stand behind. AreVisits course (stand ∷ []) behind) stands alone stand all in' in
        (behind, among, one-of behind visit.place visit.kind visit.action passing' ((those.exact visit.place visit.kind visit.action).1 is)),
    λ (behind, among, (visit, held, passing)).
        let passing' : by visit.kind visit.action ≡ true = sym (tests visit) ∙ passing in
        let (stand, in', those) = beside-back (λ stand behind. AreVisits course (stand ∷ []) behind) stands alone behind all among in
        let is = (those.exact visit.place visit.kind visit.action).0 (visit, held, refl, refl, refl) in
        one-of visits visit.place visit.kind visit.action passing' ((are.exact visit.place visit.kind visit.action).1 ((each visit.place visit.kind visit.action).1 (stand, in', is))),
  )
