-- What is read of one visit.
use Rattle.std.proofs.Common.{◌≡◌, ℕ, ◌⊎◌, ◌↔◌, inl, inr, Bool, true, false, ◌||◌, IsTrue, Option, List, [], ◌∷◌, refl, ap}
use Rattle.std.specs.List.{Contains}
use Rattle.std.proofs.lemmas.Bool.{false_from_ne_true}
use Rattle.state_bits.specs.Members.{Has}
use Rattle.walk_memo.specs.declared.action.Action.{Action}
use Rattle.place_walk.specs.declared.visit.Visit.{Visit}
use Rattle.place_walk.specs.Courses.{Course}
use Rattle.place_walk.specs.Visits.{AreVisits}
use Rattle.stand_sums.specs.Writings.{Ranks, goes_on, opens, ends, follows}
use Rattle.stand_sums.specs.Sequences.{HasOne}
use Rattle.stand_sums.specs.Files.{stand_at}
use Rattle.stand_sums.proofs.WritingLemmas.{bare}
use Rattle.mask_sums.specs.Kept.{free, lacks}
use Rattle.mask_sums.proofs.SetLemmas.{opens-no}
use Rattle.level_ahead.specs.Behind.{HasBehind, FollowsBehind, goes_further, GoesOnBehind}
use Rattle.level_ahead.proofs.NeedLemmas.{further-bare, opens-has}
use Rattle.level_ahead.proofs.BehindLemmas.{one-opens, one-behind, behind-one, found-behind, behind-found}

-- ---- visits that do not go on

-- what follows by a visit that does not go on is what ends there
pub follows-is : (ranks : Ranks) (visit : Visit) (rank : ℕ) → visit.action.more ≡ false → follows ranks free rank visit ≡ ends ranks free rank visit
follows-is ranks visit rank stays =
    ap (λ (b : Bool). b || ends ranks free rank visit) (false_from_ne_true (opens ranks free rank visit) (opens-no ranks visit stays rank))

-- ---- one visit

pub either-none : (A B : Type 0) → (B → ⊥) → A ↔ (A ⊎ B)
either-none A B fails = ((λ a. inl a), (λ either. elim either [ inl a ↦ a | inr b ↦ absurd (fails b) ]))

-- nothing is behind a visit that does not write the rank and go on
pub closed-behind : (course : Course) (ranks : Ranks) (lacking : Option ℕ) (rank : ℕ) (test : Visit → Bool) (visit : Visit) → (IsTrue (opens ranks (lacks lacking) rank visit) → ⊥) → HasBehind course ranks lacking rank test (visit ∷ []) → ⊥
closed-behind course ranks lacking rank test visit closed has = closed (one-opens course ranks lacking rank test visit has)

module _ (course : Course) (ranks : Ranks) (lacking : Option ℕ) (visit : Visit) (mask asked wanted : ℕ) (is : (rank : ℕ) → Has mask rank ↔ Contains (ranks visit.kind visit.action.state) rank)
    (goes : (rank : ℕ) → Has asked rank → goes_on (lacks lacking) rank visit.action ≡ true) (cut : (rank : ℕ) → Has wanted rank ↔ (Has mask rank × Has asked rank)) where
  -- of the ranks asked about those are wanted that it writes and goes on
  pub wanted-opens : (rank : ℕ) → Has wanted rank → Has asked rank × IsTrue (opens ranks (lacks lacking) rank visit)
  wanted-opens rank has = let both = (cut rank).0 has in (both.1, (opens-has ranks visit mask is (lacks lacking) rank (goes rank both.1)).0 both.0)

  pub opens-wanted : (rank : ℕ) → Has asked rank → IsTrue (opens ranks (lacks lacking) rank visit) → Has wanted rank
  opens-wanted rank asks opening = (cut rank).1 ((opens-has ranks visit mask is (lacks lacking) rank (goes rank asks)).1 opening, asks)

  module _ (room : List Visit) (are : AreVisits course (stand_at true visit ∷ []) room) where
    abbrev goes-by : ℕ → Action → Bool
    goes-by kind action = goes_further ranks lacking (bare kind action)

    abbrev follows-by : ℕ → ℕ → Action → Bool
    follows-by other kind action = follows ranks (lacks lacking) other (bare kind action)

    pub quiet-there : (HasOne (goes_further ranks lacking) room → ⊥) → (rank : ℕ) → GoesOnBehind course ranks lacking rank (visit ∷ []) → ⊥
    quiet-there quiet rank there =
        quiet (behind-found course visit room are goes-by (goes_further ranks lacking) (λ next. further-bare ranks lacking next) (one-behind course ranks lacking rank (goes_further ranks lacking) visit there))

    -- what follows there
    pub follows-there : (next : ℕ) → ((other : ℕ) → Has next other ↔ HasOne (follows ranks (lacks lacking) other) room) → (rank other : ℕ) → Has asked rank
        → (Has wanted rank × Has next other) ↔ FollowsBehind course ranks lacking rank other (visit ∷ [])
    follows-there next set rank other asks = (
      (λ both.
          behind-one course ranks lacking rank (follows ranks (lacks lacking) other) visit (wanted-opens rank both.0).1
          (found-behind course visit room are (follows-by other) (follows ranks (lacks lacking) other) (λ one. refl) ((set other).0 both.1))),
      (λ has. (
        opens-wanted rank asks (one-opens course ranks lacking rank (follows ranks (lacks lacking) other) visit has),
        (set other).1 (behind-found course visit room are (follows-by other) (follows ranks (lacks lacking) other) (λ one. refl) (one-behind course ranks lacking rank (follows ranks (lacks lacking) other) visit has)),
      )),
    )

pub either-by : (A B C D : Type 0) → A ↔ (B ⊎ C) → C ↔ D → A ↔ (B ⊎ D)
either-by A B C D one other = (
  (λ a. elim (one.0 a) [ inl b ↦ inl b | inr c ↦ inr (other.0 c) ]),
  (λ either. one.1 (elim either [ inl b ↦ inl b | inr d ↦ inr (other.1 d) ])),
)
