-- What was counted of a rank, by ranks and by sets.
use Rattle.std.proofs.Common.{◌≡◌, ℕ, zero, suc, ◌+◌, ◌≤◌, inl, inr, Bool, true, false, true≢false, ◌==◌, Some, Option, None, List, [], ◌∷◌, length, replicate, refl, sym, ap, ◌∙◌, subst, arith}
use Rattle.std.specs.List.{slice_get}
use Rattle.std.proofs.lemmas.Bool.{ne_eqb}
use Rattle.std.proofs.lemmas.Option.{same_Some}
use Rattle.mine_model.specs.Support.{Sequence}
use Rattle.place_walk.specs.declared.visit.Visit.{Visit}
use Rattle.stand_sums.specs.declared.aim.Aim.{Aim}
use Rattle.stand_sums.specs.Writings.{Ranks, IsReadable, opens, ends, follows}
use Rattle.stand_sums.specs.Sequences.{all_weighed}
use Rattle.stand_sums.specs.Sums.{Tally, empty_tally, Grows, AreCounted}
use Rattle.mask_sums.specs.declared.masked.Masked.{Masked}
use Rattle.mask_sums.specs.Sets.{masked_at, plus, together}
use Rattle.mask_sums.specs.Kept.{free, lacks, lacking, IsSeen}

-- ---- both sums of a rank

pub together-long : (masked : Masked) (rank : ℕ) (tallies : List Tally) → length (together masked rank tallies) ≡ length tallies
together-long masked rank [] = refl
together-long masked rank (tally ∷ tallies) = ap suc (together-long masked (suc rank) tallies)

together-from : (masked : Masked) (first k : ℕ) (tallies : List Tally) (tally : Tally) → slice_get tallies k ≡ Some tally
    → slice_get (together masked first tallies) k ≡ Some (plus tally (masked_at masked (first + k)))
together-from masked first k [] tally at = absurd (cc)
together-from masked first zero (one ∷ tallies) tally at =
    let same : one ≡ tally = same_Some one tally at in
    ap Some (ap (λ (t : Tally). plus t (masked_at masked first)) same ∙ ap (λ (n : ℕ). plus tally (masked_at masked n)) (let e : first ≡ first + 0 = omega arith in e))
together-from masked first (suc k) (one ∷ tallies) tally at =
    together-from masked (suc first) k tallies tally at
    ∙ ap (λ (n : ℕ). Some (plus tally (masked_at masked n))) (let e : suc first + k ≡ first + suc k = omega arith in e)

pub together-at : (masked : Masked) (tallies : List Tally) (rank : ℕ) (tally : Tally) → slice_get tallies rank ≡ Some tally
    → slice_get (together masked 0 tallies) rank ≡ Some (plus tally (masked_at masked rank))
together-at masked tallies rank tally at =
    together-from masked 0 rank tallies tally at ∙ ap (λ (n : ℕ). Some (plus tally (masked_at masked n))) (let e : 0 + rank ≡ rank = omega arith in e)

some-at : (tallies : List Tally) (masked : Masked) (first rank : ℕ) (all : Tally) → slice_get (together masked first tallies) rank ≡ Some all → (tally : Tally) × (slice_get tallies rank ≡ Some tally)
some-at [] masked first rank all at = absurd (cc)
some-at (tally ∷ tallies) masked first zero all at = (tally, refl)
some-at (tally ∷ tallies) masked first (suc rank) all at = some-at tallies masked (suc first) rank all at

pub at-together : (masked : Masked) (tallies : List Tally) (rank : ℕ) (all : Tally) → slice_get (together masked 0 tallies) rank ≡ Some all
    → (tally : Tally) × (slice_get tallies rank ≡ Some tally) × (all ≡ plus tally (masked_at masked rank))
at-together masked tallies rank all at =
    let (tally, there) = some-at tallies masked 0 rank all at in
    (tally, there, same_Some all (plus tally (masked_at masked rank)) (sym at ∙ together-at masked tallies rank tally there))

-- ---- where nothing was counted by sets, or by ranks

plus-none : (tally other : Tally) → other ≡ empty_tally → plus tally other ≡ tally
plus-none tally other none = ap (plus tally) none ∙ (λ i. record {
  weight = (let e : tally.weight + 0 ≡ tally.weight = omega arith in e) i;
  support = (let e : tally.support + 0 ≡ tally.support = omega arith in e) i;
  longer = (let e : tally.longer + 0 ≡ tally.longer = omega arith in e) i;
  stands = (let e : tally.stands + 0 ≡ tally.stands = omega arith in e) i;
})

pub together-none : (masked : Masked) (first : ℕ) (tallies : List Tally) → ((rank : ℕ) → masked_at masked rank ≡ empty_tally) → together masked first tallies ≡ tallies
together-none masked first [] none = refl
together-none masked first (tally ∷ tallies) none = λ i. plus-none tally (masked_at masked first) (none first) i ∷ together-none masked (suc first) tallies none i

-- an element of a list of nothing
pub replicate-at : (n rank : ℕ) (tally : Tally) → slice_get (replicate n empty_tally) rank ≡ Some tally → tally ≡ empty_tally
replicate-at zero rank tally at = absurd (cc)
replicate-at (suc n) zero tally at = same_Some tally empty_tally (sym at)
replicate-at (suc n) (suc rank) tally at = replicate-at n rank tally at

-- ---- one of both grows

grows-moved : (test : Visit → Bool) (sequences : List (Sequence Visit)) (before after more low high : ℕ) → low ≡ before + more → high ≡ after + more → Grows test sequences before after
    → Grows test sequences low high
grows-moved test sequences before after more low high one other (n, counts, is) = (n, counts, omega arith)

module _ (ranks : Ranks) (aim : Aim) (weights : List ℕ) (rank : ℕ) (visits : List Visit) (sequences : List (List Visit)) (before after tally : Tally) where
  -- that by ranks
  pub first-counted : AreCounted ranks aim weights rank visits sequences before after → AreCounted ranks aim weights rank visits sequences (plus before tally) (plus after tally)
  first-counted are =
      let stands = are.stands in
      record {
        weight = grows-moved (follows ranks aim rank) (all_weighed weights sequences) before.weight after.weight tally.weight (before.weight + tally.weight) (after.weight + tally.weight) refl refl are.weight;
        support = grows-moved (ends ranks aim rank) (all_weighed weights sequences) before.support after.support tally.support (before.support + tally.support) (after.support + tally.support) refl refl are.support;
        longer = grows-moved (opens ranks aim rank) (all_weighed weights sequences) before.longer after.longer tally.longer (before.longer + tally.longer) (after.longer + tally.longer) refl refl are.longer;
        stands = omega arith;
      }

  -- that by sets
  pub second-counted : AreCounted ranks aim weights rank visits sequences before after → AreCounted ranks aim weights rank visits sequences (plus tally before) (plus tally after)
  second-counted are =
      let stands = are.stands in
      record {
        weight = grows-moved (follows ranks aim rank) (all_weighed weights sequences) before.weight after.weight tally.weight (tally.weight + before.weight) (tally.weight + after.weight) (omega arith) (omega arith) are.weight;
        support = grows-moved (ends ranks aim rank) (all_weighed weights sequences) before.support after.support tally.support (tally.support + before.support) (tally.support + after.support) (omega arith) (omega arith) are.support;
        longer = grows-moved (opens ranks aim rank) (all_weighed weights sequences) before.longer after.longer tally.longer (tally.longer + before.longer) (tally.longer + after.longer) (omega arith) (omega arith) are.longer;
        stands = omega arith;
      }

-- where what is needed was seen, nothing more is
seen-counted : (ranks : Ranks) (need : Option ℕ) (rank : ℕ) (visits : List Visit) (sequences : List (List Visit)) (before after : Tally) → AreCounted ranks free [] rank visits sequences before after
    → AreCounted ranks (record { seen = true; need = need }) [] rank visits sequences before after
seen-counted ranks None rank visits sequences before after are = record { weight = are.weight; support = are.support; longer = are.longer; stands = are.stands }
seen-counted ranks (Some need) rank visits sequences before after are =
    record { weight = are.weight; support = are.support; longer = are.longer; stands = are.stands }

none-needed : (ranks : Ranks) (seen : Bool) (rank : ℕ) (visits : List Visit) (sequences : List (List Visit)) (before after : Tally) → AreCounted ranks free [] rank visits sequences before after
    → AreCounted ranks (record { seen = seen; need = None }) [] rank visits sequences before after
none-needed ranks seen rank visits sequences before after are = record { weight = are.weight; support = are.support; longer = are.longer; stands = are.stands }

-- with no weights told, too
pub free-counted : (ranks : Ranks) (aim : Aim) (weights : List ℕ) (rank : ℕ) (visits : List Visit) (sequences : List (List Visit)) (before after : Tally) → IsSeen aim → weights ≡ []
    → AreCounted ranks free [] rank visits sequences before after → AreCounted ranks aim weights rank visits sequences before after
free-counted ranks aim weights rank visits sequences before after seen empty are =
    subst (λ (w : List ℕ). AreCounted ranks aim w rank visits sequences before after) (sym empty) (elim seen [
      | inl was ↦
          subst (λ (s : Bool). AreCounted ranks (record { seen = s; need = aim.need }) [] rank visits sequences before after) (sym was)
          (seen-counted ranks aim.need rank visits sequences before after are)
      | inr none ↦
          subst (λ (n : Option ℕ). AreCounted ranks (record { seen = aim.seen; need = n }) [] rank visits sequences before after) (sym none)
          (none-needed ranks aim.seen rank visits sequences before after are)
    ])

-- a list of no length
pub none-long : (list : List ℕ) → (length list == 0) ≡ true → list ≡ []
none-long [] is = refl
none-long (one ∷ list) is = absurd (true≢false (sym is ∙ ne_eqb (length (one ∷ list)) 0 (λ same. absurd (omega arith))))

-- what is seen is not lacking
lacks-counted : (ranks : Ranks) (seen : Bool) (need : Option ℕ) (rank : ℕ) (visits : List Visit) (sequences : List (List Visit)) (before after : Tally)
    → AreCounted ranks (lacks (lacking (record { seen = seen; need = need }))) [] rank visits sequences before after → AreCounted ranks (record { seen = seen; need = need }) [] rank visits sequences before after
lacks-counted ranks true need rank visits sequences before after are = seen-counted ranks need rank visits sequences before after are
lacks-counted ranks false need rank visits sequences before after are = are

pub lacking-counted : (ranks : Ranks) (aim : Aim) (weights : List ℕ) (rank : ℕ) (visits : List Visit) (sequences : List (List Visit)) (before after : Tally) → weights ≡ []
    → AreCounted ranks (lacks (lacking aim)) [] rank visits sequences before after → AreCounted ranks aim weights rank visits sequences before after
lacking-counted ranks aim weights rank visits sequences before after empty are =
    subst (λ (w : List ℕ). AreCounted ranks aim w rank visits sequences before after) (sym empty)
    (lacks-counted ranks aim.seen aim.need rank visits sequences before after are)

-- what can be read below an end can be below a later one
pub readable-more : (ranks : Ranks) (CanAsk : ℕ → ℕ → Type 0) (end later : ℕ) (visit : Visit) → end ≤ later → IsReadable ranks CanAsk end visit → IsReadable ranks CanAsk later visit
readable-more ranks CanAsk end later visit more is = record {
  asked = is.asked;
  once = is.once;
  within = λ k d inside. let less = is.within k d inside in omega arith;
}
