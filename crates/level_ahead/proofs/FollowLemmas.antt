-- What is found on the way behind a visit.
use Rattle.std.proofs.Common.{◌≡◌, ℕ, zero, suc, ◌+◌, ◌<◌, ◌≤◌, ◌⊎◌, ◌↔◌, inl, inr, true, false, true≢false, Bool, ◌&&◌, IsTrue, Option, Some, None, List, [], ◌∷◌, ◌++◌, length, map, take, get_or, refl, sym, ap, ◌∙◌, subst, arith}
use Rattle.std.specs.List.{AllPairs, Contains, slice_get}
use Rattle.std.proofs.lemmas.List.{take_more}
use Rattle.std.proofs.lemmas.Option.{same_Some}
use Rattle.std.proofs.lemmas.List.Elements.{Contains-push, Contains-push_cases, Contains-append_left, Contains-append_right, Contains-append_cases}
use Rattle.mine_model.proofs.ListLemmas.{Contains-cases, Contains-first, Contains-other}
use Rattle.state_bits.specs.Members.{Has}
use Rattle.walk_memo.specs.declared.action.Action.{Action}
use Rattle.walk_memo.specs.Steps.{IsJoin}
use Rattle.place_walk.specs.declared.stand.Stand.{Stand}
use Rattle.place_walk.specs.declared.visit.Visit.{Visit}
use Rattle.place_walk.specs.Courses.{Course}
use Rattle.place_walk.specs.Visits.{AreVisits}
use Rattle.place_walk.specs.Ways.{IsStepOver, IsOnWay, visit_of, with_first}
use Rattle.place_walk.proofs.WayLemmas.{way-first, way-more, way-all}
use Rattle.stand_sums.specs.Writings.{Ranks, writes, ends, follows}
use Rattle.stand_sums.specs.Sequences.{HasOne}
use Rattle.stand_sums.specs.Files.{stand_at}
use Rattle.mask_sums.specs.Kept.{free, lacks}
use Rattle.mask_sums.proofs.SetLemmas.{ends-yes, ends-no}
use Rattle.level_ahead.specs.Behind.{IsBehind, goes_further}
use Rattle.level_ahead.specs.Following.{HasEnded}
use Rattle.level_ahead.proofs.NeedLemmas.{needed-quiet, needed-only, needed-follows, further-marked}
use Rattle.level_ahead.proofs.ReadLemmas.{follows-is}

-- ---- visits that end

-- what stands for an action where there is none
abbrev pub idle : Action
idle = record { state = 0; more = false; unseen = false; ends = false }

module _ (ranks : Ranks) (lacking : Option ℕ) where
  pub ended-none : (before : ℕ) → HasEnded ranks lacking [] before before
  ended-none before = record {
    ended = λ (one, (k, inside, is), goes). absurd (omega arith);
    added = λ rank. ((λ has. inl has), (λ either. elim either [ inl has ↦ has | inr (one, (k, inside, is), passes) ↦ absurd (omega arith) ]));
  }

  -- some and more behind them
  pub ended-both : (some more : List Visit) (before mid after : ℕ) → HasEnded ranks lacking some before mid → HasEnded ranks lacking more mid after → HasEnded ranks lacking (some ++ more) before after
  ended-both some more before mid after first second = record {
    ended = λ (one, held, goes). elim (Contains-append_cases some more one held) [
      | inl here ↦ first.ended (one, here, goes)
      | inr there ↦ second.ended (one, there, goes)
    ];
    added = λ rank. (
      (λ has. elim ((second.added rank).0 has) [
        | inl had ↦ elim ((first.added rank).0 had) [
          | inl old ↦ inl old
          | inr (one, held, passes) ↦ inr (one, Contains-append_left some more one held, passes)
        ]
        | inr (one, held, passes) ↦ inr (one, Contains-append_right some more one held, passes)
      ]),
      (λ either. (second.added rank).1 (elim either [
        | inl old ↦ inl ((first.added rank).1 (inl old))
        | inr (one, held, passes) ↦ elim (Contains-append_cases some more one held) [
          | inl here ↦ inl ((first.added rank).1 (inr (one, here, passes)))
          | inr there ↦ inr (one, there, passes)
        ]
      ])),
    );
  }

  -- one that does not go on
  pub one-ended : (one : Visit) → goes_further ranks lacking one ≡ false → (before after : ℕ) → ((rank : ℕ) → Has after rank ↔ (Has before rank ⊎ IsTrue (follows ranks (lacks lacking) rank one)))
      → HasEnded ranks lacking (one ∷ []) before after
  one-ended one stays before after adds = record {
    ended = λ (visit, held, goes). elim (Contains-push_cases [] one visit held) [
      | inl (k, inside, is) ↦ absurd (omega arith)
      | inr same ↦ true≢false (sym goes ∙ ap (goes_further ranks lacking) (sym same) ∙ stays)
    ];
    added = λ rank. (
      (λ has. elim ((adds rank).0 has) [ inl had ↦ inl had | inr passes ↦ inr (one, Contains-push [] one, passes) ]),
      (λ either. (adds rank).1 (elim either [
        | inl had ↦ inl had
        | inr (visit, held, passes) ↦ elim (Contains-push_cases [] one visit held) [
          | inl (k, inside, is) ↦ absurd (omega arith)
          | inr same ↦ inr (subst (λ (v : Visit). IsTrue (follows ranks (lacks lacking) rank v)) (sym same) passes)
        ]
      ])),
    );
  }

module _ (ranks : Ranks) where
  pub one-stops : (one : Visit) → one.action.more ≡ false → one.action.ends ≡ true → (before after mask : ℕ)
      → ((rank : ℕ) → Has mask rank ↔ Contains (ranks one.kind one.action.state) rank) → ((rank : ℕ) → Has after rank ↔ (Has before rank ⊎ Has mask rank))
      → HasEnded ranks None (one ∷ []) before after
  one-stops one stays stops before after mask is union =
      one-ended ranks None one stays before after (λ rank.
      let same : follows ranks free rank one ≡ ends ranks free rank one = follows-is ranks one rank stays in
      let ending = ends-yes ranks one mask is stops rank in (
        (λ has. elim ((union rank).0 has) [ inl had ↦ inl had | inr new ↦ inr (same ∙ ending.0 new) ]),
        (λ either. (union rank).1 (elim either [ inl had ↦ inl had | inr passes ↦ inr (ending.1 (sym same ∙ passes)) ])),
      ))

  pub one-passes : (one : Visit) → one.action.more ≡ false → one.action.ends ≡ false → (before : ℕ) → HasEnded ranks None (one ∷ []) before before
  one-passes one stays goes before =
      one-ended ranks None one stays before before (λ rank. (
        (λ has. inl has),
        (λ either. elim either [ inl had ↦ had | inr passes ↦ absurd (ends-no ranks one goes rank (sym (follows-is ranks one rank stays) ∙ passes)) ]),
      ))

  -- where a rank is lacking, and is written and ends
  pub needed-stops : (need : ℕ) (one : Visit) → one.action.unseen ≡ false → (writes ranks need one && one.action.more) ≡ false → IsTrue (writes ranks need one) → one.action.ends ≡ true
      → (before after : ℕ) → ((rank : ℕ) → Has after rank ↔ (Has before rank ⊎ (rank ≡ need))) → HasEnded ranks (Some need) (one ∷ []) before after
  needed-stops need one unseen quiet writing stopping before after adds =
      one-ended ranks (Some need) one (needed-quiet ranks need one unseen quiet) before after (λ rank. (
        (λ has. elim ((adds rank).0 has) [
          | inl had ↦ inl had
          | inr same ↦ inr (subst (λ (r : ℕ). IsTrue (follows ranks (lacks (Some need)) r one)) (sym same) (needed-follows ranks need one writing stopping))
        ]),
        (λ either. (adds rank).1 (elim either [ inl had ↦ inl had | inr passes ↦ inr (sym (needed-only ranks need one unseen quiet rank passes).0) ])),
      ))

  -- or is not, or does not end
  pub needed-passes : (need : ℕ) (one : Visit) → one.action.unseen ≡ false → (writes ranks need one && one.action.more) ≡ false → (IsTrue (writes ranks need one) → one.action.ends ≡ false)
      → (before : ℕ) → HasEnded ranks (Some need) (one ∷ []) before before
  needed-passes need one unseen quiet goes before =
      one-ended ranks (Some need) one (needed-quiet ranks need one unseen quiet) before before (λ rank. (
        (λ has. inl has),
        (λ either. elim either [
          | inl had ↦ had
          | inr passes ↦ let (same, (writing, stopping)) = needed-only ranks need one unseen quiet rank passes in absurd (true≢false (sym stopping ∙ goes writing))
        ]),
      ))

  -- the actions up to one, and that one
  pub mapped-more : (place kind : ℕ) (actions : List Action) (k : ℕ) (d : Action) → k < length actions
      → map (visit_of place kind) (take (k + 1) actions) ≡ map (visit_of place kind) (take k actions) ++ visit_of place kind (get_or actions k d) ∷ []
  mapped-more place kind actions k d inside = ap (map (visit_of place kind)) (take_more actions k d inside) ∙ map-push (take k actions) (get_or actions k d)
    where
      map-push : (list : List Action) (one : Action) → map (visit_of place kind) (list ++ one ∷ []) ≡ map (visit_of place kind) list ++ visit_of place kind one ∷ []
      map-push [] one = refl
      map-push (first ∷ list) one = ap (λ (vs : List Visit). visit_of place kind first ∷ vs) (map-push list one)

-- ---- the first is marked

abbrev marked : Visit → Visit
marked visit = record { place = visit.place; kind = visit.kind; action = visit.action; first = true }

has-marked : (test : Visit → Bool) → ((visit : Visit) → test (marked visit) ≡ test visit) → (visits : List Visit) → HasOne test (with_first visits) ↔ HasOne test visits
has-marked test same [] = ((λ has. has), (λ has. has))
has-marked test same (first ∷ visits) = (
  (λ (one, held, passes). elim (Contains-cases (marked first) visits one held) [
    | inl is ↦ (first, Contains-first first visits, sym (same first) ∙ ap test (sym is) ∙ passes)
    | inr other ↦ (one, Contains-other first visits one other, passes)
  ]),
  (λ (one, held, passes). elim (Contains-cases first visits one held) [
    | inl is ↦ (marked first, Contains-first (marked first) visits, same first ∙ ap test (sym is) ∙ passes)
    | inr other ↦ (one, Contains-other (marked first) visits one other, passes)
  ]),
)

pub ended-marked : (ranks : Ranks) (lacking : Option ℕ) (visits : List Visit) (before after : ℕ) → HasEnded ranks lacking visits before after → HasEnded ranks lacking (with_first visits) before after
ended-marked ranks lacking visits before after is = record {
  ended = λ has. is.ended ((has-marked (goes_further ranks lacking) (λ visit. further-marked ranks lacking visit.place visit.kind visit.action true visit.first) visits).0 has);
  added = λ rank.
      let both = has-marked (follows ranks (lacks lacking) rank) (λ visit. refl) visits in (
        (λ has. elim ((is.added rank).0 has) [ inl had ↦ inl had | inr one ↦ inr (both.1 one) ]),
        (λ either. (is.added rank).1 (elim either [ inl had ↦ inl had | inr one ↦ inr (both.0 one) ])),
      );
}

-- ---- the way from the one stand

abbrev pub alone : Visit → List Stand
alone visit = stand_at true visit ∷ []

module _ (course : Course) (visit : Visit) where
  alone-rises : AllPairs (λ one other. one.place ≤ other.place) (alone visit)
  alone-rises = λ i j d less within. absurd (omega arith)

  none-left : (stand : Stand) → slice_get (alone visit) 1 ≡ Some stand → ⊥
  none-left stand at = absurd (cc)

  -- the first place
  pub way-begins : visit.place < length course.places → (empty joined : ℕ) → empty ≡ 0 → IsJoin empty visit.action.state joined → (now : ℕ) (more : List Visit) → IsStepOver course visit.place joined now more
      → IsOnWay course (alone visit) 1 (visit.place + 1) now more
  way-begins inside empty joined none join now more over =
      way-more course (alone visit) alone-rises 0 0 empty [] (way-first course (alone visit) alone-rises empty none) (length course.places) visit.place
      (record { within = inside; stays = inl none; jumps = λ _. (stand_at true visit, refl, refl) }) (omega arith) 1
      (record { forward = omega arith; within = omega arith; taken = λ k stand least most there. first-place k stand most there; left = λ stand at. absurd (none-left stand at) })
      joined
      (λ state. (
        (λ has. elim ((join state).0 has) [ inl old ↦ inl old | inr same ↦ inr (0, stand_at true visit, omega arith, omega arith, refl, sym same) ]),
        (λ either. (join state).1 (elim either [ inl old ↦ inl old | inr (k, stand, least, most, there, of) ↦ inr (sym of ∙ first-state k stand most there) ])),
      )) now more over
    where
      is-first : (k : ℕ) (stand : Stand) → k < 1 → slice_get (alone visit) k ≡ Some stand → stand_at true visit ≡ stand
      is-first zero stand most there = same_Some (stand_at true visit) stand there
      is-first (suc k) stand most there = absurd (omega arith)

      first-place : (k : ℕ) (stand : Stand) → k < 1 → slice_get (alone visit) k ≡ Some stand → stand.place ≤ visit.place
      first-place k stand most there =
          let same : stand_at true visit ≡ stand = is-first k stand most there in
          let place : visit.place ≡ stand.place = ap (λ (s : Stand). s.place) same in
          omega arith

      first-state : (k : ℕ) (stand : Stand) → k < 1 → slice_get (alone visit) k ≡ Some stand → stand.state ≡ visit.action.state
      first-state k stand most there = sym (ap (λ (s : Stand). s.state) (is-first k stand most there))

  -- and each behind it
  pub way-goes : (place set : ℕ) (here : List Visit) → IsOnWay course (alone visit) 1 place set here → (set ≡ 0 → ⊥) → place < length course.places → (now : ℕ) (more : List Visit)
      → IsStepOver course place set now more → IsOnWay course (alone visit) 1 (place + 1) now (here ++ more)
  way-goes place set here way some inside now more over =
      way-more course (alone visit) alone-rises 1 place set here way (length course.places) place
      (record { within = inside; stays = inr refl; jumps = λ none. absurd (some none) }) (omega arith) 1
      (record { forward = omega arith; within = omega arith; taken = λ k stand least most there. absurd (omega arith); left = λ stand at. absurd (none-left stand at) })
      set (λ state. ((λ has. inl has), (λ either. elim either [ inl has ↦ has | inr (k, stand, least, most, there, of) ↦ absurd (omega arith) ]))) now more over

  -- at its end all was found
  pub way-ends : (place set : ℕ) (here : List Visit) → IsOnWay course (alone visit) 1 place set here → (length course.places ≤ place) ⊎ (set ≡ 0) → AreVisits course (alone visit) (with_first here)
  way-ends place set here way stops =
      way-all course (alone visit) alone-rises 1 place set here way (length course.places) refl (elim stops [
        | inl over ↦ inl over
        | inr none ↦ inr (none, λ stand at. absurd (none-left stand at))
      ])

  -- what was found there is written behind the visit
  pub way-held : (place set : ℕ) (here : List Visit) → IsOnWay course (alone visit) 1 place set here → (one : Visit) → Contains here one → IsBehind course visit one
  way-held place set here way one held = way.found.right one.place one.kind one.action (one, held, refl, refl, refl)
