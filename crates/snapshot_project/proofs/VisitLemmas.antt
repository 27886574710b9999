-- The visits of a walk through one sequence, as what may be written next.
use Rattle.std.proofs.Common.{◌≡◌, ◌↔◌, ℕ, ◌+◌, ◌-◌, ◌≤◌, ◌<◌, ◌⊎◌, inl, inr, Bool, true, false, if◌then◌else◌, ◌||◌, ◌&&◌, ◌==◌, IsTrue, Option, Some, None, List, [], ◌∷◌, length, drop, refl, sym, ap, ◌∙◌, subst, arith, true≢false}
use Rattle.std.specs.List.{Contains, slice_get, slice_index_or}
use Rattle.std.specs.Int.{bit_at}
use Rattle.std.proofs.lemmas.Bool.{or_cases, or_left, or_right, and_parts, and_from}
use Rattle.std.proofs.lemmas.Bool.Decides.{Decides-eqb}
use Rattle.std.proofs.lemmas.List.Elements.{Contains-get_or}
use Rattle.std.proofs.lemmas.Option.{slice_get_within, same_Some}
use Rattle.state_bits.specs.Members.{Has}
use Rattle.mine_model.specs.declared.item.Item.{Item}
use Rattle.mine_model.proofs.ListLemmas.{Contains-first}
use Rattle.mine_model.proofs.ElementLemmas.{among-held}
use Rattle.fst_compile.specs.Transducer.{Leads}
use Rattle.mining_job.specs.declared.bound.Bound.{Bound}
use Rattle.mining_job.specs.Problems.{Problem}
use Rattle.sequence_grids.specs.Grids.{GridList, HoldsNeeded, Completes, Continues, Ends, WritesRank, items_at}
use Rattle.sequence_grids.proofs.GridLemmas.{both_ways, continues-unseen}
use Rattle.place_walk.specs.declared.visit.Visit.{Visit}
use Rattle.stand_sums.specs.declared.aim.Aim.{Aim}
use Rattle.stand_sums.specs.Aims.{sees_with}
use Rattle.stand_sums.specs.Writings.{Ranks, writes, goes_on, stops, opens, ends, follows, IsReadable}
use Rattle.place_records.specs.Records.{goes_with, AreRanksAt}
use Rattle.snapshot_project.specs.Aims.{sees, goes}
use Rattle.snapshot_project.specs.Live.{IsLive, HoldsNeededWith, WritesNext, EndsNext}
use Rattle.snapshot_project.proofs.NeedLemmas.{completes-with}
use Rattle.snapshot_project.proofs.WalkLemmas.{sees-tells}
use Rattle.snapshot_project.proofs.ListedLemmas.{goes-unseen}
use Rattle.mask_sums.proofs.SetLemmas.{among-to}

-- ---- tests

-- whether a state is in a set is decided
pub has-decided : (set state : ℕ) → (b : Bool) × (IsTrue b ↔ Has set state)
unfolding Has
has-decided set state = (bit_at set state == 1, Decides-eqb (bit_at set state) 1)

-- both crates say the same of what is seen with a rank
pub sees-same : (seen : Bool) (need : Option ℕ) (rank : ℕ) → sees_with seen need rank ≡ sees seen need rank
sees-same seen None rank = refl
sees-same seen (Some need) rank = refl

-- and of how a path goes on once it was seen
pub goes-on_seen : (need : Option ℕ) → goes true need ≡ goes_with need
goes-on_seen None = refl
goes-on_seen (Some need) = refl

-- what completes where what is needed was seen writes more, as it has to, or ends
completes-either : (problem : Problem) (bound : Bound) (rest : List Item) (state : ℕ) → Completes problem bound rest state true
    → Continues problem bound rest state (goes_with bound.need) ⊎ Ends problem rest state
completes-either problem bound rest state completes = by bound.need refl completes
  where
    by : (need : Option ℕ) → bound.need ≡ need → Completes problem bound rest state true
        → Continues problem bound rest state (goes_with bound.need) ⊎ Ends problem rest state
    by need is ([], path, allowed, met) = inr path
    by (Some need) is (v ∷ output, path, allowed, met) = inl (v, output, path, allowed, inl (ap goes_with is))
    by None is (v ∷ output, path, allowed, met) =
        let holds : HoldsNeeded problem.ranking None (v ∷ output) = (v, Contains-first v output, tt) in
        inl (v, output, path, allowed, inr (subst (λ (need : Option ℕ). HoldsNeeded problem.ranking need (v ∷ output)) (sym is) holds))

-- ---- what one visit says

module _ (part : GridList) (prefix : List Item) (grid : ℕ) (ranks : Ranks) (CanAsk : ℕ → ℕ → Type 0) where
  -- it comes from a live state over the item at the position, and its marks are right
  pub record IsRead (at : ℕ) (visit : Visit) : Type 0 where
    pub t : Item
    pub here : slice_get (items_at part grid) at ≡ Some t
    pub from : ℕ
    pub live : IsLive part.problem part.bound (items_at part grid) prefix at from
    pub leads : Leads part.problem.transducer from visit.action.state
    pub asked : CanAsk visit.kind visit.action.state
    pub ranks_are : AreRanksAt part.problem part.bound t ranks visit.kind visit.action.state
    pub completes : Completes part.problem part.bound (drop (at + 1) (items_at part grid)) visit.action.state true
    pub more : IsTrue visit.action.more ↔ Continues part.problem part.bound (drop (at + 1) (items_at part grid)) visit.action.state (goes_with part.bound.need)
    pub unseen : IsTrue visit.action.unseen ↔ Completes part.problem part.bound (drop (at + 1) (items_at part grid)) visit.action.state false
    pub ends : IsTrue visit.action.ends ↔ Ends part.problem (drop (at + 1) (items_at part grid)) visit.action.state

  module _ (at : ℕ) (visit : Visit) (read : IsRead at visit) where
    -- its ranks are ranks
    written-rank : (rank : ℕ) → Contains (ranks visit.kind visit.action.state) rank → (1 ≤ rank) × (rank ≤ part.bound.top) × (rank < length part.problem.ranking.order + 1)
    written-rank rank held =
        let (v, has, few, reads) = (read.ranks_are.exact rank).0 held in
        let least : 1 ≤ rank = has.least in
        let below : rank - 1 < length part.problem.ranking.order = slice_get_within part.problem.ranking.order (rank - 1) v has.place in
        (least, few, omega arith)

    pub read-readable : IsReadable ranks CanAsk (length part.problem.ranking.order + 1) visit
    read-readable = record {
      asked = read.asked;
      once = read.ranks_are.once;
      within = λ k d inside.
          let (least, few, below) = written-rank (slice_index_or (ranks visit.kind visit.action.state) k d) (Contains-get_or (ranks visit.kind visit.action.state) k d inside) in
          below;
    }

    pub read-ranked : (rank : ℕ) → IsTrue (writes ranks rank visit) → (1 ≤ rank) × (rank ≤ part.bound.top)
    read-ranked rank writes_it =
        let (least, few, below) = written-rank rank (among-held rank (ranks visit.kind visit.action.state) writes_it) in
        (least, few)

    module _ (seen : Bool) (seen_is : IsTrue seen ↔ HoldsNeeded part.problem.ranking part.bound.need prefix) (rank : ℕ) where
      abbrev aim : Aim
      aim = record { seen = seen; need = part.bound.need }

      writes-is : IsTrue (writes ranks rank visit) ↔ WritesRank part.problem part.bound read.t visit.action.state rank
      writes-is = (
        (λ among. (read.ranks_are.exact rank).0 (among-held rank (ranks visit.kind visit.action.state) among)),
        (λ writes_it. among-to rank (ranks visit.kind visit.action.state) ((read.ranks_are.exact rank).1 writes_it)),
      )

      tells : IsTrue (sees_with seen part.bound.need rank) ↔ HoldsNeededWith part.problem part.bound prefix rank
      tells =
          subst (λ (b : Bool). IsTrue b ↔ HoldsNeededWith part.problem part.bound prefix rank) (sym (sees-same seen part.bound.need rank))
          (sees-tells (HoldsNeeded part.problem.ranking part.bound.need prefix) part.bound.need seen rank seen_is)

      -- whether a path goes on, with what is needed seen or not
      on-is : (b : Bool) → IsTrue (if b then visit.action.more else visit.action.unseen)
          ↔ Continues part.problem part.bound (drop (at + 1) (items_at part grid)) visit.action.state (goes b part.bound.need)
      on-is true =
          subst (λ (b : Bool). IsTrue visit.action.more ↔ Continues part.problem part.bound (drop (at + 1) (items_at part grid)) visit.action.state b)
          (sym (goes-on_seen part.bound.need)) read.more
      on-is false =
          subst (λ (b : Bool). IsTrue visit.action.unseen ↔ Continues part.problem part.bound (drop (at + 1) (items_at part grid)) visit.action.state b)
          (sym (goes-unseen part.bound.need))
          (both_ways read.unseen (continues-unseen part.problem part.bound (drop (at + 1) (items_at part grid)) visit.action.state))

      -- it goes on or ends just where it completes
      any-is : (b : Bool) → IsTrue ((if b then visit.action.more else visit.action.unseen) || (b && visit.action.ends))
          ↔ Completes part.problem part.bound (drop (at + 1) (items_at part grid)) visit.action.state b
      any-is true = (
        (λ any. read.completes),
        (λ completes. elim (completes-either part.problem part.bound (drop (at + 1) (items_at part grid)) visit.action.state completes) [
          | inl more ↦ or_left visit.action.more visit.action.ends (read.more.1 more)
          | inr ending ↦ or_right visit.action.more visit.action.ends (read.ends.1 ending)
        ]),
      )
      any-is false = (
        (λ any. elim (or_cases visit.action.unseen false any) [ inl unseen ↦ read.unseen.0 unseen | inr no' ↦ absurd (true≢false (sym no')) ]),
        (λ completes. or_left visit.action.unseen false (read.unseen.1 completes)),
      )

      next-is : WritesNext part.problem part.bound (items_at part grid) prefix rank at visit.action.state
          ↔ (WritesRank part.problem part.bound read.t visit.action.state rank
          × Completes part.problem part.bound (drop (at + 1) (items_at part grid)) visit.action.state (sees_with seen part.bound.need rank))
      next-is =
          let with' = completes-with part.problem part.bound prefix rank (drop (at + 1) (items_at part grid)) visit.action.state (sees_with seen part.bound.need rank) tells in (
            (λ (u, from, there, live, leads, writes_it, completes). (
              subst (λ (x : Item). WritesRank part.problem part.bound x visit.action.state rank) (same_Some u read.t (sym there ∙ read.here)) writes_it,
              with'.0 completes,
            )),
            (λ (writes_it, completes). (read.t, read.from, read.here, read.live, read.leads, writes_it, with'.1 completes)),
          )

      pub read-follows : IsTrue (follows ranks aim rank visit) ↔ WritesNext part.problem part.bound (items_at part grid) prefix rank at visit.action.state
      read-follows = (
        (λ either.
            let (writes_it, any) : IsTrue (writes ranks rank visit) × IsTrue (goes_on aim rank visit.action || stops aim rank visit.action) =
            elim (or_cases (opens ranks aim rank visit) (ends ranks aim rank visit) either) [
              | inl both ↦
                  let (one, other) = and_parts (writes ranks rank visit) (goes_on aim rank visit.action) both in
                  (one, or_left (goes_on aim rank visit.action) (stops aim rank visit.action) other)
              | inr both ↦
                  let (one, other) = and_parts (writes ranks rank visit) (stops aim rank visit.action) both in
                  (one, or_right (goes_on aim rank visit.action) (stops aim rank visit.action) other)
            ] in
            next-is.1 (writes-is.0 writes_it, (any-is (sees_with seen part.bound.need rank)).0 any)),
        (λ next.
            let (writes_rank, completes) = next-is.0 next in
            let writes_it : IsTrue (writes ranks rank visit) = writes-is.1 writes_rank in
            let any : IsTrue (goes_on aim rank visit.action || stops aim rank visit.action) = (any-is (sees_with seen part.bound.need rank)).1 completes in
            elim (or_cases (goes_on aim rank visit.action) (stops aim rank visit.action) any) [
              | inl on ↦ or_left (opens ranks aim rank visit) (ends ranks aim rank visit) (and_from (writes ranks rank visit) (goes_on aim rank visit.action) writes_it on)
              | inr stop ↦ or_right (opens ranks aim rank visit) (ends ranks aim rank visit) (and_from (writes ranks rank visit) (stops aim rank visit.action) writes_it stop)
            ]),
      )

      pub read-ends : IsTrue (ends ranks aim rank visit) ↔ EndsNext part.problem part.bound (items_at part grid) prefix rank at visit.action.state
      read-ends = (
        (λ both.
            let (writes_it, stop) = and_parts (writes ranks rank visit) (stops aim rank visit.action) both in
            let (sees_it, ending) = and_parts (sees_with seen part.bound.need rank) visit.action.ends stop in
            (read-follows.0 (or_right (opens ranks aim rank visit) (ends ranks aim rank visit) both), tells.0 sees_it, read.ends.0 ending)),
        (λ (next, holds, ending).
            and_from (writes ranks rank visit) (stops aim rank visit.action) (writes-is.1 (next-is.0 next).0)
            (and_from (sees_with seen part.bound.need rank) visit.action.ends (tells.1 holds) (read.ends.1 ending))),
      )

      pub read-opens : IsTrue (opens ranks aim rank visit)
          ↔ (WritesNext part.problem part.bound (items_at part grid) prefix rank at visit.action.state
          × Continues part.problem part.bound (drop (at + 1) (items_at part grid)) visit.action.state (goes (sees seen part.bound.need rank) part.bound.need))
      read-opens =
          let on : IsTrue (goes_on aim rank visit.action)
          ↔ Continues part.problem part.bound (drop (at + 1) (items_at part grid)) visit.action.state (goes (sees seen part.bound.need rank) part.bound.need) =
          subst (λ (b : Bool). IsTrue (goes_on aim rank visit.action)
          ↔ Continues part.problem part.bound (drop (at + 1) (items_at part grid)) visit.action.state (goes b part.bound.need)) (sees-same seen part.bound.need rank)
          (on-is (sees_with seen part.bound.need rank)) in (
            (λ both.
                let (writes_it, goes_it) = and_parts (writes ranks rank visit) (goes_on aim rank visit.action) both in
                (read-follows.0 (or_left (opens ranks aim rank visit) (ends ranks aim rank visit) both), on.0 goes_it)),
            (λ (next, completes). and_from (writes ranks rank visit) (goes_on aim rank visit.action) (writes-is.1 (next-is.0 next).0) (on.1 completes)),
          )
