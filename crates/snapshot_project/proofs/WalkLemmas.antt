-- A walk over the positions of one sequence, with the live states from which a path goes on as it has to.
use Rattle.std.proofs.Common.{◌≡◌, ◌↔◌, ℕ, zero, suc, ◌+◌, ◌-◌, ◌≤◌, ◌<◌, ◌⊎◌, inl, inr, Bool, true, ◌||◌, ◌==◌, IsTrue, Option, Some, None, List, [], ◌∷◌, drop, refl, sym, ap, ◌∙◌, subst, arith, rules}
use Rattle.std.specs.List.{slice_get}
use Rattle.std.proofs.lemmas.Bool.{cases_Bool, cases_lt, or_cases}
use Rattle.std.proofs.lemmas.Bool.Decides.{Decides-eqb}
use Rattle.std.proofs.lemmas.Option.{same_Some}
use Rattle.state_bits.specs.Members.{Has}
use Rattle.mine_model.specs.declared.item.Item.{Item}
use Rattle.mine_model.specs.Ranks.{Ranking}
use Rattle.mining_job.specs.declared.bound.Bound.{Bound}
use Rattle.mining_job.specs.Problems.{Problem, IsWhole}
use Rattle.sequence_grids.specs.Grids.{HoldsNeeded, Completes, Continues, Reads, WritesRank}
use Rattle.sequence_grids.specs.Kinds.{IsNeededRank}
use Rattle.sequence_grids.specs.Successors.{LeadsFrom}
use Rattle.snapshot_project.specs.declared.snapshot.Snapshot.{Snapshot}
use Rattle.snapshot_project.specs.Snapshots.{HasSnapshot, WritesOn}
use Rattle.snapshot_project.specs.Live.{IsLive, WritesNext}
use Rattle.snapshot_project.specs.Aims.{sees, goes}
use Rattle.snapshot_project.specs.Walks.{AreGroupOf, StandsIn, IsUseful, Arrives, WritesFrom}
use Rattle.snapshot_project.proofs.NeedLemmas.{completes-behind, completes-with}
use Rattle.snapshot_project.proofs.LiveLemmas.{live-first, live-next, live-snapshot}
use Rattle.snapshot_project.proofs.OpenLemmas.{open-goes, open-before, open-writes}

-- the item at a position is one
one-item : (items : List Item) (position : ℕ) (t u : Item) → slice_get items position ≡ Some t → slice_get items position ≡ Some u → u ≡ t
one-item items position t u here there = same_Some u t (sym there ∙ here)

-- what a path that goes on owes is no less than what is owed
pub goes-seen : (ranking : Ranking) (need : Option ℕ) (seen : Bool) (output : List Item)
    → (IsTrue (goes seen need) ⊎ HoldsNeeded ranking need output) → IsTrue seen ⊎ HoldsNeeded ranking need output
goes-seen ranking None seen output (inl no') = absurd (search rules)
goes-seen ranking None seen output (inr holds) = inr holds
goes-seen ranking (Some need) seen output met = met

-- what is seen with a rank
pub sees-tells : (P : Type 0) (need : Option ℕ) (seen : Bool) (rank : ℕ) → IsTrue seen ↔ P → IsTrue (sees seen need rank) ↔ (P ⊎ IsNeededRank need rank)
sees-tells P None seen rank is = ((λ any. inr tt), (λ any. refl))
sees-tells P (Some need) seen rank is = (
  (λ holds. elim (or_cases seen (need == rank) holds) [
    | inl before ↦ inl (is.0 before)
    | inr now ↦ inr (sym ((Decides-eqb need rank).0 now))
  ]),
  (λ h. elim h [
    | inl before ↦ ap (λ (b : Bool). b || need == rank) (is.1 before)
    | inr same ↦
        let now : (need == rank) ≡ true = (Decides-eqb need rank).1 (sym same) in
        elim (cases_Bool seen) [
          | inl yes' ↦ ap (λ (b : Bool). b || need == rank) yes'
          | inr no' ↦ ap (λ (b : Bool). b || need == rank) no' ∙ now
        ]
  ]),
)

module _ (problem : Problem) (bound : Bound) (items : List Item) (group : List Snapshot) (on : Bool) where
  -- ---- with a set of the useful states

  module _ (position : ℕ) (t : Item) (here : slice_get items position ≡ Some t) (live : ℕ)
      (lives : (state : ℕ) → Has live state ↔ IsUseful problem bound items group on position state) where
    arrives-at : (state : ℕ) → Arrives problem bound items group on (suc position) state
        ↔ (LeadsFrom problem.transducer live state × Reads problem t state [] × Continues problem bound (drop (position + 1) items) state on)
    arrives-at state = (
      (λ (u, from, there, useful, leads, reads, completes). (
        (from, (lives from).1 useful, leads),
        subst (λ (x : Item). Reads problem x state []) (one-item items position t u here there) reads,
        completes,
      )),
      (λ ((from, held, leads), reads, completes). (t, from, here, (lives from).0 held, leads, reads, completes)),
    )

    -- what arrives behind the item at the position
    pub arrives-next : (state : ℕ) → Arrives problem bound items group on (position + 1) state
        ↔ (LeadsFrom problem.transducer live state × Reads problem t state [] × Continues problem bound (drop (position + 1) items) state on)
    arrives-next state =
        let next : suc position ≡ position + 1 = omega arith in
        subst (λ (k : ℕ). Arrives problem bound items group on k state
        ↔ (LeadsFrom problem.transducer live state × Reads problem t state [] × Continues problem bound (drop (position + 1) items) state on)) next
        (arrives-at state)

  -- what arrives completes as it has to
  pub arrives-completes : (position state : ℕ) → Arrives problem bound items group on position state → Continues problem bound (drop position items) state on
  arrives-completes zero state arrives = absurd arrives
  arrives-completes (suc before) state (t, from, here, useful, leads, reads, completes) =
      let next : suc before ≡ before + 1 = omega arith in subst (λ (k : ℕ). Continues problem bound (drop k items) state on) (sym next) completes

  -- ---- where nothing is left

  module _ (from to : ℕ) (none : (state : ℕ) → Arrives problem bound items group on from state → ⊥)
      (no_more : (at state : ℕ) → from ≤ at → at < to → StandsIn group at state → ⊥) where
    none-useful : (distance at state : ℕ) → at ≡ from + distance → at < to → IsUseful problem bound items group on at state → ⊥
    none-useful zero at state same before (either, completes) =
        let first : at ≡ from = omega arith in
        elim either [
          | inl arrives ↦ none state (subst (λ (k : ℕ). Arrives problem bound items group on k state) first arrives)
          | inr stands ↦ no_more at state (omega arith) before stands
        ]
    none-useful (suc distance) at state same before (either, completes) =
        let next : at ≡ suc (from + distance) = omega arith in
        elim either [
          | inl arrives ↦
              let (t, last, here, earlier, leads, reads, after) = subst (λ (k : ℕ). Arrives problem bound items group on k state) next arrives in
              none-useful distance (from + distance) last refl (omega arith) earlier
          | inr stands ↦ no_more at state (omega arith) before stands
        ]

    -- no state is useful up to the next snapshot
    pub useless : (at state : ℕ) → from ≤ at → at < to → IsUseful problem bound items group on at state → ⊥
    useless at state least most useful = none-useful (at - from) at state (omega arith) most useful

    none-arrives : (at : ℕ) → from ≤ at → at ≤ to → (state : ℕ) → Arrives problem bound items group on at state → ⊥
    none-arrives zero least most state arrives = absurd arrives
    none-arrives (suc before) least most state arrives = elim (cases_lt before from) [
      | inl first ↦
          let same : suc before ≡ from = omega arith in
          none state (subst (λ (k : ℕ). Arrives problem bound items group on k state) same arrives)
      | inr later ↦
          let (t, last, here, earlier, leads, reads, completes) = arrives in
          useless before last later (omega arith) earlier
    ]

    -- and none arrives any more
    pub arrives-none : from ≤ to → (state : ℕ) → Arrives problem bound items group on to state → ⊥
    arrives-none forward = none-arrives to forward (omega arith)

module _ (problem : Problem) (whole : IsWhole problem) (bound : Bound) (items prefix : List Item) where
  -- what is written has a rank up to the top
  pub writes-few : (position rank state : ℕ) → WritesNext problem bound items prefix rank position state → (1 ≤ rank) × (rank ≤ bound.top)
  writes-few position rank state (t, from, here, live, leads, (v, has, few, reads), completes) = (has.least, few)

  module _ (seen : Bool) (group : List Snapshot) (are : AreGroupOf problem bound items prefix seen group) where
    goes-on : (rest : List Item) (state : ℕ) → Continues problem bound rest state (goes seen bound.need) → Completes problem bound rest state seen
    goes-on rest state (v, more, path, allowed, met) = (v ∷ more, path, allowed, goes-seen problem.ranking bound.need seen (v ∷ more) met)

    -- the useful states are live
    pub useful-live : (position state : ℕ) → IsUseful problem bound items group (goes seen bound.need) position state → IsLive problem bound items prefix position state
    useful-live zero state (either, enough) = elim either [
      | inl arrives ↦ absurd arrives
      | inr stands ↦ live-snapshot problem whole bound items prefix 0 state (are.right 0 state stands)
    ]
    useful-live (suc before) state (either, enough) = elim either [
      | inl (t, from, here, (standing, earlier), leads, reads, completes) ↦
          let next : suc before ≡ before + 1 = omega arith in
          subst (λ (k : ℕ). IsLive problem bound items prefix k state) (sym next)
          ((live-next problem whole bound items prefix before state).1 (inr (
            t,
            from,
            here,
            useful-live before from (standing, earlier),
            leads,
            reads,
            (completes-behind problem bound prefix (drop (before + 1) items) state seen are.seen_is).1 (goes-on (drop (before + 1) items) state completes),
          )))
      | inr stands ↦ live-snapshot problem whole bound items prefix (suc before) state (are.right (suc before) state stands)
    ]

    -- and among them are all live states from which more can be written
    pub live-useful : (position state : ℕ) → IsLive problem bound items prefix position state → WritesOn problem bound prefix (drop position items) state
        → IsUseful problem bound items group (goes seen bound.need) position state
    live-useful zero state live more = (
      inr (are.all 0 state ((live-first problem whole bound items prefix state).0 live) more),
      open-goes problem bound prefix seen are.seen_is items state more,
    )
    live-useful (suc before) state live more =
        let next : suc before ≡ before + 1 = omega arith in
        let enough : Continues problem bound (drop (suc before) items) state (goes seen bound.need) =
        open-goes problem bound prefix seen are.seen_is (drop (suc before) items) state more in
        elim ((live-next problem whole bound items prefix before state).0 (subst (λ (k : ℕ). IsLive problem bound items prefix k state) next live)) [
          | inl snapshot ↦ (
            inr (are.all (suc before) state (subst (λ (k : ℕ). HasSnapshot problem bound items prefix k state) (sym next) snapshot) more),
            enough,
          )
          | inr (t, from, here, alive, leads, reads, behind) ↦
              let after : WritesOn problem bound prefix (drop (before + 1) items) state = subst (λ (k : ℕ). WritesOn problem bound prefix (drop k items) state) next more in (
                inl (
                  t,
                  from,
                  here,
                  live-useful before from alive (open-before problem whole bound items prefix before from state t here leads reads after),
                  leads,
                  reads,
                  subst (λ (k : ℕ). Continues problem bound (drop k items) state (goes seen bound.need)) next enough,
                ),
                enough,
              )
        ]

    -- what is written at the position, with a set of the useful states
    pub writes-useful : (position : ℕ) (t : Item) → slice_get items position ≡ Some t → (live : ℕ)
        → ((state : ℕ) → Has live state ↔ IsUseful problem bound items group (goes seen bound.need) position state)
        → (rank state : ℕ) → WritesNext problem bound items prefix rank position state
        ↔ WritesFrom problem bound live t (drop (position + 1) items) seen rank state
    writes-useful position t here live lives rank state =
        let tells = sees-tells (HoldsNeeded problem.ranking bound.need prefix) bound.need seen rank are.seen_is in
        let with' = completes-with problem bound prefix rank (drop (position + 1) items) state (sees seen bound.need rank) tells in (
          (λ (u, from, there, alive, leads, writes, completes). (
            (
              from,
              (lives from).1 (live-useful position from alive (open-writes problem whole bound items prefix rank position from state u there leads writes completes)),
              leads,
            ),
            subst (λ (x : Item). WritesRank problem bound x state rank) (one-item items position t u here there) writes,
            with'.0 completes,
          )),
          (λ ((from, held, leads), writes, completes). (t, from, here, useful-live position from ((lives from).0 held), leads, writes, with'.1 completes)),
        )

    -- nothing is written where no state is useful
    pub writes-none : (position : ℕ) → ((state : ℕ) → IsUseful problem bound items group (goes seen bound.need) position state → ⊥)
        → (rank state : ℕ) → WritesNext problem bound items prefix rank position state → ⊥
    writes-none position none rank state (t, from, here, alive, leads, writes, completes) =
        none from (live-useful position from alive (open-writes problem whole bound items prefix rank position from state t here leads writes completes))
