-- Up to which rank a path has to write: from the place behind an item to the one before it.
use Rattle.std.proofs.Common.{◌≡◌, ℕ, zero, suc, ◌≤◌, ◌<◌, ◌⊎◌, ◌↔◌, inl, inr, false, None, List, [], ◌∷◌, length, refl, subst, arith}
use Rattle.std.specs.List.{AllByRecursion, Contains, slice_index}
use Rattle.std.proofs.lemmas.Bool.{false≢true}
use Rattle.state_bits.specs.Members.{Has}
use Rattle.mine_model.specs.declared.item.Item.{Item}
use Rattle.mine_model.specs.Growth.{HasPatternBehind}
use Rattle.mine_model.specs.Pivots.{IsRankedUpTo, IsWithinPivot}
use Rattle.mine_model.proofs.ListLemmas.{Contains-none}
use Rattle.mine_model.proofs.RankLemmas.{HasRank-most}
use Rattle.fst_compile.specs.Transducer.{Leads}
use Rattle.mining_job.specs.declared.bound.Bound.{Bound}
use Rattle.sequence_grids.specs.declared.reading.Reading.{Reading}
use Rattle.mining_job.specs.Problems.{Problem, IsWhole, data_of}
use Rattle.sequence_grids.specs.Grids.{Completes, WritesRank}
use Rattle.sequence_grids.specs.Readings.{IsReading, outputs_at}
use Rattle.sequence_grids.specs.Kinds.{Goes, Needs, IsTarget}
use Rattle.sequence_grids.proofs.PathLemmas.{seen-step, unseen-step, target-of}
use Rattle.pivot_partition.specs.Tops.{no_rank, bound_by, GoesOn, IsRowOf, IsEnteredRow, GoesUpTo, WritesFrom, WritesAt}

module _ (problem : Problem) (whole : IsWhole problem) where
  -- a path within the bound of a pivot is a pattern of which it is the greatest rank
  pub pivot-completes : (items : List Item) (p : ℕ) → 1 ≤ p
      → HasPatternBehind (data_of problem) (IsWithinPivot problem.ranking.order p) [] items ↔ Completes problem (bound_by p) items 0 false
  pivot-completes items zero least = absurd (omega (arith, least))
  pivot-completes items (suc before) least = (
    (λ (output, (some, generated), within). (output, (whole.paths problem.hierarchy.links items output).1 generated, within.ranked, inr within.needed)),
    (λ (output, path, allowed, written). elim written [
      | inl seen ↦ absurd (false≢true seen)
      | inr (v, held, has) ↦
          (output, ((λ none. Contains-none v (subst (λ (l : List Item). Contains l v) none held)), (whole.paths problem.hierarchy.links items output).0 path), record { ranked = allowed; needed = (v, held, has) })
    ]),
  )

  -- and a path that writes something, whatever its greatest rank
  pub pivot-writes : (items : List Item) (state p top : ℕ) → p ≤ top → Completes problem (bound_by p) items state false
      → Completes problem (record { top = top; need = None }) items state false
  pivot-writes items state p top low (output, path, allowed, written) = (
    output,
    path,
    all output allowed,
    elim written [
      | inl seen ↦ absurd (false≢true seen)
      | inr (v, held, has) ↦ inr (v, held, tt)
    ],
  )
    where
      all : (output : List Item) → AllByRecursion (IsRankedUpTo problem.ranking.order p) output → AllByRecursion (IsRankedUpTo problem.ranking.order top) output
      all [] allowed = tt
      all (v ∷ output) ((rank, has, under), allowed) = ((rank, has, omega (arith, low, under)), all output allowed)

  -- the pivot of a path is a rank
  pub pivot-rank : (items : List Item) (state p : ℕ) → Completes problem (bound_by p) items state false → (1 ≤ p) × (p ≤ length problem.ranking.order)
  pivot-rank items state p (output, path, allowed, written) = elim written [
    | inl seen ↦ absurd (false≢true seen)
    | inr (v, held, has) ↦ (has.least, HasRank-most problem.ranking.order v p has)
  ]

  -- at the end nothing is written
  pub end-goes : (state p : ℕ) → GoesOn problem [] state p ↔ Has problem.transducer.finals state
  end-goes state p = (
    (λ (output, path, allowed, seen). path.0),
    (λ final. ([], (final, refl), tt, inl refl)),
  )

  pub end-writes : (state p : ℕ) → Completes problem (bound_by p) [] state false → ⊥
  end-writes state p (output, path, allowed, written) = elim written [
    | inl seen ↦ absurd (false≢true seen)
    | inr (v, held, has) ↦ Contains-none v (subst (λ (l : List Item). Contains l v) path.1 held)
  ]

  pub end-row : (row : List ℕ) → length problem.ranking.order < no_rank
      → ((state p : ℕ) → state ≤ length problem.transducer.labels → p < no_rank → slice_index row state ≤ p ↔ Has problem.transducer.finals state)
      → IsRowOf problem [] row
  end-row row few each = λ state inside p most.
      let is = each state p inside (omega (arith, few, most)) in
      let goes = end-goes state p in
      ((λ low. goes.1 (is.0 low)), (λ on. is.1 (goes.0 on)))

  module _ (t : Item) (rest : List Item) where
    -- what a reading says of the states, up to a rank
    module _ (bound : Bound) (top : bound.top ≡ length problem.ranking.order) (reading : Reading) (reads : IsReading problem bound t rest reading) where
      -- a rank stands for itself under each bound that allows it
      rank-under : (other : Bound) (state rank : ℕ) → rank ≤ other.top → WritesRank problem bound t state rank → WritesRank problem other t state rank
      rank-under other state rank low (v, has, under, writes) = (v, has, low, writes)

      rank-back : (other : Bound) (state rank : ℕ) → WritesRank problem other t state rank → WritesRank problem bound t state rank
      rank-back other state rank (v, has, under, writes) = (v, has, let most = HasRank-most problem.ranking.order v rank has in omega (arith, most, top), writes)

      pub reading-goes : (state p : ℕ) → IsTarget problem state → GoesUpTo reading state p ↔ Goes problem (bound_by p) t state
      reading-goes state p target =
          let is = reads state target.0 target.1 in (
            (λ up. elim up [
              | inl silent ↦ inl (is.silent.0 silent)
              | inr (rank, held, low) ↦ inr (rank, rank-under (bound_by p) state rank low ((is.outputs rank).0 held))
            ]),
            (λ goes. elim goes [
              | inl silent ↦ inl (is.silent.1 silent)
              | inr (rank, (v, has, low, writes)) ↦ inr (rank, (is.outputs rank).1 (rank-back (bound_by p) state rank (v, has, low, writes)), low)
            ]),
          )

      pub reading-needs : (state p : ℕ) → IsTarget problem state → Contains (outputs_at reading state) p ↔ Needs problem (bound_by p) t state
      reading-needs state p target =
          let is = reads state target.0 target.1 in (
            (λ held. (p, rank-under (bound_by p) state p (omega arith) ((is.outputs p).0 held), refl)),
            (λ (rank, writes, same). subst (Contains (outputs_at reading state)) same ((is.outputs rank).1 (rank-back (bound_by p) state rank writes))),
          )

      pub reading-ranks : (state rank : ℕ) → IsTarget problem state → Contains (outputs_at reading state) rank → (1 ≤ rank) × (rank ≤ length problem.ranking.order)
      reading-ranks state rank target held =
          let (v, has, under, writes) = ((reads state target.0 target.1).outputs rank).0 held in
          (has.least, HasRank-most problem.ranking.order v rank has)

      -- the row of what is entered, from the row below
      pub entered-row : (below entered : List ℕ) → length problem.ranking.order < no_rank → IsRowOf problem rest below
          → ((state p : ℕ) → 1 ≤ state → state ≤ length problem.transducer.labels → p < no_rank
          → slice_index entered state ≤ p ↔ (GoesUpTo reading state p × (slice_index below state ≤ p)))
          → IsEnteredRow problem t rest entered
      entered-row below entered few row each = λ state target p most.
          let is = each state p target.0 target.1 (omega (arith, few, most)) in
          let goes = reading-goes state p target in
          let on = row state target.1 p most in (
            (λ low. let both = is.0 low in (goes.0 both.0, on.0 both.1)),
            (λ both. is.1 (goes.1 both.0, on.1 both.1)),
          )

    -- the row before an item, from what is entered over it
    pub before-row : (entered row : List ℕ) → length problem.ranking.order < no_rank → IsEnteredRow problem t rest entered
        → ((state p : ℕ) → state ≤ length problem.transducer.labels → p < no_rank
        → slice_index row state ≤ p ↔ ((to : ℕ) × Leads problem.transducer state to × (slice_index entered to ≤ p)))
        → IsRowOf problem (t ∷ rest) row
    before-row entered row few in_row each = λ state inside p most.
        let is = each state p inside (omega (arith, few, most)) in
        let step = seen-step problem whole (bound_by p) t rest state in (
          (λ low.
              let (to, leads, under) = is.0 low in
              let both = (in_row to (target-of problem whole state to leads) p most).0 under in
              step.1 (to, leads, both.0, both.1)),
          (λ goes.
              let (to, leads, reads, on) = step.0 goes in
              is.1 (to, leads, (in_row to (target-of problem whole state to leads) p most).1 (reads, on))),
        )

    -- what is written from a front over an item and the rest: at the item, or from the front behind it
    pub front-step : (front entered below after : List ℕ) (p : ℕ) → p ≤ length problem.ranking.order → length problem.ranking.order < no_rank → IsRowOf problem rest below
        → ((state : ℕ) → state ≤ length problem.transducer.labels
        → slice_index entered state ≤ p ↔ ((from : ℕ) × (from ≤ length problem.transducer.labels) × (slice_index front from ≤ p) × Leads problem.transducer from state))
        → ((state : ℕ) → IsTarget problem state → slice_index after state ≤ p ↔ (Goes problem (bound_by p) t state × (slice_index entered state ≤ p)))
        → (slice_index after 0 ≡ no_rank)
        → WritesFrom problem front (t ∷ rest) p ↔ (WritesAt problem t entered below p ⊎ WritesFrom problem after rest p)
    front-step front entered below after p most few row in_front behind start = (
      (λ (state, inside, low, writes).
          let (to, leads, either) = (unseen-step problem whole (bound_by p) t rest state).0 writes in
          let target = target-of problem whole state to leads in
          let under : slice_index entered to ≤ p = (in_front to target.1).1 (state, inside, low, leads) in
          elim either [
            | inl (goes, on) ↦ inr (to, target.1, (behind to target).1 (goes, under), on)
            | inr (needs, on) ↦ inl (to, target, under, (row to target.1 p most).1 on, needs)
          ]),
      (λ either. elim either [
        | inl (state, target, under, low, needs) ↦
            let (from, inside, early, leads) = (in_front state target.1).0 under in
            (from, inside, early, (unseen-step problem whole (bound_by p) t rest from).1 (state, leads, inr (needs, (row state target.1 p most).0 low)))
        | inr (state, inside, low, writes) ↦ step state inside low writes
      ]),
    )
      where
        step : (state : ℕ) → state ≤ length problem.transducer.labels → slice_index after state ≤ p → Completes problem (bound_by p) rest state false → WritesFrom problem front (t ∷ rest) p
        step zero inside low writes = absurd (omega (arith, low, start, most, few))
        step (suc k) inside low writes =
            let target : IsTarget problem (suc k) = (omega arith, inside) in
            let both = (behind (suc k) target).0 low in
            let (from, in_from, early, leads) = (in_front (suc k) inside).0 both.1 in
            (from, in_from, early, (unseen-step problem whole (bound_by p) t rest from).1 (suc k, leads, inl (both.0, writes)))
