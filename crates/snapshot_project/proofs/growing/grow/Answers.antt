use Rattle.std.proofs.Common.{◌≡◌, ◌∙◌, ℕ, Some, List, ◌∷◌, [], ◌++◌, map}
use Rattle.std.specs.List.{slice_get}
use Rattle.std.proofs.lemmas.Result.{IfOk-weaker}
use Rattle.sequence_grids.specs.Grids.{GridList}
use Rattle.stand_sums.specs.declared.aim.Aim.{Aim}
use Rattle.snapshot_project.specs.declared.next_rank.NextRank.{NextRank}
use Rattle.snapshot_project.specs.Ahead.{next_of, last_of}
use Rattle.snapshot_project.specs.Extensions.{AreNextRanks}
use Rattle.snapshot_project.specs.Stands.{StandList, IsProjected, standing}
use Rattle.snapshot_project.proofs.FormLemmas.{bytes-standing, stands-standing}
use Rattle.snapshot_project.proofs.LastLemmas.{told-each}
use Rattle.snapshot_project.proofs.growing.grow.Goals as goal
use Rattle.mine_model.proofs.ResultLemmas.{ok_both}

pub returns-in-Some-clause-each : goal.returns-in-Some-clause-each
returns-in-Some-clause-each c =
    let part : GridList = c.args.part.now in
    let kept : StandList = c.args.snapshots.now in
    let aim : Aim = record { seen = c.seen.result; need = c.need.result } in
    IfOk-weaker c.told_before.result
    (λ grown. (grown.next.items ≡ map next_of c.in-Some.next.now) × (grown.longer.items ≡ map (last_of aim) c.in-Some.next.now))
    (λ grown. (ranks : List ℕ) → IsProjected part c.args.least ranks kept → (i : ℕ) (n : NextRank) (list : StandList) → slice_get grown.next.items i ≡ Some n
    → slice_get grown.longer.items i ≡ Some list → IsProjected part c.args.least (ranks ++ n.rank ∷ []) list)
    (λ grown both ranks projected.
    told-each part c.need.ensures.part c.args.least c.requires.least ranks kept projected aim c.seen.ensures c.need.ensures.need c.in-Some.next.now c.in-Some.ensures.some
    grown.next.items grown.longer.items both.0 both.1)
    (ok_both c.told_before.result (λ grown. grown.next.items ≡ map next_of c.in-Some.next.now) (λ grown. grown.longer.items ≡ map (last_of aim) c.in-Some.next.now)
    c.told_before.ensures.next c.told_before.ensures.longer)

pub grow_from-requires-clause-projected : goal.grow_from-requires-clause-projected
grow_from-requires-clause-projected c =
    let (ranks, projected) = c.requires.projected in (
      ranks,
      c.args.snapshots.now.support,
      bytes-standing c.args.part.now c.args.least ranks c.args.snapshots.now projected c.in_default.ensures.none c.seen.result c.seen.ensures
          c.in-Some-bytes.bytes.now c.in-Some-bytes.ensures.some c.in_ok-stands.stands.items c.of.result (c.of.ensures ∙ c.as_slice.ensures.value) c.in_ok-stands.ensures,
    )

pub returns-in-Some-bytes-clause-next : goal.returns-in-Some-bytes-clause-next
returns-in-Some-bytes-clause-next c =
    let part : GridList = c.args.part.now in
    let kept : StandList = c.args.snapshots.now in
    IfOk-weaker c.grow_from.result
    (λ grown. (ranks : List ℕ) (support : ℕ) → IsProjected part c.args.least ranks (standing c.seen.result support c.of.result) → AreNextRanks part ranks c.args.least grown.next.items)
    (λ grown. (ranks : List ℕ) → IsProjected part c.args.least ranks kept → AreNextRanks part ranks c.args.least grown.next.items)
    (λ grown told ranks projected. told ranks kept.support
    (bytes-standing part c.args.least ranks kept projected c.in_default.ensures.none c.seen.result c.seen.ensures
    c.in-Some-bytes.bytes.now c.in-Some-bytes.ensures.some c.in_ok-stands.stands.items c.of.result (c.of.ensures ∙ c.as_slice.ensures.value) c.in_ok-stands.ensures))
    c.grow_from.ensures.next

pub returns-in-Some-bytes-clause-each : goal.returns-in-Some-bytes-clause-each
returns-in-Some-bytes-clause-each c =
    let part : GridList = c.args.part.now in
    let kept : StandList = c.args.snapshots.now in
    IfOk-weaker c.grow_from.result
    (λ grown. (ranks : List ℕ) (support : ℕ) → IsProjected part c.args.least ranks (standing c.seen.result support c.of.result) → (i : ℕ) (n : NextRank) (list : StandList)
    → slice_get grown.next.items i ≡ Some n → slice_get grown.longer.items i ≡ Some list → IsProjected part c.args.least (ranks ++ n.rank ∷ []) list)
    (λ grown. (ranks : List ℕ) → IsProjected part c.args.least ranks kept → (i : ℕ) (n : NextRank) (list : StandList) → slice_get grown.next.items i ≡ Some n
    → slice_get grown.longer.items i ≡ Some list → IsProjected part c.args.least (ranks ++ n.rank ∷ []) list)
    (λ grown told ranks projected. told ranks kept.support
    (bytes-standing part c.args.least ranks kept projected c.in_default.ensures.none c.seen.result c.seen.ensures
    c.in-Some-bytes.bytes.now c.in-Some-bytes.ensures.some c.in_ok-stands.stands.items c.of.result (c.of.ensures ∙ c.as_slice.ensures.value) c.in_ok-stands.ensures))
    c.grow_from.ensures.each

pub grow_from-requires-2-clause-projected : goal.grow_from-requires-2-clause-projected
grow_from-requires-2-clause-projected c =
    let (ranks, projected) = c.requires.projected in (
      ranks,
      c.args.snapshots.now.support,
      stands-standing c.args.part.now c.args.least ranks c.args.snapshots.now projected c.in_default.ensures.none c.in_default-bytes.ensures.none c.seen.result c.seen.ensures
          c.stands.result c.stands.ensures,
    )

pub returns-clause-next : goal.returns-clause-next
returns-clause-next c =
    let part : GridList = c.args.part.now in
    let kept : StandList = c.args.snapshots.now in
    IfOk-weaker c.grow_from-2.result
    (λ grown. (ranks : List ℕ) (support : ℕ) → IsProjected part c.args.least ranks (standing c.seen.result support c.stands.result) → AreNextRanks part ranks c.args.least grown.next.items)
    (λ grown. (ranks : List ℕ) → IsProjected part c.args.least ranks kept → AreNextRanks part ranks c.args.least grown.next.items)
    (λ grown told ranks projected. told ranks kept.support
    (stands-standing part c.args.least ranks kept projected c.in_default.ensures.none c.in_default-bytes.ensures.none c.seen.result c.seen.ensures c.stands.result c.stands.ensures))
    c.grow_from-2.ensures.next

pub returns-clause-each : goal.returns-clause-each
returns-clause-each c =
    let part : GridList = c.args.part.now in
    let kept : StandList = c.args.snapshots.now in
    IfOk-weaker c.grow_from-2.result
    (λ grown. (ranks : List ℕ) (support : ℕ) → IsProjected part c.args.least ranks (standing c.seen.result support c.stands.result) → (i : ℕ) (n : NextRank) (list : StandList)
    → slice_get grown.next.items i ≡ Some n → slice_get grown.longer.items i ≡ Some list → IsProjected part c.args.least (ranks ++ n.rank ∷ []) list)
    (λ grown. (ranks : List ℕ) → IsProjected part c.args.least ranks kept → (i : ℕ) (n : NextRank) (list : StandList) → slice_get grown.next.items i ≡ Some n
    → slice_get grown.longer.items i ≡ Some list → IsProjected part c.args.least (ranks ++ n.rank ∷ []) list)
    (λ grown told ranks projected. told ranks kept.support
    (stands-standing part c.args.least ranks kept projected c.in_default.ensures.none c.in_default-bytes.ensures.none c.seen.result c.seen.ensures c.stands.result c.stands.ensures))
    c.grow_from-2.ensures.each
