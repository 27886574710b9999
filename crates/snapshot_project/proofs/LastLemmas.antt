-- Prefixes behind which nothing more follows.
use Rattle.std.proofs.Common.{◌≡◌, ℕ, ◌-◌, ◌≤◌, ◌<◌, inr, Bool, Option, Some, None, List, [], ◌∷◌, ◌++◌, length, map, refl, sym, ◌∙◌, subst, arith}
use Rattle.std.specs.List.{Contains, slice_get}
use Rattle.std.proofs.lemmas.List.{length-map}
use Rattle.std.proofs.lemmas.Option.{same_Some, slice_get_within}
use Rattle.mine_model.specs.declared.item.Item.{Item}
use Rattle.mine_model.specs.Database.{sequence_at}
use Rattle.mine_model.specs.Ranks.{HasRank}
use Rattle.mine_model.specs.Support.{Sequence}
use Rattle.mine_model.proofs.AliveLemmas.{WeighAtLeast-some}
use Rattle.mine_model.proofs.ElementLemmas.{get-some, get-held, slice_get-mapped_by}
use Rattle.mine_model.proofs.ListLemmas.{of_both, Contains-none, Contains-from, Contains-by}
use Rattle.mine_model.proofs.RankedLemmas.{ranked-push}
use Rattle.mining_job.specs.Problems.{items_of}
use Rattle.sequence_grids.specs.Grids.{GridList}
use Rattle.stand_sums.specs.declared.aim.Aim.{Aim}
use Rattle.level_ahead.specs.declared.next_of.NextOf.{NextOf}
use Rattle.snapshot_project.specs.declared.next_rank.NextRank.{NextRank}
use Rattle.snapshot_project.specs.Ahead.{next_of, last_of}
use Rattle.snapshot_project.specs.Aims.{sees}
use Rattle.snapshot_project.specs.Extensions.{sequences_of, GrowsBehind, CanFollow, IsSupportOf}
use Rattle.snapshot_project.specs.Snapshots.{IsPart, SnapshotList, AreSnapshots}
use Rattle.snapshot_project.specs.Stands.{IsLight, IsLast, AreLastRanks, StandList, TellNext, IsProjected}
use Rattle.snapshot_project.proofs.ExtensionLemmas.{ranked-allowed}
use Rattle.snapshot_project.proofs.KidLemmas.{follow-ranked}
use Rattle.snapshot_project.proofs.ListedLemmas.{snapshots-by}
use Rattle.snapshot_project.proofs.SnapshotLemmas.{written-behind}

module _ (part : GridList) (is : IsPart part) (least : ℕ) (some : 1 ≤ least) where
  pub last-light : (ranks : List ℕ) → IsLast part ranks → IsLight part ranks least
  last-light ranks last rank weighs =
      let (sequence, held, grows) = WeighAtLeast-some (GrowsBehind part (ranks ++ rank ∷ [])) (sequences_of part) least some weighs in
      let (i, inside, same) = Contains-from (λ i. sequence_at part.problem.sequences i) part.sequences sequence held in
      last i rank inside (subst (λ (s : Sequence Item). GrowsBehind part (ranks ++ rank ∷ []) s.items) same grows)

  module _ (prefixes : List ℕ) (list : SnapshotList) (are : AreSnapshots part prefixes list) where
    -- what is kept of a prefix with a rank, where nothing more follows it
    pub last-projected : (n : NextRank) → least ≤ n.weight → CanFollow part prefixes n.rank n.weight → IsSupportOf part (prefixes ++ n.rank ∷ []) n.support
        → IsLast part (prefixes ++ n.rank ∷ [])
        → IsProjected part least (prefixes ++ n.rank ∷ []) (record { seen = sees list.seen part.bound.need n.rank; support = n.support; stands = []; next = None; bytes = None })
    last-projected n heavy follows is_support last =
        let (low, high) = follow-ranked part is prefixes list are n.rank n.weight follows (omega arith) in
        let top : part.bound.top ≤ length part.problem.ranking.order = is.top in
        let (w, place) = get-some part.problem.ranking.order (n.rank - 1) (omega arith) in
        let has : HasRank part.problem.ranking.order w n.rank = record { least = low; place = place } in
        let ranked = ranked-push part.problem.ranking.order are.prefix prefixes w n.rank are.ranked has in
        let within = of_both (λ rank. rank ≤ part.bound.top) prefixes (n.rank ∷ []) are.top (high, tt) in
        let longer : SnapshotList = record { seen = sees list.seen part.bound.need n.rank; support = n.support; snapshots = [] } in
        record {
          snapshots = longer;
          are = snapshots-by part is.whole prefixes list are w n.rank has high longer refl is_support
              (λ i j d less inside. absurd (omega (arith, inside)))
              (λ snapshot held. absurd (Contains-none snapshot held))
              (λ snapshot held. absurd (Contains-none snapshot held))
              (λ snapshot (known, at) on.
              let allowed = ranked-allowed part.problem.ranking part.bound (are.prefix ++ w ∷ []) (prefixes ++ n.rank ∷ []) ranked within in
              let (v, (rank, there, few), behind) =
              written-behind part.problem part.bound is.whole (items_of part.problem snapshot.sequence) (are.prefix ++ w ∷ []) allowed snapshot.position snapshot.state at on in
              absurd (last snapshot.sequence rank known (
                (are.prefix ++ w ∷ []) ++ v ∷ [],
                ranked-push part.problem.ranking.order (are.prefix ++ w ∷ []) (prefixes ++ n.rank ∷ []) v rank ranked there,
                behind,
              )));
          seen = refl;
          support = refl;
          stands = inr (refl, last-light (prefixes ++ n.rank ∷ []) last);
        }

  -- ---- where what follows was told

  module _ (prefixes : List ℕ) (kept : StandList) (projected : IsProjected part least prefixes kept) where
    pub told-next : (next : List NextRank) → kept.next ≡ Some next → AreLastRanks part least prefixes next
    told-next next told =
        subst (λ (next : Option (List NextRank)). TellNext part least prefixes projected.snapshots kept.stands next kept.bytes) told projected.stands

    -- what is kept of the prefixes with the ranks that follow
    pub told-each : (aim : Aim) → aim.seen ≡ kept.seen → aim.need ≡ part.bound.need → (next : List NextOf) → kept.next ≡ Some (map next_of next)
        → (all : List NextRank) (longer : List StandList) → all ≡ map next_of next → longer ≡ map (last_of aim) next
        → (i : ℕ) (n : NextRank) (list : StandList) → slice_get all i ≡ Some n → slice_get longer i ≡ Some list
        → IsProjected part least (prefixes ++ n.rank ∷ []) list
    told-each aim seen need next told all longer alls longers i n list at beside =
        let here : slice_get (map next_of next) i ≡ Some n = subst (λ (l : List NextRank). slice_get l i ≡ Some n) alls at in
        let held : slice_get (map (last_of aim) next) i ≡ Some list = subst (λ (l : List StandList). slice_get l i ≡ Some list) longers beside in
        let inside : i < length next = subst (λ (k : ℕ). i < k) (length-map next next_of) (slice_get_within (map next_of next) i n here) in
        let (one, there) = get-some next i inside in
        let n_is : next_of one ≡ n = same_Some (next_of one) n (sym (slice_get-mapped_by next_of next i one there) ∙ here) in
        let list_is : last_of aim one ≡ list = same_Some (last_of aim one) list (sym (slice_get-mapped_by (last_of aim) next i one there) ∙ held) in
        let ranks = told-next (map next_of next) told in
        let mine : Contains (map next_of next) (next_of one) = Contains-by next_of next one (get-held next i one there) in
        let (heavy, follows, is_support) = ranks.are.right (next_of one) mine in
        let sees_is : sees projected.snapshots.seen part.bound.need one.rank ≡ sees aim.seen aim.need one.rank =
        λ k. sees (sym (seen ∙ projected.seen) k) (sym need k) one.rank in
        let made = last-projected prefixes projected.snapshots projected.are (next_of one) heavy follows is_support (ranks.last (next_of one) mine) in
        subst (λ (l : StandList). IsProjected part least (prefixes ++ n.rank ∷ []) l) list_is
        (subst (λ (m : NextRank). IsProjected part least (prefixes ++ m.rank ∷ []) (last_of aim one)) n_is
        (subst (λ (b : Bool). IsProjected part least (prefixes ++ one.rank ∷ []) (record { seen = b; support = one.count; stands = []; next = None; bytes = None })) sees_is made))
