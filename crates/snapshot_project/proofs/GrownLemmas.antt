-- What is found from the stands of a prefix: what may follow it, and what is kept of each longer prefix.
use Rattle.std.proofs.Common.{◌≡◌, ℕ, ◌+◌, ◌-◌, ◌≤◌, ◌<◌, inl, inr, Bool, Option, None, List, [], ◌∷◌, ◌++◌, length, map, drop, get_or, min, sym, ap, ◌∙◌, subst, arith, length-take, length-drop}
use Rattle.std.specs.List.{All, Contains, slice_range}
use Rattle.std.proofs.lemmas.List.{length-append, nil_from_length}
use Rattle.std.proofs.lemmas.List.Elements.{Contains-get_or}
use Rattle.mine_model.specs.Support.{Sequence}
use Rattle.mine_model.specs.declared.item.Item.{Item}
use Rattle.mine_model.specs.Database.{sequence_at}
use Rattle.mine_model.proofs.AliveLemmas.{WeighAtLeast-some}
use Rattle.mine_model.proofs.ListLemmas.{Contains-none, Contains-from}
use Rattle.sequence_grids.specs.Grids.{GridList}
use Rattle.place_walk.specs.declared.stand.Stand.{Stand}
use Rattle.place_walk.specs.declared.visit.Visit.{Visit}
use Rattle.place_walk.specs.Courses.{Course}
use Rattle.place_walk.specs.Groups.{AreGroups}
use Rattle.stand_sums.specs.declared.aim.Aim.{Aim}
use Rattle.stand_sums.specs.declared.next_rank.NextRank.{NextRank}
use Rattle.stand_sums.specs.Writings.{Ranks}
use Rattle.stand_sums.specs.Files.{stands_of}
use Rattle.place_records.specs.Ranks.{ranks_of, CanAskOf}
use Rattle.snapshot_project.specs.declared.next_rank.NextRank.{NextRank as Next}
use Rattle.snapshot_project.specs.declared.snapshot.Snapshot.{Snapshot}
use Rattle.snapshot_project.specs.Extensions.{sequences_of, GrowsBehind, AreNextRanks}
use Rattle.snapshot_project.specs.Founds.{course_over, AreStandsFor, IsFoundIn}
use Rattle.snapshot_project.specs.Grouped.{AreGroupsIn, AreAllGrids}
use Rattle.snapshot_project.specs.Longer.{told_of, kept_of, IsWithin}
use Rattle.snapshot_project.specs.Snapshots.{IsPart, SnapshotList, AreSnapshots}
use Rattle.snapshot_project.specs.Stands.{AreStandsIn, AreStandsOf, IsLight, TellNext, StandList, IsProjected}
use Rattle.snapshot_project.proofs.FitLemmas.{all-kids}
use Rattle.snapshot_project.proofs.FoundLemmas.{walked-whole, summed-places}
use Rattle.snapshot_project.proofs.GroupLemmas.{stands-cut}
use Rattle.snapshot_project.proofs.ListedLemmas.{grows-not}
use Rattle.snapshot_project.proofs.LongerLemmas.{aim_of}
use Rattle.snapshot_project.proofs.NextLemmas.{next-counted}
use Rattle.snapshot_project.proofs.RoomLemmas.{files-run}
use Rattle.snapshot_project.proofs.VisitNextLemmas.{visit-within, grows-visit, generates-visit}

-- an aim by its parts
pub aim-same : (part : GridList) (aim : Aim) (seen : Bool) → aim.seen ≡ seen → aim.need ≡ part.bound.need → aim ≡ aim_of part seen
aim-same part aim seen one other = λ i. record { seen = one i; need = other i }

-- a range as long as it is to be is within the list
pub range-within : (run : List Stand) (from end : ℕ) → from < end → from + length (slice_range run from end) ≡ end → end ≤ length run
range-within run from end some long =
    let cut : length (slice_range run from end) ≡ min (end - from) (length (drop from run)) = length-take (end - from) (drop from run) in
    let rest : length (drop from run) ≡ length run - from = length-drop from run in
    omega arith

-- ---- where nothing stands

-- no stands are those of no snapshots
stands-none : (part : GridList) (grids : List ℕ) (snapshots : List Snapshot) → AreStandsIn part grids snapshots [] → snapshots ≡ []
stands-none part [] snapshots are = are.0
stands-none part (grid ∷ grids) snapshots (here, others, joined, group, behind, cut, is, are) =
    let long : 0 ≡ length group + length behind = ap length cut ∙ length-append group behind in
    let some : 0 < length group = is.marked.some in
    absurd (omega arith)

module _ (part : GridList) (is : IsPart part) (least : ℕ) (some : 1 ≤ least) (prefixes : List ℕ) where
  -- behind a prefix without snapshots nothing follows
  none-light : (list : SnapshotList) → AreSnapshots part prefixes list → list.snapshots ≡ [] → IsLight part prefixes least
  none-light list are none rank weighs =
      let (sequence, held, grows) = WeighAtLeast-some (GrowsBehind part (prefixes ++ rank ∷ [])) (sequences_of part) least some weighs in
      let (i, inside, same) = Contains-from (λ i. sequence_at part.problem.sequences i) part.sequences sequence held in
      grows-not part is.whole prefixes list are i inside rank
      (λ snapshot there at. Contains-none snapshot (subst (λ (l : List Snapshot). Contains l snapshot) none there))
      (subst (λ (s : Sequence Item). GrowsBehind part (prefixes ++ rank ∷ []) s.items) same grows)

  light-next : IsLight part prefixes least → AreNextRanks part prefixes least []
  light-next light = record {
    rising = λ i j d less within. absurd (omega (arith, within));
    right = λ next held. absurd (Contains-none next held);
    all = λ rank weighs. absurd (light rank weighs);
  }

  module _ (kept : StandList) (projected : IsProjected part least prefixes kept) where
    -- nor behind one without stands
    by-stands : kept.next ≡ None → kept.bytes ≡ None → TellNext part least prefixes projected.snapshots kept.stands None None
    by-stands untold loose =
        subst (TellNext part least prefixes projected.snapshots kept.stands None) loose
        (subst (λ (next : Option (List Next)). TellNext part least prefixes projected.snapshots kept.stands next kept.bytes) untold projected.stands)

    pub empty-next : kept.next ≡ None → kept.bytes ≡ None → length kept.stands ≡ 0 → AreNextRanks part prefixes least []
    empty-next untold loose none = elim (by-stands untold loose) [
      | inl are ↦ light-next (none-light projected.snapshots projected.are
          (stands-none part are.grids projected.snapshots.snapshots (subst (AreStandsIn part are.grids projected.snapshots.snapshots) (nil_from_length kept.stands none) are.are)))
      | inr light ↦ light-next light.1
    ]

    -- else the stands are those of its snapshots
    pub some-stands : kept.next ≡ None → kept.bytes ≡ None → 0 < length kept.stands → AreStandsOf part projected.snapshots.snapshots kept.stands
    some-stands untold loose any = elim (by-stands untold loose) [
      | inl are ↦ are
      | inr light ↦ absurd (let none : length kept.stands ≡ 0 = ap length light.0 in omega arith)
    ]

    pub stands-for : kept.next ≡ None → kept.bytes ≡ None → (aim : Aim) → aim.seen ≡ kept.seen → aim.need ≡ part.bound.need → (stands : List Stand) → stands ≡ kept.stands → 0 < length kept.stands
        → AreStandsFor part aim stands
    stands-for untold loose aim seen need stands told any = record {
      is = is;
      need = need;
      prefixes = prefixes;
      list = projected.snapshots;
      are = projected.are;
      seen = seen ∙ projected.seen;
      stands_are = subst (AreStandsOf part projected.snapshots.snapshots) (sym told) (some-stands untold loose any);
    }

-- ---- what was found

module _ (part : GridList) (is : IsPart part) (least : ℕ) (some : 1 ≤ least) (room : ℕ) (most : length part.problem.ranking.order < room)
    (prefixes : List ℕ) (list : SnapshotList) (are : AreSnapshots part prefixes list) (stands : List Stand) (stands_are : AreStandsOf part list.snapshots stands)
    (found : List NextRank) (run : List Stand) (longer : Option (List StandList)) where
  module _ (is_found : IsFoundIn part (aim_of part list.seen) least room stands found run longer) where
    abbrev ranks : Ranks
    ranks = ranks_of is_found.value.table

    abbrev course : Course
    course = course_over is_found.rows is_found.value (aim_of part list.seen)

    -- the visits of all groups, and what was counted of them
    record IsAll : Type 0 where
      groups : List (List Stand)
      groups_are : AreGroups stands groups
      groups_in : AreGroupsIn part are.prefix list.seen stands_are.grids groups
      all_grids : AreAllGrids part list.snapshots stands_are.grids

    all : IsAll
    all =
        let (groups, groups_are, groups_in, all_grids) = stands-cut part is prefixes list are stands_are.grids stands stands_are.rising stands_are.are in
        record { groups = groups; groups_are = groups_are; groups_in = groups_in; all_grids = all_grids }

    found-next : AreNextRanks part prefixes least (map told_of found)
    found-next =
        let fact = is_found.found_are in
        let summed = fact.summed all.groups all.groups_are in
        let visited = walked-whole course all.groups summed.visits summed.walk in
        let value = is_found.value in
        let long : room ≡ length fact.tallies = fact.room in
        next-counted part is prefixes list are ranks (aim_of part list.seen) course
        (λ grid group here those exact. visit-within part is is_found.width is_found.rows is_found.ground.rows_are value.places value.early value.late ranks (CanAskOf value.table)
        is_found.ground.records_are are.prefix list.seen grid group here (Contains those) exact.exact)
        stands_are.grids stands_are.rising all.all_grids all.groups all.groups_in summed.walk.sequences visited is_found.weights is_found.weights_are summed.visits
        (λ rank grid group here those exact. grows-visit part is is_found.width is_found.rows is_found.ground.rows_are value.places value.early value.late ranks (CanAskOf value.table)
        is_found.ground.records_are prefixes list are grid group here (Contains those) exact.exact rank)
        (λ rank grid group here those exact. generates-visit part is is_found.width is_found.rows is_found.ground.rows_are value.places value.early value.late ranks (CanAskOf value.table)
        is_found.ground.records_are prefixes list are grid group here (Contains those) exact.exact rank)
        least some fact.tallies (omega (arith, long, most)) summed.tallied found fact.next

    found-each : longer ≡ None → (next : NextRank) → Contains found next → IsProjected part least (prefixes ++ next.rank ∷ []) (kept_of (aim_of part list.seen) run next)
    found-each filed =
        let fact = is_found.found_are in
        let summed = fact.summed all.groups all.groups_are in
        let visited = walked-whole course all.groups summed.visits summed.walk in
        let value = is_found.value in
        all-kids part is is_found.width is_found.rows is_found.ground.rows_are value.places value.early value.late ranks (CanAskOf value.table) is_found.ground.records_are
        prefixes list are stands_are.grids stands_are.rising all.all_grids all.groups all.groups_in summed.walk.sequences visited
        is_found.weights is_found.weights_are least some summed.visits summed.walk.cut_are fact.tallies summed.tallied found fact.next run
        (fact.filed filed all.groups summed.walk.sequences all.groups_are visited)

    found-within : longer ≡ None → (next : NextRank) → Contains found next → IsWithin run next
    found-within untold next held kept =
        let fact = is_found.found_are in
        let summed = fact.summed all.groups all.groups_are in
        let visited = walked-whole course all.groups summed.visits summed.walk in
        let sequences : List (List Visit) = summed.walk.sequences in
        let places = summed-places course all.groups ranks (aim_of part list.seen) is_found.weights fact.tallies summed sequences visited least found fact.next next held in
        let filed : slice_range run next.first next.last ≡ stands_of ranks (aim_of part list.seen) next.rank sequences =
        files-run ranks (aim_of part list.seen) sequences found run (fact.filed untold all.groups sequences all.groups_are visited) next held kept in
        let long : next.first + length (stands_of ranks (aim_of part list.seen) next.rank sequences) ≡ next.last = places.room kept in
        range-within run next.first next.last kept (ap (λ (l : List Stand). next.first + length l) filed ∙ long)

-- so for the aim of what is kept of the prefix
module _ (part : GridList) (is : IsPart part) (least : ℕ) (some : 1 ≤ least) (room : ℕ) (most : length part.problem.ranking.order < room)
    (prefixes : List ℕ) (kept : StandList) (projected : IsProjected part least prefixes kept) (aim : Aim) (seen : aim.seen ≡ kept.seen)
    (need : aim.need ≡ part.bound.need) (untold : kept.next ≡ None) (loose : kept.bytes ≡ None) (any : 0 < length kept.stands) (found : List NextRank) (run : List Stand)
    (longer : Option (List StandList)) (is_found : IsFoundIn part aim least room kept.stands found run longer) where
  abbrev own : Aim
  own = aim_of part projected.snapshots.seen

  same : aim ≡ own
  same = aim-same part aim projected.snapshots.seen (seen ∙ projected.seen) need

  moved : IsFoundIn part own least room kept.stands found run longer
  moved = subst (λ (a : Aim). IsFoundIn part a least room kept.stands found run longer) same is_found

  pub grown-next : AreNextRanks part prefixes least (map told_of found)
  grown-next =
      found-next part is least some room most prefixes projected.snapshots projected.are kept.stands (some-stands part is least some prefixes kept projected untold loose any) found run longer moved

  pub grown-each : longer ≡ None → (next : NextRank) → Contains found next → IsProjected part least (prefixes ++ next.rank ∷ []) (kept_of aim run next)
  grown-each filed next held =
      subst (λ (a : Aim). IsProjected part least (prefixes ++ next.rank ∷ []) (kept_of a run next)) (sym same)
      (found-each part is least some room most prefixes projected.snapshots projected.are kept.stands (some-stands part is least some prefixes kept projected untold loose any) found run longer moved filed next held)

  pub grown-within : longer ≡ None → All (IsWithin run) found
  grown-within filed k d below =
      found-within part is least some room most prefixes projected.snapshots projected.are kept.stands (some-stands part is least some prefixes kept projected untold loose any) found run longer moved filed
      (get_or found k d) (Contains-get_or found k d below)
