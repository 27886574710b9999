-- Room for the stands of longer prefixes, which are filed in one walk or in several.
use Rattle.std.proofs.Common.{◌≡◌, ℕ, ◌+◌, ◌≤◌, ◌<◌, inl, inr, Bool, true, false, nat_lt, nat_le, Some, List, [], ◌∷◌, ◌++◌, length, map, refl, sym, ap, ◌∙◌, subst, arith, append_assoc}
use Rattle.std.specs.List.{All, Contains, filter, slice_get, slice_range}
use Rattle.std.proofs.lemmas.Bool.{cases_lt, lt-ltb, le-ltb}
use Rattle.std.proofs.lemmas.Grind.{flat_map-append}
use Rattle.std.proofs.lemmas.List.{append-nil, length-append}
use Rattle.std.proofs.lemmas.List.Elements.{filter-append}
use Rattle.mine_model.proofs.ListLemmas.{Contains-cases, Contains-none, Contains-by, Contains-from, all-from}
use Rattle.place_walk.specs.declared.stand.Stand.{Stand}
use Rattle.place_walk.specs.declared.visit.Visit.{Visit}
use Rattle.stand_sums.specs.declared.aim.Aim.{Aim}
use Rattle.stand_sums.specs.declared.next_rank.NextRank.{NextRank}
use Rattle.stand_sums.specs.Writings.{Ranks, opens}
use Rattle.stand_sums.specs.Sequences.{AreSequences}
use Rattle.stand_sums.specs.Sums.{Tally, stands_among, room_for, IsTold, AreLaidOut, AreNext}
use Rattle.snapshot_project.specs.Longer.{HasPlaces}
use Rattle.stand_sums.specs.Files.{stands_in, stands_of, Filed, unfiled, HasRoom, IsFull, with_more}
use Rattle.stand_sums.proofs.FileLemmas.{with_stands}
use Rattle.stand_sums.proofs.WritingLemmas.{laid-forward, at-long}

-- ---- how many stands there are

-- as many as there are visits that write the rank and go on
pub stands-long : (ranks : Ranks) (aim : Aim) (rank : ℕ) (visits : List Visit) (sequences : List (List Visit)) → AreSequences visits sequences
    → length (stands_of ranks aim rank sequences) ≡ stands_among ranks aim rank visits
stands-long ranks aim rank visits [] none = sym (ap (stands_among ranks aim rank) none)
stands-long ranks aim rank visits (here ∷ sequences) (behind, cut, marks, others) =
    let opening : Visit → Bool = opens ranks aim rank in
    let rest : length (stands_of ranks aim rank sequences) ≡ stands_among ranks aim rank behind = stands-long ranks aim rank behind sequences others in
    let first : length (stands_in ranks aim rank here) ≡ length (filter opening here) = at-long (filter opening here) in
    let sum : length (stands_in ranks aim rank here ++ stands_of ranks aim rank sequences) ≡ length (stands_in ranks aim rank here) + length (stands_of ranks aim rank sequences) =
    length-append (stands_in ranks aim rank here) (stands_of ranks aim rank sequences) in
    let whole : stands_among ranks aim rank visits ≡ length (filter opening here) + length (filter opening behind) =
    ap (stands_among ranks aim rank) cut ∙ ap length (filter-append opening here behind) ∙ length-append (filter opening here) (filter opening behind) in
    omega arith

-- visits of some sequences, and of more
pub sequences-append : (visits more : List Visit) (sequences others : List (List Visit)) → AreSequences visits sequences → AreSequences more others
    → AreSequences (visits ++ more) (sequences ++ others)
sequences-append visits more [] others none are = subst (λ (l : List Visit). AreSequences (l ++ more) others) (sym none) are
sequences-append visits more (here ∷ sequences) others (behind, cut, marks, rest) are =
    (behind ++ more, ap (λ (l : List Visit). l ++ more) cut ∙ append_assoc here behind more, marks, sequences-append behind more sequences others rest are)

module _ (ranks : Ranks) (aim : Aim) where
  pub stands-append : (rank : ℕ) (sequences others : List (List Visit)) → stands_of ranks aim rank (sequences ++ others) ≡ stands_of ranks aim rank sequences ++ stands_of ranks aim rank others
  stands-append rank sequences others = flat_map-append (stands_in ranks aim rank) sequences others

  -- ---- sequences that are filed one behind another

  more-kept : (sequences : List (List Visit)) (filed : Filed) → nat_lt filed.first filed.last ≡ true
      → with_more ranks aim sequences filed ≡ with_stands filed (filed.stands ++ stands_of ranks aim filed.rank sequences)
  more-kept sequences filed keeps = rw keeps refl

  more-not : (sequences : List (List Visit)) (filed : Filed) → nat_lt filed.first filed.last ≡ false → with_more ranks aim sequences filed ≡ filed
  more-not sequences filed keeps = rw keeps refl

  -- what is filed of more sequences behind others
  pub more-behind : (done more : List (List Visit)) (filed : Filed) → with_more ranks aim more (with_more ranks aim done filed) ≡ with_more ranks aim (done ++ more) filed
  more-behind done more filed = by (nat_lt filed.first filed.last) refl
    where
      by : (b : Bool) → nat_lt filed.first filed.last ≡ b → with_more ranks aim more (with_more ranks aim done filed) ≡ with_more ranks aim (done ++ more) filed
      by true keeps =
          ap (with_more ranks aim more) (more-kept done filed keeps)
          ∙ more-kept more (with_stands filed (filed.stands ++ stands_of ranks aim filed.rank done)) keeps
          ∙ ap (with_stands filed) (append_assoc filed.stands (stands_of ranks aim filed.rank done) (stands_of ranks aim filed.rank more)
          ∙ ap (λ (l : List Stand). filed.stands ++ l) (sym (stands-append filed.rank done more)))
          ∙ sym (more-kept (done ++ more) filed keeps)
      by false keeps = ap (with_more ranks aim more) (more-not done filed keeps) ∙ more-not more filed keeps ∙ sym (more-not (done ++ more) filed keeps)

  -- nothing is filed of no sequences
  pub more-none : (filed : Filed) → with_more ranks aim [] filed ≡ filed
  more-none filed = by (nat_lt filed.first filed.last) refl
    where
      by : (b : Bool) → nat_lt filed.first filed.last ≡ b → with_more ranks aim [] filed ≡ filed
      by true keeps = more-kept [] filed keeps ∙ ap (with_stands filed) (append-nil filed.stands)
      by false keeps = more-not [] filed keeps

  -- so for each rank
  pub all-behind : (done more : List (List Visit)) (files : List Filed)
      → map (with_more ranks aim more) (map (with_more ranks aim done) files) ≡ map (with_more ranks aim (done ++ more)) files
  all-behind done more [] = refl
  all-behind done more (filed ∷ files) = λ i. more-behind done more filed i ∷ all-behind done more files i

  pub all-none : (files : List Filed) → map (with_more ranks aim []) files ≡ files
  all-none [] = refl
  all-none (filed ∷ files) = λ i. more-none filed i ∷ all-none files i

  -- ---- places

  -- where the stands of each rank were counted
  pub places-found : (all : List (List Visit)) (least enough : ℕ) (tallies : List Tally) (found : List NextRank) → AreNext least enough tallies found
      → ((rank : ℕ) (tally : Tally) → slice_get tallies rank ≡ Some tally → tally.stands ≡ length (stands_of ranks aim rank all))
      → (next : NextRank) → Contains found next → HasPlaces ranks aim all next
  places-found all least enough tallies found are counted next held =
      let (tally, at, heavy, told) = are.right next held in
      by tally (counted next.rank tally at) told (nat_le enough tally.longer) refl
    where
      by : (tally : Tally) → tally.stands ≡ length (stands_of ranks aim next.rank all) → IsTold enough tally next → (b : Bool) → nat_le enough tally.longer ≡ b
          → HasPlaces ranks aim all next
      by tally long told true enough' =
          let last : next.last ≡ next.first + room_for enough tally = told.stands in
          let room : room_for enough tally ≡ tally.stands = rw enough' refl in
          record { forward = omega arith; room = λ kept. omega arith }
      by tally long told false light =
          let last : next.last ≡ next.first + room_for enough tally = told.stands in
          let room : room_for enough tally ≡ 0 = rw light refl in
          record { forward = omega arith; room = λ kept. absurd (omega arith) }

  module _ (all : List (List Visit)) (next : NextRank) (places : HasPlaces ranks aim all next) where
    room-one : (done here rest : List (List Visit)) (visits : List Visit) → all ≡ done ++ here ++ rest → AreSequences visits here
        → HasRoom ranks aim visits (with_more ranks aim done (unfiled next))
    room-one done here rest visits cut are = elim (cases_lt next.first next.last) [
      | inl kept ↦
          let some : List (List Visit) → ℕ = λ sequences. length (stands_of ranks aim next.rank sequences) in
          let whole : next.first + some all ≡ next.last = places.room kept in
          let first : some all ≡ some (done ++ here) + some rest =
          ap some cut ∙ ap length (stands-append next.rank (done ++ here) rest) ∙ length-append (stands_of ranks aim next.rank (done ++ here)) (stands_of ranks aim next.rank rest) in
          let second : some (done ++ here) ≡ some done + some here =
          ap length (stands-append next.rank done here) ∙ length-append (stands_of ranks aim next.rank done) (stands_of ranks aim next.rank here) in
          let third : some here ≡ stands_among ranks aim next.rank visits = stands-long ranks aim next.rank visits here are in
          subst (HasRoom ranks aim visits) (sym (more-kept done (unfiled next) (lt-ltb next.first next.last kept))) (λ kept'. omega arith)
      | inr none ↦ subst (HasRoom ranks aim visits) (sym (more-not done (unfiled next) (le-ltb next.first next.last none))) (λ kept'. absurd (omega arith))
    ]

    full-one : IsFull (with_more ranks aim all (unfiled next))
    full-one = elim (cases_lt next.first next.last) [
      | inl kept ↦ subst IsFull (sym (more-kept all (unfiled next) (lt-ltb next.first next.last kept))) (places.room kept)
      | inr none ↦
          let forward : next.first ≤ next.last = places.forward in
          subst IsFull (sym (more-not all (unfiled next) (le-ltb next.first next.last none))) (omega arith)
    ]

  -- what is filed of these ranks
  filed-from : (sequences : List (List Visit)) (found : List NextRank) (filed : Filed) → Contains (map (with_more ranks aim sequences) (map unfiled found)) filed
      → (next : NextRank) × Contains found next × (filed ≡ with_more ranks aim sequences (unfiled next))
  filed-from sequences found filed held =
      let (bare, there, is) = Contains-from (with_more ranks aim sequences) (map unfiled found) filed held in
      let (next, among, same) = Contains-from unfiled found bare there in
      (next, among, is ∙ ap (with_more ranks aim sequences) same)

  module _ (all : List (List Visit)) (found : List NextRank) (places : (next : NextRank) → Contains found next → HasPlaces ranks aim all next) where
    -- there is room for the next visits
    pub files-room : (done here rest : List (List Visit)) (visits : List Visit) → all ≡ done ++ here ++ rest → AreSequences visits here
        → All (HasRoom ranks aim visits) (map (with_more ranks aim done) (map unfiled found))
    files-room done here rest visits cut are =
        all-from (HasRoom ranks aim visits) (map (with_more ranks aim done) (map unfiled found)) (λ filed held.
        let (next, among, is) = filed-from done found filed held in
        subst (HasRoom ranks aim visits) (sym is) (room-one all next (places next among) done here rest visits cut are))

    -- at the end all is full
    pub files-full : All IsFull (map (with_more ranks aim all) (map unfiled found))
    files-full =
        all-from IsFull (map (with_more ranks aim all) (map unfiled found)) (λ filed held.
        let (next, among, is) = filed-from all found filed held in
        subst IsFull (sym is) (full-one all next (places next among)))

  -- each rank with places has its stands there
  pub files-run : (all : List (List Visit)) (found : List NextRank) (run : List Stand)
      → All (λ filed. slice_range run filed.first filed.last ≡ filed.stands) (map (with_more ranks aim all) (map unfiled found))
      → (next : NextRank) → Contains found next → next.first < next.last → slice_range run next.first next.last ≡ stands_of ranks aim next.rank all
  files-run all found run each next among kept =
      let (k, below, is) = Contains-by (with_more ranks aim all) (map unfiled found) (unfiled next) (Contains-by unfiled found next among) in
      let here : Filed = with_more ranks aim all (unfiled next) in
      let fact : slice_range run here.first here.last ≡ here.stands = subst (λ (f : Filed). slice_range run f.first f.last ≡ f.stands) is (each k here below) in
      subst (λ (f : Filed). slice_range run f.first f.last ≡ f.stands) (more-kept all (unfiled next) (lt-ltb next.first next.last kept)) fact

-- ---- ranks without places

pub laid-within : (from : ℕ) (found : List NextRank) (end : ℕ) → AreLaidOut from found end → (next : NextRank) → Contains found next
    → (from ≤ next.first) × (next.first ≤ next.last) × (next.last ≤ end)
laid-within from [] end are next held = absurd (Contains-none next held)
laid-within from (one ∷ found) end (first, forward, others) next held = elim (Contains-cases one found next held) [
  | inl same ↦
      let rest = laid-forward one.last found end others in
      subst (λ (n : NextRank). (from ≤ n.first) × (n.first ≤ n.last) × (n.last ≤ end)) (sym same) (omega arith, omega arith, rest)
  | inr there ↦ let (low, ordered, high) = laid-within one.last found end others next there in (omega arith, ordered, high)
]

-- and no rank has a stand to be read
pub places-none : (found : List NextRank) → AreLaidOut 0 found 0 → (next : NextRank) → Contains found next → next.first < next.last → ⊥
places-none found are next among kept = let (low, ordered, high) = laid-within 0 found 0 are next among in omega arith
