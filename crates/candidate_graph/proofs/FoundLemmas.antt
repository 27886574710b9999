-- What follows in one sequence, from sums and files.
use Rattle.std.proofs.Common.{◌≡◌, ℕ, ◌+◌, ◌-◌, ◌≤◌, ◌<◌, take, drop, ◌==◌, inl, inr, Bool, true, false, true≢false, nat_le, nat_lt, Some, List, [], ◌∷◌, length, map, filter, replicate, refl, sym, ap, ◌∙◌, subst, arith}
use Rattle.std.specs.List.{All, Contains, slice_get, slice_range}
use Rattle.std.proofs.lemmas.Bool.{cases_lt, lt-ltb, le-ltb, le-leb}
use Rattle.std.proofs.lemmas.Option.{slice_get_within, slice_get-get_or}
use Rattle.std.proofs.lemmas.List.{append-nil, length-replicate, get_or-replicate, nil_from_length}
use Rattle.std.proofs.lemmas.List.Elements.{All-contains}
use Rattle.mine_model.proofs.ListLemmas.{Contains-cases, Contains-none, Contains-filter, Contains-by, Contains-from, all-from}
use Rattle.mine_model.proofs.ElementLemmas.{get-some, no_members, any-held}
use Rattle.place_walk.specs.declared.stand.Stand.{Stand}
use Rattle.place_walk.specs.declared.visit.Visit.{Visit}
use Rattle.stand_sums.specs.declared.aim.Aim.{Aim}
use Rattle.stand_sums.specs.declared.next_rank.NextRank.{NextRank}
use Rattle.stand_sums.specs.Writings.{Ranks, IsReadable, opens, ends, follows}
use Rattle.stand_sums.specs.Sequences.{IsSequence, AreSequences, HasOne, weight_of, all_weighed}
use Rattle.stand_sums.specs.Sums.{AreLaidOut, Tally, empty_tally, Grows, stands_among, AreCounted, room_for, AreNext, IsTold}
use Rattle.stand_sums.specs.Files.{stands_in, stands_of, Filed, unfiled, with_more, HasRoom, IsFull}
use Rattle.stand_sums.proofs.WritingLemmas.{laid-forward, at-long, follows-writes}
use Rattle.candidate_graph.specs.Kept.{AreFound, AreInRun}

-- visits of one sequence, and no other
pub one-sequence : (visits : List Visit) → IsSequence visits → AreSequences visits (visits ∷ [])
one-sequence visits marked = ([], sym (append-nil visits), marked, refl)

-- ---- sums

module _ (test : Visit → Bool) (visits : List Visit) (sum : ℕ) (grows : Grows test (all_weighed [] (visits ∷ [])) 0 sum) where
  -- where no weights are told a sequence weighs 1
  weighs-one : (those : List Visit) → HasOne test those → weight_of [] those ≡ 1
  weighs-one [] (visit, (k, below, is), passes) = absurd (omega (arith, below))
  weighs-one (first ∷ rest) has = refl

  pub sum-one : 1 ≤ sum → HasOne test visits
  sum-one some =
      let (n, counts, is) = grows in
      elim counts [
        | inl (has, rest) ↦ has
        | inr (none, zero') ↦ absurd (omega (arith, some, is, zero'))
      ]

  pub one-sum : HasOne test visits → 1 ≤ sum
  one-sum has =
      let (n, counts, is) = grows in
      elim counts [
        | inl (has', (rest, more, zero')) ↦ omega (arith, is, more, zero', weighs-one visits has)
        | inr (none, zero') ↦ absurd (none has)
      ]

-- no visit passes
none-long : (test : Visit → Bool) (visits : List Visit) → (HasOne test visits → ⊥) → length (filter test visits) ≡ 0
none-long test visits none =
    ap length (no_members (filter test visits) (λ visit held.
    let (there, passes) = Contains-filter test visits visit held in
    none (visit, there, passes)))

same-rank : (one other : ℕ) → (one == other) ≡ true → one ≡ other
same-rank one other is = grind (arith, is)

module _ (ranks : Ranks) (CanAsk : ℕ → ℕ → Type 0) (end : ℕ) (aim : Aim) (visits : List Visit)
    (readable : All (IsReadable ranks CanAsk end) visits) where
  -- what follows is a known rank
  follows-below : (rank : ℕ) → HasOne (follows ranks aim rank) visits → rank < end
  follows-below rank (visit, held, passes) =
      let reads : IsReadable ranks CanAsk end visit = All-contains (IsReadable ranks CanAsk end) visits visit readable held in
      let (other, in', is) = any-held (λ (other : ℕ). other == rank) (ranks visit.kind visit.action.state) (follows-writes ranks aim rank visit passes) in
      let below : other < end = All-contains (λ (r : ℕ). r < end) (ranks visit.kind visit.action.state) other reads.within in' in
      subst (λ (r : ℕ). r < end) (same-rank other rank is) below

  module _ (tallies : List Tally) (long : length tallies ≡ end)
      (counted : (rank : ℕ) (tally : Tally) → slice_get tallies rank ≡ Some tally → AreCounted ranks aim [] rank visits (visits ∷ []) empty_tally tally) where
    places-are : (next : NextRank) (tally : Tally) → AreCounted ranks aim [] next.rank visits (visits ∷ []) empty_tally tally → IsTold 1 tally next
        → next.last ≡ next.first + stands_among ranks aim next.rank visits
    places-are next tally counts told = by (nat_le 1 tally.longer) refl
      where
        stands : tally.stands ≡ stands_among ranks aim next.rank visits
        stands = let is = counts.stands in omega (arith, is)

        by : (b : Bool) → nat_le 1 tally.longer ≡ b → next.last ≡ next.first + stands_among ranks aim next.rank visits
        by true some =
            let room : room_for 1 tally ≡ tally.stands = rw some refl in
            let last = told.stands in omega (arith, last, room, stands)
        by false none =
            let room : room_for 1 tally ≡ 0 = rw none refl in
            let nothing : stands_among ranks aim next.rank visits ≡ 0 =
            none-long (opens ranks aim next.rank) visits (λ has.
            let some : 1 ≤ tally.longer = one-sum (opens ranks aim next.rank) visits tally.longer counts.longer has in
            true≢false (sym (le-leb 1 tally.longer some) ∙ none)) in
            let last = told.stands in omega (arith, last, room, nothing)

    pub found-are : (found : List NextRank) → AreNext 1 1 tallies found → AreFound ranks aim end visits found
    found-are found are = record {
      rising = are.rising;
      laid_out = are.laid_out;
      right = λ next held.
          let (tally, at, heavy, told) = are.right next held in
          let counts = counted next.rank tally at in
          let support : next.support ≡ tally.support = told.support in
          record {
            follows = sum-one (follows ranks aim next.rank) visits tally.weight counts.weight heavy;
            ends = (
              (λ some. sum-one (ends ranks aim next.rank) visits tally.support counts.support (omega (arith, some, support))),
              (λ has. (let some = one-sum (ends ranks aim next.rank) visits tally.support counts.support has in omega (arith, some, support))),
            );
            places = places-are next tally counts told;
          };
      all = λ rank has.
          let below : rank < length tallies = (let less = follows-below rank has in omega (arith, less, long)) in
          let (tally, at) = get-some tallies rank below in
          are.all rank tally (omega arith) at (one-sum (follows ranks aim rank) visits tally.weight (counted rank tally at).weight has);
      within = λ next held.
          let (tally, at, heavy, told) = are.right next held in
          let inside = slice_get_within tallies next.rank tally at in
          omega (arith, inside, long);
    }

-- nothing was counted before
pub empty-at : (n rank : ℕ) → rank < n → slice_get (replicate n empty_tally) rank ≡ Some empty_tally
empty-at n rank below =
    slice_get-get_or (replicate n empty_tally) rank empty_tally (omega (arith, below, length-replicate n empty_tally))
    ∙ ap (λ (t : Tally). Some t) (get_or-replicate n rank empty_tally empty_tally below)

-- ---- places

laid-most : (from : ℕ) (found : List NextRank) (end : ℕ) → AreLaidOut from found end → (next : NextRank) → Contains found next → next.last ≤ end
laid-most from [] end laid next held = absurd (Contains-none next held)
laid-most from (first ∷ found) end (begun, forward, others) next held = elim (Contains-cases first found next held) [
  | inl here ↦ subst (λ (n : NextRank). n.last ≤ end) (sym here) (laid-forward first.last found end others)
  | inr later ↦ laid-most first.last found end others next later
]

-- ---- files

module _ (ranks : Ranks) (aim : Aim) (visits : List Visit) where
  -- those of one sequence are all
  one-all : (rank : ℕ) → stands_of ranks aim rank (visits ∷ []) ≡ stands_in ranks aim rank visits
  one-all rank = append-nil (stands_in ranks aim rank visits)

  pub in-long : (rank : ℕ) → length (stands_in ranks aim rank visits) ≡ stands_among ranks aim rank visits
  in-long rank = at-long (filter (opens ranks aim rank) visits)

  filed-one : Filed → Filed
  filed-one filed = with_more ranks aim (visits ∷ []) filed

  kept-one : (next : NextRank) → next.first < next.last
      → with_more ranks aim (visits ∷ []) (unfiled next) ≡ record { rank = next.rank; first = next.first; last = next.last; stands = stands_in ranks aim next.rank visits }
  kept-one next kept =
      let yes' : nat_lt next.first next.last ≡ true = lt-ltb next.first next.last kept in
      let whole : with_more ranks aim (visits ∷ []) (unfiled next)
      ≡ record { rank = next.rank; first = next.first; last = next.last; stands = stands_of ranks aim next.rank (visits ∷ []) } = rw yes' refl in
      whole ∙ ap (λ (l : List Stand). let f : Filed = record { rank = next.rank; first = next.first; last = next.last; stands = l } in f) (one-all next.rank)

  bare-one : (next : NextRank) → next.last ≤ next.first → with_more ranks aim (visits ∷ []) (unfiled next) ≡ unfiled next
  bare-one next none = let no' : nat_lt next.first next.last ≡ false = le-ltb next.first next.last none in rw no' refl

  module _ (end : ℕ) (found : List NextRank) (are : AreFound ranks aim end visits found) where
    -- where none goes on there are no stands
    pub no-run : ((end : ℕ) → AreLaidOut 0 found end → end ≡ 0) → AreInRun ranks aim visits found []
    no-run nowhere next among =
        let (end', laid) = are.laid_out in
        let zero' : end' ≡ 0 = nowhere end' laid in
        let most : next.last ≤ end' = laid-most 0 found end' laid next among in
        let places = (are.right next among).places in
        let nothing' : next.last - next.first ≡ 0 = omega (arith, zero', most, places) in
        let bare : slice_range [] next.first next.last ≡ [] = ap (λ (n : ℕ). let none : List Stand = [] in take n (drop next.first none)) nothing' in
        let empty : stands_in ranks aim next.rank visits ≡ [] = nil_from_length (stands_in ranks aim next.rank visits) (omega (arith, zero', most, places, in-long next.rank)) in
        bare ∙ sym empty

    pub files-within : All (λ next. next.rank < end) found
    files-within = all-from (λ (next : NextRank). next.rank < end) found are.within

    pub files-room : All (HasRoom ranks aim visits) (map unfiled found)
    files-room = all-from (HasRoom ranks aim visits) (map unfiled found) (λ filed held.
        let (next, among, is) = Contains-from unfiled found filed held in
        let places = (are.right next among).places in
        subst (HasRoom ranks aim visits) (sym is) (λ kept. omega (arith, places)))

    full-one : (next : NextRank) → Contains found next → IsFull (with_more ranks aim (visits ∷ []) (unfiled next))
    full-one next among =
        let places = (are.right next among).places in
        elim (cases_lt next.first next.last) [
          | inl kept ↦ subst IsFull (sym (kept-one next kept)) (omega (arith, places, in-long next.rank))
          | inr none ↦ subst IsFull (sym (bare-one next none)) (omega (arith, places, none))
        ]

    pub files-full : All IsFull (map (with_more ranks aim (visits ∷ [])) (map unfiled found))
    files-full = all-from IsFull (map (with_more ranks aim (visits ∷ [])) (map unfiled found)) (λ filed held.
        let (bare, there, is) = Contains-from (with_more ranks aim (visits ∷ [])) (map unfiled found) filed held in
        let (next, among, same) = Contains-from unfiled found bare there in
        subst IsFull (sym (is ∙ ap (with_more ranks aim (visits ∷ [])) same)) (full-one next among))

    pub files-run : (run : List Stand) → All (λ filed. slice_range run filed.first filed.last ≡ filed.stands) (map (with_more ranks aim (visits ∷ [])) (map unfiled found))
        → AreInRun ranks aim visits found run
    files-run run each next among =
        let here : Filed = with_more ranks aim (visits ∷ []) (unfiled next) in
        let held : Contains (map (with_more ranks aim (visits ∷ [])) (map unfiled found)) here =
        Contains-by (with_more ranks aim (visits ∷ [])) (map unfiled found) (unfiled next) (Contains-by unfiled found next among) in
        let fact : slice_range run here.first here.last ≡ here.stands =
        All-contains (λ (filed : Filed). slice_range run filed.first filed.last ≡ filed.stands) (map (with_more ranks aim (visits ∷ [])) (map unfiled found)) here each held in
        let places = (are.right next among).places in
        elim (cases_lt next.first next.last) [
          | inl kept ↦ subst (λ (f : Filed). slice_range run f.first f.last ≡ f.stands) (kept-one next kept) fact
          | inr none ↦
              let bare : slice_range run next.first next.last ≡ [] = subst (λ (f : Filed). slice_range run f.first f.last ≡ f.stands) (bare-one next none) fact in
              let empty : stands_in ranks aim next.rank visits ≡ [] = nil_from_length (stands_in ranks aim next.rank visits) (omega (arith, places, none, in-long next.rank)) in
              bare ∙ sym empty
        ]
