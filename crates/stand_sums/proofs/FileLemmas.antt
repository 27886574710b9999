-- Shelves in a run, and what is filed of them.
use Rattle.std.proofs.Common.{◌≡◌, ◌≢◌, ℕ, zero, suc, ◌+◌, ◌-◌, ◌≤◌, ◌<◌, inl, inr, Bool, true, false, cond, not, Result, Ok, Err, OnOk, OnErr, ◌&&◌, ◌==◌, Some, List, [], ◌∷◌, ◌++◌, length, get_or, set, take, drop, map, fold, refl, sym, ap, ◌∙◌, subst, arith, length-set, length-take, length-drop, length-append, append_assoc}
use Rattle.std.specs.List.{All, AllPairs, filter, slice_get, slice_index, slice_range}
use Rattle.std.proofs.lemmas.Bool.{cases_lt, cases_eq, eq-eqb, ne_eqb, lt-ltb, le-ltb, and_from, and_right, or_right, true≢false}
use Rattle.std.proofs.lemmas.List.{take_more, take_more_set, take-set-le, drop-set-lt, drop-set-add, append-nil, map-append, map-id, length-map, drop_more, take-append-drop, length-take-le, get_or_at, set_at, get_or-set_same, get_or-set_other, get_or-take, drop_all}
use Rattle.std.proofs.lemmas.List.Elements.{filter-append}
use Rattle.std.proofs.lemmas.Option.{same_Some, slice_get_within, slice_get-get_or, get_or_from_slice_get}
use Rattle.mine_model.proofs.ElementLemmas.{get-some, get_set_same, get_set_other, get_snoc, slice_get-mapped_by, get-from}
use Rattle.place_walk.specs.declared.visit.Visit.{Visit}
use Rattle.place_walk.specs.declared.stand.Stand.{Stand}
use Rattle.stand_sums.specs.declared.aim.Aim.{Aim}
use Rattle.stand_sums.specs.declared.shelf.Shelf.{Shelf}
use Rattle.stand_sums.specs.Aims.{sees}
use Rattle.stand_sums.specs.Writings.{Ranks, goes_on, opens}
use Rattle.stand_sums.specs.Sequences.{AreSequences}
use Rattle.stand_sums.specs.declared.next_rank.NextRank.{NextRank}
use Rattle.stand_sums.specs.Sums.{stands_among, AreLaidOut}
use Rattle.stand_sums.specs.Files.{Filed, IsFull, unfiled, HasRoom, stand_at, stands_in, stands_of, with_more}
use Rattle.stand_sums.specs.Kept.{empty_shelf, filed_in, filing_in, filings_in, Filing, with_stand, is_kept, filed_for, filed_behind, filed_behind_all, older, HasRoomFor, is_among, AreShelved, ArePlaced, AreFiles, IsSequenceEnd}
use Rattle.stand_sums.proofs.CutLemmas.{AreNone, next-cut, all-none}
use Rattle.stand_sums.proofs.SumLemmas.{not-before, among-more, or_false}
use Rattle.stand_sums.proofs.PartLemmas.{fold-last-one}

-- ---- a run that is written at one place

-- what ends before it stays
range-before : (run : List Stand) (at : ℕ) (stand : Stand) (from end : ℕ) → from ≤ end → end ≤ at → slice_range (set run at stand) from end ≡ slice_range run from end
range-before run at stand from end forward before =
    let index : at ≡ from + (at - from) = omega arith in
    ap (λ (n : ℕ). take (end - from) (drop from (set run n stand))) index
    ∙ ap (take (end - from)) (drop-set-add from run (at - from) stand)
    ∙ take-set-le (end - from) (drop from run) (at - from) stand (omega arith)

-- what begins behind it stays
range-behind : (run : List Stand) (at : ℕ) (stand : Stand) (from end : ℕ) → at < from → slice_range (set run at stand) from end ≡ slice_range run from end
range-behind run at stand from end behind = ap (take (end - from)) (drop-set-lt from run at stand behind)

-- what ends with it has one more
range-more : (run : List Stand) (at : ℕ) (stand : Stand) (from : ℕ) → from ≤ at → at < length run → slice_range (set run at stand) from (at + 1) ≡ slice_range run from at ++ stand ∷ []
range-more run at stand from forward inside =
    let index : at ≡ from + (at - from) = omega arith in
    let many : at + 1 - from ≡ at - from + 1 = omega arith in
    let long : at - from < length (drop from run) = omega (arith, length-drop from run) in
    ap (λ (n : ℕ). take (at + 1 - from) (drop from (set run n stand))) index
    ∙ ap (take (at + 1 - from)) (drop-set-add from run (at - from) stand)
    ∙ ap (λ (n : ℕ). take n (set (drop from run) (at - from) stand)) many
    ∙ take_more_set (drop from run) (at - from) stand long

pub range-length : (run : List Stand) (from end : ℕ) → from ≤ end → end ≤ length run → from + length (slice_range run from end) ≡ end
range-length run from end forward inside = omega (arith, length-take (end - from) (drop from run), length-drop from run)

-- ---- shelves one behind another

shelved-forward : (from : ℕ) (shelves : List Shelf) (end : ℕ) → AreShelved from shelves end → from ≤ end
shelved-forward from [] end are = are
shelved-forward from (shelf ∷ shelves) end (first, filled, most, others) =
    let rest = shelved-forward shelf.last shelves end others in omega arith

-- where a shelf lies
pub record LiesIn (end : ℕ) (shelf : Shelf) : Type 0 where
  pub filled : shelf.first ≤ shelf.next
  pub most : shelf.next ≤ shelf.last
  pub within : shelf.last ≤ end

pub shelf-lies : (from : ℕ) (shelves : List Shelf) (end k : ℕ) (shelf : Shelf) → AreShelved from shelves end → slice_get shelves k ≡ Some shelf → LiesIn end shelf
shelf-lies from [] end k shelf are at = absurd (cc)
shelf-lies from (one ∷ shelves) end zero shelf (first, filled, most, others) at =
    let rest = shelved-forward one.last shelves end others in
    let same : one ≡ shelf = cc in
    subst (LiesIn end) same (record { filled = omega arith; most = most; within = rest })
shelf-lies from (one ∷ shelves) end (suc k) shelf (first, filled, most, others) at = shelf-lies one.last shelves end k shelf others at

-- ---- one stand is filed

module _ (run : List Stand) (rank : ℕ) (visit : Visit) (end : ℕ) where
  other-filing : (filing : Filing) → filing.filed.rank ≢ rank → filed_for rank visit end filing ≡ filing
  other-filing filing other = rw (ne_eqb filing.filed.rank rank other) refl

  -- shelves behind the place that is written stay
  filings-behind : (from : ℕ) (shelves : List Shelf) (stop at : ℕ) (stand : Stand) → AreShelved from shelves stop → at < from
      → ((k : ℕ) (shelf : Shelf) → slice_get shelves k ≡ Some shelf → shelf.rank ≢ rank)
      → filings_in (set run at stand) shelves ≡ map (filed_for rank visit end) (filings_in run shelves)
  filings-behind from [] stop at stand are before others = refl
  filings-behind from (shelf ∷ shelves) stop at stand (first, filled, most, are) before others =
      let stays : slice_range (set run at stand) shelf.first shelf.next ≡ slice_range run shelf.first shelf.next =
      range-behind run at stand shelf.first shelf.next (omega arith) in
      let head : filing_in (set run at stand) shelf ≡ filed_for rank visit end (filing_in run shelf) =
      ap (λ (l : List Stand). let f : Filing = record { filed = record { rank = shelf.rank; first = shelf.first; last = shelf.last; stands = l }; end = shelf.end } in f) stays
      ∙ sym (other-filing (filing_in run shelf) (others 0 shelf refl)) in
      let tail = filings-behind shelf.last shelves stop at stand are (omega arith) (λ k one there. others (suc k) one there) in
      λ i. head i ∷ tail i

  module _ (stop : ℕ) (room : stop ≤ length run) where
    pub file-one : (from : ℕ) (shelves : List Shelf) (k : ℕ) (shelf : Shelf) → AreShelved from shelves stop → slice_get shelves k ≡ Some shelf → shelf.rank ≡ rank
        → shelf.first < shelf.last → shelf.next < shelf.last
        → ((j : ℕ) (one : Shelf) → slice_get shelves j ≡ Some one → one.rank ≡ rank → j ≡ k)
        → filings_in (set run shelf.next (stand_at (not (shelf.end == end)) visit)) (set shelves k (record shelf { next = shelf.next + 1; end = end }))
        ≡ map (filed_for rank visit end) (filings_in run shelves)
    file-one from [] k shelf are at is kept free alone = absurd (cc)
    file-one from (one ∷ shelves) zero shelf (first, filled, most, are) at is kept free alone =
        let same : one ≡ shelf = cc in
        let stand : Stand = stand_at (not (shelf.end == end)) visit in
        let first' : shelf.first ≡ from = subst (λ (s : Shelf). s.first ≡ from) same first in
        let filled' : from ≤ shelf.next = subst (λ (s : Shelf). from ≤ s.next) same filled in
        let are' : AreShelved shelf.last shelves stop = subst (λ (s : Shelf). AreShelved s.last shelves stop) same are in
        let inside : shelf.last ≤ stop = shelved-forward shelf.last shelves stop are' in
        let more : slice_range (set run shelf.next stand) shelf.first (shelf.next + 1) ≡ slice_range run shelf.first shelf.next ++ stand ∷ [] =
        range-more run shelf.next stand shelf.first (omega arith) (omega arith) in
        let yes : ((filing_in run shelf).filed.rank == rank && is_kept (filing_in run shelf).filed) ≡ true =
        rw (eq-eqb shelf.rank rank is, lt-ltb shelf.first shelf.last kept) refl in
        let head : filing_in (set run shelf.next stand) (record shelf { next = shelf.next + 1; end = end }) ≡ filed_for rank visit end (filing_in run shelf) =
        ap (λ (l : List Stand). let f : Filing = record { filed = record { rank = shelf.rank; first = shelf.first; last = shelf.last; stands = l }; end = end } in f) more
        ∙ (rw yes refl) in
        let tail = filings-behind shelf.last shelves stop shelf.next stand are' free
        (λ j other there same'. let no' : suc j ≡ 0 = alone (suc j) other there same' in absurd (cc)) in
        let whole : filing_in (set run shelf.next stand) (record shelf { next = shelf.next + 1; end = end }) ∷ filings_in (set run shelf.next stand) shelves
        ≡ filed_for rank visit end (filing_in run shelf) ∷ map (filed_for rank visit end) (filings_in run shelves) = (λ i. head i ∷ tail i) in
        whole ∙ ap (λ (s : Shelf). filed_for rank visit end (filing_in run s) ∷ map (filed_for rank visit end) (filings_in run shelves)) (sym same)
    file-one from (one ∷ shelves) (suc k) shelf (first, filled, most, are) at is kept free alone =
        let stand : Stand = stand_at (not (shelf.end == end)) visit in
        let lies = shelf-behind one.last shelves stop k shelf are at in
        let where_next = (shelf-lies one.last shelves stop k shelf are at).filled in
        let stays : slice_range (set run shelf.next stand) one.first one.next ≡ slice_range run one.first one.next =
        range-before run shelf.next stand one.first one.next (omega arith) (omega arith) in
        let other : one.rank ≢ rank = λ same. let no' : 0 ≡ suc k = alone 0 one refl same in cc in
        let head : filing_in (set run shelf.next stand) one ≡ filed_for rank visit end (filing_in run one) =
        ap (λ (l : List Stand). let f : Filing = record { filed = record { rank = one.rank; first = one.first; last = one.last; stands = l }; end = one.end } in f) stays
        ∙ sym (other-filing (filing_in run one) other) in
        let tail = file-one one.last shelves k shelf are at is kept free (λ j next there same. pred-same j k (alone (suc j) next there same)) in
        λ i. head i ∷ tail i
      where
        shelf-behind : (start : ℕ) (those : List Shelf) (stop' j : ℕ) (that : Shelf) → AreShelved start those stop' → slice_get those j ≡ Some that → start ≤ that.first
        shelf-behind start [] stop' j that are' at' = absurd (cc)
        shelf-behind start (next ∷ those) stop' zero that (first', filled', most', are') at' =
            let same : next ≡ that = cc in subst (λ (s : Shelf). start ≤ s.first) same (omega arith)
        shelf-behind start (next ∷ those) stop' (suc j) that (first', filled', most', are') at' =
            let rest = shelf-behind next.last those stop' j that are' at' in omega arith

        pred-same : (j k : ℕ) → suc j ≡ suc k → j ≡ k
        pred-same j k same = omega arith

-- the shelves still lie one behind another
pub shelved-more : (from : ℕ) (shelves : List Shelf) (stop k : ℕ) (shelf : Shelf) (end : ℕ) → AreShelved from shelves stop → slice_get shelves k ≡ Some shelf → shelf.next < shelf.last
    → AreShelved from (set shelves k (record shelf { next = shelf.next + 1; end = end })) stop
shelved-more from [] stop k shelf end are at free = absurd (cc)
shelved-more from (one ∷ shelves) stop zero shelf end (first, filled, most, are) at free =
    let same : one ≡ shelf = cc in (
      subst (λ (s : Shelf). s.first ≡ from) same first,
      (let filled' : from ≤ shelf.next = subst (λ (s : Shelf). from ≤ s.next) same filled in omega arith),
      omega arith,
      subst (λ (s : Shelf). AreShelved s.last shelves stop) same are,
    )
shelved-more from (one ∷ shelves) stop (suc k) shelf end (first, filled, most, are) at free =
    (first, filled, most, shelved-more one.last shelves stop k shelf end are at free)

-- ---- the ranks of one visit

map-same : {X Y : Type 0} (f g : X → Y) (xs : List X) → ((x : X) → f x ≡ g x) → map f xs ≡ map g xs
map-same f g [] same = refl
map-same f g (x ∷ xs) same = λ i. same x i ∷ map-same f g xs same i

map-twice : {X Y Z : Type 0} (g : Y → Z) (f : X → Y) (xs : List X) → map g (map f xs) ≡ map (λ (x : X). g (f x)) xs
map-twice g f [] = refl
map-twice g f (x ∷ xs) = ap (λ (l : List _). g (f x) ∷ l) (map-twice g f xs)

-- the filing behind a visit that writes these ranks
abbrev pub filed_among : Aim → Visit → ℕ → List ℕ → Filing → Filing
filed_among aim visit end ranks filing =
    cond ((is_among filing.filed.rank ranks && goes_on aim filing.filed.rank visit.action) && is_kept filing.filed) (with_stand visit end filing) filing

module _ (aim : Aim) (visit : Visit) (end : ℕ) (ranks : List ℕ) (apart : AllPairs (λ one other. one ≢ other) ranks) (k : ℕ) (inside : k < length ranks) where
  among-rank : (those : List ℕ) (filing : Filing) → (filed_among aim visit end those filing).filed.rank ≡ filing.filed.rank
  among-rank those filing = by ((is_among filing.filed.rank those && goes_on aim filing.filed.rank visit.action) && is_kept filing.filed)
    where
      by : (b : Bool) → (cond b (with_stand visit end filing) filing).filed.rank ≡ filing.filed.rank
      by true = refl
      by false = refl

  -- a filing of the rank was not changed by those before
  quiet-before : (filing : Filing) → get_or ranks k 0 ≡ filing.filed.rank → filed_among aim visit end (take k ranks) filing ≡ filing
  quiet-before filing same =
      let none : is_among filing.filed.rank (take k ranks) ≡ false = subst (λ (r : ℕ). is_among r (take k ranks) ≡ false) same (not-before ranks k apart inside) in
      rw none refl

  other-more : (filing : Filing) → get_or ranks k 0 ≢ filing.filed.rank → filed_among aim visit end (take k ranks) filing ≡ filed_among aim visit end (take (k + 1) ranks) filing
  other-more filing other =
      let more : is_among filing.filed.rank (take (k + 1) ranks) ≡ is_among filing.filed.rank (take k ranks) =
      among-more filing.filed.rank ranks k inside ∙ (rw (ne_eqb (get_or ranks k 0) filing.filed.rank other) (or_false (is_among filing.filed.rank (take k ranks)))) in
      rw more refl

  among-now : (filing : Filing) → get_or ranks k 0 ≡ filing.filed.rank → is_among filing.filed.rank (take (k + 1) ranks) ≡ true
  among-now filing same =
      let none : is_among filing.filed.rank (take k ranks) ≡ false = subst (λ (r : ℕ). is_among r (take k ranks) ≡ false) same (not-before ranks k apart inside) in
      among-more filing.filed.rank ranks k inside ∙ (rw (none, eq-eqb (get_or ranks k 0) filing.filed.rank same) refl)

  step-yes : goes_on aim (get_or ranks k 0) visit.action ≡ true → (filing : Filing)
      → filed_for (get_or ranks k 0) visit end (filed_among aim visit end (take k ranks) filing) ≡ filed_among aim visit end (take (k + 1) ranks) filing
  step-yes goes filing = elim (cases_eq (get_or ranks k 0) filing.filed.rank) [
    | inl same ↦
        let goes' : goes_on aim filing.filed.rank visit.action ≡ true = subst (λ (r : ℕ). goes_on aim r visit.action ≡ true) same goes in
        let this : (filing.filed.rank == get_or ranks k 0) ≡ true = eq-eqb filing.filed.rank (get_or ranks k 0) (sym same) in
        ap (filed_for (get_or ranks k 0) visit end) (quiet-before filing same)
        ∙ (rw (this, among-now filing same, goes') refl)
    | inr other ↦
        other-filing [] (get_or ranks k 0) visit end (filed_among aim visit end (take k ranks) filing) (λ same. other (sym same ∙ among-rank (take k ranks) filing))
        ∙ other-more filing other
  ]

  step-no : goes_on aim (get_or ranks k 0) visit.action ≡ false → (filing : Filing)
      → filed_among aim visit end (take k ranks) filing ≡ filed_among aim visit end (take (k + 1) ranks) filing
  step-no stays filing = elim (cases_eq (get_or ranks k 0) filing.filed.rank) [
    | inl same ↦
        let stays' : goes_on aim filing.filed.rank visit.action ≡ false = subst (λ (r : ℕ). goes_on aim r visit.action ≡ false) same stays in
        quiet-before filing same ∙ (rw (among-now filing same, stays') refl)
    | inr other ↦ other-more filing other
  ]

  pub filings-yes : goes_on aim (get_or ranks k 0) visit.action ≡ true → (filings : List Filing)
      → map (filed_for (get_or ranks k 0) visit end) (map (filed_among aim visit end (take k ranks)) filings) ≡ map (filed_among aim visit end (take (k + 1) ranks)) filings
  filings-yes goes filings =
      map-twice (filed_for (get_or ranks k 0) visit end) (filed_among aim visit end (take k ranks)) filings
      ∙ map-same (λ (f : Filing). filed_for (get_or ranks k 0) visit end (filed_among aim visit end (take k ranks) f)) (filed_among aim visit end (take (k + 1) ranks)) filings (step-yes goes)

  pub filings-no : goes_on aim (get_or ranks k 0) visit.action ≡ false → (filings : List Filing)
      → map (filed_among aim visit end (take k ranks)) filings ≡ map (filed_among aim visit end (take (k + 1) ranks)) filings
  filings-no stays filings = map-same (filed_among aim visit end (take k ranks)) (filed_among aim visit end (take (k + 1) ranks)) filings (step-no stays)

-- ---- room

among-here : (ranks : List ℕ) (k : ℕ) → k < length ranks → is_among (get_or ranks k 0) ranks ≡ true
among-here [] k inside = absurd (omega arith)
among-here (rank ∷ ranks) zero inside = rw (eq-eqb rank rank refl) refl
among-here (rank ∷ ranks) (suc k) inside =
    or_right (rank == get_or ranks k 0) (is_among (get_or ranks k 0) ranks) (among-here ranks k (omega arith))

-- the ranks of a visit have room in the filings
abbrev pub HaveRoom : Ranks → Aim → List Visit → List Filing → Type 0
HaveRoom ranks aim visits filings = (j : ℕ) (filing : Filing) → slice_get filings j ≡ Some filing → HasRoom ranks aim visits filing.filed

one-among : (ranks : Ranks) (aim : Aim) (rank : ℕ) (visit : Visit) → opens ranks aim rank visit ≡ true → stands_among ranks aim rank (visit ∷ []) ≡ 1
one-among ranks aim rank visit is = rw is refl

pub room-for : (ranks : Ranks) (aim : Aim) (visit : Visit) (end : ℕ) (rs : List ℕ) → rs ≡ ranks visit.kind visit.action.state → AllPairs (λ one other. one ≢ other) rs
    → (k : ℕ) → k < length rs → goes_on aim (get_or rs k 0) visit.action ≡ true
    → (old : List Filing) (run : List Stand) (shelves : List Shelf) → HaveRoom ranks aim (visit ∷ []) old
    → filings_in run shelves ≡ map (filed_among aim visit end (take k rs)) old → AreShelved 0 shelves (length run) → All (HasRoomFor (get_or rs k 0)) shelves
room-for ranks aim visit end rs rs_is apart k inside goes old run shelves room filings shelved j d short same kept =
    let shelf : Shelf = get_or shelves j d in
    let at : slice_get shelves j ≡ Some shelf = slice_get-get_or shelves j d short in
    let long : length shelves ≡ length old =
    sym (length-map shelves (filing_in run)) ∙ ap length filings ∙ length-map old (filed_among aim visit end (take k rs)) in
    let (filing, there) = get-some old j (omega arith) in
    let among : filing_in run shelf ≡ filed_among aim visit end (take k rs) filing =
    same_Some (filing_in run shelf) (filed_among aim visit end (take k rs) filing)
    (sym (slice_get-mapped_by (filing_in run) shelves j shelf at) ∙ ap (λ (l : List Filing). slice_get l j) filings ∙ slice_get-mapped_by (filed_among aim visit end (take k rs)) old j filing there) in
    let rank_is : get_or rs k 0 ≡ filing.filed.rank =
    sym same ∙ ap (λ (f : Filing). f.filed.rank) among ∙ among-rank aim visit end rs apart k inside (take k rs) filing in
    let is : filing_in run shelf ≡ filing = among ∙ quiet-before aim visit end rs apart k inside filing rank_is in
    let enough : HasRoom ranks aim (visit ∷ []) (filed_in run shelf) = subst (λ (f : Filing). HasRoom ranks aim (visit ∷ []) f.filed) (sym is) (room j filing there) in
    let lies = shelf-lies 0 shelves (length run) j shelf shelved at in
    let filled = lies.filled in
    let most = lies.most in
    let within = lies.within in
    let long' = range-length run shelf.first shelf.next filled (omega arith) in
    let writes : is_among shelf.rank rs ≡ true = subst (λ (r : ℕ). is_among r rs ≡ true) (sym same) (among-here rs k inside) in
    let writes' : is_among shelf.rank (ranks visit.kind visit.action.state) ≡ true = subst (λ (l : List ℕ). is_among shelf.rank l ≡ true) rs_is writes in
    let goes' : goes_on aim shelf.rank visit.action ≡ true = subst (λ (r : ℕ). goes_on aim r visit.action ≡ true) (sym same) goes in
    let one : stands_among ranks aim shelf.rank (visit ∷ []) ≡ 1 = one-among ranks aim shelf.rank visit (and_from (is_among shelf.rank (ranks visit.kind visit.action.state)) (goes_on aim shelf.rank visit.action) writes' goes') in
    let all = enough kept in
    omega (arith, all, one, long')

-- ---- visit by visit

pub filings-more : (ranks : Ranks) (aim : Aim) (end : ℕ) (visits : List Visit) (k : ℕ) (d : Visit) → k < length visits → (filings : List Filing)
    → map (λ filing. filed_behind ranks aim end filing (get_or visits k d)) (map (filed_behind_all ranks aim end (take k visits)) filings)
    ≡ map (filed_behind_all ranks aim end (take (k + 1) visits)) filings
filings-more ranks aim end visits k d inside filings =
    map-twice (λ (f : Filing). filed_behind ranks aim end f (get_or visits k d)) (filed_behind_all ranks aim end (take k visits)) filings
    ∙ map-same (λ (f : Filing). filed_behind ranks aim end (filed_behind_all ranks aim end (take k visits) f) (get_or visits k d)) (filed_behind_all ranks aim end (take (k + 1) visits)) filings
    (λ filing. sym (ap (λ (l : List Visit). filed_behind_all ranks aim end l filing) (take_more visits k d inside)
    ∙ fold-last-one (filed_behind ranks aim end) filing (take k visits) (get_or visits k d)))

module _ (ranks : Ranks) (aim : Aim) (end : ℕ) where
  -- what one visit leaves
  record IsLonger (filing now : Filing) (more : ℕ) : Type 0 where
    rank : now.filed.rank ≡ filing.filed.rank
    first : now.filed.first ≡ filing.filed.first
    last : now.filed.last ≡ filing.filed.last
    long : filing.filed.first < filing.filed.last → length now.filed.stands ≡ length filing.filed.stands + more

  one-longer : (visit : Visit) (filing : Filing) → IsLonger filing (filed_behind ranks aim end filing visit) (stands_among ranks aim filing.filed.rank (visit ∷ []))
  one-longer visit filing = by (opens ranks aim filing.filed.rank visit) refl (is_kept filing.filed) refl
    where
      by : (b : Bool) → opens ranks aim filing.filed.rank visit ≡ b → (kept : Bool) → is_kept filing.filed ≡ kept
          → IsLonger filing (cond (b && kept) (with_stand visit end filing) filing) (length (cond b (visit ∷ []) []))
      by true is true keeps = record { rank = refl; first = refl; last = refl; long = λ kept. length-append filing.filed.stands (stand_at (not (filing.end == end)) visit ∷ []) }
      by true is false keeps = record { rank = refl; first = refl; last = refl; long = λ kept. absurd (true≢false (sym (lt-ltb filing.filed.first filing.filed.last kept) ∙ keeps)) }
      by false is kept keeps = record { rank = refl; first = refl; last = refl; long = λ kept'. omega arith }

  all-longer : (visits : List Visit) (filing : Filing) → IsLonger filing (filed_behind_all ranks aim end visits filing) (stands_among ranks aim filing.filed.rank visits)
  all-longer [] filing = record { rank = refl; first = refl; last = refl; long = λ kept. omega arith }
  all-longer (visit ∷ visits) filing =
      let one = one-longer visit filing in
      let between : Filing = filed_behind ranks aim end filing visit in
      let rest = all-longer visits between in
      let sum : stands_among ranks aim filing.filed.rank (visit ∷ visits) ≡ stands_among ranks aim filing.filed.rank (visit ∷ []) + stands_among ranks aim filing.filed.rank visits =
      ap length (filter-append (opens ranks aim filing.filed.rank) (visit ∷ []) visits) ∙ length-append (filter (opens ranks aim filing.filed.rank) (visit ∷ [])) (filter (opens ranks aim filing.filed.rank) visits) in
      let rank_is = one.rank in
      let first_is = one.first in
      let last_is = one.last in
      record {
        rank = rest.rank ∙ rank_is;
        first = rest.first ∙ first_is;
        last = rest.last ∙ last_is;
        long = λ kept.
            let here = one.long kept in
            let there = rest.long (omega (arith, kept, first_is, last_is)) in
            let same : stands_among ranks aim between.filed.rank visits ≡ stands_among ranks aim filing.filed.rank visits = ap (λ (r : ℕ). stands_among ranks aim r visits) rank_is in
            omega (arith, here, there, same, sum);
      }

  -- room for all visits is room for the rest behind the first of them
  pub room-left : (front back : List Visit) (filings : List Filing) → HaveRoom ranks aim (front ++ back) filings → HaveRoom ranks aim back (map (filed_behind_all ranks aim end front) filings)
  room-left front back filings room j now there kept =
      let long : length (map (filed_behind_all ranks aim end front) filings) ≡ length filings = length-map filings (filed_behind_all ranks aim end front) in
      let inside = slice_get_within (map (filed_behind_all ranks aim end front) filings) j now there in
      let (filing, at) = get-some filings j (omega arith) in
      let is : now ≡ filed_behind_all ranks aim end front filing =
      same_Some now (filed_behind_all ranks aim end front filing) (sym there ∙ slice_get-mapped_by (filed_behind_all ranks aim end front) filings j filing at) in
      let longer = all-longer front filing in
      let sum : stands_among ranks aim filing.filed.rank (front ++ back) ≡ stands_among ranks aim filing.filed.rank front + stands_among ranks aim filing.filed.rank back =
      ap length (filter-append (opens ranks aim filing.filed.rank) front back) ∙ length-append (filter (opens ranks aim filing.filed.rank) front) (filter (opens ranks aim filing.filed.rank) back) in
      let rank_is : now.filed.rank ≡ filing.filed.rank = ap (λ (f : Filing). f.filed.rank) is ∙ longer.rank in
      let first_is : now.filed.first ≡ filing.filed.first = ap (λ (f : Filing). f.filed.first) is ∙ longer.first in
      let last_is : now.filed.last ≡ filing.filed.last = ap (λ (f : Filing). f.filed.last) is ∙ longer.last in
      let kept' : filing.filed.first < filing.filed.last = omega (arith, kept, first_is, last_is) in
      let stands_are : length now.filed.stands ≡ length filing.filed.stands + stands_among ranks aim filing.filed.rank front = ap (λ (f : Filing). length f.filed.stands) is ∙ longer.long kept' in
      let back_is : stands_among ranks aim now.filed.rank back ≡ stands_among ranks aim filing.filed.rank back = ap (λ (r : ℕ). stands_among ranks aim r back) rank_is in
      let enough = room j filing at kept' in
      omega (arith, enough, sum, stands_are, first_is, last_is, back_is)

-- ---- sequence by sequence

or_none : (b : Bool) → (b && false) ≡ false
or_none true = refl
or_none false = refl

module _ (ranks : Ranks) (aim : Aim) (end : ℕ) where
  -- a rank without places stays as it is
  not-kept : (visits : List Visit) (filing : Filing) → is_kept filing.filed ≡ false → filed_behind_all ranks aim end visits filing ≡ filing
  not-kept [] filing keeps = refl
  not-kept (visit ∷ visits) filing keeps =
      let stays : filed_behind ranks aim end filing visit ≡ filing = rw (keeps, or_none (opens ranks aim filing.filed.rank visit)) refl in
      ap (filed_behind_all ranks aim end visits) stays ∙ not-kept visits filing keeps

  -- behind the first stand of a sequence
  abbrev IsOld : List Visit → Filing → Type 0
  IsOld visits filing = is_kept filing.filed ≡ true → filing.end ≡ end
      → (filed_behind_all ranks aim end visits filing).filed.stands ≡ filing.filed.stands ++ map (stand_at false) (filter (opens ranks aim filing.filed.rank) visits)

  old-more : (visit : Visit) (visits : List Visit) (filing : Filing) → ((f : Filing) → IsOld visits f) → (b : Bool) → opens ranks aim filing.filed.rank visit ≡ b → IsOld (visit ∷ visits) filing
  old-more visit visits filing rest true is keeps same =
      let step : filed_behind ranks aim end filing visit ≡ with_stand visit end filing = rw (is, keeps) refl in
      let plain : stand_at (not (filing.end == end)) visit ≡ stand_at false visit = ap (λ (b : Bool). stand_at (not b) visit) (eq-eqb filing.end end same) in
      ap (λ (f : Filing). (filed_behind_all ranks aim end visits f).filed.stands) step
      ∙ rest (with_stand visit end filing) keeps refl
      ∙ append_assoc filing.filed.stands (stand_at (not (filing.end == end)) visit ∷ []) (map (stand_at false) (filter (opens ranks aim filing.filed.rank) visits))
      ∙ ap (λ (s : Stand). filing.filed.stands ++ s ∷ map (stand_at false) (filter (opens ranks aim filing.filed.rank) visits)) plain
      ∙ (rw is refl)
  old-more visit visits filing rest false is keeps same =
      let step : filed_behind ranks aim end filing visit ≡ filing = rw is refl in
      ap (λ (f : Filing). (filed_behind_all ranks aim end visits f).filed.stands) step ∙ rest filing keeps same ∙ (rw is refl)

  marked-old : (visits : List Visit) (filing : Filing) → IsOld visits filing
  marked-old [] filing = λ keeps same. sym (append-nil filing.filed.stands)
  marked-old (visit ∷ visits) filing = old-more visit visits filing (marked-old visits) (opens ranks aim filing.filed.rank visit) refl

  -- from the beginning of a sequence on
  abbrev IsNew : List Visit → Filing → Type 0
  IsNew visits filing = is_kept filing.filed ≡ true → filing.end < end
      → (filed_behind_all ranks aim end visits filing).filed.stands ≡ filing.filed.stands ++ stands_in ranks aim filing.filed.rank visits

  new-more : (visit : Visit) (visits : List Visit) (filing : Filing) → ((f : Filing) → IsNew visits f) → (b : Bool) → opens ranks aim filing.filed.rank visit ≡ b → IsNew (visit ∷ visits) filing
  new-more visit visits filing rest true is keeps before =
      let step : filed_behind ranks aim end filing visit ≡ with_stand visit end filing = rw (is, keeps) refl in
      let first : stand_at (not (filing.end == end)) visit ≡ stand_at true visit =
      ap (λ (b : Bool). stand_at (not b) visit) (ne_eqb filing.end end (λ same. let no' : filing.end ≡ end = same in omega (arith, no', before))) in
      ap (λ (f : Filing). (filed_behind_all ranks aim end visits f).filed.stands) step
      ∙ marked-old visits (with_stand visit end filing) keeps refl
      ∙ append_assoc filing.filed.stands (stand_at (not (filing.end == end)) visit ∷ []) (map (stand_at false) (filter (opens ranks aim filing.filed.rank) visits))
      ∙ ap (λ (s : Stand). filing.filed.stands ++ s ∷ map (stand_at false) (filter (opens ranks aim filing.filed.rank) visits)) first
      ∙ (rw is refl)
  new-more visit visits filing rest false is keeps before =
      let step : filed_behind ranks aim end filing visit ≡ filing = rw is refl in
      ap (λ (f : Filing). (filed_behind_all ranks aim end visits f).filed.stands) step ∙ rest filing keeps before ∙ (rw is refl)

  marked-new : (visits : List Visit) (filing : Filing) → IsNew visits filing
  marked-new [] filing = λ keeps before. sym (append-nil filing.filed.stands)
  marked-new (visit ∷ visits) filing = new-more visit visits filing (marked-new visits) (opens ranks aim filing.filed.rank visit) refl

  pub end-most : (visits : List Visit) (filing : Filing) → filing.end ≤ end → (filed_behind_all ranks aim end visits filing).end ≤ end
  end-most [] filing most = most
  end-most (visit ∷ visits) filing most = end-most visits (filed_behind ranks aim end filing visit) (by (opens ranks aim filing.filed.rank visit && is_kept filing.filed))
    where
      by : (b : Bool) → (cond b (with_stand visit end filing) filing).end ≤ end
      by true = omega arith
      by false = most

  -- the stands of one sequence are filed
  pub sequence-filed : (visits : List Visit) (filing : Filing) → filing.end < end → (filed_behind_all ranks aim end visits filing).filed ≡ with_more ranks aim (visits ∷ []) filing.filed
  sequence-filed visits filing before = by (is_kept filing.filed) refl
    where
      by : (b : Bool) → is_kept filing.filed ≡ b → (filed_behind_all ranks aim end visits filing).filed ≡ with_more ranks aim (visits ∷ []) filing.filed
      by true keeps =
          let longer = all-longer ranks aim end visits filing in
          let now : Filed = (filed_behind_all ranks aim end visits filing).filed in
          let rank_is : now.rank ≡ filing.filed.rank = longer.rank in
          let first_is : now.first ≡ filing.filed.first = longer.first in
          let last_is : now.last ≡ filing.filed.last = longer.last in
          let stands_are : now.stands ≡ filing.filed.stands ++ stands_of ranks aim filing.filed.rank (visits ∷ []) =
          marked-new visits filing keeps before ∙ ap (λ (l : List Stand). filing.filed.stands ++ l) (sym (append-nil (stands_in ranks aim filing.filed.rank visits))) in
          let same : now ≡ record { rank = filing.filed.rank; first = filing.filed.first; last = filing.filed.last; stands = filing.filed.stands ++ stands_of ranks aim filing.filed.rank (visits ∷ []) } =
          (λ i. record { rank = rank_is i; first = first_is i; last = last_is i; stands = stands_are i }) in
          same ∙ (rw keeps refl)
      by false keeps = ap (λ (f : Filing). f.filed) (not-kept visits filing keeps) ∙ (rw keeps refl)

-- ---- sequence after sequence

stands-append : (ranks : Ranks) (aim : Aim) (rank : ℕ) (xs ys : List (List Visit)) → stands_of ranks aim rank (xs ++ ys) ≡ stands_of ranks aim rank xs ++ stands_of ranks aim rank ys
stands-append ranks aim rank [] ys = refl
stands-append ranks aim rank (here ∷ xs) ys =
    ap (λ (l : List Stand). stands_in ranks aim rank here ++ l) (stands-append ranks aim rank xs ys)
    ∙ sym (append_assoc (stands_in ranks aim rank here) (stands_of ranks aim rank xs) (stands_of ranks aim rank ys))

stands-none : (ranks : Ranks) (aim : Aim) (rank : ℕ) (sequences : List (List Visit)) → AreNone sequences → stands_of ranks aim rank sequences ≡ []
stands-none ranks aim rank [] none = refl
stands-none ranks aim rank (here ∷ sequences) (none, others) =
    ap (λ (l : List Visit). stands_in ranks aim rank l ++ stands_of ranks aim rank sequences) none ∙ stands-none ranks aim rank sequences others

abbrev pub with_stands : Filed → List Stand → Filed
with_stands filed stands = record { rank = filed.rank; first = filed.first; last = filed.last; stands = stands }

more-more : (ranks : Ranks) (aim : Aim) (xs ys : List (List Visit)) (filed : Filed) → with_more ranks aim ys (with_more ranks aim xs filed) ≡ with_more ranks aim (xs ++ ys) filed
more-more ranks aim xs ys filed = by (is_kept filed) refl
  where
    by : (b : Bool) → is_kept filed ≡ b → with_more ranks aim ys (with_more ranks aim xs filed) ≡ with_more ranks aim (xs ++ ys) filed
    by true keeps =
        let stands_are : (filed.stands ++ stands_of ranks aim filed.rank xs) ++ stands_of ranks aim filed.rank ys ≡ filed.stands ++ stands_of ranks aim filed.rank (xs ++ ys) =
        append_assoc filed.stands (stands_of ranks aim filed.rank xs) (stands_of ranks aim filed.rank ys)
        ∙ ap (λ (l : List Stand). filed.stands ++ l) (sym (stands-append ranks aim filed.rank xs ys)) in
        let kept : (zs : List (List Visit)) → with_more ranks aim zs filed ≡ with_stands filed (filed.stands ++ stands_of ranks aim filed.rank zs) = λ zs. rw keeps refl in
        let mid : Filed = with_stands filed (filed.stands ++ stands_of ranks aim filed.rank xs) in
        let next : with_more ranks aim ys mid ≡ with_stands filed ((filed.stands ++ stands_of ranks aim filed.rank xs) ++ stands_of ranks aim filed.rank ys) = rw keeps refl in
        ap (with_more ranks aim ys) (kept xs) ∙ next ∙ ap (with_stands filed) stands_are ∙ sym (kept (xs ++ ys))
    by false keeps =
        let stays : (zs : List (List Visit)) → with_more ranks aim zs filed ≡ filed = λ zs. rw keeps refl in
        ap (with_more ranks aim ys) (stays xs) ∙ stays ys ∙ sym (stays (xs ++ ys))

more-none : (ranks : Ranks) (aim : Aim) (sequences : List (List Visit)) (filed : Filed) → AreNone sequences → with_more ranks aim sequences filed ≡ filed
more-none ranks aim sequences filed none = by (is_kept filed) refl
  where
    by : (b : Bool) → is_kept filed ≡ b → with_more ranks aim sequences filed ≡ filed
    by true keeps =
        let stands_are : filed.stands ++ stands_of ranks aim filed.rank sequences ≡ filed.stands =
        ap (λ (l : List Stand). filed.stands ++ l) (stands-none ranks aim filed.rank sequences none) ∙ append-nil filed.stands in
        rw keeps (ap (λ (l : List Stand). let f : Filed = record { rank = filed.rank; first = filed.first; last = filed.last; stands = l } in f) stands_are)
    by false keeps = rw keeps refl

-- so many of the visits were filed, sequence after sequence
pub record AreFiledTo (ranks : Ranks) (aim : Aim) (visits : List Visit) (from : ℕ) (sequences : List (List Visit)) (before now : List Filed) : Type 0 where
  pub done : List (List Visit)
  pub left : List (List Visit)
  pub cut : sequences ≡ done ++ left
  pub left_are : AreSequences (drop from visits) left
  pub filed : now ≡ map (with_more ranks aim done) before

module _ (ranks : Ranks) (aim : Aim) (visits : List Visit) (sequences : List (List Visit)) (before : List Filed) where
  pub filed-start : AreSequences visits sequences → AreFiledTo ranks aim visits 0 sequences before before
  filed-start are = record {
    done = [];
    left = sequences;
    cut = refl;
    left_are = are;
    filed = sym (map-same (with_more ranks aim []) (λ (f : Filed). f) before (λ filed. more-none ranks aim [] filed tt) ∙ map-id before);
  }

  pub filed-more : (from end : ℕ) (between now : List Filed) → AreFiledTo ranks aim visits from sequences before between → IsSequenceEnd visits from end
      → now ≡ map (with_more ranks aim (slice_range visits from end ∷ [])) between → AreFiledTo ranks aim visits end sequences before now
  filed-more from end between now to ends is =
      let next = next-cut visits from end ends to.left to.left_are in
      let here : List Visit = slice_range visits from end in
      record {
        done = to.done ++ next.none ++ here ∷ [];
        left = next.others;
        cut = to.cut ∙ ap (λ (l : List (List Visit)). to.done ++ l) next.cut ∙ sym (append_assoc to.done next.none (here ∷ next.others))
            ∙ sym (append_assoc (to.done ++ next.none) (here ∷ []) next.others);
        left_are = next.are;
        filed = is ∙ ap (map (with_more ranks aim (here ∷ []))) to.filed ∙ map-twice (with_more ranks aim (here ∷ [])) (with_more ranks aim to.done) before
            ∙ map-same (λ (f : Filed). with_more ranks aim (here ∷ []) (with_more ranks aim to.done f)) (with_more ranks aim (to.done ++ next.none ++ here ∷ [])) before
            (λ filed. ap (with_more ranks aim (here ∷ [])) (sym (more-none ranks aim next.none (with_more ranks aim to.done filed) next.empty) ∙ more-more ranks aim to.done next.none filed)
            ∙ more-more ranks aim (to.done ++ next.none) (here ∷ []) filed);
      }

  pub filed-all : (from : ℕ) (now : List Filed) → AreFiledTo ranks aim visits from sequences before now → length visits ≤ from → now ≡ map (with_more ranks aim sequences) before
  filed-all from now to past =
      let none = all-none (drop from visits) to.left (drop_all from visits past) to.left_are in
      to.filed ∙ map-same (with_more ranks aim to.done) (with_more ranks aim sequences) before
      (λ filed. sym (more-none ranks aim to.left (with_more ranks aim to.done filed) none) ∙ more-more ranks aim to.done to.left filed ∙ ap (λ (l : List (List Visit)). with_more ranks aim l filed) (sym to.cut))

-- ---- shelves are found by their ranks

pub placed-more : (places : List ℕ) (shelves : List Shelf) (k : ℕ) (shelf now : Shelf) → ArePlaced places shelves → slice_get shelves k ≡ Some shelf → now.rank ≡ shelf.rank → ArePlaced places (set shelves k now)
placed-more places shelves k shelf now placed at same j one there = elim (cases_eq j k) [
  | inl here ↦
      let is : now ≡ one = same_Some now one (sym (get_set_same shelves k shelf now at) ∙ subst (λ (n : ℕ). slice_get (set shelves k now) n ≡ Some one) here there) in
      let rank_is : one.rank ≡ shelf.rank = sym (ap (λ (s : Shelf). s.rank) is) ∙ same in
      let (inside, place) = placed k shelf at in (
        subst (λ (r : ℕ). r < length places) (sym rank_is) inside,
        ap (slice_index places) rank_is ∙ place ∙ sym here,
      )
  | inr other ↦ placed j one (sym (get_set_other shelves k j now other) ∙ there)
]

-- of a rank there is one shelf
pub placed-alone : (places : List ℕ) (shelves : List Shelf) (k : ℕ) (shelf : Shelf) (rank : ℕ) → ArePlaced places shelves → slice_get shelves k ≡ Some shelf → shelf.rank ≡ rank
    → (j : ℕ) (one : Shelf) → slice_get shelves j ≡ Some one → one.rank ≡ rank → j ≡ k
placed-alone places shelves k shelf rank placed at same j one there also =
    sym (placed j one there).1 ∙ ap (slice_index places) (also ∙ sym same) ∙ (placed k shelf at).1

-- where a rank has no shelf at its place, it has none
pub no-shelf : (places : List ℕ) (run : List Stand) (visit : Visit) (end : ℕ) (shelves : List Shelf) (rank place : ℕ) → ArePlaced places shelves → slice_index places rank ≡ place
    → ((shelf : Shelf) → slice_get shelves place ≡ Some shelf → shelf.rank ≡ rank → shelf.first < shelf.last → ⊥)
    → filings_in run shelves ≡ map (filed_for rank visit end) (filings_in run shelves)
no-shelf places run visit end shelves rank place placed is none = all shelves (λ j one there same kept.
    none one (subst (λ (n : ℕ). slice_get shelves n ≡ Some one) (sym (placed j one there).1 ∙ ap (slice_index places) same ∙ is) there) same kept)
  where
    one-stays : (shelf : Shelf) → (shelf.rank ≡ rank → shelf.first < shelf.last → ⊥) → filing_in run shelf ≡ filed_for rank visit end (filing_in run shelf)
    one-stays shelf no' = elim (cases_eq shelf.rank rank) [
      | inl same ↦ elim (cases_lt shelf.first shelf.last) [
        | inl kept ↦ absurd (no' same kept)
        | inr full ↦ sym (rw (le-ltb shelf.first shelf.last full, or_none (shelf.rank == rank)) refl)
      ]
      | inr other ↦ sym (other-filing run rank visit end (filing_in run shelf) other)
    ]

    all : (those : List Shelf) → ((j : ℕ) (one : Shelf) → slice_get those j ≡ Some one → one.rank ≡ rank → one.first < one.last → ⊥)
        → filings_in run those ≡ map (filed_for rank visit end) (filings_in run those)
    all [] no' = refl
    all (one ∷ those) no' = λ i. one-stays one (no' 0 one refl) i ∷ all those (λ j that there. no' (suc j) that there) i

-- ---- before the first visit

pub older-shelved : (from : ℕ) (shelves : List Shelf) (end : ℕ) → AreShelved from shelves end → AreShelved from (map older shelves) end
older-shelved from [] end are = are
older-shelved from (shelf ∷ shelves) end (first, filled, most, are) = (first, filled, most, older-shelved shelf.last shelves end are)

get-older : (shelves : List Shelf) (j : ℕ) (one : Shelf) → slice_get (map older shelves) j ≡ Some one → (shelf : Shelf) × (slice_get shelves j ≡ Some shelf) × (one ≡ older shelf)
get-older [] j one at = absurd (cc)
get-older (shelf ∷ shelves) zero one at = (shelf, refl, same_Some one (older shelf) (sym at))
get-older (shelf ∷ shelves) (suc j) one at = get-older shelves j one at

pub older-placed : (places : List ℕ) (shelves : List Shelf) → ArePlaced places shelves → ArePlaced places (map older shelves)
older-placed places shelves placed j one there =
    let (shelf, at, is) = get-older shelves j one there in
    let rank_is : one.rank ≡ shelf.rank = ap (λ (s : Shelf). s.rank) is in
    let (inside, place) = placed j shelf at in
    (subst (λ (r : ℕ). r < length places) (sym rank_is) inside, ap (slice_index places) rank_is ∙ place)

pub older-files : (places : List ℕ) (shelves : List Shelf) (run : List Stand) → AreFiles places shelves run → AreFiles places (map older shelves) run
older-files places shelves run are = record { placed = older-placed places shelves are.placed; shelved = older-shelved 0 shelves (length run) are.shelved }

pub older-filed : (run : List Stand) (shelves : List Shelf) → map (filed_in run) (map older shelves) ≡ map (filed_in run) shelves
older-filed run [] = refl
older-filed run (shelf ∷ shelves) = ap (λ (l : List Filed). filed_in run shelf ∷ l) (older-filed run shelves)

pub older-ends : (run : List Stand) (shelves : List Shelf) (j : ℕ) (filing : Filing) → slice_get (filings_in run (map older shelves)) j ≡ Some filing → filing.end ≡ 0
older-ends run [] j filing at = absurd (cc)
older-ends run (shelf ∷ shelves) zero filing at = ap (λ (f : Filing). f.end) (same_Some filing (filing_in run (older shelf)) (sym at))
older-ends run (shelf ∷ shelves) (suc j) filing at = older-ends run shelves j filing at

-- what is filed, without the ends
pub filed-filings : (run : List Stand) (shelves : List Shelf) → map (λ (f : Filing). f.filed) (filings_in run shelves) ≡ map (filed_in run) shelves
filed-filings run shelves = map-twice (λ (f : Filing). f.filed) (filing_in run) shelves

-- ---- room, by what is filed

module _ (ranks : Ranks) (aim : Aim) (visits : List Visit) (run : List Stand) (shelves : List Shelf) where
  pub room-have : All (HasRoom ranks aim visits) (map (filed_in run) shelves) → HaveRoom ranks aim visits (filings_in run shelves)
  room-have all j filing there =
      let (shelf, at, is) = get-from (filing_in run) shelves j filing there in
      let inside : j < length (map (filed_in run) shelves) = omega (arith, slice_get_within shelves j shelf at, length-map shelves (filed_in run)) in
      let read : get_or (map (filed_in run) shelves) j (filed_in run shelf) ≡ filed_in run shelf =
      get_or_from_slice_get (map (filed_in run) shelves) j (filed_in run shelf) (filed_in run shelf) (slice_get-mapped_by (filed_in run) shelves j shelf at) in
      subst (λ (f : Filing). HasRoom ranks aim visits f.filed) (sym is) (subst (HasRoom ranks aim visits) read (all j (filed_in run shelf) inside))

  pub room-all : HaveRoom ranks aim visits (filings_in run shelves) → All (HasRoom ranks aim visits) (map (filed_in run) shelves)
  room-all have j d inside =
      let short : j < length shelves = omega (arith, inside, length-map shelves (filed_in run)) in
      let (shelf, at) = get-some shelves j short in
      let read : get_or (map (filed_in run) shelves) j d ≡ filed_in run shelf =
      get_or_from_slice_get (map (filed_in run) shelves) j (filed_in run shelf) d (slice_get-mapped_by (filed_in run) shelves j shelf at) in
      subst (HasRoom ranks aim visits) (sym read) (have j (filing_in run shelf) (slice_get-mapped_by (filing_in run) shelves j shelf at))

-- room for all is room for the front of them
pub room-front : (ranks : Ranks) (aim : Aim) (front back : List Visit) (filings : List Filing) → HaveRoom ranks aim (front ++ back) filings → HaveRoom ranks aim front filings
room-front ranks aim front back filings room j filing at kept =
    let all = room j filing at kept in
    let sum : stands_among ranks aim filing.filed.rank (front ++ back) ≡ stands_among ranks aim filing.filed.rank front + stands_among ranks aim filing.filed.rank back =
    ap length (filter-append (opens ranks aim filing.filed.rank) front back) ∙ length-append (filter (opens ranks aim filing.filed.rank) front) (filter (opens ranks aim filing.filed.rank) back) in
    omega (arith, all, sum)

-- room for the visit at an index, behind those before it
pub visit-room : (ranks : Ranks) (aim : Aim) (end : ℕ) (visits : List Visit) (k : ℕ) (d : Visit) (filings : List Filing) → k < length visits → HaveRoom ranks aim visits filings
    → HaveRoom ranks aim (get_or visits k d ∷ []) (map (filed_behind_all ranks aim end (take k visits)) filings)
visit-room ranks aim end visits k d filings inside room =
    let split : visits ≡ take k visits ++ (get_or visits k d ∷ drop (k + 1) visits) =
    sym (take-append-drop k visits) ∙ ap (λ (l : List Visit). take k visits ++ l) (drop_more visits k d inside) in
    let left = room-left ranks aim end (take k visits) (get_or visits k d ∷ drop (k + 1) visits) filings (subst (λ (l : List Visit). HaveRoom ranks aim l filings) split room) in
    room-front ranks aim (get_or visits k d ∷ []) (drop (k + 1) visits) (map (filed_behind_all ranks aim end (take k visits)) filings) left

-- ---- a visit behind which nothing more is written

pub quiet-visit : (ranks : Ranks) (aim : Aim) (end : ℕ) (visit : Visit) (filings : List Filing) → visit.action.more ≡ false → visit.action.unseen ≡ false
    → filings ≡ map (λ filing. filed_behind ranks aim end filing visit) filings
quiet-visit ranks aim end visit filings more unseen =
    sym (map-same (λ (f : Filing). filed_behind ranks aim end f visit) (λ (f : Filing). f) filings quiet ∙ map-id filings)
  where
    stays : (b : Bool) → cond b visit.action.more visit.action.unseen ≡ false
    stays true = more
    stays false = unseen

    quiet : (filing : Filing) → filed_behind ranks aim end filing visit ≡ filing
    quiet filing = rw (and_right (is_among filing.filed.rank (ranks visit.kind visit.action.state)) (goes_on aim filing.filed.rank visit.action) (stays (sees aim filing.filed.rank))) refl

-- ---- shelf by shelf

module _ (shelves : List Shelf) (k : ℕ) (d : Shelf) (inside : k < length shelves) where
  older-many : length (map older (take k shelves)) ≡ k
  older-many = length-map (take k shelves) older ∙ length-take-le k shelves (omega arith)

  pub left-shelf : get_or (map older (take k shelves) ++ drop k shelves) k d ≡ get_or shelves k d
  left-shelf = ap (λ (l : List Shelf). get_or (map older (take k shelves) ++ l) k d) (drop_more shelves k d inside)
      ∙ get_or_at (map older (take k shelves)) (get_or shelves k d) (drop (k + 1) shelves) d k older-many

  pub older-more : (now : Shelf) → now ≡ older (get_or shelves k d) → set (map older (take k shelves) ++ drop k shelves) k now ≡ map older (take (k + 1) shelves) ++ drop (k + 1) shelves
  older-more now is =
      ap (λ (l : List Shelf). set (map older (take k shelves) ++ l) k now) (drop_more shelves k d inside)
      ∙ set_at (map older (take k shelves)) (get_or shelves k d) (drop (k + 1) shelves) now k older-many
      ∙ ap (λ (s : Shelf). map older (take k shelves) ++ s ∷ drop (k + 1) shelves) is
      ∙ sym (append_assoc (map older (take k shelves)) (older (get_or shelves k d) ∷ []) (drop (k + 1) shelves))
      ∙ ap (λ (l : List Shelf). l ++ drop (k + 1) shelves) (sym (ap (map older) (take_more shelves k d inside) ∙ map-append older (take k shelves) (get_or shelves k d ∷ [])))

-- ---- shelves for the ranks of a list

laid-shelved-all : (from : ℕ) (nexts : List NextRank) (end stop : ℕ) → AreLaidOut from nexts end → end ≤ stop → AreShelved from (map empty_shelf nexts) stop
laid-shelved-all from [] end stop laid room = omega arith
laid-shelved-all from (next ∷ nexts) end stop (first, forward, others) room =
    (first, omega arith, omega arith, laid-shelved-all next.last nexts end stop others room)

-- the places end where those of the last rank do
pub laid-last : (from : ℕ) (nexts : List NextRank) (end : ℕ) (d : NextRank) → AreLaidOut from nexts end → 0 < length nexts → (get_or nexts (length nexts - 1) d).last ≡ end
laid-last from [] end d laid some = absurd (omega arith)
laid-last from (next ∷ []) end d (first, forward, others) some = others
laid-last from (next ∷ other ∷ nexts) end d (first, forward, others) some =
    let index : length (next ∷ other ∷ nexts) - 1 ≡ suc (length (other ∷ nexts) - 1) = omega arith in
    ap (λ (n : ℕ). (get_or (next ∷ other ∷ nexts) n d).last) index ∙ laid-last next.last (other ∷ nexts) end d others (omega arith)

-- one shelf more, whose rank is behind all that have one
pub placed-new : (places : List ℕ) (shelves : List Shelf) (shelf : Shelf) → ArePlaced places shelves → shelf.rank < length places
    → ((j : ℕ) (one : Shelf) → slice_get shelves j ≡ Some one → one.rank ≢ shelf.rank) → ArePlaced (set places shelf.rank (length shelves)) (shelves ++ shelf ∷ [])
placed-new places shelves shelf placed within apart j one at = elim (get_snoc shelves shelf j one at) [
  | inl there ↦
      let (inside, place) = placed j one there in (
        omega (arith, inside, length-set places shelf.rank (length shelves)),
        get_or-set_other places shelf.rank one.rank (length shelves) 0 (apart j one there) ∙ place,
      )
  | inr (last, same) ↦
      let rank_is : one.rank ≡ shelf.rank = ap (λ (s : Shelf). s.rank) (sym same) in (
        (let long = length-set places shelf.rank (length shelves) in omega arith),
        ap (slice_index (set places shelf.rank (length shelves))) rank_is ∙ get_or-set_same places shelf.rank (length shelves) 0 within ∙ sym last,
      )
]

-- ---- all shelves, behind a sequence

module _ (ranks : Ranks) (aim : Aim) (end : ℕ) (here : List Visit) where
  all-filed : (filings : List Filing) → ((j : ℕ) (filing : Filing) → slice_get filings j ≡ Some filing → filing.end < end)
      → map (λ (f : Filing). f.filed) (map (filed_behind_all ranks aim end here) filings) ≡ map (with_more ranks aim (here ∷ [])) (map (λ (f : Filing). f.filed) filings)
  all-filed [] older' = refl
  all-filed (filing ∷ filings) older' =
      λ i. sequence-filed ranks aim end here filing (older' 0 filing refl) i ∷ all-filed filings (λ j f at. older' (suc j) f at) i

  pub shelves-filed : (run now : List Stand) (shelves others : List Shelf) → filings_in now others ≡ map (filed_behind_all ranks aim end here) (filings_in run shelves)
      → ((j : ℕ) (filing : Filing) → slice_get (filings_in run shelves) j ≡ Some filing → filing.end < end)
      → map (filed_in now) others ≡ map (with_more ranks aim (here ∷ [])) (map (filed_in run) shelves)
  shelves-filed run now shelves others is older' =
      sym (filed-filings now others) ∙ ap (map (λ (f : Filing). f.filed)) is ∙ all-filed (filings_in run shelves) older'
      ∙ ap (map (with_more ranks aim (here ∷ []))) (filed-filings run shelves)

  pub ends-filed : (old now : List Filing) → now ≡ map (filed_behind_all ranks aim end here) old → ((j : ℕ) (filing : Filing) → slice_get old j ≡ Some filing → filing.end ≤ end)
      → (j : ℕ) (filing : Filing) → slice_get now j ≡ Some filing → filing.end ≤ end
  ends-filed old now is most j filing at =
      let at' : slice_get (map (filed_behind_all ranks aim end here) old) j ≡ Some filing = subst (λ (l : List Filing). slice_get l j ≡ Some filing) is at in
      let (before, there, same) = get-from (filed_behind_all ranks aim end here) old j filing at' in
      subst (λ (f : Filing). f.end ≤ end) (sym same) (end-most ranks aim end here before (most j before there))

module _ (nexts : List NextRank) (rising : AllPairs (λ low high. low.rank < high.rank) nexts) (k : ℕ) (d : NextRank) (inside : k < length nexts) where
  pub ranks-apart : (j : ℕ) (one : Shelf) → slice_get (map empty_shelf (take k nexts)) j ≡ Some one → one.rank ≢ (get_or nexts k d).rank
  ranks-apart j one at same =
      let (next, there, is) = get-from empty_shelf (take k nexts) j one at in
      let short : j < k = omega (arith, slice_get_within (take k nexts) j next there, length-take k nexts) in
      let read : get_or nexts j d ≡ next = sym (get_or-take k nexts j d short) ∙ get_or_from_slice_get (take k nexts) j next d there in
      let less : (get_or nexts j d).rank < (get_or nexts k d).rank = rising j k d short inside in
      let rank_is : one.rank ≡ (get_or nexts j d).rank = ap (λ (s : Shelf). s.rank) is ∙ sym (ap (λ (n : NextRank). n.rank) read) in
      omega (arith, less, rank_is, same)

  pub shelves-more : map empty_shelf (take k nexts) ++ empty_shelf (get_or nexts k d) ∷ [] ≡ map empty_shelf (take (k + 1) nexts)
  shelves-more = sym (ap (map empty_shelf) (take_more nexts k d inside) ∙ map-append empty_shelf (take k nexts) (get_or nexts k d ∷ []))

-- ---- no stands yet, and all of them

pub unfiled-all : (run : List Stand) (nexts : List NextRank) → map (filed_in run) (map empty_shelf nexts) ≡ map unfiled nexts
unfiled-all run [] = refl
unfiled-all run (next ∷ nexts) =
    let none : slice_range run next.first next.first ≡ [] = ap (λ (n : ℕ). take n (drop next.first run)) (let same : next.first - next.first ≡ 0 = omega arith in same) in
    λ i. record { rank = next.rank; first = next.first; last = next.last; stands = none i } ∷ unfiled-all run nexts i

pub full-stands : (run : List Stand) (shelves : List Shelf) → AreShelved 0 shelves (length run) → All IsFull (map (filed_in run) shelves)
    → All (λ filed. slice_range run filed.first filed.last ≡ filed.stands) (map (filed_in run) shelves)
full-stands run shelves shelved full j d inside =
    let short : j < length shelves = omega (arith, inside, length-map shelves (filed_in run)) in
    let (shelf, at) = get-some shelves j short in
    let read : get_or (map (filed_in run) shelves) j d ≡ filed_in run shelf =
    get_or_from_slice_get (map (filed_in run) shelves) j (filed_in run shelf) d (slice_get-mapped_by (filed_in run) shelves j shelf at) in
    let is_full : IsFull (filed_in run shelf) = subst IsFull read (full j d inside) in
    let lies = shelf-lies 0 shelves (length run) j shelf shelved at in
    let filled = lies.filled in
    let most = lies.most in
    let within = lies.within in
    let long = range-length run shelf.first shelf.next filled (omega arith) in
    let all : shelf.next ≡ shelf.last = omega (arith, is_full, long) in
    subst (λ (f : Filed). slice_range run f.first f.last ≡ f.stands) (sym read) (ap (slice_range run shelf.first) (sym all))

-- ---- a run is begun, or there is no memory

pub no-files : (places : List ℕ) (run : List Stand) → AreFiles places [] run
no-files places run = record { placed = λ k shelf at. absurd (cc); shelved = omega arith }

pub begun-files : (places : List ℕ) (shelves : List Shelf) (run : List Stand) (nexts : List NextRank) (end : ℕ) → AreLaidOut 0 nexts end → end ≤ length run
    → {T E : Type 0} (r : Result T E) → OnOk r (ArePlaced places shelves) → OnOk r (shelves ≡ map empty_shelf nexts) → OnErr r (shelves ≡ []) → AreFiles places shelves run
begun-files places shelves run nexts end laid room (Ok value) placed all none =
    record {
      placed = placed;
      shelved = subst (λ (l : List Shelf). AreShelved 0 l (length run)) (sym all) (laid-shelved-all 0 nexts end (length run) laid room);
    }
begun-files places shelves run nexts end laid room (Err error) placed all none =
    subst (λ (l : List Shelf). AreFiles places l run) (sym none) (no-files places run)
