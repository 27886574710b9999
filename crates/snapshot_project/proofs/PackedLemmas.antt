-- Snapshots of a prefix as bytes, which say nothing of places: their stands are found again where the sequences
-- of the part begin.
use Rattle.std.proofs.Common.{◌≡◌, ◌≢◌, ℕ, zero, suc, ◌+◌, ◌≤◌, ◌<◌, ◌↔◌, inl, inr, Bool, false, IsTrue, Option, Some, None, List, [], ◌∷◌, ◌++◌, length, map, get_or, refl, sym, ap, ◌∙◌, subst, arith}
use Rattle.std.specs.List.{All, AllPairs, AllZip, Contains, slice_get, slice_index}
use Rattle.std.proofs.lemmas.Bool.{cases_lt}
use Rattle.std.proofs.lemmas.List.Elements.{All-map, Contains-get_or, Contains-append_left, Contains-append_right}
use Rattle.std.proofs.lemmas.List.Kept.{AllPairs-cons}
use Rattle.std.proofs.lemmas.Option.{get_or_from_slice_get, slice_get-get_or, slice_get_within, same_Some}
use Rattle.mine_model.specs.declared.item.Item.{Item}
use Rattle.mine_model.proofs.ListLemmas.{Contains-first, Contains-other, AllPairs-head, AllPairs-tail}
use Rattle.mining_job.specs.Problems.{items_of}
use Rattle.packed_snapshots.specs.declared.snapshot.PlainSnapshot.{PlainSnapshot}
use Rattle.packed_snapshots.specs.declared.snapshot.Place.{Place}
use Rattle.packed_snapshots.specs.Snapshots.{place_of, start, IsBehind, RisesBehind}
use Rattle.place_walk.specs.declared.stand.Stand.{Stand}
use Rattle.sequence_grids.specs.Grids.{GridList, items_at}
use Rattle.place_records.specs.Records.{start_of}
use Rattle.waiting_stands.specs.Layouts.{IsLayout, IsStandOf as IsLaidOut, HasStand, AreStandsOf as AreLaidOut, AreMarked, HasSeen}
use Rattle.snapshot_project.specs.declared.snapshot.Snapshot.{Snapshot}
use Rattle.snapshot_project.specs.Snapshots.{IsSnapshotOf, ComesBefore, SnapshotList, AreSnapshots, IsPart}
use Rattle.snapshot_project.specs.Stands.{IsStandOf, IsGroupOf, AreStandsIn, AreStandsOf, plain}
use Rattle.snapshot_project.specs.Layouts.{HasStarts, MayHaveStarts}
use Rattle.snapshot_project.proofs.StartLemmas.{start-next, start-rises, start-whole, sequence-at, sequence-once}
use Rattle.snapshot_project.proofs.StandLemmas.{stand-inside}

-- ---- the order of snapshots is that of their bytes

rises-from : (seen : Bool) (before : Place) (snapshots : List Snapshot) → AllPairs ComesBefore snapshots
    → ((snapshot : Snapshot) → Contains snapshots snapshot → IsBehind before (place_of (plain seen snapshot)))
    → RisesBehind before (map (plain seen) snapshots)
rises-from seen before [] rising behind = tt
rises-from seen before (one ∷ more) rising behind = (
  behind one (Contains-first one more),
  rises-from seen (place_of (plain seen one)) more (AllPairs-tail ComesBefore one more rising) (λ other held. elim (AllPairs-head ComesBefore one more rising other held) [
    | inl less ↦ record { sequence = omega arith; position = λ same. absurd (omega arith) }
    | inr (same, later) ↦ record { sequence = omega arith; position = λ also. elim later [ inl less ↦ omega arith | inr (here, less) ↦ omega arith ] }
  ]),
)

pub plain-rises : (seen : Bool) (snapshots : List Snapshot) → AllPairs ComesBefore snapshots → RisesBehind start (map (plain seen) snapshots)
plain-rises seen snapshots rising = rises-from seen start snapshots rising (λ snapshot held. record { sequence = omega arith; position = λ same. omega arith })

pub plain-seen : (seen : Bool) (snapshots : List Snapshot) → All (HasSeen seen) (map (plain seen) snapshots)
plain-seen seen snapshots = All-map (HasSeen seen) (plain seen) snapshots (λ k d within. refl)

-- what goes together with what is mapped
zip-mapped : {A B C : Type 0} (R : B → C → Type 0) (f : A → B) (xs : List A) (ys : List C) → AllZip (λ x y. R (f x) y) xs ys → AllZip R (map f xs) ys
zip-mapped R f [] [] zip = tt
zip-mapped R f [] (y ∷ ys) zip = absurd zip
zip-mapped R f (x ∷ xs) [] zip = absurd zip
zip-mapped R f (x ∷ xs) (y ∷ ys) (one, zip) = (one, zip-mapped R f xs ys zip)

zip-weaker : {A B : Type 0} (R S : A → B → Type 0) (xs : List A) (ys : List B) → ((x : A) (y : B) → Contains xs x → R x y → S x y) → AllZip R xs ys → AllZip S xs ys
zip-weaker R S [] [] weaker zip = tt
zip-weaker R S [] (y ∷ ys) weaker zip = absurd zip
zip-weaker R S (x ∷ xs) [] weaker zip = absurd zip
zip-weaker R S (x ∷ xs) (y ∷ ys) weaker (one, zip) =
    (weaker x y (Contains-first x xs) one, zip-weaker R S xs ys (λ a b held. weaker a b (Contains-other x xs a held)) zip)

zip-append : {A B : Type 0} (R : A → B → Type 0) (xs more : List A) (ys others : List B) → AllZip R xs ys → AllZip R more others → AllZip R (xs ++ more) (ys ++ others)
zip-append R [] more [] others zip both = both
zip-append R [] more (y ∷ ys) others zip both = absurd zip
zip-append R (x ∷ xs) more [] others zip both = absurd zip
zip-append R (x ∷ xs) more (y ∷ ys) others (one, zip) both = (one, zip-append R xs more ys others zip both)

module _ (part : GridList) (is : IsPart part) (starts : List ℕ) (has : HasStarts part starts) where
  -- ---- the layout of the part

  pub part-layout : IsLayout part.sequences starts
  part-layout = record {
    rising = is.rising;
    forward = λ i j d less within.
        let same = has.same in
        let there : j < length part.sequences = omega arith in
        let here : i < length part.sequences = omega arith in
        let rises : start_of part i + length (items_at part i) < start_of part j = start-rises part i j less (omega arith) in
        let one : slice_index starts i ≡ start_of part i = has.each i here in
        let other : slice_index starts j ≡ start_of part j = has.each j there in
        subst (λ (n : ℕ). n < get_or starts j d) (index-any starts i d (omega arith)) (subst (λ (n : ℕ). get_or starts i 0 < n) (index-any starts j d within) (omega arith));
    same = has.same;
  }
    where
      index-any : (list : List ℕ) (k d : ℕ) → k < length list → get_or list k 0 ≡ get_or list k d
      index-any list k d within = same_Some (get_or list k 0) (get_or list k d) (sym (slice_get-get_or list k 0 within) ∙ slice_get-get_or list k d within)

  module _ (prefix : List Item) where
    -- ---- a stand in the part is one in its layout

    laid-out : (seen : Bool) (grid : ℕ) (snapshot : Snapshot) (stand : Stand) → IsSnapshotOf part prefix snapshot → IsStandOf part grid snapshot stand
        → IsLaidOut part.sequences starts (plain seen snapshot) stand
    laid-out seen grid snapshot stand known of =
        let (inside, most) = stand-inside part prefix grid snapshot stand of known in
        let begins : slice_index starts grid ≡ start_of part grid = has.each grid inside in
        let place : stand.place ≡ start_of part grid + snapshot.position = of.place in
        record {
          grid = grid;
          sequence = of.sequence;
          place = omega arith;
          room = λ next at.
              let same = has.same in
              let long : grid + 1 < length starts = slice_get_within starts (grid + 1) next at in
              let behind : grid + 1 < length part.sequences = omega arith in
              let there : slice_index starts (grid + 1) ≡ next = get_or_from_slice_get starts (grid + 1) next 0 at in
              let its : slice_index starts (grid + 1) ≡ start_of part (grid + 1) = has.each (grid + 1) behind in
              let follows : start_of part (grid + 1) ≡ start_of part grid + length (items_at part grid) + 1 = start-next part grid inside in
              omega arith;
          state = of.state;
        }

    abbrev LaidFor : Bool → Snapshot → Stand → Type 0
    LaidFor seen snapshot stand = IsLaidOut part.sequences starts (plain seen snapshot) stand

    each-laid-out : (seen : Bool) (grids : List ℕ) (snapshots : List Snapshot) (stands : List Stand) → AreStandsIn part grids snapshots stands
        → ((snapshot : Snapshot) → Contains snapshots snapshot → IsSnapshotOf part prefix snapshot) → AllZip (LaidFor seen) snapshots stands
    each-laid-out seen [] snapshots stands (none, empty) right =
        subst (λ (l : List Snapshot). AllZip (LaidFor seen) l stands) (sym none) (subst (AllZip (LaidFor seen) []) (sym empty) tt)
    each-laid-out seen (grid ∷ grids) snapshots stands (here, others, cut, group, behind, split, of, rest) right =
        subst (λ (l : List Snapshot). AllZip (LaidFor seen) l stands) (sym cut)
        (subst (AllZip (LaidFor seen) (here ++ others)) (sym split)
        (zip-append (LaidFor seen) here others group behind
        (zip-weaker (IsStandOf part grid) (LaidFor seen) here group
        (λ snapshot stand held one. laid-out seen grid snapshot stand (right snapshot (subst (λ (l : List Snapshot). Contains l snapshot) (sym cut) (Contains-append_left here others snapshot held))) one) of.are)
        (each-laid-out seen grids others behind rest (λ snapshot held. right snapshot (subst (λ (l : List Snapshot). Contains l snapshot) (sym cut) (Contains-append_right here others snapshot held))))))

    all-laid-out : (seen : Bool) (grids : List ℕ) (snapshots : List Snapshot) (stands : List Stand) → AreStandsIn part grids snapshots stands
        → ((snapshot : Snapshot) → Contains snapshots snapshot → IsSnapshotOf part prefix snapshot)
        → AllZip (IsLaidOut part.sequences starts) (map (plain seen) snapshots) stands
    all-laid-out seen grids snapshots stands are right =
        zip-mapped (IsLaidOut part.sequences starts) (plain seen) snapshots stands (each-laid-out seen grids snapshots stands are right)

    -- a snapshot has a grid
    grid-of : (snapshot : Snapshot) → IsSnapshotOf part prefix snapshot
        → (grid : ℕ) × (slice_get part.sequences grid ≡ Some snapshot.sequence)
    grid-of snapshot ((k, within, same), at) = (k, slice_get-get_or part.sequences k snapshot.sequence within ∙ ap Some same)

    near : (snapshot : Snapshot) → IsSnapshotOf part prefix snapshot → snapshot.position < 65536
    near snapshot known =
        let (grid, at) = grid-of snapshot known in
        let (inside, index) = sequence-at part grid snapshot.sequence at in
        let most : snapshot.position ≤ length (items_of part.problem snapshot.sequence) = known.1.0 in
        let its : length (items_at part grid) ≡ length (items_of part.problem snapshot.sequence) = ap (λ (i : ℕ). length (items_of part.problem i)) index in
        let short : length (items_at part grid) ≤ 65535 = has.short grid inside in
        omega arith

    has-stand : (seen : Bool) (snapshot : Snapshot) → IsSnapshotOf part prefix snapshot → HasStand part.sequences starts (plain seen snapshot)
    has-stand seen snapshot known =
        let (grid, at) = grid-of snapshot known in
        let stand : Stand = record { place = start_of part grid + snapshot.position; state = snapshot.state; first = false } in
        let of : IsStandOf part grid snapshot stand = record { sequence = at; place = refl; state = refl } in
        let (inside, most) = stand-inside part prefix grid snapshot stand of known in
        let whole : start_of part grid + length (items_at part grid) < start_of part (length part.sequences) = start-whole part grid inside in
        let fits : start_of part (length part.sequences) < 4294967296 = has.fits in
        record {
          stand = stand;
          is = laid-out seen grid snapshot stand known of;
          fits = omega arith;
        }

  -- ---- and back

  laid-back : (seen : Bool) (grid : ℕ) (snapshot : Snapshot) (stand : Stand) → slice_get part.sequences grid ≡ Some snapshot.sequence
      → IsLaidOut part.sequences starts (plain seen snapshot) stand → IsStandOf part grid snapshot stand
  laid-back seen grid snapshot stand at of =
      let same : of.grid ≡ grid = sequence-once part is.rising of.grid grid snapshot.sequence of.sequence at in
      let (inside, index) = sequence-at part grid snapshot.sequence at in
      let begins : slice_index starts grid ≡ start_of part grid = has.each grid inside in
      let there : slice_index starts of.grid ≡ slice_index starts grid = ap (slice_index starts) same in
      let place : stand.place ≡ slice_index starts of.grid + snapshot.position = of.place in
      record { sequence = at; place = omega arith; state = of.state }

  -- the stands behind those of a grid: first those that are in it, too, and then those of later grids
  record IsSpan (grid : ℕ) (snapshots : List Snapshot) (stands : List Stand) : Type 0 where
    pub here : List Snapshot
    pub others : List Snapshot
    pub cut : snapshots ≡ here ++ others
    pub group : List Stand
    pub behind : List Stand
    pub split : stands ≡ group ++ behind
    pub are : AllZip (IsStandOf part grid) here group
    pub bare : (k : ℕ) (stand : Stand) → slice_get group k ≡ Some stand → IsTrue stand.first → ⊥
    pub grids : List ℕ
    pub rising : AllPairs (λ low high. low < high) (grid ∷ grids)
    pub rest : AreStandsIn part grids others behind

  -- a marked stand in front of those in its grid
  front-marked : (first : Stand) (group : List Stand) → IsTrue first.first → ((k : ℕ) (stand : Stand) → slice_get group k ≡ Some stand → IsTrue stand.first → ⊥)
      → (k : ℕ) (stand : Stand) → slice_get (first ∷ group) k ≡ Some stand → IsTrue stand.first ↔ (k ≡ 0)
  front-marked first group mark bare zero stand at = ((λ marked. refl), (λ same. subst (λ (s : Stand). IsTrue s.first) (same_Some first stand at) mark))
  front-marked first group mark bare (suc k) stand at = ((λ marked. absurd (bare k stand at marked)), (λ same. absurd (omega (arith, same))))

  front-group : (seen : Bool) (snapshot : Snapshot) (stand : Stand) (snapshots : List Snapshot) (stands : List Stand) (of : IsLaidOut part.sequences starts (plain seen snapshot) stand)
      → IsTrue stand.first → (span : IsSpan of.grid snapshots stands) → IsGroupOf part of.grid (snapshot ∷ span.here) (stand ∷ span.group)
  front-group seen snapshot stand snapshots stands of mark span = record {
    marked = record { some = omega arith; marked = front-marked stand span.group mark span.bare };
    are = (laid-back seen of.grid snapshot stand of.sequence of, span.are);
  }

  -- the stands of one more sequence
  more-stands : (seen : Bool) (snapshot : Snapshot) (stand : Stand) (snapshots : List Snapshot) (stands : List Stand) (of : IsLaidOut part.sequences starts (plain seen snapshot) stand)
      → IsTrue stand.first → (span : IsSpan of.grid snapshots stands) → AreStandsIn part (of.grid ∷ span.grids) (snapshot ∷ snapshots) (stand ∷ stands)
  more-stands seen snapshot stand snapshots stands of mark span = (
    snapshot ∷ span.here,
    span.others,
    ap (λ (l : List Snapshot). snapshot ∷ l) span.cut,
    stand ∷ span.group,
    span.behind,
    ap (λ (l : List Stand). stand ∷ l) span.split,
    front-group seen snapshot stand snapshots stands of mark span,
    span.rest,
  )

  grid-later : (grid later s t : ℕ) → slice_get part.sequences grid ≡ Some s → slice_get part.sequences later ≡ Some t → s < t → grid < later
  grid-later grid later s t at there less = elim (cases_lt grid later) [
    | inl before ↦ before
    | inr after ↦
        let (inside, index) = sequence-at part grid s at in
        let (within, also) = sequence-at part later t there in
        elim (cases_lt later grid) [
          | inl behind ↦
              let rises : slice_index part.sequences later < slice_index part.sequences grid = is.rising later grid 0 behind inside in
              absurd (omega arith)
          | inr not ↦
              let same : later ≡ grid = omega arith in
              let numbers : slice_index part.sequences later ≡ slice_index part.sequences grid = ap (slice_index part.sequences) same in
              absurd (omega arith)
        ]
  ]

  later-above : (one : Snapshot) (more : List Snapshot) → AllPairs ComesBefore (one ∷ more) → (other : Snapshot) → Contains more other → one.sequence ≤ other.sequence
  later-above one more rising other held = elim (AllPairs-head ComesBefore one more rising other held) [
    | inl less ↦ omega arith
    | inr (same, later) ↦ omega arith
  ]

  abbrev Laid : Bool → List Snapshot → List Stand → Type 0
  Laid seen snapshots stands = AllZip (IsLaidOut part.sequences starts) (map (plain seen) snapshots) stands

  abbrev Marked : Option ℕ → Bool → List Snapshot → List Stand → Type 0
  Marked before seen snapshots stands = AreMarked before (map (plain seen) snapshots) stands

  grids-above : (low next : ℕ) (grids : List ℕ) → low < next → AllPairs (λ (low high : ℕ). low < high) (next ∷ grids) → (k d : ℕ) → k < length (next ∷ grids) → low < get_or (next ∷ grids) k d
  grids-above low next grids less pairs zero d within = less
  grids-above low next grids less pairs (suc k) d within =
      let rises : next < get_or grids k d = pairs 0 (suc k) d (let some : 0 < suc k = omega arith in some) within in omega (arith, rises, less)

  bare-more : (first : Stand) (group : List Stand) → (IsTrue first.first → ⊥) → ((k : ℕ) (other : Stand) → slice_get group k ≡ Some other → IsTrue other.first → ⊥)
      → (k : ℕ) (other : Stand) → slice_get (first ∷ group) k ≡ Some other → IsTrue other.first → ⊥
  bare-more first group none bare zero other there marked = none (subst (λ (s : Stand). IsTrue s.first) (sym (same_Some first other there)) marked)
  bare-more first group none bare (suc k) other there marked = bare k other there marked

  -- a stand in a later grid, and those behind it
  span-later : (seen : Bool) (one : Snapshot) (more : List Snapshot) (stand : Stand) (stands : List Stand) (grid s : ℕ) → slice_get part.sequences grid ≡ Some s
      → (of : IsLaidOut part.sequences starts (plain seen one) stand) → (IsTrue stand.first ↔ (Some s ≢ Some one.sequence)) → s < one.sequence → IsSpan of.grid more stands
      → IsSpan grid (one ∷ more) (stand ∷ stands)
  span-later seen one more stand stands grid s at of mark later next =
      let ahead : grid < of.grid = grid-later grid of.grid s one.sequence at of.sequence later in
      let marked : IsTrue stand.first = mark.1 (λ same. let equal : s ≡ one.sequence = same_Some s one.sequence same in omega arith) in
      record {
        here = [];
        others = one ∷ more;
        cut = refl;
        group = [];
        behind = stand ∷ stands;
        split = refl;
        are = tt;
        bare = λ k other there. absurd (cc);
        grids = of.grid ∷ next.grids;
        rising = AllPairs-cons (λ (low high : ℕ). low < high) grid (of.grid ∷ next.grids) (grids-above grid of.grid next.grids ahead next.rising) next.rising;
        rest = more-stands seen one stand more stands of marked next;
      }

  -- one in the same grid
  span-same : (seen : Bool) (one : Snapshot) (more : List Snapshot) (stand : Stand) (stands : List Stand) (grid s : ℕ) → slice_get part.sequences grid ≡ Some s
      → IsLaidOut part.sequences starts (plain seen one) stand → (IsTrue stand.first ↔ (Some s ≢ Some one.sequence)) → s ≡ one.sequence → IsSpan grid more stands
      → IsSpan grid (one ∷ more) (stand ∷ stands)
  span-same seen one more stand stands grid s at of mark same next =
      let here : slice_get part.sequences grid ≡ Some one.sequence = at ∙ ap Some same in
      let unmarked : IsTrue stand.first → ⊥ = λ marked. mark.0 marked (ap Some same) in
      record {
        here = one ∷ next.here;
        others = next.others;
        cut = ap (λ (l : List Snapshot). one ∷ l) next.cut;
        group = stand ∷ next.group;
        behind = next.behind;
        split = ap (λ (l : List Stand). stand ∷ l) next.split;
        are = (laid-back seen grid one stand here of, next.are);
        bare = bare-more stand next.group unmarked next.bare;
        grids = next.grids;
        rising = next.rising;
        rest = next.rest;
      }

  span : (seen : Bool) (snapshots : List Snapshot) (stands : List Stand) (grid s : ℕ) → slice_get part.sequences grid ≡ Some s → AllPairs ComesBefore snapshots
      → ((snapshot : Snapshot) → Contains snapshots snapshot → s ≤ snapshot.sequence) → Laid seen snapshots stands → Marked (Some s) seen snapshots stands
      → IsSpan grid snapshots stands
  span seen [] [] grid s at rising above zip marks = record {
    here = [];
    others = [];
    cut = refl;
    group = [];
    behind = [];
    split = refl;
    are = tt;
    bare = λ k stand there. absurd (cc);
    grids = [];
    rising = λ i j d less within. absurd (omega (arith, less, within));
    rest = (refl, refl);
  }
  span seen [] (stand ∷ stands) grid s at rising above zip marks = absurd zip
  span seen (one ∷ more) [] grid s at rising above zip marks = absurd zip
  span seen (one ∷ more) (stand ∷ stands) grid s at rising above (of, zip) (mark, marks) =
      let tail : AllPairs ComesBefore more = AllPairs-tail ComesBefore one more rising in
      let least : s ≤ one.sequence = above one (Contains-first one more) in
      elim (cases_lt s one.sequence) [
        | inl later ↦ span-later seen one more stand stands grid s at of mark later (span seen more stands of.grid one.sequence of.sequence tail (later-above one more rising) zip marks)
        | inr not ↦
            let same : s ≡ one.sequence = omega arith in
            span-same seen one more stand stands grid s at of mark same
            (span seen more stands grid s at tail (λ other held. above other (Contains-other one more other held)) zip (subst (λ (n : ℕ). Marked (Some n) seen more stands) (sym same) marks))
      ]

  -- THE WAY BACK: the stands of the snapshots in the layout are their stands in the part
  pub stands-back : (seen : Bool) (snapshots : List Snapshot) (stands : List Stand) → AllPairs ComesBefore snapshots → Laid seen snapshots stands → Marked None seen snapshots stands
      → AreStandsOf part snapshots stands
  stands-back seen [] [] rising zip marks = record {
    grids = [];
    rising = λ i j d less within. absurd (omega (arith, less, within));
    are = (refl, refl);
  }
  stands-back seen [] (stand ∷ stands) rising zip marks = absurd zip
  stands-back seen (one ∷ more) [] rising zip marks = absurd zip
  stands-back seen (one ∷ more) (stand ∷ stands) rising (of, zip) (mark, marks) =
      let next : IsSpan of.grid more stands = span seen more stands of.grid one.sequence of.sequence (AllPairs-tail ComesBefore one more rising) (later-above one more rising) zip marks in
      let marked : IsTrue stand.first = mark.1 (λ same. cc) in
      record {
        grids = of.grid ∷ next.grids;
        rising = next.rising;
        are = more-stands seen one stand more stands of marked next;
      }

  -- ---- of a prefix

  module _ (ranks : List ℕ) (list : SnapshotList) (are : AreSnapshots part ranks list) where
    -- the stands of a prefix in the part are those in its layout
    pub stands-laid : (seen : Bool) (stands : List Stand) → AreStandsOf part list.snapshots stands
        → AreLaidOut part.sequences starts (map (plain seen) list.snapshots) stands
    stands-laid seen stands of = record {
      rising = plain-rises seen list.snapshots are.rising;
      near = All-map (λ (one : PlainSnapshot). one.position < 65536) (plain seen) list.snapshots
          (λ k d within. near are.prefix (get_or list.snapshots k d) (are.right (get_or list.snapshots k d) (Contains-get_or list.snapshots k d within)));
      are = all-laid-out are.prefix seen of.grids list.snapshots stands of.are are.right;
    }

    -- each of its snapshots has one
    pub all-have-stands : (seen : Bool) → All (HasStand part.sequences starts) (map (plain seen) list.snapshots)
    all-have-stands seen = All-map (HasStand part.sequences starts) (plain seen) list.snapshots
        (λ k d within. has-stand are.prefix seen (get_or list.snapshots k d) (are.right (get_or list.snapshots k d) (Contains-get_or list.snapshots k d within)))

-- where starts are kept, they are those of the part
pub has-starts : (part : GridList) (starts : List ℕ) → MayHaveStarts part starts → length starts ≢ 0 → HasStarts part starts
has-starts part starts may some = elim may [
  | inl none ↦ absurd (some (ap length none))
  | inr has ↦ has
]
