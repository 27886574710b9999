-- What items may do under a bound, cut from what they may do under that of all ranks.
use Rattle.std.proofs.Common.{◌≡◌, ℕ, ◌+◌, ◌-◌, ◌<◌, ◌≤◌, ◌↔◌, inl, inr, Some, List, [], ◌∷◌, ◌++◌, take, length, get_or, set, get_or-set_same, get_or-set_other, arith, sym, ap, ◌∙◌, subst, append_assoc}
use Rattle.std.specs.List.{AllPairs, Contains, slice_get, slice_index}
use Rattle.std.proofs.Math.ListN.{length-set}
use Rattle.std.proofs.lemmas.List.{append-nil, length-append, length-take, get_or-take, get_or_default, take_more}
use Rattle.std.proofs.lemmas.Option.{slice_get_within, slice_get-get_or, same_Some}
use Rattle.std.proofs.lemmas.Bool.{cases_lt, cases_eq}
use Rattle.state_bits.specs.Members.{Has}
use Rattle.mine_model.specs.declared.item.Item.{Item}
use Rattle.mining_job.specs.declared.bound.Bound.{Bound}
use Rattle.mining_job.specs.Problems.{Problem}
use Rattle.sequence_grids.specs.declared.kinds.Kind.{Kind}
use Rattle.sequence_grids.specs.declared.kinds.Kinds.{Kinds}
use Rattle.sequence_grids.specs.Grids.{Reads, WritesRank}
use Rattle.mine_model.proofs.ElementLemmas.{get-left, stands_last}
use Rattle.sequence_grids.specs.declared.alphabet.Alphabet.{Alphabet}
use Rattle.sequence_grids.specs.Tables.{ClassSets, unknown}
use Rattle.sequence_grids.specs.Kinds.{Writes, Needs, IsTarget, IsKind, HasKind, KindsGrow, Extends, row_at}
use Rattle.sequence_grids.specs.Wholes.{whole_bound, AreOutputs}
use Rattle.sequence_grids.specs.Cuts.{IsReadable, AreReadable, AreCuts}
use Rattle.sequence_grids.proofs.KindLemmas.{IsInside-grow, HasKind-grow}
use Rattle.sequence_grids.proofs.GridLemmas.{both_ways}

-- ---- the beginning of a list of ranks that rise

-- so many of the ranks are up to the top, and stand behind the others
pub record AreCutSoFar (old outputs : List ℕ) (top : ℕ) (found : List ℕ) (index : ℕ) : Type 0 where
  pub is : found ≡ old ++ take index outputs
  pub low : (j : ℕ) → j < index → get_or outputs j 0 ≤ top

pub AreCutSoFar-none : (old outputs : List ℕ) (top : ℕ) → AreCutSoFar old outputs top old 0
AreCutSoFar-none old outputs top = record { is = sym (append-nil old); low = λ j below. absurd (omega arith) }

pub AreCutSoFar-more : (old outputs : List ℕ) (top : ℕ) (found : List ℕ) (index : ℕ) → AreCutSoFar old outputs top found index → index < length outputs
    → get_or outputs index 0 ≤ top → AreCutSoFar old outputs top (found ++ get_or outputs index 0 ∷ []) (index + 1)
AreCutSoFar-more old outputs top found index so_far inside low = record {
  is =
      ap (λ (xs : List ℕ). xs ++ get_or outputs index 0 ∷ []) so_far.is ∙ append_assoc old (take index outputs) (get_or outputs index 0 ∷ [])
      ∙ ap (λ (xs : List ℕ). old ++ xs) (sym (take_more outputs index 0 inside));
  low = λ j below. elim (cases_eq j index) [
    | inl same ↦ rw same low
    | inr other ↦ so_far.low j (omega arith)
  ];
}

module _ (outputs : List ℕ) (top index : ℕ) (rising : AllPairs (λ low high. low < high) outputs) (inside : index ≤ length outputs)
    (low : (j : ℕ) → j < index → get_or outputs j 0 ≤ top) (high : index < length outputs → top < get_or outputs index 0) where
  long : length (take index outputs) ≤ index
  long = omega (arith, length-take index outputs)

  pub cut-rising : AllPairs (λ low high. low < high) (take index outputs)
  cut-rising i j d less within =
      let below : j < index = omega (arith, long, within) in
      let first : i < index = omega (arith, below, less) in
      let one = get_or-take index outputs i d first in
      let other = get_or-take index outputs j d below in
      let rise = rising i j d less (omega (arith, below, inside)) in
      omega (arith, one, other, rise)

  pub cut-contains : (rank : ℕ) → Contains (take index outputs) rank ↔ (Contains outputs rank × (rank ≤ top))
  cut-contains rank = (
    (λ (k, within, at).
        let below : k < index = omega (arith, long, within) in
        let there : k < length outputs = omega (arith, below, inside) in
        let here : get_or outputs k rank ≡ rank = sym (get_or-take index outputs k rank below) ∙ at in
        let same = get_or_default outputs k rank 0 there in
        let small = low k below in
        ((k, there, here), omega (arith, here, same, small))),
    (λ ((k, within, at), small). elim (cases_lt k index) [
      | inl below ↦ (k, omega (arith, length-take index outputs, below, within), get_or-take index outputs k rank below ∙ at)
      | inr above ↦
          let same = get_or_default outputs k rank 0 within in
          let big = high (omega (arith, above, within)) in
          elim (cases_eq k index) [
            | inl here ↦ absurd (let e : get_or outputs k 0 ≡ get_or outputs index 0 = ap (λ (n : ℕ). get_or outputs n 0) here in omega (arith, e, same, at, big, small))
            | inr later ↦ absurd (let rise = rising index k 0 (omega (arith, above, later)) within in omega (arith, rise, same, at, big, small))
          ]
    ]),
  )

-- the ranks up to the top of those that may be written at all
pub AreCutSoFar-done : (old outputs : List ℕ) (top : ℕ) (found : List ℕ) (index : ℕ) → AllPairs (λ low high. low < high) outputs → AreCutSoFar old outputs top found index → index ≤ length outputs
    → (index < length outputs → top < get_or outputs index 0)
    → (more : List ℕ) × (found ≡ old ++ more) × AllPairs (λ low high. low < high) more × ((rank : ℕ) → Contains more rank ↔ (Contains outputs rank × (rank ≤ top)))
AreCutSoFar-done old outputs top found index rising so_far inside high =
    (take index outputs, so_far.is, cut-rising outputs top index rising inside so_far.low high, cut-contains outputs top index rising inside so_far.low high)

-- ---- what may be written under a bound

module _ (problem : Problem) (bound : Bound) (t : Item) (k : ℕ) where
  -- it is what may be written at all, up to the top
  pub writes-cut : (rank : ℕ) → WritesRank problem bound t k rank ↔ (WritesRank problem (whole_bound problem) t k rank × (rank ≤ bound.top))
  writes-cut rank = (
    (λ (v, has, low, reads).
        let inside : rank - 1 < length problem.ranking.order = slice_get_within problem.ranking.order (rank - 1) v has.place in
        let least = has.least in
        ((v, has, omega (arith, inside, least), reads), low)),
    (λ ((v, has, low, reads), small). (v, has, small, reads)),
  )

  pub AreOutputs-cut : (row more : List ℕ) → ((rank : ℕ) → Contains row rank ↔ WritesRank problem (whole_bound problem) t k rank) → AllPairs (λ low high. low < high) more
      → ((rank : ℕ) → Contains more rank ↔ (Contains row rank × (rank ≤ bound.top))) → AreOutputs problem bound t k more
  AreOutputs-cut row more are rising cut = record {
    outputs = λ rank. (
      (λ held. let (inside, low) = (cut rank).0 held in (writes-cut rank).1 ((are rank).0 inside, low)),
      (λ writes. let (whole, low) = (writes-cut rank).0 writes in (cut rank).1 ((are rank).1 whole, low)),
    );
    rising = rising;
  }

-- ---- items of one kind

module _ (problem : Problem) (bound : Bound) (t u : Item) (k : ℕ) (same : (rank : ℕ) → WritesRank problem (whole_bound problem) t k rank ↔ WritesRank problem (whole_bound problem) u k rank) where
  pub writes-twin : (rank : ℕ) → WritesRank problem bound t k rank ↔ WritesRank problem bound u k rank
  writes-twin rank = (
    (λ writes. let (whole, low) = (writes-cut problem bound t k rank).0 writes in (writes-cut problem bound u k rank).1 ((same rank).0 whole, low)),
    (λ writes. let (whole, low) = (writes-cut problem bound u k rank).0 writes in (writes-cut problem bound t k rank).1 ((same rank).1 whole, low)),
  )

  pub any-twin : Writes problem bound u k ↔ Writes problem bound t k
  any-twin = (
    (λ (rank, writes). (rank, (writes-twin rank).1 writes)),
    (λ (rank, writes). (rank, (writes-twin rank).0 writes)),
  )

  pub needs-twin : Needs problem bound u k ↔ Needs problem bound t k
  needs-twin = (
    (λ (rank, writes, need). (rank, (writes-twin rank).1 writes, need)),
    (λ (rank, writes, need). (rank, (writes-twin rank).0 writes, need)),
  )

module _ (problem : Problem) (classes : List ClassSets) (all : Kinds) (t u : Item) (a : ℕ) (has_t : HasKind problem (whole_bound problem) classes all t a) (has_u : HasKind problem (whole_bound problem) classes all u a) where
  -- an item of the same kind reads the same without an output, and may write the same
  reads-twin : (k : ℕ) → IsTarget problem k → Reads problem u k [] ↔ Reads problem t k []
  reads-twin k target =
      let (kind_t, found_t, is_t) = has_t in
      let (kind_u, found_u, is_u) = has_u in
      let (c_t, at_t, class_t) = is_t.class in
      let (c_u, at_u, class_u) = is_u.class in
      let kinds : kind_u ≡ kind_t = same_Some kind_u kind_t (sym found_u ∙ found_t) in
      let sets : c_u ≡ c_t = same_Some c_u c_t (sym at_u ∙ (ap (λ (kind : Kind). slice_get classes kind.class) kinds ∙ at_t)) in
      let silent_u : Has c_t.silent k ↔ Reads problem u k [] = subst (λ (c : ClassSets). Has c.silent k ↔ Reads problem u k []) sets (class_u.silent k target) in
      let silent_t = class_t.silent k target in
      ((λ reads. silent_t.0 (silent_u.1 reads)), (λ reads. silent_u.0 (silent_t.1 reads)))

  ranks-twin : (k : ℕ) → IsTarget problem k → (rank : ℕ) → WritesRank problem (whole_bound problem) t k rank ↔ WritesRank problem (whole_bound problem) u k rank
  ranks-twin k target rank =
      let (kind_t, found_t, is_t) = has_t in
      let (kind_u, found_u, is_u) = has_u in
      let kinds : kind_u ≡ kind_t = same_Some kind_u kind_t (sym found_u ∙ found_t) in
      let column : ℕ = slice_index all.columns.numbers.items k in
      let row_u : Contains (row_at all.ends.items all.ranks.items kind_t.base column) rank ↔ WritesRank problem (whole_bound problem) u k rank =
      subst (λ (kind : Kind). Contains (row_at all.ends.items all.ranks.items kind.base column) rank ↔ WritesRank problem (whole_bound problem) u k rank) kinds ((is_u.cells k target).outputs rank) in
      let row_t = (is_t.cells k target).outputs rank in
      ((λ writes. row_u.0 (row_t.1 writes)), (λ writes. row_t.0 (row_u.1 writes)))

  -- so they have the same kind under each bound
  pub HasKind-twin : (bound : Bound) (sets : List ClassSets) (kinds : Kinds) (number : ℕ) → HasKind problem bound sets kinds u number → HasKind problem bound sets kinds t number
  HasKind-twin bound sets kinds number (kind, found, is) = (
    kind,
    found,
    record {
      class =
          let (c, at, class) = is.class in (
            c,
            at,
            record {
              silent = λ k target. both_ways (class.silent k target) (reads-twin k target);
              writes = λ k target. both_ways (class.writes k target) (any-twin problem bound t u k (ranks-twin k target));
              needs = λ k target. both_ways (class.needs k target) (needs-twin problem bound t u k (ranks-twin k target));
            },
          );
      room = is.room;
      rows = is.rows;
      cells = λ k target.
          let cell = is.cells k target in
          record {
            inside = cell.inside;
            outputs = λ rank.
                let twin = writes-twin problem bound t u k (ranks-twin k target) rank in
                ((λ held. twin.1 ((cell.outputs rank).0 held)), (λ writes. (cell.outputs rank).1 (twin.0 writes)));
            rising = cell.rising;
          };
    },
  )

-- ---- kinds that may be read

module _ (problem : Problem) (bound : Bound) (t : Item) where
  IsReadable-grow : (kinds kinds' : Kinds) (kind : Kind) → IsReadable kinds kind → KindsGrow kinds kinds' → IsReadable kinds' kind
  IsReadable-grow kinds kinds' kind is grow =
      let (more, e) = grow.ends in
      let (others, f) = grow.ranks in
      let room = is.room in
      record {
        room = rw (grow.columns, e) (omega (arith, room, length-append kinds.ends.items more));
        rows = rw (grow.columns, e, f) (λ column below. IsInside-grow problem bound t kind.base kinds.ends.items more kinds.ranks.items others column (is.rows column below));
      }

  -- the same kinds, where more outputs stand behind
  pub AreReadable-same : (kinds kinds' : Kinds) → AreReadable problem kinds → KindsGrow kinds kinds' → kinds'.kinds.items ≡ kinds.kinds.items → AreReadable problem kinds'
  AreReadable-same kinds kinds' are grow same = record {
    columns_are = rw grow.columns are.columns_are;
    each = λ number kind found. IsReadable-grow kinds kinds' kind (are.each number kind (sym (ap (λ (ks : List Kind). slice_get ks number) same) ∙ found)) grow;
  }

  -- and one more kind
  pub AreReadable-more : (kinds kinds' : Kinds) (classes : List ClassSets) (one : Kind) → AreReadable problem kinds → KindsGrow kinds kinds' → kinds'.kinds.items ≡ kinds.kinds.items ++ one ∷ []
      → IsKind problem bound classes kinds'.columns kinds'.ends.items kinds'.ranks.items t one → AreReadable problem kinds'
  AreReadable-more kinds kinds' classes one are grow pushed is = record {
    columns_are = rw grow.columns are.columns_are;
    each = λ number kind found.
        let there : slice_get (kinds.kinds.items ++ one ∷ []) number ≡ Some kind = sym (ap (λ (ks : List Kind). slice_get ks number) pushed) ∙ found in
        let inside : number < length (kinds.kinds.items ++ one ∷ []) = slice_get_within (kinds.kinds.items ++ one ∷ []) number kind there in
        elim (cases_lt number (length kinds.kinds.items)) [
          | inl old ↦ IsReadable-grow kinds kinds' kind (are.each number kind (slice_get_before kinds.kinds.items one number kind old there)) grow
          | inr beyond ↦
              let last : number ≡ length kinds.kinds.items = omega (arith, inside, length-append kinds.kinds.items (one ∷ []), beyond) in
              let same : one ≡ kind = same_Some one kind (sym (stands_last kinds.kinds.items one number last) ∙ there) in
              rw (sym same) (record { room = is.room; rows = is.rows })
        ];
  }
    where
      slice_get_before : (kinds : List Kind) (one : Kind) (number : ℕ) (kind : Kind) → number < length kinds → slice_get (kinds ++ one ∷ []) number ≡ Some kind → slice_get kinds number ≡ Some kind
      slice_get_before kinds one number kind old there =
          let at : slice_get kinds number ≡ Some (get_or kinds number kind) = slice_get-get_or kinds number kind old in
          let moved : slice_get (kinds ++ one ∷ []) number ≡ Some (get_or kinds number kind) = get-left kinds (one ∷ []) number (get_or kinds number kind) at in
          at ∙ sym moved ∙ there

-- ---- kinds that were cut

pub AreCuts-grow : (problem : Problem) (bound : Bound) (classes classes' : List ClassSets) (kinds kinds' : Kinds) (all : Alphabet) (cuts : List ℕ) → AreCuts problem bound classes kinds all cuts
    → AreReadable problem kinds' → Extends classes classes' → KindsGrow kinds kinds' → AreCuts problem bound classes' kinds' all cuts
AreCuts-grow problem bound classes classes' kinds kinds' all cuts are readable grown grow = record {
  readable = readable;
  right = λ whole inside some t has. HasKind-grow problem bound classes classes' kinds kinds' t (slice_index cuts whole) (are.right whole inside some t has) grown grow;
}

pub AreCuts-none : (problem : Problem) (bound : Bound) (classes : List ClassSets) (kinds : Kinds) (all : Alphabet) (cuts : List ℕ) → AreReadable problem kinds
    → ((k : ℕ) → k < length cuts → slice_index cuts k ≡ unknown) → AreCuts problem bound classes kinds all cuts
AreCuts-none problem bound classes kinds all cuts readable none = record { readable = readable; right = λ whole inside some. absurd (some (none whole inside)) }

-- the kind of an item is that of all items that have its kind in the alphabet
pub AreCuts-set : (problem : Problem) (bound : Bound) (classes : List ClassSets) (kinds : Kinds) (all : Alphabet) (cuts : List ℕ) (whole number : ℕ) (t : Item)
    → AreCuts problem bound classes kinds all cuts → whole < length cuts → HasKind problem (whole_bound problem) all.tables.classes all.kinds t whole → HasKind problem bound classes kinds t number
    → AreCuts problem bound classes kinds all (set cuts whole number)
AreCuts-set problem bound classes kinds all cuts whole number t are inside has own = record {
  readable = are.readable;
  right = λ k below some u has_u. elim (cases_eq k whole) [
    | inl same ↦
        let at : get_or (set cuts whole number) k 0 ≡ number = ap (λ (n : ℕ). get_or (set cuts whole number) n 0) same ∙ get_or-set_same cuts whole number 0 inside in
        rw at (HasKind-twin problem all.tables.classes all.kinds u t whole (subst (HasKind problem (whole_bound problem) all.tables.classes all.kinds u) same has_u) has bound classes kinds number own)
    | inr other ↦
        let at : get_or (set cuts whole number) k 0 ≡ get_or cuts k 0 = get_or-set_other cuts whole k number 0 other in
        rw at (are.right k (omega (arith, below, length-set {A = ℕ})) (λ none. some (at ∙ none)) u has_u)
  ];
}
