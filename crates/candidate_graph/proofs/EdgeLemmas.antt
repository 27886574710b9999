-- Edges that were made of ranks and their stands.
use Rattle.std.proofs.Common.{◌≡◌, ℕ, zero, suc, ◌+◌, ◌-◌, ◌≤◌, ◌<◌, ◌⊎◌, inl, inr, nat_le, append_assoc, Bool, Some, List, [], ◌∷◌, ◌++◌, length, filter, get_or, drop, take, refl, sym, ap, ◌∙◌, subst, arith}
use Rattle.std.specs.List.{AllPairs, Contains, slice_get, slice_range}
use Rattle.std.proofs.lemmas.Bool.{cases_lt, le-leb, leb-true}
use Rattle.std.proofs.lemmas.Option.{same_Some, slice_get_within, get_or_from_slice_get, slice_get-get_or}
use Rattle.std.proofs.lemmas.List.{length-append, length-take, length-drop}
use Rattle.std.proofs.lemmas.List.Elements.{Contains-append_cases}
use Rattle.mine_model.proofs.ListLemmas.{Contains-cases, Contains-none}
use Rattle.mine_model.proofs.ElementLemmas.{get-some, get-held, get-left, stands_last, get-place}
use Rattle.place_walk.specs.declared.stand.Stand.{Stand}
use Rattle.place_walk.specs.declared.visit.Visit.{Visit}
use Rattle.place_walk.specs.Courses.{Course}
use Rattle.place_walk.specs.Stands.{Arrives, IsAt}
use Rattle.place_walk.specs.Visits.{AreVisits}
use Rattle.place_walk.specs.Groups.{IsMarked}
use Rattle.stand_sums.specs.declared.aim.Aim.{Aim}
use Rattle.stand_sums.specs.declared.next_rank.NextRank.{NextRank}
use Rattle.stand_sums.specs.Aims.{sees}
use Rattle.stand_sums.specs.Writings.{Ranks, opens, ends, follows}
use Rattle.stand_sums.specs.Sequences.{HasOne}
use Rattle.stand_sums.specs.Sums.{stands_among}
use Rattle.stand_sums.proofs.GroupLemmas.{stands-marked}
use Rattle.candidate_graph.specs.declared.edge.Edge.{Edge}
use Rattle.candidate_graph.specs.Courses.{AreStandsOn, IsGround}
use Rattle.candidate_graph.specs.Graphs.{Standpoint, point_behind, LeadsTo, AreEdges}
use Rattle.candidate_graph.specs.Kept.{AreFound, AreInRun, point_in, IsMade, AreMade}
use Rattle.candidate_graph.proofs.BasicLemmas.{get-ranged, ranged-get}
use Rattle.candidate_graph.proofs.FoundLemmas.{in-long}
use Rattle.candidate_graph.proofs.PointLemmas.{next-on}

-- ---- one edge more

-- a list that was given an element or not
abbrev pub GrowsBy : {X : Type 0} → List X → X → List X → Type 0
GrowsBy before x now = (now ≡ before) ⊎ (now ≡ before ++ x ∷ [])

pub grown-keeps : {X : Type 0} (before now : List X) (x : X) → GrowsBy before x now → (k : ℕ) (y : X) → slice_get before k ≡ Some y → slice_get now k ≡ Some y
grown-keeps {X} before now x grown k y at = elim grown [
  | inl same ↦ subst (λ (l : List X). slice_get l k ≡ Some y) (sym same) at
  | inr more ↦ subst (λ (l : List X). slice_get l k ≡ Some y) (sym more) (get-left before (x ∷ []) k y at)
]

-- each new one has the property
pub grown-more : {X : Type 0} (P : X → Type 0) (first before now : List X) (x : X) → ((more : List X) × (before ≡ first ++ more) × ((y : X) → Contains more y → P y)) → GrowsBy before x now → P x
    → (more : List X) × (now ≡ first ++ more) × ((y : X) → Contains more y → P y)
grown-more {X} P first before now x (more, is, each) grown here = elim grown [
  | inl same ↦ (more, same ∙ is, each)
  | inr longer ↦ (
    more ++ x ∷ [],
    longer ∙ ap (λ (l : List X). l ++ x ∷ []) is ∙ append_assoc first more (x ∷ []),
    (λ y held. elim (Contains-append_cases more (x ∷ []) y held) [
      | inl old ↦ each y old
      | inr new ↦ elim (Contains-cases x [] y new) [
        | inl same ↦ subst P (sym same) here
        | inr none ↦ absurd (Contains-none y none)
      ]
    ]),
  )
]

pub made-more : (points now : List Standpoint) (at : Standpoint) (aim : Aim) (run : List Stand) (found : List NextRank) (count base : ℕ) (edges : List Edge) (next : NextRank) (edge : Edge)
    → GrowsBy points at now → AreMade points aim run found count base edges → slice_get found count ≡ Some next → IsMade now aim run next edge
    → AreMade now aim run found (count + 1) base (edges ++ edge ∷ [])
made-more points now at aim run found count base edges next edge grown are there is = record {
  long = (let long = are.long in omega (arith, long, length-append edges (edge ∷ [])));
  each = λ k other less at'. elim (cases_lt k count) [
    | inl below ↦
        let (one, stands, made) = are.each k other below at' in (
          one,
          get-left edges (edge ∷ []) (base + k) one stands,
          record { rank = made.rank; ends = made.ends; leads = grown-keeps points now at grown one.next (point_in aim run other) made.leads },
        )
    | inr most ↦
        let last : k ≡ count = omega (arith, less, most) in
        let same : next ≡ other = same_Some next other (sym there ∙ subst (λ (n : ℕ). slice_get found n ≡ Some other) last at') in
        let long = are.long in
        (edge, stands_last edges edge (base + k) (omega (arith, long, last)), subst (λ (n : NextRank). IsMade now aim run n edge) same is)
  ];
}

pub point-made : (aim : Aim) (run : List Stand) (next : NextRank) (seen : Bool) (stands : List Stand) → seen ≡ sees aim next.rank → stands ≡ slice_range run next.first next.last
    → record { seen = seen; stands = stands } ≡ point_in aim run next
point-made aim run next seen stands seen_is stands_is = λ i. record { seen = seen_is i; stands = stands_is i }

-- one edge
pub made-one : (now : List Standpoint) (aim : Aim) (run : List Stand) (next : NextRank) (number : ℕ) (seen : Bool) (stands : List Stand) → seen ≡ sees aim next.rank
    → stands ≡ slice_range run next.first next.last → slice_get now number ≡ Some (record { seen = seen; stands = stands })
    → IsMade now aim run next (record { rank = next.rank; ends = nat_le 1 next.support; next = number })
made-one now aim run next number seen stands seen_is stands_is at = record {
  rank = refl;
  ends = ((λ yes'. leb-true 1 next.support yes'), (λ some. le-leb 1 next.support some));
  leads = at ∙ ap (λ (p : Standpoint). Some p) (point-made aim run next seen stands seen_is stands_is);
}

-- ---- all edges

module _ (ranks : Ranks) (aim : Aim) (end : ℕ) (visits : List Visit) (found : List NextRank) (run : List Stand) (are : AreFound ranks aim end visits found)
    (in-run : AreInRun ranks aim visits found run) where
  pub run-marked : (next : NextRank) → Contains found next → IsMarked (slice_range run next.first next.last)
  run-marked next held = subst IsMarked (sym (in-run next held)) (stands-marked (filter (opens ranks aim next.rank) visits))

  pub run-within : (next : NextRank) → Contains found next → next.first < next.last → next.last ≤ length run
  run-within next held some =
      let places = (are.right next held).places in
      let long : length (slice_range run next.first next.last) ≡ stands_among ranks aim next.rank visits =
      ap (λ (l : List Stand). length l) (in-run next held) ∙ in-long ranks aim visits next.rank in
      omega (arith, some, places, long, length-take (next.last - next.first) (drop next.first run), length-drop next.first run)

  point-is : (next : NextRank) → Contains found next → point_in aim run next ≡ point_behind ranks aim next.rank visits
  point-is next held = ap (λ (l : List Stand). let p : Standpoint = record { seen = sees aim next.rank; stands = l } in p) (in-run next held)

  pub points-on : (course : Course) (stands : List Stand) → AreVisits course stands visits → (CanAsk : ℕ → ℕ → Type 0) (most : ℕ) → IsGround course ranks CanAsk most
      → (at : Standpoint) (next : NextRank) → Contains found next → at ≡ point_in aim run next → AreStandsOn course at.stands
  points-on course stands exact CanAsk most ground at next held is =
      subst (λ (p : Standpoint). AreStandsOn course p.stands) (sym (is ∙ point-is next held)) (next-on course stands visits exact ranks CanAsk most ground aim next.rank)

  module _ (points : List Standpoint) (base : ℕ) (edges : List Edge) (made : AreMade points aim run found (length found) base edges) where
    abbrev new' : List Edge
    new' = slice_range edges base (length edges)

    -- an edge that was made, with its rank
    edge-from : (k : ℕ) (edge : Edge) → slice_get new' k ≡ Some edge → (next : NextRank) × (slice_get found k ≡ Some next) × IsMade points aim run next edge
    edge-from k edge at =
        let (less, there) = get-ranged edges base (length edges) k edge (omega arith) at in
        let long = made.long in
        let inside : k < length found = omega (arith, less, long) in
        let (next, is) = get-some found k inside in
        let (other, there', right) = made.each k next inside is in
        let same : other ≡ edge = same_Some other edge (sym there' ∙ there) in
        (next, is, subst (IsMade points aim run next) same right)

    edge-by : (k : ℕ) (next : NextRank) → slice_get found k ≡ Some next → (edge : Edge) × (slice_get new' k ≡ Some edge) × IsMade points aim run next edge
    edge-by k next at =
        let inside : k < length found = slice_get_within found k next at in
        let (edge, there, right) = made.each k next inside at in
        let long = made.long in
        (edge, ranged-get edges base (length edges) k edge (omega arith) (omega (arith, inside, long)) there, right)

    leads : (next : NextRank) (edge : Edge) → Contains found next → IsMade points aim run next edge → LeadsTo points ranks aim visits edge
    leads next edge held is =
        let right = are.right next held in
        let rank : next.rank ≡ edge.rank = sym is.rank in
        record {
          follows = subst (λ (r : ℕ). HasOne (follows ranks aim r) visits) rank right.follows;
          ends = (
            (λ yes'. subst (λ (r : ℕ). HasOne (ends ranks aim r) visits) rank (right.ends.0 (is.ends.0 yes'))),
            (λ has. is.ends.1 (right.ends.1 (subst (λ (r : ℕ). HasOne (ends ranks aim r) visits) is.rank has))),
          );
          next = is.leads ∙ ap (λ (p : Standpoint). Some p) (point-is next held ∙ ap (λ (r : ℕ). point_behind ranks aim r visits) rank);
        }

    rising : AllPairs (λ low high. low.rank < high.rank) new'
    rising i j d less inside =
        let first : slice_get new' i ≡ Some (get_or new' i d) = slice_get-get_or new' i d (omega (arith, less, inside)) in
        let second : slice_get new' j ≡ Some (get_or new' j d) = slice_get-get_or new' j d inside in
        let (low, at, is) = edge-from i (get_or new' i d) first in
        let (high, at', is') = edge-from j (get_or new' j d) second in
        let below : (get_or found i low).rank < (get_or found j low).rank = are.rising i j low less (slice_get_within found j high at') in
        let low_is : get_or found i low ≡ low = get_or_from_slice_get found i low low at in
        let high_is : get_or found j low ≡ high = get_or_from_slice_get found j high low at' in
        let ranked : low.rank < high.rank =
        subst (λ (n : NextRank). n.rank < high.rank) low_is (subst (λ (n : NextRank). (get_or found i low).rank < n.rank) high_is below) in
        omega (arith, ranked, is.rank, is'.rank)

    pub edges-are : (course : Course) (stands : List Stand) → AreVisits course stands visits → AreEdges course points ranks aim stands new'
    edges-are course stands exact = record {
      visits = visits;
      exact = exact;
      rising = rising;
      right = λ edge held.
          let (k, at) = get-place new' edge held in
          let (next, there, is) = edge-from k edge at in
          leads next edge (get-held found k next there) is;
      all = λ rank has.
          let (next, held, same) = are.all rank has in
          let (k, at) = get-place found next held in
          let (edge, there, is) = edge-by k next at in
          (edge, get-held new' k edge there, is.rank ∙ same);
    }

-- ---- no stands

pub no-visits : (course : Course) → AreVisits course [] []
no-visits course = record {
  rising = λ i j d less inside. absurd (omega (arith, inside));
  exact = λ place kind action. (
    (λ (visit, held, place_is, kind_is, action_is). absurd (Contains-none visit held)),
    (λ is. absurd (nowhere is.before is.from is.is_at)),
  );
  first = λ k visit at. absurd (cc);
}
  where
    arrives : (place state : ℕ) → Arrives course [] place state → ⊥
    arrives zero state none = none
    arrives (suc before) state (from, entry, move, holds, either, leads, silent) = elim either [
      | inl earlier ↦ arrives before from earlier
      | inr (stand, held, place_is, state_is) ↦ Contains-none stand held
    ]

    nowhere : (place state : ℕ) → IsAt course [] place state → ⊥
    nowhere place state either = elim either [
      | inl come ↦ arrives place state come
      | inr (stand, held, place_is, state_is) ↦ Contains-none stand held
    ]

pub no-edges : (course : Course) (points : List Standpoint) (ranks : Ranks) (aim : Aim) → AreEdges course points ranks aim [] []
no-edges course points ranks aim = record {
  visits = [];
  exact = no-visits course;
  rising = λ i j d less inside. absurd (omega (arith, inside));
  right = λ edge held. absurd (Contains-none edge held);
  all = λ rank (visit, held, passes). absurd (Contains-none visit held);
}

-- nor any edges
pub empty-edges : (course : Course) (points : List Standpoint) (ranks : Ranks) (aim : Aim) (stands : List Stand) (edges : List Edge) → length stands ≡ 0
    → AreEdges course points ranks aim stands (slice_range edges (length edges) (length edges))
empty-edges course points ranks aim [] edges none =
    let zero' : length edges - length edges ≡ 0 = omega arith in
    let nothing : slice_range edges (length edges) (length edges) ≡ [] = ap (λ (n : ℕ). take n (drop (length edges) edges)) zero' in
    subst (AreEdges course points ranks aim []) (sym nothing) (no-edges course points ranks aim)
empty-edges course points ranks aim (stand ∷ stands) edges none = absurd (omega (arith, none))
