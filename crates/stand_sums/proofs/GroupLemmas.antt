-- The stands of a longer prefix, as those of one sequence behind another.
use Rattle.std.proofs.Common.{◌≡◌, ℕ, zero, suc, ◌≤◌, inl, inr, Bool, true, false, true≢false, cond, Some, List, [], ◌∷◌, ◌++◌, map, refl, sym, ap, ◌∙◌, subst, arith}
use Rattle.std.specs.List.{AllPairs, Contains, filter, slice_get}
use Rattle.std.proofs.lemmas.List.Elements.{Contains-append_cases, Contains-append_left, Contains-append_right}
use Rattle.std.proofs.lemmas.Option.{same_Some}
use Rattle.mine_model.proofs.ListLemmas.{Contains-cases, Contains-first, Contains-other, Contains-none, Contains-filter, AllPairs-head, AllPairs-tail, AllPairs-append}
use Rattle.place_walk.specs.declared.visit.Visit.{Visit}
use Rattle.place_walk.specs.declared.stand.Stand.{Stand}
use Rattle.place_walk.specs.Groups.{AreGroups, IsMarked}
use Rattle.stand_sums.specs.declared.aim.Aim.{Aim}
use Rattle.stand_sums.specs.Writings.{Ranks, opens}
use Rattle.stand_sums.specs.Sequences.{AreSequences}
use Rattle.stand_sums.specs.Files.{stand_at, stands_at, stands_in, stands_of}

-- ---- groups

pub plain-at : (visits : List Visit) (k : ℕ) (stand : Stand) → slice_get (map (stand_at false) visits) k ≡ Some stand → stand.first ≡ false
plain-at [] k stand at = absurd (cc)
plain-at (visit ∷ visits) zero stand at = ap (λ (s : Stand). s.first) (sym (same_Some (stand_at false visit) stand at))
plain-at (visit ∷ visits) (suc k) stand at = plain-at visits k stand at

pub stands-marked : (visits : List Visit) → IsMarked (stands_at visits)
stands-marked [] k stand at = absurd (cc)
stands-marked (visit ∷ visits) zero stand at =
    let first : stand.first ≡ true = ap (λ (s : Stand). s.first) (sym (same_Some (stand_at true visit) stand at)) in
    ((λ marked. refl), (λ none. first))
stands-marked (visit ∷ visits) (suc k) stand at =
    let plain = plain-at visits k stand at in
    ((λ marked. absurd (true≢false (sym marked ∙ plain))), (λ none. absurd (let no' : suc k ≡ 0 = none in omega arith)))

group-more : (here rest : List Stand) (groups : List (List Stand)) → IsMarked here → AreGroups rest groups → (all : List (List Stand)) × AreGroups (here ++ rest) all
group-more [] rest groups marked are = (groups, are)
group-more (stand ∷ here) rest groups marked are =
    ((stand ∷ here) ∷ groups, (rest, refl, record { some = omega arith; marked = marked }, are))

pub stands-groups : (ranks : Ranks) (aim : Aim) (rank : ℕ) (sequences : List (List Visit)) → (groups : List (List Stand)) × AreGroups (stands_of ranks aim rank sequences) groups
stands-groups ranks aim rank [] = ([], refl)
stands-groups ranks aim rank (here ∷ sequences) =
    let (groups, are) = stands-groups ranks aim rank sequences in
    group-more (stands_in ranks aim rank here) (stands_of ranks aim rank sequences) groups (stands-marked (filter (opens ranks aim rank) here)) are

-- ---- places

abbrev Rises : {X : Type 0} → (X → ℕ) → List X → Type 0
Rises place xs = AllPairs (λ one other. place one ≤ place other) xs

rises-cons : {X : Type 0} (place : X → ℕ) (x : X) (xs : List X) → ((y : X) → Contains xs y → place x ≤ place y) → Rises place xs → Rises place (x ∷ xs)
rises-cons {X} place x xs below rises =
    AllPairs-append (λ (one other : X). place one ≤ place other) (x ∷ []) xs (λ i j d less inside. absurd (omega arith)) rises
    (λ one other here there. elim (Contains-cases x [] one here) [
      | inl same ↦ subst (λ (z : X). place z ≤ place other) (sym same) (below other there)
      | inr no' ↦ absurd (Contains-none one no')
    ])

-- a stand behind one of the visits
abbrev IsBehind : List Visit → Stand → Type 0
IsBehind visits stand = (visit : Visit) × Contains visits visit × (stand.place ≡ visit.place)

mapped-behind : (mark : Bool) (visits : List Visit) (stand : Stand) → Contains (map (stand_at mark) visits) stand → IsBehind visits stand
mapped-behind mark [] stand held = absurd (Contains-none stand held)
mapped-behind mark (visit ∷ visits) stand held = elim (Contains-cases (stand_at mark visit) (map (stand_at mark) visits) stand held) [
  | inl here ↦ (visit, Contains-first visit visits, ap (λ (s : Stand). s.place) here)
  | inr there ↦ let (one, in', is) = mapped-behind mark visits stand there in (one, Contains-other visit visits one in', is)
]

at-behind : (visits : List Visit) (stand : Stand) → Contains (stands_at visits) stand → IsBehind visits stand
at-behind [] stand held = absurd (Contains-none stand held)
at-behind (visit ∷ visits) stand held = elim (Contains-cases (stand_at true visit) (map (stand_at false) visits) stand held) [
  | inl here ↦ (visit, Contains-first visit visits, ap (λ (s : Stand). s.place) here)
  | inr there ↦ let (one, in', is) = mapped-behind false visits stand there in (one, Contains-other visit visits one in', is)
]

mapped-rises : (mark : Bool) (visits : List Visit) → Rises (λ (v : Visit). v.place) visits → Rises (λ (s : Stand). s.place) (map (stand_at mark) visits)
mapped-rises mark [] rises = λ i j d less inside. absurd (omega arith)
mapped-rises mark (visit ∷ visits) rises =
    rises-cons (λ (s : Stand). s.place) (stand_at mark visit) (map (stand_at mark) visits)
    (λ stand held.
    let (one, in', is) = mapped-behind mark visits stand held in
    let below : visit.place ≤ one.place = AllPairs-head (λ (v w : Visit). v.place ≤ w.place) visit visits rises one in' in
    omega arith)
    (mapped-rises mark visits (AllPairs-tail (λ (v w : Visit). v.place ≤ w.place) visit visits rises))

at-rises : (visits : List Visit) → Rises (λ (v : Visit). v.place) visits → Rises (λ (s : Stand). s.place) (stands_at visits)
at-rises [] rises = λ i j d less inside. absurd (omega arith)
at-rises (visit ∷ visits) rises =
    rises-cons (λ (s : Stand). s.place) (stand_at true visit) (map (stand_at false) visits)
    (λ stand held.
    let (one, in', is) = mapped-behind false visits stand held in
    let below : visit.place ≤ one.place = AllPairs-head (λ (v w : Visit). v.place ≤ w.place) visit visits rises one in' in
    omega arith)
    (mapped-rises false visits (AllPairs-tail (λ (v w : Visit). v.place ≤ w.place) visit visits rises))

filter-rises : (test : Visit → Bool) (visits : List Visit) → Rises (λ (v : Visit). v.place) visits → Rises (λ (v : Visit). v.place) (filter test visits)
filter-rises test [] rises = rises
filter-rises test (visit ∷ visits) rises = by (test visit)
    (filter-rises test visits (AllPairs-tail (λ (v w : Visit). v.place ≤ w.place) visit visits rises))
    (λ one held. AllPairs-head (λ (v w : Visit). v.place ≤ w.place) visit visits rises one (Contains-filter test visits one held).0)
  where
    by : (b : Bool) → Rises (λ (v : Visit). v.place) (filter test visits) → ((one : Visit) → Contains (filter test visits) one → visit.place ≤ one.place)
        → Rises (λ (v : Visit). v.place) (cond b (visit ∷ filter test visits) (filter test visits))
    by true rest below = rises-cons (λ (v : Visit). v.place) visit (filter test visits) below rest
    by false rest below = rest

front-rises : (here behind : List Visit) → Rises (λ (v : Visit). v.place) (here ++ behind)
    → Rises (λ (v : Visit). v.place) here × Rises (λ (v : Visit). v.place) behind × ((one other : Visit) → Contains here one → Contains behind other → one.place ≤ other.place)
front-rises [] behind rises = ((λ i j d less inside. absurd (omega arith)), rises, (λ one other here there. absurd (Contains-none one here)))
front-rises (visit ∷ here) behind rises =
    let (front, back, across) = front-rises here behind (AllPairs-tail (λ (v w : Visit). v.place ≤ w.place) visit (here ++ behind) rises) in (
      rises-cons (λ (v : Visit). v.place) visit here
          (λ one held. AllPairs-head (λ (v w : Visit). v.place ≤ w.place) visit (here ++ behind) rises one (Contains-append_left here behind one held)) front,
      back,
      (λ one other held there. elim (Contains-cases visit here one held) [
        | inl same ↦
            subst (λ (v : Visit). v.place ≤ other.place) (sym same)
            (AllPairs-head (λ (v w : Visit). v.place ≤ w.place) visit (here ++ behind) rises other (Contains-append_right here behind other there))
        | inr within ↦ across one other within there
      ]),
    )

in-behind : (ranks : Ranks) (aim : Aim) (rank : ℕ) (visits : List Visit) (stand : Stand) → Contains (stands_in ranks aim rank visits) stand → IsBehind visits stand
in-behind ranks aim rank visits stand held =
    let (one, kept, is) = at-behind (filter (opens ranks aim rank) visits) stand held in
    (one, (Contains-filter (opens ranks aim rank) visits one kept).0, is)

all-behind : (ranks : Ranks) (aim : Aim) (rank : ℕ) (visits : List Visit) (sequences : List (List Visit)) → AreSequences visits sequences → (stand : Stand)
    → Contains (stands_of ranks aim rank sequences) stand → IsBehind visits stand
all-behind ranks aim rank visits [] none stand held = absurd (Contains-none stand held)
all-behind ranks aim rank visits (here ∷ sequences) (behind, cut, is, are) stand held =
    subst (λ (l : List Visit). IsBehind l stand) (sym cut)
    (elim (Contains-append_cases (stands_in ranks aim rank here) (stands_of ranks aim rank sequences) stand held) [
      | inl there ↦ let (one, in', place) = in-behind ranks aim rank here stand there in (one, Contains-append_left here behind one in', place)
      | inr there ↦ let (one, in', place) = all-behind ranks aim rank behind sequences are stand there in (one, Contains-append_right here behind one in', place)
    ])

pub stands-rising : (ranks : Ranks) (aim : Aim) (rank : ℕ) (visits : List Visit) (sequences : List (List Visit)) → AreSequences visits sequences
    → AllPairs (λ one other. one.place ≤ other.place) visits → AllPairs (λ one other. one.place ≤ other.place) (stands_of ranks aim rank sequences)
stands-rising ranks aim rank visits [] none rises = λ i j d less inside. absurd (omega arith)
stands-rising ranks aim rank visits (here ∷ sequences) (behind, cut, is, are) rises =
    let (front, back, across) = front-rises here behind (subst (Rises (λ (v : Visit). v.place)) cut rises) in
    AllPairs-append (λ (one other : Stand). one.place ≤ other.place) (stands_in ranks aim rank here) (stands_of ranks aim rank sequences)
    (at-rises (filter (opens ranks aim rank) here) (filter-rises (opens ranks aim rank) here front))
    (stands-rising ranks aim rank behind sequences are back)
    (λ one other in' there.
    let (visit, held, place) = in-behind ranks aim rank here one in' in
    let (next, held', place') = all-behind ranks aim rank behind sequences are other there in
    let below = across visit next held held' in
    omega (arith, below, place, place'))
