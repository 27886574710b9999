-- The groups of all alive pivots are what is counted as work.
use Rattle.std.proofs.Common.{◌≡◌, ◌≢◌, ◌↔◌, ℕ, ◌≤◌, ◌<◌, inl, inr, Some, List, [], ◌∷◌, map, length, get_or, refl, sym, ap, ◌∙◌, subst, arith}
use Rattle.std.specs.List.{AllPairs, AllZip, Contains}
use Rattle.std.proofs.lemmas.Option.{slice_get-get_or, get_or_from_slice_get}
use Rattle.std.proofs.lemmas.List.Elements.{Contains-get_or, Contains-append_left, Contains-append_right, Contains-append_cases}
use Rattle.std.proofs.lemmas.List.Kept.{AllPairs-cons}
use Rattle.mine_model.specs.declared.item.Item.{Item}
use Rattle.mine_model.specs.Database.{sequence_at}
use Rattle.mine_model.specs.Support.{Sequence}
use Rattle.mine_model.specs.Answer.{Data}
use Rattle.mine_model.specs.Pivots.{IsAliveLabel}
use Rattle.mine_model.proofs.ListLemmas.{Contains-cases, Contains-none, Contains-first, Contains-other, Contains-by, Contains-from, AllPairs-append, AllPairs-tail, AllPairs-head}
use Rattle.mine_model.specs.Lists.{IsEarlier}
use Rattle.mine_model.proofs.EarlierLemmas.{earlier-itself}
use Rattle.mine_model.proofs.RankedLemmas.{within-ranks}
use Rattle.automaton_model.specs.declared.groups.Group.{Group}
use Rattle.automaton_model.specs.Members.{IsPivotMember, IsPivotCode}
use Rattle.automaton_model.specs.Groups.{AreGroupsOfPivot}
use Rattle.automaton_model.specs.Work.{CodeOfPart, IsCounted, IsAutomatonWork, pairs_of}
use Rattle.automaton_model.proofs.PivotLemmas.{one_code}

pub sequence_is : (sequences : List (Sequence Item)) (s : Sequence Item) → Contains sequences s → (i : ℕ) × (i < length sequences) × (sequence_at sequences i ≡ s)
sequence_is sequences s (k, inside, is) =
    (k, inside, get_or_from_slice_get sequences k s (record { items = []; weight = 0 }) (slice_get-get_or sequences k s inside ∙ ap (λ (x : Sequence Item). Some x) is))

module _ (d : Data Item) (order : List Item) where
  abbrev pair_of : ℕ → Group → CodeOfPart
  pair_of pivot group = record { pivot = pivot; code = group.automaton }

  -- the groups of one pivot
  counted_group : (pivot : ℕ) (groups : List Group) → 1 ≤ pivot → IsAliveLabel d order pivot [] → AreGroupsOfPivot d order pivot groups
      → (group : Group) → Contains groups group → IsCounted d order (pair_of pivot group)
  counted_group pivot groups least alive are group held =
      let is = are.are.group group held in
      let (i, inside, same) = Contains-from (λ i. sequence_at d.sequences i) are.numbers is.one is.held in
      let (below, (pattern, generated, within)) = (are.of_pivot.exact i).0 inside in
      let (ranks, ranked) = within-ranks order pivot pattern within in
      record {
        least = least;
        alive = alive;
        one = is.one;
        held = subst (Contains d.sequences) (sym same) (Contains-get_or d.sequences i (record { items = []; weight = 0 }) below);
        some = ranks;
        member = subst (λ (s : Sequence Item). IsPivotMember d order pivot s.items ranks) (sym same) (record { pattern = pattern; ranked = ranked; generated = generated; within = within });
        coded = is.coded;
      }

  group_counted : (pivot : ℕ) (groups : List Group) → AreGroupsOfPivot d order pivot groups → (code : List ℕ) → IsCounted d order (record { pivot = pivot; code = code })
      → (group : Group) × Contains groups group × (group.automaton ≡ code)
  group_counted pivot groups are code is =
      let (i, below, same) = sequence_is d.sequences is.one is.held in
      let member : IsPivotMember d order pivot (sequence_at d.sequences i).items is.some = subst (λ (s : Sequence Item). IsPivotMember d order pivot s.items is.some) (sym same) is.member in
      let inside : Contains are.numbers i = (are.of_pivot.exact i).1 (below, (member.pattern, member.generated, member.within)) in
      let (group, held, coded) = are.are.all (sequence_at d.sequences i) (Contains-by (λ i. sequence_at d.sequences i) are.numbers i inside) in
      (group, held, one_code d order pivot is.one.items group.automaton code (subst (λ (s : Sequence Item). IsPivotCode d order pivot group.automaton s.items) same coded) is.coded)

  pairs_once : (pivot : ℕ) (groups : List Group) → AllPairs (λ (low : Group) (high : Group). IsEarlier low.automaton high.automaton) groups
      → AllPairs (λ (first : CodeOfPart) second. first ≢ second) (map (pair_of pivot) groups)
  pairs_once pivot [] rising = λ i j e less inside. absurd (omega (arith, inside))
  pairs_once pivot (g ∷ groups) rising =
      AllPairs-cons (λ (first : CodeOfPart) second. first ≢ second) (pair_of pivot g) (map (pair_of pivot) groups)
      (λ k e below same.
      let (h, held, is) = Contains-from (pair_of pivot) groups (get_or (map (pair_of pivot) groups) k e) (Contains-get_or (map (pair_of pivot) groups) k e below) in
      let code : g.automaton ≡ h.automaton = ap (λ (p : CodeOfPart). p.code) (same ∙ is) in
      earlier-itself g.automaton (subst (IsEarlier g.automaton) (sym code) (AllPairs-head (λ (low : Group) (high : Group). IsEarlier low.automaton high.automaton) g groups rising h held)))
      (pairs_once pivot groups (AllPairs-tail (λ (low : Group) (high : Group). IsEarlier low.automaton high.automaton) g groups rising))

  pair_cases : (pivots : List ℕ) (lists : List (List Group)) → AllZip (AreGroupsOfPivot d order) pivots lists → (pair : CodeOfPart) → Contains (pairs_of pivots lists) pair
      → (pivot : ℕ) × (groups : List Group) × (group : Group) × Contains pivots pivot × AreGroupsOfPivot d order pivot groups × Contains groups group × (pair ≡ pair_of pivot group)
  pair_cases [] lists zip pair held = absurd (Contains-none pair held)
  pair_cases (p ∷ pivots) [] zip pair held = absurd zip
  pair_cases (p ∷ pivots) (gs ∷ lists) zip pair held = elim (Contains-append_cases (map (pair_of p) gs) (pairs_of pivots lists) pair held) [
    | inl here ↦ (let (g, inside, same) = Contains-from (pair_of p) gs pair here in (p, gs, g, Contains-first p pivots, zip.0, inside, same))
    | inr later ↦ (let (q, groups, g, among, are, inside, same) = pair_cases pivots lists zip.1 pair later in (q, groups, g, Contains-other p pivots q among, are, inside, same))
  ]

  pair_held : (pivots : List ℕ) (lists : List (List Group)) → AllZip (AreGroupsOfPivot d order) pivots lists → (pivot : ℕ) → Contains pivots pivot
      → (code : List ℕ) → IsCounted d order (record { pivot = pivot; code = code }) → Contains (pairs_of pivots lists) (record { pivot = pivot; code = code })
  pair_held [] lists zip pivot held code is = absurd (Contains-none pivot held)
  pair_held (p ∷ pivots) [] zip pivot held code is = absurd zip
  pair_held (p ∷ pivots) (gs ∷ lists) zip pivot held code is = elim (Contains-cases p pivots pivot held) [
    | inl same ↦
        let (g, inside, coded) = group_counted p gs zip.0 code (subst (λ q. IsCounted d order (record { pivot = q; code = code })) same is) in
        let one : pair_of p g ≡ record { pivot = pivot; code = code } = (λ i. record { pivot = sym same i; code = coded i }) in
        Contains-append_left (map (pair_of p) gs) (pairs_of pivots lists) (record { pivot = pivot; code = code })
        (subst (Contains (map (pair_of p) gs)) one (Contains-by (pair_of p) gs g inside))
    | inr later ↦ Contains-append_right (map (pair_of p) gs) (pairs_of pivots lists) (record { pivot = pivot; code = code }) (pair_held pivots lists zip.1 pivot later code is)
  ]

  all_once : (pivots : List ℕ) (lists : List (List Group)) → AllZip (AreGroupsOfPivot d order) pivots lists → AllPairs (λ low high. low < high) pivots
      → AllPairs (λ (first : CodeOfPart) second. first ≢ second) (pairs_of pivots lists)
  all_once [] lists zip rising = λ i j e less inside. absurd (omega (arith, inside))
  all_once (p ∷ pivots) [] zip rising = absurd zip
  all_once (p ∷ pivots) (gs ∷ lists) zip rising =
      AllPairs-append (λ (first : CodeOfPart) second. first ≢ second) (map (pair_of p) gs) (pairs_of pivots lists) (pairs_once p gs zip.0.are.rising)
      (all_once pivots lists zip.1 (AllPairs-tail (λ low high. low < high) p pivots rising))
      (λ x y here there same.
      let (g, inside, is_x) = Contains-from (pair_of p) gs x here in
      let (q, groups, h, among, are, held, is_y) = pair_cases pivots lists zip.1 y there in
      let less : p < q = AllPairs-head (λ low high. low < high) p pivots rising q among in
      let one : p ≡ q = ap (λ (c : CodeOfPart). c.pivot) (sym is_x ∙ same ∙ is_y) in
      omega (arith, less, one))

  -- THE WORK is the number of groups of all alive pivots
  pub work-exact : (pivots : List ℕ) → AllPairs (λ low high. low < high) pivots → ((pivot : ℕ) → Contains pivots pivot ↔ ((1 ≤ pivot) × IsAliveLabel d order pivot []))
      → (lists : List (List Group)) → AllZip (AreGroupsOfPivot d order) pivots lists
      → IsAutomatonWork d order (record { nodes = 0; parts = length (pairs_of pivots lists); candidates = 0 })
  work-exact pivots rising alive lists zip = record {
    pairs = pairs_of pivots lists;
    once = all_once pivots lists zip rising;
    exact = λ pair. (
      (λ held.
          let (pivot, groups, group, among, are, inside, same) = pair_cases pivots lists zip pair held in
          let both = (alive pivot).0 among in
          subst (IsCounted d order) (sym same) (counted_group pivot groups both.0 both.1 are group inside)),
      (λ is. pair_held pivots lists zip pair.pivot ((alive pair.pivot).1 (is.least, is.alive)) pair.code is),
    );
    nodes = refl;
    parts = refl;
    candidates = refl;
  }
