-- What grows of a prefix: its own row, and the longer prefixes.
use Rattle.std.proofs.Common.{◌≡◌, ◌≢◌, ℕ, ◌+◌, ◌≤◌, ◌<◌, ◌⊎◌, inl, inr, true, List, [], ◌∷◌, ◌++◌, length, map, sym, ap, ◌∙◌, subst, arith, append_assoc, length-append}
use Rattle.std.specs.List.{AllPairs, Contains}
use Rattle.std.specs.List.Sorted.{IsPermutation}
use Rattle.std.proofs.lemmas.List.{append-nil, append_cancel_left}
use Rattle.std.proofs.lemmas.List.Elements.{Contains-append_left, Contains-append_right, Contains-append_cases, Contains-push, All-contains}
use Rattle.std.proofs.lemmas.List.Sorted.{Contains-permutation, IsPermutation-sym}
use Rattle.std.proofs.lemmas.Option.{slice_get_within}
use Rattle.mine_model.specs.declared.item.Item.{Item}
use Rattle.mine_model.specs.declared.row.Row.{Row}
use Rattle.mine_model.specs.Ranks.{AreRanked}
use Rattle.mine_model.specs.Numbered.{PatternsDiffer}
use Rattle.mine_model.proofs.ListLemmas.{Contains-cases, Contains-first, Contains-none, Contains-from, Contains-by, AllPairs-append, AllPairs-tail, AllPairs-head, pairs-front}
use Rattle.mine_model.proofs.ElementLemmas.{flat-cases}
use Rattle.mine_model.proofs.RankedLemmas.{ranked-same, same_ranks}
use Rattle.automaton_model.specs.declared.state.Edge.{Edge}
use Rattle.automaton_model.specs.Automata.{StateValue, Accepts}
use Rattle.automaton_model.specs.Searches.{Weigh}
use Rattle.automaton_model.proofs.RegistryLemmas.{stands}
use Rattle.group_search.specs.declared.loads.LoadedState.{LoadedState}
use Rattle.group_search.specs.declared.step.Step.{Step}
use Rattle.group_search.specs.Found.{load_of}
use Rattle.group_search.specs.Searched.{IsTrim, IsRankList}
use Rattle.group_search.specs.Steps.{state_at, weigh_by, steps_along, steps_of, Kid, IsKid, AreKids}
use Rattle.group_search.specs.Waits.{Wait, waits_behind}
use Rattle.group_search.specs.Search.{IsSound, IsBehind, IsOwn, AreApart, IsPast, IsSearching}
use Rattle.group_search.proofs.WeighLemmas.{is_accepted, weight_behind, behind-weighs, behind-is, state-there, steps-behind, steps-most, by-permuted, trim-at}
use Rattle.group_search.proofs.StackLemmas.{pairs-across}

abbrev pub wait_by : List ℕ → Kid → Wait
wait_by prefix kid = record { prefix = prefix ++ kid.rank ∷ []; loads = kid.loads }

-- behind a rank behind the prefix
pub through : (prefix more : List ℕ) (rank : ℕ) → (prefix ++ rank ∷ []) ++ more ≡ prefix ++ rank ∷ more
through prefix more rank = append_assoc prefix (rank ∷ []) more

-- A sound prefix with its steps

module _ (states : List StateValue) (trim : IsTrim states) (count most threshold : ℕ) (least : 1 ≤ threshold) (wait : Wait) (sound : IsSound states count most wait)
    (steps : List Step) (same : IsPermutation (steps_of states wait.loads) steps) (kids : List Kid) (are : AreKids threshold steps kids) where
  -- where a step comes from: a load and an edge of its state, which is alive
  record IsStep (step : Step) : Type 0 where
    load : LoadedState
    held : Contains wait.loads load
    edge : Edge
    along : Contains (state_at states load.state).edges edge
    by : step.rank ≡ edge.rank
    to : step.state ≡ edge.to

  step-from : (step : Step) → Contains steps step → IsStep step
  step-from step held =
      let inside : Contains (steps_of states wait.loads) step = Contains-permutation steps (steps_of states wait.loads) step (IsPermutation-sym (steps_of states wait.loads) steps same) held in
      let (load, here, gone) = flat-cases (λ (l : LoadedState). steps_along l.weight (state_at states l.state).edges) wait.loads step inside in
      let (edge, along, is) = Contains-from (λ (e : Edge). let s : Step = record { rank = e.rank; state = e.to; weight = load.weight } in s) (state_at states load.state).edges step gone in
      record { load = load; held = here; edge = edge; along = along; by = ap (λ (s : Step). s.rank) is; to = ap (λ (s : Step). s.state) is }

  -- what is accepted behind a step is accepted behind its rank
  step-accepts : (step : Step) (from : IsStep step) (list : List ℕ) → Accepts states step.state list → Accepts states from.load.state (step.rank ∷ list)
  step-accepts step from list accepts = (
    state_at states from.load.state,
    from.edge,
    state-there states from.load.state (sound.there from.load from.held),
    from.along,
    sym from.by,
    subst (λ k. Accepts states k list) from.to accepts,
  )

  step-list : (step : Step) → IsStep step → (list : List ℕ) × Accepts states step.state list
  step-list step from =
      let (list, accepts) = (trim-at states trim from.load.state (sound.there from.load from.held)).alive from.edge from.along in
      (list, subst (λ k. Accepts states k list) (sym from.to) accepts)

  step-ranks : (step : Step) (from : IsStep step) (list : List ℕ) → Accepts states step.state list → IsRankList count most (wait.prefix ++ step.rank ∷ list)
  step-ranks step from list accepts = sound.lists from.load from.held (step.rank ∷ list) (step-accepts step from list accepts)

  step-there : (step : Step) → IsStep step → step.state < length states
  step-there step from =
      let (list, accepts) = step-list step from in
      let (state, is) = stands states step.state list accepts in slice_get_within states step.state state is

  -- a longer prefix is sound
  pub kid-sound : (kid : Kid) → IsKid steps kid → IsSound states count most (wait_by wait.prefix kid)
  kid-sound kid is = record {
    there = λ load held. (let (step, inside, by, at) = is.held load held in subst (λ k. k < length states) (sym at) (step-there step (step-from step inside)));
    lists = λ load held list accepts. (let (step, inside, by, at) = is.held load held in
        let ranks : IsRankList count most (wait.prefix ++ step.rank ∷ list) = step-ranks step (step-from step inside) list (subst (λ k. Accepts states k list) at accepts) in
        subst (IsRankList count most) (sym (through wait.prefix list kid.rank)) (subst (λ r. IsRankList count most (wait.prefix ++ r ∷ list)) by ranks));
    fits = (let weight = is.same (λ k. true) in
        let moved = by-permuted kid.rank (λ k. true) (steps_of states wait.loads) steps same in
        let less = steps-most states trim kid.rank (λ k. true) wait.loads sound.there in
        let fits = sound.fits in omega (arith, weight, moved, less, fits));
    deep = (let (step, inside, by) = is.some in
        let from = step-from step inside in
        let (list, accepts) = step-list step from in
        let short : length (wait.prefix ++ step.rank ∷ list) ≤ most = (step-ranks step from list accepts).short in
        let long : length (wait.prefix ++ step.rank ∷ list) ≡ length wait.prefix + length (step.rank ∷ list) = length-append wait.prefix (step.rank ∷ list) in
        let longer : length (wait.prefix ++ kid.rank ∷ []) ≡ length wait.prefix + 1 = length-append wait.prefix (kid.rank ∷ []) in
        omega (arith, short, long, longer));
  }

  -- its rank is one of the items
  pub kid-rank : (kid : Kid) → IsKid steps kid → (1 ≤ kid.rank) × (kid.rank ≤ count)
  kid-rank kid is =
      let (step, inside, by) = is.some in
      let from = step-from step inside in
      let (list, accepts) = step-list step from in
      let ranks : IsRankList count most (wait.prefix ++ step.rank ∷ list) = step-ranks step from list accepts in
      let at : (1 ≤ step.rank) × (step.rank ≤ count) =
      All-contains (λ rank. (1 ≤ rank) × (rank ≤ count)) (wait.prefix ++ step.rank ∷ list) step.rank ranks.ranks
      (Contains-append_right wait.prefix (step.rank ∷ list) step.rank (Contains-first step.rank list)) in
      subst (λ r. (1 ≤ r) × (r ≤ count)) by at

  -- what a longer prefix weighs
  pub kid-weighs : (kid : Kid) → IsKid steps kid → (list : List ℕ) → weight_behind states list kid.loads ≡ weight_behind states (kid.rank ∷ list) wait.loads
  kid-weighs kid is list =
      is.same (is_accepted states list) ∙ by-permuted kid.rank (is_accepted states list) (steps_of states wait.loads) steps same
      ∙ steps-behind states trim kid.rank list wait.loads sound.there

  module _ (order : List Item) where
    -- rows behind a longer prefix are rows behind this one
    pub behind-kid : (kid : Kid) → Contains kids kid → (row : Row) → IsBehind order threshold states (wait_by wait.prefix kid) row → IsBehind order threshold states wait row
    behind-kid kid held row is =
        let weight : row.support ≡ weight_behind states is.more kid.loads = behind-is states is.more kid.loads row.support is.weighed in
        record {
          more = kid.rank ∷ is.more;
          ranked = subst (AreRanked order row.pattern) (through wait.prefix is.more kid.rank) is.ranked;
          weighed = subst (Weigh (λ k. Accepts states k (kid.rank ∷ is.more)) (map load_of wait.loads)) (sym (weight ∙ kid-weighs kid (are.each kid held) is.more))
              (behind-weighs states (kid.rank ∷ is.more) wait.loads);
          enough = is.enough;
        }

    -- and the rows behind this one stand at it or behind a longer one
    pub behind-cases : (row : Row) → IsBehind order threshold states wait row
        → (AreRanked order row.pattern wait.prefix × (row.support ≡ weight_behind states [] wait.loads) × (threshold ≤ row.support))
        ⊎ ((kid : Kid) × Contains kids kid × IsBehind order threshold states (wait_by wait.prefix kid) row)
    behind-cases row is = go is.more is.ranked is.weighed
      where
        go : (more : List ℕ) → AreRanked order row.pattern (wait.prefix ++ more) → Weigh (λ k. Accepts states k more) (map load_of wait.loads) row.support
            → (AreRanked order row.pattern wait.prefix × (row.support ≡ weight_behind states [] wait.loads) × (threshold ≤ row.support))
            ⊎ ((kid : Kid) × Contains kids kid × IsBehind order threshold states (wait_by wait.prefix kid) row)
        go [] ranked weighed = inl (subst (AreRanked order row.pattern) (append-nil wait.prefix) ranked, behind-is states [] wait.loads row.support weighed, is.enough)
        go (rank ∷ list) ranked weighed =
            let weight : row.support ≡ weight_behind states (rank ∷ list) wait.loads = behind-is states (rank ∷ list) wait.loads row.support weighed in
            let steps_weigh : weigh_by rank (is_accepted states list) steps ≡ weight_behind states (rank ∷ list) wait.loads =
            by-permuted rank (is_accepted states list) (steps_of states wait.loads) steps same ∙ steps-behind states trim rank list wait.loads sound.there in
            let enough : threshold ≤ weigh_by rank (is_accepted states list) steps = subst (λ n. threshold ≤ n) (weight ∙ sym steps_weigh) is.enough in
            let (kid, held, by) = are.all rank (is_accepted states list) enough in
            let kid_weight : weight_behind states list kid.loads ≡ row.support =
            kid-weighs kid (are.each kid held) list ∙ ap (λ r. weight_behind states (r ∷ list) wait.loads) by ∙ sym weight in
            inr (
              kid,
              held,
              record {
                more = list;
                ranked = subst (AreRanked order row.pattern) (sym (through wait.prefix list kid.rank)) (subst (λ r. AreRanked order row.pattern (wait.prefix ++ r ∷ list)) (sym by) ranked);
                weighed = subst (Weigh (λ k. Accepts states k list) (map load_of kid.loads)) kid_weight (behind-weighs states list kid.loads);
                enough = is.enough;
              },
            )

-- Prefixes that no list begins with both of

pub apart-behind : (prefix other : List ℕ) (rank : ℕ) → AreApart prefix other → AreApart prefix (other ++ rank ∷ [])
apart-behind prefix other rank apart = λ more rest is. apart more (rank ∷ rest) (is ∙ through other rest rank)

pub apart-ranks : (prefix : List ℕ) (low high : ℕ) → low < high → AreApart (prefix ++ low ∷ []) (prefix ++ high ∷ [])
apart-ranks prefix low high less = λ more rest is.
    let same : low ∷ more ≡ high ∷ rest = append_cancel_left prefix (low ∷ more) (high ∷ rest) (sym (through prefix more low) ∙ is ∙ through prefix rest high) in
    let equal : low ≡ high = cc in
    omega (arith, less, equal)

pub not-behind-itself : (prefix more : List ℕ) (rank : ℕ) → prefix ≡ (prefix ++ rank ∷ []) ++ more → ⊥
not-behind-itself prefix more rank is =
    let long = ap length is in
    let first = length-append (prefix ++ rank ∷ []) more in
    let second : length (prefix ++ rank ∷ []) ≡ length prefix + 1 = length-append prefix (rank ∷ []) in
    omega (arith, long, first, second)

-- One prefix grows

module _ (order : List Item) (different : AllPairs (λ v w. v ≢ w) order) (states : List StateValue) (trim : IsTrim states) (count most threshold : ℕ) (least : 1 ≤ threshold)
    (all : Wait) (waits : List Wait) (wait : Wait) (rows : List Row) (searching : IsSearching order threshold states count most all (waits ++ wait ∷ []) rows)
    (own : List Row) (is_own : IsOwn order threshold wait.prefix (weight_behind states [] wait.loads) own)
    (steps : List Step) (same : IsPermutation (steps_of states wait.loads) steps) (kids : List Kid) (are : AreKids threshold steps kids) where
  last : Contains (waits ++ wait ∷ []) wait
  last = Contains-push waits wait

  pub wait-sound : IsSound states count most wait
  wait-sound = searching.sound wait last

  abbrev after : List Wait
  after = waits ++ waits_behind wait.prefix kids

  -- a prefix that waits now waited before, or is longer than the one that was grown
  after-cases : (now : Wait) → Contains after now → Contains waits now ⊎ ((kid : Kid) × Contains kids kid × (now ≡ wait_by wait.prefix kid))
  after-cases now held = elim (Contains-append_cases waits (waits_behind wait.prefix kids) now held) [
    | inl old ↦ inl old
    | inr new ↦ inr (Contains-from (wait_by wait.prefix) kids now new)
  ]

  kid-held : (kid : Kid) → Contains kids kid → Contains after (wait_by wait.prefix kid)
  kid-held kid held = Contains-append_right waits (waits_behind wait.prefix kids) (wait_by wait.prefix kid) (Contains-by (wait_by wait.prefix) kids kid held)

  old-held : (old : Wait) → Contains waits old → Contains (waits ++ wait ∷ []) old
  old-held old held = Contains-append_left waits (wait ∷ []) old held

  -- a row of its own
  own-is : (row : Row) → Contains own row → AreRanked order row.pattern wait.prefix × (row.support ≡ weight_behind states [] wait.loads) × (threshold ≤ row.support)
  own-is row held = elim is_own [
    | inl none ↦ absurd (Contains-none row (subst (λ l. Contains l row) none.0 held))
    | inr some ↦
        let (found, only, enough, its) = some in
        let is : row ≡ found = elim (Contains-cases found [] row (subst (λ l. Contains l row) only held)) [ inl is ↦ is | inr none ↦ absurd (Contains-none row none) ] in (
          subst (λ (r : Row). AreRanked order r.pattern wait.prefix) (sym is) its.ranked,
          ap (λ (r : Row). r.support) is ∙ its.support,
          subst (λ n. threshold ≤ n) (sym (ap (λ (r : Row). r.support) is ∙ its.support)) enough,
        )
  ]

  own-there : (row : Row) → AreRanked order row.pattern wait.prefix → row.support ≡ weight_behind states [] wait.loads → threshold ≤ row.support → Contains own row
  own-there row ranked support enough = elim is_own [
    | inl none ↦ (let light = none.1 in absurd (omega (arith, support, enough, light)))
    | inr some ↦
        let (found, only, heavy, its) = some in
        let pattern : found.pattern ≡ row.pattern = ranked-same order found.pattern row.pattern wait.prefix its.ranked ranked in
        let weight : found.support ≡ row.support = its.support ∙ sym support in
        let is : found ≡ row = λ i. record { pattern = pattern i; support = weight i } in
        subst (λ l. Contains l row) (sym only) (subst (λ (r : Row). Contains (found ∷ []) r) is (Contains-first found []))
  ]

  own-behind : (row : Row) → Contains own row → IsBehind order threshold states wait row
  own-behind row held =
      let (ranked, support, enough) = own-is row held in
      record {
        more = [];
        ranked = subst (AreRanked order row.pattern) (sym (append-nil wait.prefix)) ranked;
        weighed = subst (Weigh (λ k. Accepts states k []) (map load_of wait.loads)) (sym support) (behind-weighs states [] wait.loads);
        enough = enough;
      }

  sound_after : (now : Wait) → Contains after now → IsSound states count most now
  sound_after now held = elim (after-cases now held) [
    | inl old ↦ searching.sound now (old-held now old)
    | inr new ↦ (let (kid, inside, is) = new in
        subst (IsSound states count most) (sym is) (kid-sound states trim count most threshold least wait wait-sound steps same kids are kid (are.each kid inside)))
  ]

  exact_forth : (row : Row) → IsBehind order threshold states all row
      → Contains (rows ++ own) row ⊎ ((now : Wait) × Contains after now × IsBehind order threshold states now row)
  exact_forth row is = elim ((searching.exact row).0 is) [
    | inl found ↦ inl (Contains-append_left rows own row found)
    | inr waits_on ↦
        let (now, held, behind) = waits_on in
        elim (Contains-append_cases waits (wait ∷ []) now held) [
          | inl old ↦ inr (now, Contains-append_left waits (waits_behind wait.prefix kids) now old, behind)
          | inr here ↦ elim (Contains-cases wait [] now here) [
            | inl this ↦ grown (subst (λ w. IsBehind order threshold states w row) this behind)
            | inr none ↦ absurd (Contains-none now none)
          ]
        ]
  ]
    where
      grown : IsBehind order threshold states wait row → Contains (rows ++ own) row ⊎ ((now : Wait) × Contains after now × IsBehind order threshold states now row)
      grown behind = elim (behind-cases states trim count most threshold least wait wait-sound steps same kids are order row behind) [
        | inl its ↦ inl (Contains-append_right rows own row (own-there row its.0 its.1 its.2))
        | inr longer ↦ (let (kid, held, is) = longer in inr (wait_by wait.prefix kid, kid-held kid held, is))
      ]

  exact_back : (row : Row) → Contains (rows ++ own) row ⊎ ((now : Wait) × Contains after now × IsBehind order threshold states now row)
      → IsBehind order threshold states all row
  exact_back row (inl found) = elim (Contains-append_cases rows own row found) [
    | inl old ↦ (searching.exact row).1 (inl old)
    | inr new ↦ (searching.exact row).1 (inr (wait, last, own-behind row new))
  ]
  exact_back row (inr waits_on) =
      let (now, held, behind) = waits_on in
      elim (after-cases now held) [
        | inl old ↦ (searching.exact row).1 (inr (now, old-held now old, behind))
        | inr new ↦ (let (kid, inside, is) = new in
            (searching.exact row).1 (inr (
              wait,
              last,
              behind-kid states trim count most threshold least wait wait-sound steps same kids are order kid inside row
                  (subst (λ w. IsBehind order threshold states w row) is behind),
            )))
      ]

  -- an earlier row does not begin with the prefix
  old-past : (row : Row) → Contains rows row → (more : List ℕ) → AreRanked order row.pattern (wait.prefix ++ more) → ⊥
  old-past row held more ranked = searching.past row held wait last more ranked

  once_after : PatternsDiffer (rows ++ own)
  once_after =
      AllPairs-append (λ (first : Row) (second : Row). first.pattern ≢ second.pattern) rows own searching.once (lone own is_own)
      (λ first second here there pattern.
      old-past first here [] (subst (AreRanked order first.pattern) (sym (append-nil wait.prefix))
      (subst (λ p. AreRanked order p wait.prefix) (sym pattern) (own-is second there).0)))
    where
      lone : (found : List Row) → IsOwn order threshold wait.prefix (weight_behind states [] wait.loads) found → PatternsDiffer found
      lone found (inl none) = subst PatternsDiffer (sym none.0) (λ i j d less within. absurd (omega (arith, less, within)))
      lone found (inr some) = subst PatternsDiffer (sym some.1) (λ i j d less within. absurd (omega (arith, less, within)))

  apart-last : (old : Wait) → Contains waits old → AreApart old.prefix wait.prefix
  apart-last old held = pairs-across (λ (low : Wait) (high : Wait). AreApart low.prefix high.prefix) waits (wait ∷ []) searching.apart old wait held (Contains-first wait [])

  past_after : (row : Row) → Contains (rows ++ own) row → (now : Wait) → Contains after now → IsPast order row now
  past_after row found now held = λ more ranked. elim (Contains-append_cases rows own row found) [
    | inl old_row ↦ elim (after-cases now held) [
      | inl old ↦ searching.past row old_row now (old-held now old) more ranked
      | inr new ↦ (let (kid, inside, is) = new in
          old-past row old_row (kid.rank ∷ more) (subst (AreRanked order row.pattern) (through wait.prefix more kid.rank)
          (subst (λ (w : Wait). AreRanked order row.pattern (w.prefix ++ more)) is ranked)))
    ]
    | inr new_row ↦ elim (after-cases now held) [
      | inl old ↦
          let ranks : now.prefix ++ more ≡ wait.prefix = same_ranks order different row.pattern (now.prefix ++ more) wait.prefix ranked (own-is row new_row).0 in
          apart-last now old more [] (ranks ∙ sym (append-nil wait.prefix))
      | inr new ↦ (let (kid, inside, is) = new in
          let moved : AreRanked order row.pattern ((wait.prefix ++ kid.rank ∷ []) ++ more) = subst (λ (w : Wait). AreRanked order row.pattern (w.prefix ++ more)) is ranked in
          not-behind-itself wait.prefix more kid.rank
          (same_ranks order different row.pattern wait.prefix ((wait.prefix ++ kid.rank ∷ []) ++ more) (own-is row new_row).0 moved))
    ]
  ]

  apart_after : AllPairs (λ (low : Wait) (high : Wait). AreApart low.prefix high.prefix) after
  apart_after =
      AllPairs-append (λ (low : Wait) (high : Wait). AreApart low.prefix high.prefix) waits (waits_behind wait.prefix kids)
      (pairs-front (λ (low : Wait) (high : Wait). AreApart low.prefix high.prefix) waits (wait ∷ []) searching.apart) (kids-apart kids are.rising)
      (λ old new here there. (let (kid, inside, is) = Contains-from (wait_by wait.prefix) kids new there in
      subst (λ (w : Wait). AreApart old.prefix w.prefix) (sym is) (apart-behind old.prefix wait.prefix kid.rank (apart-last old here))))
    where
      kids-apart : (some : List Kid) → AllPairs (λ (low : Kid) (high : Kid). low.rank < high.rank) some
          → AllPairs (λ (low : Wait) (high : Wait). AreApart low.prefix high.prefix) (waits_behind wait.prefix some)
      kids-apart [] rising = λ i j d less within. absurd (omega (arith, less, within))
      kids-apart (kid ∷ some) rising =
          AllPairs-append (λ (low : Wait) (high : Wait). AreApart low.prefix high.prefix) (wait_by wait.prefix kid ∷ []) (waits_behind wait.prefix some)
          (λ i j d less within. absurd (omega (arith, less, within)))
          (kids-apart some (AllPairs-tail (λ (low : Kid) (high : Kid). low.rank < high.rank) kid some rising))
          (λ low high here there. (let (other, inside, is) = Contains-from (wait_by wait.prefix) some high there in
          let first : low ≡ wait_by wait.prefix kid = elim (Contains-cases (wait_by wait.prefix kid) [] low here) [ inl is ↦ is | inr none ↦ absurd (Contains-none low none) ] in
          let less : kid.rank < other.rank = AllPairs-head (λ (low : Kid) (high : Kid). low.rank < high.rank) kid some rising other inside in
          subst (λ (w : Wait). AreApart w.prefix high.prefix) (sym first)
          (subst (λ (w : Wait). AreApart (wait.prefix ++ kid.rank ∷ []) w.prefix) (sym is) (apart-ranks wait.prefix kid.rank other.rank less))))

  -- THE SEARCH GOES ON
  pub search-goes-on : IsSearching order threshold states count most all (waits ++ waits_behind wait.prefix kids) (rows ++ own)
  search-goes-on = record {
    sound = sound_after;
    exact = λ row. (exact_forth row, exact_back row);
    once = once_after;
    past = past_after;
    apart = apart_after;
  }
