-- The depth-first walk over a registry gives the minimal automaton.
use Rattle.std.proofs.Common.{◌≡◌, ◌≢◌, ℕ, zero, suc, ◌≤◌, ◌<◌, ◌⊎◌, inl, inr, Some, List, [], ◌∷◌, ◌++◌, map, length, get_or, refl, sym, ap, ◌∙◌, subst, arith, append_assoc}
use Rattle.std.specs.Prelude.{IsTrue}
use Rattle.std.specs.List.{AllPairs, AllZip, Contains, slice_get}
use Rattle.std.proofs.lemmas.List.{append-nil, append_cancel_left}
use Rattle.std.proofs.lemmas.Bool.{cases_lt}
use Rattle.std.proofs.lemmas.Option.{slice_get_within, get_or_from_slice_get, slice_get-get_or}
use Rattle.mine_model.proofs.ListLemmas.{Contains-cases, Contains-first, Contains-other, Contains-none, Contains-by, Contains-from, AllPairs-tail, AllPairs-head, AllPairs-append}
use Rattle.mine_model.proofs.ElementLemmas.{get-held, same-some}
use Rattle.mine_model.specs.Lists.{IsEarlier}
use Rattle.mine_model.proofs.EarlierLemmas.{prefix-earlier, branch-earlier, earlier-itself, earlier-chain, earlier-both}
use Rattle.std.proofs.lemmas.List.Elements.{Contains-append_left, Contains-append_right, Contains-append_cases}
use Rattle.std.proofs.lemmas.List.Kept.{AllPairs-cons}
use Rattle.automaton_model.specs.Automata.{Edge, StateValue, Accepts}
use Rattle.automaton_model.specs.Codes.{IsPrefixIn, AreNerodeEquivalent, IsFirstVisit, Leads, IsStateAfter, IsMinimalAutomaton}
use Rattle.automaton_model.specs.Registry.{IsRegistry}
use Rattle.automaton_model.specs.Walks.{Reaches, Path, PartsBefore, IsVisited, IsAheadOn, IsWalk, paths_from, IsRenumberedEdge, IsRenumbered}
use Rattle.automaton_model.proofs.ZipLemmas.{zip-first, zip-second}
use Rattle.automaton_model.proofs.RegistryLemmas.{rank_same, registry-same, stands}

-- The order of prefixes

-- what goes on from a prefix does not come before it
pub not_before : (q more : List ℕ) → IsEarlier (q ++ more) q → ⊥
not_before q [] less = earlier-itself q (subst (λ l. IsEarlier l q) (append-nil q) less)
not_before q (w ∷ more) less = earlier-both q (q ++ w ∷ more) (prefix-earlier q w more) less

parts_earlier : (x y more : List ℕ) → PartsBefore x y → IsEarlier x (y ++ more)
parts_earlier x y more p =
    let moved : y ++ more ≡ p.common ++ p.high ∷ (p.right ++ more) = ap (λ l. l ++ more) p.second_is ∙ append_assoc p.common (p.high ∷ p.right) more in
    subst (λ l. IsEarlier l (y ++ more)) (sym p.first_is) (subst (IsEarlier (p.common ++ p.low ∷ p.left)) (sym moved)
    (branch-earlier p.common p.low p.high p.left (p.right ++ more) p.less))

parts_order : (x y : List ℕ) → PartsBefore x y → IsEarlier x y
parts_order x y p = subst (IsEarlier x) (append-nil y) (parts_earlier x y [] p)

-- two paths to cut a list
cut_cases : (xs ys us vs : List ℕ) → xs ++ ys ≡ us ++ vs
    → ((t : List ℕ) × (us ≡ xs ++ t) × (ys ≡ t ++ vs)) ⊎ ((r : ℕ) × (t : List ℕ) × (xs ≡ us ++ r ∷ t))
cut_cases [] ys us vs same = inl (us, refl, same)
cut_cases (x ∷ xs) ys [] vs same = inr (x, xs, refl)
cut_cases (x ∷ xs) ys (u ∷ us) vs same =
    let first : x ≡ u = cc in
    let rest : xs ++ ys ≡ us ++ vs = cc in
    elim (cut_cases xs ys us vs rest) [
      | inl one ↦ (let (t, is, tail) = one in inl (t, (λ i. sym first i ∷ is i), tail))
      | inr two ↦ (let (r, t, is) = two in inr (r, t, (λ i. first i ∷ is i)))
    ]

module _ (states : List StateValue) (registry : IsRegistry states) where
  -- Paths

  pub reaches-join : (xs ys : List ℕ) (i j k : ℕ) → Reaches states i xs j → Reaches states j ys k → Reaches states i (xs ++ ys) k
  reaches-join [] ys i j k p q = subst (λ n. Reaches states n ys k) (sym p) q
  reaches-join (w ∷ xs) ys i j k (s, e, is, held, rank, next) q = (s, e, is, held, rank, reaches-join xs ys e.to j k next q)

  reaches-accepts : (xs ys : List ℕ) (i j : ℕ) → Reaches states i xs j → Accepts states j ys → Accepts states i (xs ++ ys)
  reaches-accepts [] ys i j p q = subst (λ n. Accepts states n ys) (sym p) q
  reaches-accepts (w ∷ xs) ys i j (s, e, is, held, rank, next) q = (s, e, is, held, rank, reaches-accepts xs ys e.to j next q)

  -- one edge for each rank
  pub edge_one : (i : ℕ) (s t : StateValue) (e f : Edge) → slice_get states i ≡ Some s → slice_get states i ≡ Some t → Contains s.edges e → Contains t.edges f → e.rank ≡ f.rank → e ≡ f
  edge_one i s t e f p q here there same =
      let moved : Contains s.edges f = subst (λ (x : StateValue). Contains x.edges f) (same-some t s (slice_get states i) q p) there in
      rank_same states registry s.edges (registry.kept i s p).rising e f here moved same

  accepts-after : (xs ys : List ℕ) (i j : ℕ) → Reaches states i xs j → Accepts states i (xs ++ ys) → Accepts states j ys
  accepts-after [] ys i j p q = subst (λ n. Accepts states n ys) p q
  accepts-after (w ∷ xs) ys i j (s, e, is, held, rank, next) (t, f, also, inside, rank2, there) =
      let one : f ≡ e = edge_one i t s f e also is inside held (rank2 ∙ sym rank) in
      accepts-after xs ys e.to j next (subst (λ (x : Edge). Accepts states x.to (xs ++ ys)) one there)

  reaches-after : (xs ys : List ℕ) (i j k : ℕ) → Reaches states i xs j → Reaches states i (xs ++ ys) k → Reaches states j ys k
  reaches-after [] ys i j k p q = subst (λ n. Reaches states n ys k) p q
  reaches-after (w ∷ xs) ys i j k (s, e, is, held, rank, next) (t, f, also, inside, rank2, there) =
      let one : f ≡ e = edge_one i t s f e also is inside held (rank2 ∙ sym rank) in
      reaches-after xs ys e.to j k next (subst (λ (x : Edge). Reaches states x.to (xs ++ ys) k) one there)

  -- a path leads to earlier states
  reaches-down : (xs : List ℕ) (i j : ℕ) → Reaches states i xs j → j ≤ i
  reaches-down [] i j p = omega (arith, p)
  reaches-down (w ∷ xs) i j (s, e, is, held, rank, next) =
      omega (arith, (registry.kept i s is).back e held, reaches-down xs e.to j next)

  no_circle : (w : ℕ) (xs : List ℕ) (i : ℕ) → Reaches states i (w ∷ xs) i → ⊥
  no_circle w xs i (s, e, is, held, rank, next) =
      omega (arith, (registry.kept i s is).back e held, reaches-down xs e.to i next)

  no_circle_behind : (t : List ℕ) (w : ℕ) (xs : List ℕ) (i : ℕ) → Reaches states i (t ++ w ∷ xs) i → ⊥
  no_circle_behind [] w xs i circle = no_circle w xs i circle
  no_circle_behind (v ∷ t) w xs i circle = no_circle v (t ++ w ∷ xs) i circle

  -- what is accepted goes by a state
  accepts-by : (xs ys : List ℕ) (i : ℕ) → Accepts states i (xs ++ ys) → (j : ℕ) × Reaches states i xs j × Accepts states j ys
  accepts-by [] ys i p = (i, refl, p)
  accepts-by (w ∷ xs) ys i (s, e, is, held, rank, next) =
      let (j, reached, rest) = accepts-by xs ys e.to next in (j, (s, e, is, held, rank, reached), rest)

  -- a state that a path of one edge or more leads to accepts something
  alive-behind : (w : ℕ) (xs : List ℕ) (i j : ℕ) → Reaches states i (w ∷ xs) j → (more : List ℕ) × Accepts states j more
  alive-behind w [] i j (s, e, is, held, rank, next) =
      let (more, accepts) = (registry.kept i s is).alive e held in (more, subst (λ n. Accepts states n more) next accepts)
  alive-behind w (v ∷ xs) i j (s, e, is, held, rank, next) = alive-behind v xs e.to j next

  module _ (root : ℕ) where
    -- THE WALK begins with the empty path
    pub walk-begin : IsWalk states root [] (record { prefix = []; state = root } ∷ [])
    walk-begin = record {
      order = λ i j e less inside. absurd (omega (arith, inside));
      once = λ i j e less inside. absurd (omega (arith, inside));
      ahead = λ visit path held there. absurd (Contains-none visit held);
      part = λ i j e less inside. absurd (omega (arith, less, inside));
      visited = λ visit held. absurd (Contains-none visit held);
      reached = λ path held. elim (Contains-cases (record { prefix = []; state = root }) [] path held) [
        | inl same ↦ subst (λ (w : Path). Reaches states root w.prefix w.state) (sym same) refl
        | inr none ↦ absurd (Contains-none path none)
      ];
      first = λ visit prefix held. absurd (Contains-none visit held);
      all = λ prefix to reached. inr (record { prefix = []; state = root }, prefix, Contains-first (record { prefix = []; state = root }) [], refl, reached);
    }

    module _ (visits : List Path) (path : Path) (waiting : List Path) (walk : IsWalk states root visits (path ∷ waiting)) where
      parted : (other : Path) → Contains waiting other → PartsBefore path.prefix other.prefix
      parted other held = AllPairs-head (λ (first : Path) (second : Path). PartsBefore first.prefix second.prefix) path waiting walk.part other held

      here : Contains (path ∷ waiting) path
      here = Contains-first path waiting

      -- a state that was visited before: what is ahead on this path was ahead on the earlier one, and is visited
      no_other : (visit : Path) → Contains visits visit → visit.state ≡ path.state → (other : Path) (u : List ℕ) → Contains (path ∷ waiting) other → other.prefix ≡ visit.prefix ++ u → ⊥
      no_other visit held same other u inside cut = elim (Contains-cases path waiting other inside) [
        | inl is_way ↦ circle u (sym (ap (λ (w : Path). w.prefix) is_way) ∙ cut)
        | inr later ↦ behind (parted other later)
      ]
        where
          before : IsEarlier visit.prefix path.prefix
          before = walk.ahead visit path held here

          circle : (t : List ℕ) → path.prefix ≡ visit.prefix ++ t → ⊥
          circle [] is = earlier-itself path.prefix (subst (λ l. IsEarlier l path.prefix) (sym (is ∙ append-nil visit.prefix)) before)
          circle (w ∷ t) is =
              no_circle w t visit.state (reaches-after visit.prefix (w ∷ t) root visit.state visit.state (walk.visited visit held)
              (subst (λ n. Reaches states root (visit.prefix ++ w ∷ t) n) (sym same) (subst (λ l. Reaches states root l path.state) is (walk.reached path here))))

          behind : PartsBefore path.prefix other.prefix → ⊥
          behind p = elim (cut_cases visit.prefix u p.common (p.high ∷ p.right) (sym cut ∙ p.second_is)) [
            | inl one ↦ (let (t, is, tail) = one in
                circle (t ++ p.low ∷ p.left) (p.first_is ∙ ap (λ l. l ++ p.low ∷ p.left) is ∙ append_assoc visit.prefix t (p.low ∷ p.left)))
            | inr two ↦ (let (r, t, is) = two in
                let tail : (r ∷ t) ++ u ≡ p.high ∷ p.right = append_cancel_left p.common ((r ∷ t) ++ u) (p.high ∷ p.right)
                (sym (append_assoc p.common (r ∷ t) u) ∙ ap (λ l. l ++ u) (sym is) ∙ sym cut ∙ p.second_is) in
                let rank : r ≡ p.high = cc in
                let less : p.low < r = omega (arith, p.less, rank) in
                earlier-both path.prefix visit.prefix
                (subst (λ l. IsEarlier l visit.prefix) (sym p.first_is) (subst (IsEarlier (p.common ++ p.low ∷ p.left)) (sym is) (branch-earlier p.common p.low r p.left t less)))
                before)
          ]

      -- A STATE THAT WAS VISITED is passed
      pub walk-skip : IsVisited visits path.state → IsWalk states root visits waiting
      walk-skip (visit, held, same) = record {
        order = walk.order;
        once = walk.once;
        ahead = λ v w inside there. walk.ahead v w inside (Contains-other path waiting w there);
        part = AllPairs-tail (λ (first : Path) (second : Path). PartsBefore first.prefix second.prefix) path waiting walk.part;
        visited = walk.visited;
        reached = λ w there. walk.reached w (Contains-other path waiting w there);
        first = walk.first;
        all = λ prefix to reached. elim (walk.all prefix to reached) [
          | inl done ↦ inl done
          | inr open_one ↦ (let (other, more, inside, cut, rest) = open_one in elim (Contains-cases path waiting other inside) [
            | inl is_way ↦
                let rest_here : Reaches states visit.state more to = subst (λ n. Reaches states n more to) (ap (λ (w : Path). w.state) is_way ∙ sym same) rest in
                inl (again more to rest_here)
            | inr later ↦ inr (other, more, later, cut, rest)
          ])
        ];
      }
        where
          again : (more : List ℕ) (to : ℕ) → Reaches states visit.state more to → IsVisited visits to
          again more to rest = elim (walk.all (visit.prefix ++ more) to (reaches-join visit.prefix more root visit.state to (walk.visited visit held) rest)) [
            | inl done ↦ done
            | inr open_one ↦ (let (other, u, inside, cut, after) = open_one in elim (cut_cases visit.prefix more other.prefix u cut) [
              | inl one ↦ (let (t, is, tail) = one in absurd (no_other visit held same other t inside is))
              | inr two ↦ (let (r, t, is) = two in absurd (not_before other.prefix (r ∷ t) (subst (λ l. IsEarlier l other.prefix) is (walk.ahead visit other held inside))))
            ])
          ]

      -- A STATE THAT WAS NOT VISITED is visited, and the paths by its edges wait
      module _ (fresh : IsVisited visits path.state → ⊥) (s : StateValue) (is : slice_get states path.state ≡ Some s) where
        abbrev kids : List Path
        kids = paths_from path s.edges

        step_of : Edge → Path
        step_of edge = record { prefix = path.prefix ++ edge.rank ∷ []; state = edge.to }

        kid_of : (kid : Path) → Contains kids kid → (edge : Edge) × Contains s.edges edge × (kid.prefix ≡ path.prefix ++ edge.rank ∷ []) × (kid.state ≡ edge.to)
        kid_of kid held =
            let (edge, inside, same) = Contains-from (λ (edge : Edge). record { prefix = path.prefix ++ edge.rank ∷ []; state = edge.to }) s.edges kid held in
            (edge, inside, ap (λ (w : Path). w.prefix) same, ap (λ (w : Path). w.state) same)

        of_edge : (edge : Edge) → Contains s.edges edge → Contains kids (record { prefix = path.prefix ++ edge.rank ∷ []; state = edge.to })
        of_edge edge held = Contains-by (λ (edge : Edge). record { prefix = path.prefix ++ edge.rank ∷ []; state = edge.to }) s.edges edge held

        kids_part : (edges : List Edge) → AllPairs (λ (low : Edge) (high : Edge). low.rank < high.rank) edges
            → AllPairs (λ (first : Path) (second : Path). PartsBefore first.prefix second.prefix) (paths_from path edges)
        kids_part [] rising = λ i j e less inside. absurd (omega (arith, inside))
        kids_part (e ∷ edges) rising =
            AllPairs-cons (λ (first : Path) (second : Path). PartsBefore first.prefix second.prefix) (record { prefix = path.prefix ++ e.rank ∷ []; state = e.to }) (paths_from path edges)
            (λ k d below. first_parts (get_or (paths_from path edges) k d) (k, below, get_or_same (paths_from path edges) k d below))
            (kids_part edges (AllPairs-tail (λ (low : Edge) (high : Edge). low.rank < high.rank) e edges rising))
          where
            get_or_same : (xs : List Path) (k : ℕ) (d : Path) → k < length xs → get_or xs k (get_or xs k d) ≡ get_or xs k d
            get_or_same xs k d below = get_or_from_slice_get xs k (get_or xs k d) (get_or xs k d) (slice_get-get_or xs k d below)

            first_parts : (kid : Path) → Contains (paths_from path edges) kid → PartsBefore (path.prefix ++ e.rank ∷ []) kid.prefix
            first_parts kid held =
                let (f, inside, same) = Contains-from (λ (edge : Edge). record { prefix = path.prefix ++ edge.rank ∷ []; state = edge.to }) edges kid held in
                record {
                  common = path.prefix;
                  low = e.rank;
                  high = f.rank;
                  less = AllPairs-head (λ (low : Edge) (high : Edge). low.rank < high.rank) e edges rising f inside;
                  left = [];
                  right = [];
                  first_is = refl;
                  second_is = ap (λ (w : Path). w.prefix) same;
                }

        kid_parts : (kid other : Path) → Contains kids kid → Contains waiting other → PartsBefore kid.prefix other.prefix
        kid_parts kid other held there =
            let (edge, inside, prefix_is, state_is) = kid_of kid held in
            let p = parted other there in
            record {
              common = p.common;
              low = p.low;
              high = p.high;
              less = p.less;
              left = p.left ++ edge.rank ∷ [];
              right = p.right;
              first_is = prefix_is ∙ ap (λ l. l ++ edge.rank ∷ []) p.first_is ∙ append_assoc p.common (p.low ∷ p.left) (edge.rank ∷ []);
              second_is = p.second_is;
            }

        seen_cases : (visit : Path) → Contains (visits ++ path ∷ []) visit → Contains visits visit ⊎ (visit ≡ path)
        seen_cases visit held = elim (Contains-append_cases visits (path ∷ []) visit held) [
          | inl old ↦ inl old
          | inr last ↦ elim (Contains-cases path [] visit last) [ inl same ↦ inr same | inr none ↦ absurd (Contains-none visit none) ]
        ]

        one_only : (R : Path → Path → Type 0) → AllPairs R (path ∷ [])
        one_only R i j e less inside = absurd (omega (arith, less, inside))

        still : (visit : Path) → Contains visits visit → Contains (visits ++ path ∷ []) visit
        still visit held = Contains-append_left visits (path ∷ []) visit held

        now_seen : Contains (visits ++ path ∷ []) path
        now_seen = Contains-append_right visits (path ∷ []) path (Contains-first path [])

        way_before : (other : Path) → Contains (kids ++ waiting) other → IsEarlier path.prefix other.prefix
        way_before other held = elim (Contains-append_cases kids waiting other held) [
          | inl kid ↦ (let (edge, inside, prefix_is, state_is) = kid_of other kid in subst (IsEarlier path.prefix) (sym prefix_is) (prefix-earlier path.prefix edge.rank []))
          | inr old ↦ parts_order path.prefix other.prefix (parted other old)
        ]

        -- nothing that leads to the state comes before the path
        nothing_before : (prefix : List ℕ) → IsEarlier prefix path.prefix → Reaches states root prefix path.state → ⊥
        nothing_before prefix less reached = elim (walk.all prefix path.state reached) [
          | inl done ↦ fresh done
          | inr open_one ↦ (let (other, more, inside, cut, rest) = open_one in elim (Contains-cases path waiting other inside) [
            | inl is_way ↦ not_before path.prefix more (subst (λ l. IsEarlier l path.prefix) (cut ∙ ap (λ (w : Path). w.prefix ++ more) is_way) less)
            | inr later ↦ earlier-both prefix path.prefix less (subst (IsEarlier path.prefix) (sym cut) (parts_earlier path.prefix other.prefix more (parted other later)))
          ])
        ]

        pub walk-visit : IsWalk states root (visits ++ path ∷ []) (kids ++ waiting)
        walk-visit = record {
          order = AllPairs-append (λ (low : Path) (high : Path). IsEarlier low.prefix high.prefix) visits (path ∷ []) walk.order (one_only (λ (low : Path) (high : Path). IsEarlier low.prefix high.prefix))
              (λ x y held last. elim (Contains-cases path [] y last) [
                | inl same ↦ subst (λ (w : Path). IsEarlier x.prefix w.prefix) (sym same) (walk.ahead x path held here)
                | inr none ↦ absurd (Contains-none y none)
              ]);
          once = AllPairs-append (λ (one : Path) (other : Path). one.state ≢ other.state) visits (path ∷ []) walk.once (one_only (λ (one : Path) (other : Path). one.state ≢ other.state))
              (λ x y held last. elim (Contains-cases path [] y last) [
                | inl same ↦ (λ equal. fresh (x, held, equal ∙ ap (λ (w : Path). w.state) same))
                | inr none ↦ absurd (Contains-none y none)
              ]);
          ahead = λ visit other held there. elim (seen_cases visit held) [
            | inl old ↦ earlier-chain visit.prefix path.prefix other.prefix (walk.ahead visit path old here) (way_before other there)
            | inr same ↦ subst (λ (w : Path). IsEarlier w.prefix other.prefix) (sym same) (way_before other there)
          ];
          part = AllPairs-append (λ (first : Path) (second : Path). PartsBefore first.prefix second.prefix) kids waiting (kids_part s.edges (registry.kept path.state s is).rising)
              (AllPairs-tail (λ (first : Path) (second : Path). PartsBefore first.prefix second.prefix) path waiting walk.part) kid_parts;
          visited = λ visit held. elim (seen_cases visit held) [
            | inl old ↦ walk.visited visit old
            | inr same ↦ subst (λ (w : Path). Reaches states root w.prefix w.state) (sym same) (walk.reached path here)
          ];
          reached = λ other held. elim (Contains-append_cases kids waiting other held) [
            | inl kid ↦ (let (edge, inside, prefix_is, state_is) = kid_of other kid in
                subst (λ l. Reaches states root l other.state) (sym prefix_is)
                (reaches-join path.prefix (edge.rank ∷ []) root path.state other.state (walk.reached path here) (s, edge, is, inside, refl, sym state_is)))
            | inr old ↦ walk.reached other (Contains-other path waiting other old)
          ];
          first = λ visit prefix held less reached. elim (seen_cases visit held) [
            | inl old ↦ walk.first visit prefix old less reached
            | inr same ↦ nothing_before prefix (subst (λ (w : Path). IsEarlier prefix w.prefix) same less) (subst (λ (w : Path). Reaches states root prefix w.state) same reached)
          ];
          all = λ prefix to reached. elim (walk.all prefix to reached) [
            | inl done ↦ (let (visit, held, same) = done in inl (visit, still visit held, same))
            | inr open_one ↦ (let (other, more, inside, cut, rest) = open_one in elim (Contains-cases path waiting other inside) [
              | inl is_way ↦ onward prefix to more (cut ∙ ap (λ (w : Path). w.prefix ++ more) is_way) (subst (λ (w : Path). Reaches states w.state more to) is_way rest)
              | inr later ↦ inr (other, more, Contains-append_right kids waiting other later, cut, rest)
            ])
          ];
        }
          where
            onward : (prefix : List ℕ) (to : ℕ) (more : List ℕ) → prefix ≡ path.prefix ++ more → Reaches states path.state more to
                → IsVisited (visits ++ path ∷ []) to ⊎ IsAheadOn states (kids ++ waiting) prefix to
            onward prefix to [] cut rest = inl (path, now_seen, rest)
            onward prefix to (w ∷ more) cut (t, edge, also, inside, rank, next) =
                let held : Contains s.edges edge = subst (λ (x : StateValue). Contains x.edges edge) (same-some t s (slice_get states path.state) also is) inside in
                inr (
                  record { prefix = path.prefix ++ edge.rank ∷ []; state = edge.to },
                  more,
                  Contains-append_left kids waiting (record { prefix = path.prefix ++ edge.rank ∷ []; state = edge.to }) (of_edge edge held),
                  cut ∙ ap (λ r. path.prefix ++ r ∷ more) (sym rank) ∙ sym (append_assoc path.prefix (edge.rank ∷ []) more),
                  next,
                )

    -- THE END: what was visited, with the numbers of the visits, is the minimal automaton
    module _ (visits : List Path) (walk : IsWalk states root visits []) (some : StateValue) (some_is : slice_get states root ≡ Some some)
        (new : List StateValue) (zip : AllZip (IsRenumbered states visits) visits new) where
      abbrev Member : List ℕ → Type 0
      Member ranks = Accepts states root ranks

      visit_of : (prefix : List ℕ) (to : ℕ) → Reaches states root prefix to → IsVisited visits to
      visit_of prefix to reached = elim (walk.all prefix to reached) [
        | inl done ↦ done
        | inr open_one ↦ (let (path, more, inside, cut, rest) = open_one in absurd (Contains-none path inside))
      ]

      -- what begins a member leads to a state
      begun : (prefix : List ℕ) → IsPrefixIn Member prefix → (to : ℕ) × Reaches states root prefix to
      begun prefix (inl none) = (root, subst (λ l. Reaches states root l root) (sym none) refl)
      begun prefix (inr (more, member)) = let (to, reached, rest) = accepts-by prefix more root member in (to, reached)

      -- paths to one state have one rest, and paths with one rest lead to one state
      rest_of_one : (x y : List ℕ) (i j : ℕ) → Reaches states root x i → Reaches states root y j → i ≡ j → AreNerodeEquivalent Member x y
      rest_of_one x y i j p q same = λ more. (
        (λ m. reaches-accepts y more root j q (subst (λ n. Accepts states n more) same (accepts-after x more root i p m))),
        (λ m. reaches-accepts x more root i p (subst (λ n. Accepts states n more) (sym same) (accepts-after y more root j q m))),
      )

      standing : (x : List ℕ) (i : ℕ) → Reaches states root x i → (s : StateValue) × (slice_get states i ≡ Some s)
      standing [] i p = (some, subst (λ n. slice_get states n ≡ Some some) p some_is)
      standing (w ∷ x) i p = let (more, accepts) = alive-behind w x root i p in stands states i more accepts

      one_of_rest : (x y : List ℕ) (i j : ℕ) → Reaches states root x i → Reaches states root y j → AreNerodeEquivalent Member x y → i ≡ j
      one_of_rest x y i j p q same =
          let (s, s_is) = standing x i p in
          let (t, t_is) = standing y j q in
          registry-same states registry i j s t s_is t_is (λ more. (
            (λ a. accepts-after y more root j q ((same more).0 (reaches-accepts x more root i p a))),
            (λ a. accepts-after x more root i p ((same more).1 (reaches-accepts y more root j q a))),
          ))

      abbrev prefixes : List (List ℕ)
      prefixes = map (λ (visit : Path). visit.prefix) visits

      -- the visit whose prefix stands at this place
      visit_at : (k : ℕ) (prefix : List ℕ) → slice_get prefixes k ≡ Some prefix → (visit : Path) × (slice_get visits k ≡ Some visit) × (visit.prefix ≡ prefix)
      visit_at k prefix at = go visits k at
        where
          go : (xs : List Path) (k : ℕ) → slice_get (map (λ (visit : Path). visit.prefix) xs) k ≡ Some prefix → (visit : Path) × (slice_get xs k ≡ Some visit) × (visit.prefix ≡ prefix)
          go [] k at = absurd (cc)
          go (x ∷ xs) zero at = (x, refl, cc)
          go (x ∷ xs) (suc k) at = go xs k at

      at_visit : (k : ℕ) (visit : Path) → slice_get visits k ≡ Some visit → slice_get prefixes k ≡ Some visit.prefix
      at_visit k visit at = go visits k at
        where
          go : (xs : List Path) (k : ℕ) → slice_get xs k ≡ Some visit → slice_get (map (λ (v : Path). v.prefix) xs) k ≡ Some visit.prefix
          go [] k at = absurd (cc)
          go (x ∷ xs) zero at = let same : x ≡ visit = cc in ap (λ (v : Path). Some v.prefix) same
          go (x ∷ xs) (suc k) at = go xs k at

      rising_prefixes : (xs : List Path) → AllPairs (λ (low : Path) (high : Path). IsEarlier low.prefix high.prefix) xs → AllPairs IsEarlier (map (λ (v : Path). v.prefix) xs)
      rising_prefixes [] order = λ i j e less inside. absurd (omega (arith, inside))
      rising_prefixes (x ∷ xs) order =
          AllPairs-cons IsEarlier x.prefix (map (λ (v : Path). v.prefix) xs)
          (λ k d below. behind (get_or (map (λ (v : Path). v.prefix) xs) k d) (k, below, get_or_from_slice_get (map (λ (v : Path). v.prefix) xs) k (get_or (map (λ (v : Path). v.prefix) xs) k d) (get_or (map (λ (v : Path). v.prefix) xs) k d) (slice_get-get_or (map (λ (v : Path). v.prefix) xs) k d below)))
          (rising_prefixes xs (AllPairs-tail (λ (low : Path) (high : Path). IsEarlier low.prefix high.prefix) x xs order))
        where
          behind : (prefix : List ℕ) → Contains (map (λ (v : Path). v.prefix) xs) prefix → IsEarlier x.prefix prefix
          behind prefix held =
              let (v, inside, same) = Contains-from (λ (v : Path). v.prefix) xs prefix held in
              subst (IsEarlier x.prefix) (sym same) (AllPairs-head (λ (low : Path) (high : Path). IsEarlier low.prefix high.prefix) x xs order v inside)

      -- a state has one visit
      one_visit : (k l : ℕ) (v w : Path) → slice_get visits k ≡ Some v → slice_get visits l ≡ Some w → v.state ≡ w.state → k ≡ l
      one_visit k l v w p q same = elim (cases_lt k l) [
        | inl less ↦ absurd (walk.once k l v less (slice_get_within visits l w q)
            (ap (λ (x : Path). x.state) (get_or_from_slice_get visits k v v p) ∙ same ∙ sym (ap (λ (x : Path). x.state) (get_or_from_slice_get visits l w v q))))
        | inr more ↦ elim (cases_lt l k) [
          | inl less ↦ absurd (walk.once l k v less (slice_get_within visits k v p)
              (ap (λ (x : Path). x.state) (get_or_from_slice_get visits l w v q) ∙ sym same ∙ sym (ap (λ (x : Path). x.state) (get_or_from_slice_get visits k v v p))))
          | inr least ↦ omega (arith, more, least)
        ]
      ]

      edges_rise : (es fs : List Edge) → AllZip (IsRenumberedEdge visits) es fs → AllPairs (λ (low : Edge) (high : Edge). low.rank < high.rank) es → AllPairs (λ (low : Edge) (high : Edge). low.rank < high.rank) fs
      edges_rise [] [] zip rising = λ i j e less inside. absurd (omega (arith, inside))
      edges_rise [] (f ∷ fs) zip rising = absurd zip
      edges_rise (e ∷ es) [] zip rising = absurd zip
      edges_rise (e ∷ es) (f ∷ fs) zip rising =
          AllPairs-cons (λ (low : Edge) (high : Edge). low.rank < high.rank) f fs
          (λ k d below. behind (get_or fs k d) (k, below, get_or_from_slice_get fs k (get_or fs k d) (get_or fs k d) (slice_get-get_or fs k d below)))
          (edges_rise es fs zip.1 (AllPairs-tail (λ (low : Edge) (high : Edge). low.rank < high.rank) e es rising))
        where
          behind : (g : Edge) → Contains fs g → f.rank < g.rank
          behind g held =
              let (h, inside, is) = zip-second (IsRenumberedEdge visits) es fs zip.1 g held in
              let less : e.rank < h.rank = AllPairs-head (λ (low : Edge) (high : Edge). low.rank < high.rank) e es rising h inside in
              let first : f.rank ≡ e.rank = zip.0.rank in
              omega (arith, less, first, is.rank)

      state_after : (visit : Path) → Contains visits visit → (new_state : StateValue) → IsRenumbered states visits visit new_state → IsStateAfter Member prefixes visit.prefix new_state
      state_after visit held new_state is =
          let reached : Reaches states root visit.prefix visit.state = walk.visited visit held in
          record {
            accepts = (
              (λ flag. subst Member (append-nil visit.prefix) (reaches-accepts visit.prefix [] root visit.state reached (is.old, is.old_is, subst IsTrue is.accepts flag))),
              (λ member. flag_back (accepts-after visit.prefix [] root visit.state reached (subst Member (sym (append-nil visit.prefix)) member))),
            );
            rising = edges_rise is.old.edges new_state.edges is.edges (registry.kept visit.state is.old is.old_is).rising;
            exact = λ edge. (there edge, back edge);
          }
        where
          flag_back : Accepts states visit.state [] → IsTrue new_state.accepts
          flag_back (t, also, accepts) = subst IsTrue (sym is.accepts) (subst (λ (x : StateValue). IsTrue x.accepts) (same-some t is.old (slice_get states visit.state) also is.old_is) accepts)

          on : (e : Edge) → Contains is.old.edges e → Reaches states root (visit.prefix ++ e.rank ∷ []) e.to
          on e inside = reaches-join visit.prefix (e.rank ∷ []) root visit.state e.to (walk.visited visit held) (is.old, e, is.old_is, inside, refl, refl)

          there : (edge : Edge) → Contains new_state.edges edge → Leads Member prefixes visit.prefix edge
          there edge inside =
              let (e, old_one, renumbered) = zip-second (IsRenumberedEdge visits) is.old.edges new_state.edges is.edges edge inside in
              let (more, accepts) = (registry.kept visit.state is.old is.old_is).alive e old_one in
              let target : Reaches states root renumbered.visit.prefix renumbered.visit.state = walk.visited renumbered.visit (get-held visits edge.to renumbered.visit renumbered.numbered) in
              record {
                more = more;
                begins = subst (λ r. Member (visit.prefix ++ r ∷ more)) (sym renumbered.rank)
                    (reaches-accepts visit.prefix (e.rank ∷ more) root visit.state (walk.visited visit held) (is.old, e, is.old_is, old_one, refl, accepts));
                first = renumbered.visit.prefix;
                numbered = at_visit edge.to renumbered.visit renumbered.numbered;
                same = subst (λ r. AreNerodeEquivalent Member renumbered.visit.prefix (visit.prefix ++ r ∷ [])) (sym renumbered.rank)
                    (rest_of_one renumbered.visit.prefix (visit.prefix ++ e.rank ∷ []) renumbered.visit.state e.to target (on e old_one) renumbered.same);
              }

          back : (edge : Edge) → Leads Member prefixes visit.prefix edge → Contains new_state.edges edge
          back edge leads =
              let (t, e, also, inside, rank, accepts) = accepts-after visit.prefix (edge.rank ∷ leads.more) root visit.state (walk.visited visit held) leads.begins in
              let old_one : Contains is.old.edges e = subst (λ (x : StateValue). Contains x.edges e) (same-some t is.old (slice_get states visit.state) also is.old_is) inside in
              let (f, new_one, renumbered) = zip-first (IsRenumberedEdge visits) is.old.edges new_state.edges is.edges e old_one in
              let (v, v_at, v_is) = visit_at edge.to leads.first leads.numbered in
              let v_reached : Reaches states root leads.first v.state = subst (λ l. Reaches states root l v.state) v_is (walk.visited v (get-held visits edge.to v v_at)) in
              let moved : Reaches states root (visit.prefix ++ edge.rank ∷ []) e.to = subst (λ r. Reaches states root (visit.prefix ++ r ∷ []) e.to) rank (on e old_one) in
              let one : v.state ≡ e.to = one_of_rest leads.first (visit.prefix ++ edge.rank ∷ []) v.state e.to v_reached moved leads.same in
              let to : f.to ≡ edge.to = one_visit f.to edge.to renumbered.visit v renumbered.numbered v_at (renumbered.same ∙ sym one) in
              let ranks : f.rank ≡ edge.rank = renumbered.rank ∙ rank in
              let same : f ≡ edge = (λ i. record { rank = ranks i; to = to i }) in
              subst (Contains new_state.edges) same new_one

      all_after : (part : List Path) (news : List StateValue) → ((visit : Path) → Contains part visit → Contains visits visit) → AllZip (IsRenumbered states visits) part news
          → AllZip (IsStateAfter Member prefixes) (map (λ (v : Path). v.prefix) part) news
      all_after [] [] among zips = tt
      all_after [] (n ∷ news) among zips = absurd zips
      all_after (v ∷ part) [] among zips = absurd zips
      all_after (v ∷ part) (n ∷ news) among zips =
          (state_after v (among v (Contains-first v part)) n zips.0, all_after part news (λ w held. among w (Contains-other v part w held)) zips.1)

      begins_visit : (visit : Path) → Contains visits visit → IsPrefixIn Member visit.prefix
      begins_visit visit held = go visit.prefix (walk.visited visit held)
        where
          go : (prefix : List ℕ) → Reaches states root prefix visit.state → IsPrefixIn Member prefix
          go [] reached = inl refl
          go (w ∷ prefix) reached =
              let (more, accepts) = alive-behind w prefix root visit.state reached in
              inr (more, reaches-accepts (w ∷ prefix) more root visit.state reached accepts)

      pub walk-end : IsMinimalAutomaton Member new
      walk-end = record {
        visits = prefixes;
        rising = rising_prefixes visits walk.order;
        first = λ prefix held. (let (visit, inside, same) = Contains-from (λ (v : Path). v.prefix) visits prefix held in subst (IsFirstVisit Member) (sym same) (record {
          begins = begins_visit visit inside;
          new = λ earlier less begins rests.
              (let (to, reached) = begun earlier begins in
              let one : to ≡ visit.state = one_of_rest earlier visit.prefix to visit.state reached (walk.visited visit inside) rests in
              walk.first visit earlier inside less (subst (Reaches states root earlier) one reached));
        }));
        all = λ prefix begins.
            (let (to, reached) = begun prefix begins in
            let (visit, inside, same) = visit_of prefix to reached in
            (visit.prefix, Contains-by (λ (v : Path). v.prefix) visits visit inside, rest_of_one visit.prefix prefix visit.state to (walk.visited visit inside) reached same));
        state = all_after visits new (λ visit held. held) zip;
      }
