-- Fronts of lists, and how a walk goes on from them.
use Rattle.std.proofs.Common.{◌≡◌, ◌≢◌, ℕ, ◌+◌, ◌≤◌, ◌<◌, ◌⊎◌, ◌↔◌, inl, inr, Bool, false, IsTrue, Option, Some, List, [], ◌∷◌, ◌++◌, length, get_or, slice_get, refl, sym, ap, subst, ◌∙◌, arith, true≢false, append_assoc}
use Rattle.std.specs.List.{Contains, AllPairs}
use Rattle.std.proofs.lemmas.List.{append-nil, same_from_push}
use Rattle.std.proofs.lemmas.List.Elements.{Contains-append_left, Contains-append_right, Contains-append_cases}
use Rattle.std.proofs.lemmas.Option.{same_Some, slice_get_within, get_or_from_slice_get}
use Rattle.mine_model.specs.Names.{AreDistinct}
use Rattle.mine_model.proofs.ListLemmas.{Contains-cases, Contains-first, Contains-none, AllPairs-append}
use Rattle.mine_model.proofs.ElementLemmas.{get-held, get-left}
use Rattle.candidate_graph.specs.declared.edge.Edge.{Edge}
use Rattle.candidate_graph.specs.Graphs.{Node, IsExpanded, Grows}
use Rattle.candidate_graph.specs.Paths.{HasEdge}
use Rattle.prefix_sieve.specs.Hashes.{hash_of}
use Rattle.prefix_sieve.specs.Sieves.{lets_pass}
use Rattle.prefix_sieve.proofs.PathLemmas.{at_place, last_or_before, grows-within, grows-expanded, edge-back}
use Rattle.prefix_counts.specs.Prefixes.{Prefixes}
use Rattle.sieved_counts.specs.declared.fronts.Front.{Front}
use Rattle.prefix_counts.specs.Sums.{sum_of, IsTaken}
use Rattle.sieved_counts.specs.Fronts.{IsFrontOf, AreFronts, AreWithin, IsLonger, IsBehind, HasGone, HasGoneBehind, HasGoneOn}

-- ---- fronts

module _ (before after more : List (List ℕ)) (is : after ≡ before ++ more) where
  pub kept-at : (number : ℕ) (list : List ℕ) → slice_get before number ≡ Some list → slice_get after number ≡ Some list
  kept-at number list at = subst (λ (ls : List (List ℕ)). slice_get ls number ≡ Some list) (sym is) (get-left before more number list at)

  pub front-kept : (list : List ℕ) (front : Front) → IsFrontOf before list front → IsFrontOf after list front
  front-kept list front of = record { number = kept-at front.number list of.number; hash = of.hash }

  fronts-kept : (P : List ℕ → ℕ → Type 0) (fronts : List Front) → AreFronts P before fronts → AreFronts P after fronts
  fronts-kept P fronts are = record {
    each = λ front held. let (list, of, led) = are.each front held in (list, front-kept list front of, led);
    all = λ list node led. let (front, held, of, at) = are.all list node led in (front, held, front-kept list front of, at);
    apart = are.apart;
  }

-- a front is that of one list
pub front-one : (lists : List (List ℕ)) (one other : List ℕ) (front : Front) → IsFrontOf lists one front → IsFrontOf lists other front → one ≡ other
front-one lists one other front p q = same_Some one other (sym p.number ∙ q.number)

module _ (lists : List (List ℕ)) where
  pub fronts-none : (P : List ℕ → ℕ → Type 0) → ((list : List ℕ) (node : ℕ) → P list node → ⊥) → AreFronts P lists []
  fronts-none P none = record {
    each = λ front held. absurd (Contains-none front held);
    all = λ list node led. absurd (none list node led);
    apart = λ i j d less within. absurd (omega (arith, within));
  }

  pub fronts-one : (P : List ℕ → ℕ → Type 0) (front : Front) (list : List ℕ) → IsFrontOf lists list front → P list front.node
      → ((other : List ℕ) (node : ℕ) → P other node → (other ≡ list) × (node ≡ front.node)) → AreFronts P lists (front ∷ [])
  fronts-one P front list of led only = record {
    each = λ other held. elim (Contains-cases front [] other held) [
      | inl same ↦ (list, subst (IsFrontOf lists list) (sym same) of, subst (λ (f : Front). P list f.node) (sym same) led)
      | inr none ↦ absurd (Contains-none other none)
    ];
    all = λ other node led'.
        let (same, at) = only other node led' in
        (front, Contains-first front [], subst (λ (l : List ℕ). IsFrontOf lists l front) (sym same) of, sym at);
    apart = λ i j d less within. absurd (omega (arith, less, within));
  }

  fronts-both : (P Q : List ℕ → ℕ → Type 0) (some more : List Front) → AreFronts P lists some → AreFronts Q lists more
      → ((list : List ℕ) (m n : ℕ) → P list m → Q list n → ⊥) → AreFronts (λ list node. P list node ⊎ Q list node) lists (some ++ more)
  fronts-both P Q some more p q other = record {
    each = λ front held. elim (Contains-append_cases some more front held) [
      | inl here ↦ let (list, of, led) = p.each front here in (list, of, inl led)
      | inr there ↦ let (list, of, led) = q.each front there in (list, of, inr led)
    ];
    all = λ list node either. elim either [
      | inl led ↦ let (front, held, of, at) = p.all list node led in (front, Contains-append_left some more front held, of, at)
      | inr led ↦ let (front, held, of, at) = q.all list node led in (front, Contains-append_right some more front held, of, at)
    ];
    apart = AllPairs-append (λ (x y : Front). x.number ≢ y.number) some more p.apart q.apart (λ x y here there same.
        let (l, of, led) = p.each x here in
        let (m, of', led') = q.each y there in
        let one : l ≡ m = same_Some l m (sym of.number ∙ ap (slice_get lists) same ∙ of'.number) in
        other l x.node y.node led (subst (λ (xs : List ℕ). Q xs y.node) (sym one) led'));
  }

  pub fronts-by : (P Q : List ℕ → ℕ → Type 0) → ((list : List ℕ) (node : ℕ) → P list node ↔ Q list node) → (fronts : List Front) → AreFronts P lists fronts
      → AreFronts Q lists fronts
  fronts-by P Q same fronts are = record {
    each = λ front held. let (list, of, led) = are.each front held in (list, of, (same list front.node).0 led);
    all = λ list node led. are.all list node ((same list node).1 led);
    apart = are.apart;
  }

-- ---- steps

abbrev LeadsBy : (List ℕ → Edge → Type 0) → List ℕ → ℕ → Type 0
LeadsBy P list node = (edge : Edge) × P list edge × (edge.next ≡ node)

module _ (weight : ℕ) where
  pub gone-none : (P : List ℕ → Edge → Type 0) → ((list : List ℕ) (edge : Edge) → P list edge → ⊥) → (at : Prefixes) (fronts : List Front)
      → HasGone P weight at at fronts fronts
  gone-none P none at fronts = record {
    fronts = ([], sym (append-nil fronts), fronts-none at.lists (LeadsBy P) (λ list node led. none list led.0 led.1));
    kept = ([], sym (append-nil at.lists), λ list held. absurd (Contains-none list held));
    counted = λ list edge led ends. absurd (none list edge led);
    others = λ list never. refl;
  }

  gone-both : (P Q : List ℕ → Edge → Type 0) (a b c : Prefixes) (xs ys zs : List Front) → HasGone P weight a b xs ys → HasGone Q weight b c ys zs
      → ((list : List ℕ) (e f : Edge) → P list e → Q list f → ⊥) → HasGone (λ list edge. P list edge ⊎ Q list edge) weight a c xs zs
  gone-both P Q a b c xs ys zs p q other = record {
    fronts =
        let (some, some_is, some_are) = p.fronts in
        let (more, more_is, more_are) = q.fronts in
        let (lists, lists_is, lists_led) = q.kept in (
          some ++ more,
          more_is ∙ ap (λ (fs : List Front). fs ++ more) some_is ∙ append_assoc xs some more,
          fronts-by c.lists (λ list node. LeadsBy P list node ⊎ LeadsBy Q list node) (LeadsBy (λ list edge. P list edge ⊎ Q list edge))
              (λ list node. (
                (λ either. elim either [ inl led ↦ (led.0, inl led.1, led.2) | inr led ↦ (led.0, inr led.1, led.2) ]),
                (λ led. elim led.1 [ inl left ↦ inl (led.0, left, led.2) | inr right ↦ inr (led.0, right, led.2) ]),
              ))
              (some ++ more)
              (fronts-both c.lists (LeadsBy P) (LeadsBy Q) some more (fronts-kept b.lists c.lists lists lists_is (LeadsBy P) some some_are) more_are
              (λ list m n led led'. other list led.0 led'.0 led.1 led'.1)),
        );
    kept =
        let (some, some_is, some_led) = p.kept in
        let (more, more_is, more_led) = q.kept in (
          some ++ more,
          more_is ∙ ap (λ (ls : List (List ℕ)). ls ++ more) some_is ∙ append_assoc a.lists some more,
          λ list held. elim (Contains-append_cases some more list held) [
            | inl here ↦ let (edge, led) = some_led list here in (edge, inl led)
            | inr there ↦ let (edge, led) = more_led list there in (edge, inr led)
          ],
        );
    counted = λ list edge either ends. elim either [
      | inl led ↦ q.others list (λ f led' ends'. other list edge f led led') ∙ p.counted list edge led ends
      | inr led ↦ q.counted list edge led ends ∙ ap (λ (n : ℕ). n + weight) (p.others list (λ f led' ends'. other list f edge led' led))
    ];
    others = λ list never. q.others list (λ edge led ends. never edge (inr led) ends) ∙ p.others list (λ edge led ends. never edge (inl led) ends);
  }

  pub gone-by : (P Q : List ℕ → Edge → Type 0) → ((list : List ℕ) (edge : Edge) → P list edge ↔ Q list edge) → (before after : Prefixes) (old new : List Front)
      → HasGone P weight before after old new → HasGone Q weight before after old new
  gone-by P Q same before after old new gone = record {
    fronts =
        let (more, is, are) = gone.fronts in (
          more,
          is,
          fronts-by after.lists (LeadsBy P) (LeadsBy Q) (λ list node. (
            (λ led. (led.0, (same list led.0).0 led.1, led.2)),
            (λ led. (led.0, (same list led.0).1 led.1, led.2)),
          )) more are,
        );
    kept = let (more, is, led) = gone.kept in (more, is, λ list held. let (edge, by) = led list held in (edge, (same list edge).0 by));
    counted = λ list edge led ends. gone.counted list edge ((same list edge).1 led) ends;
    others = λ list never. gone.others list (λ edge led ends. never edge ((same list edge).0 led) ends);
  }

-- ---- one edge

module _ (level : Option (List Bool)) (weight : ℕ) (list : List ℕ) (edge : Edge) (code : ℕ) (hashed : code ≡ hash_of (list ++ edge.rank ∷ [])) where
  abbrev ByEdge : List ℕ → Edge → Type 0
  ByEdge longer other = (other ≡ edge) × IsLonger level list longer other

  led-one : (longer : List ℕ) (other : Edge) → ByEdge longer other → longer ≡ list ++ edge.rank ∷ []
  led-one longer other led = led.1.0 ∙ ap (λ (e : Edge). list ++ e.rank ∷ []) led.0

  -- where the prefix does not pass
  pub gone-past : lets_pass level code ≡ false → (at : Prefixes) (fronts : List Front) → HasGone ByEdge weight at at fronts fronts
  gone-past never at fronts =
      gone-none weight ByEdge
      (λ longer other led.
      let same : hash_of longer ≡ code = ap hash_of (led-one longer other led) ∙ sym hashed in
      true≢false (sym (subst (λ (h : ℕ). IsTrue (lets_pass level h)) same led.1.1) ∙ never))
      at fronts

  pub gone-one : IsTrue (lets_pass level code) → (before after : Prefixes) (number : ℕ) → IsTaken (list ++ edge.rank ∷ []) edge.ends weight number before after
      → (fronts : List Front) → HasGone ByEdge weight before after fronts (fronts ++ (record { node = edge.next; number = number; hash = code }) ∷ [])
  gone-one passes before after number taken fronts =
      let longer : List ℕ = list ++ edge.rank ∷ [] in
      let led : ByEdge longer edge = (refl, (refl, subst (λ (h : ℕ). IsTrue (lets_pass level h)) hashed passes)) in
      let front : Front = record { node = edge.next; number = number; hash = code } in
      record {
        fronts = (
          front ∷ [],
          refl,
          fronts-one after.lists (LeadsBy ByEdge) front longer (record { number = taken.number; hash = hashed }) (edge, led, refl)
              (λ other node by. (led-one other by.0 by.1, sym by.2 ∙ ap (λ (e : Edge). e.next) by.1.0)),
        );
        kept =
            let (more, is, all) = taken.kept in
            (more, is, λ other held. (edge, subst (λ (xs : List ℕ). ByEdge xs edge) (sym (all other held)) led));
        counted = λ other e by ends.
            subst (λ (xs : List ℕ). sum_of after xs ≡ sum_of before xs + weight) (sym (led-one other e by))
            (taken.counted (subst (λ (x : Edge). IsTrue x.ends) by.0 ends));
        others = λ other never. taken.others other (λ same ends. never edge (subst (λ (xs : List ℕ). ByEdge xs edge) (sym same) led) ends);
      }

-- ---- some edges

abbrev pub ByEdges : Option (List Bool) → List ℕ → List Edge → ℕ → List ℕ → Edge → Type 0
ByEdges level list edges count longer edge =
    ((k : ℕ) × (k < count) × (slice_get edges k ≡ Some edge)) × IsLonger level list longer edge

module _ (level : Option (List Bool)) (weight : ℕ) (list : List ℕ) (edges : List Edge) where
  pub edges-none : (at : Prefixes) (fronts : List Front) → HasGone (ByEdges level list edges 0) weight at at fronts fronts
  edges-none at fronts = gone-none weight (ByEdges level list edges 0) (λ longer edge by. absurd (omega (arith, by.0.1))) at fronts

  module _ (rising : AllPairs (λ (low high : Edge). low.rank < high.rank) edges) (count : ℕ) (edge : Edge) (here : slice_get edges count ≡ Some edge) where
    -- no edge before this has the rank
    pub edges-apart : (longer : List ℕ) (other : Edge) → ByEdges level list edges count longer other → longer ≡ list ++ edge.rank ∷ [] → ⊥
    edges-apart longer other ((k, below, at), led) is =
        let ranks : other.rank ≡ edge.rank = (same_from_push list list other.rank edge.rank (sym led.0 ∙ is)).1 in
        let less : (get_or edges k other).rank < (get_or edges count other).rank = rising k count other below (slice_get_within edges count edge here) in
        let low : (get_or edges k other).rank ≡ other.rank = ap (λ (e : Edge). e.rank) (get_or_from_slice_get edges k other other at) in
        let high : (get_or edges count other).rank ≡ edge.rank = ap (λ (e : Edge). e.rank) (get_or_from_slice_get edges count edge other here) in
        omega (arith, ranks, less, low, high)

    -- so what is behind it has its sum yet
    pub edges-room : (before mid : Prefixes) (front : Front) (old some : List Front) (bound : ℕ) → IsFrontOf before.lists list front
        → HasGone (ByEdges level list edges count) weight before mid old some → sum_of before (list ++ edge.rank ∷ []) + weight < bound
        → (other : List ℕ) → slice_get mid.lists front.number ≡ Some other → sum_of mid (other ++ edge.rank ∷ []) + weight < bound
    edges-room before mid front old some bound of gone room other there =
        let longer : List ℕ = list ++ edge.rank ∷ [] in
        let (more, is, led) = gone.kept in
        let same : list ≡ other = same_Some list other (sym (kept-at before.lists mid.lists more is front.number list of.number) ∙ there) in
        let value : sum_of mid longer ≡ sum_of before longer = gone.others longer (λ e by ends. edges-apart longer e by refl) in
        let still : sum_of mid longer + weight < bound = omega (arith, value, room) in
        subst (λ (xs : List ℕ). sum_of mid (xs ++ edge.rank ∷ []) + weight < bound) same still

    pub edges-more : (before mid after : Prefixes) (old some new : List Front) → HasGone (ByEdges level list edges count) weight before mid old some
        → HasGone (λ longer other. (other ≡ edge) × IsLonger level list longer other) weight mid after some new
        → HasGone (ByEdges level list edges (count + 1)) weight before after old new
    edges-more before mid after old some new gone one =
        let P : List ℕ → Edge → Type 0 = ByEdges level list edges count in
        let Q : List ℕ → Edge → Type 0 = λ longer other. (other ≡ edge) × IsLonger level list longer other in
        gone-by weight (λ longer other. P longer other ⊎ Q longer other) (ByEdges level list edges (count + 1))
        (λ longer other. (
          (λ either. elim either [
            | inl by ↦ ((by.0.0, omega (arith, by.0.1), by.0.2), by.1)
            | inr by ↦ ((count, omega arith, subst (λ (e : Edge). slice_get edges count ≡ Some e) (sym by.0) here), by.1)
          ]),
          (λ by. elim (last_or_before by.0.0 count by.0.1) [
            | inl less ↦ inl ((by.0.0, less, by.0.2), by.1)
            | inr last ↦ inr (same_Some other edge (sym by.0.2 ∙ ap (slice_get edges) last ∙ here), by.1)
          ]),
        )) before after old new
        (gone-both weight P Q before mid after old some new gone one (λ longer e f by by'.
        edges-apart longer e by (by'.1.0 ∙ ap (λ (x : Edge). list ++ x.rank ∷ []) by'.0)))

  pub edges-all : (count : ℕ) → length edges ≤ count → (before after : Prefixes) (old new : List Front) → HasGone (ByEdges level list edges count) weight before after old new
      → HasGone (λ longer edge. Contains edges edge × IsLonger level list longer edge) weight before after old new
  edges-all count all before after old new gone =
      gone-by weight (ByEdges level list edges count) (λ longer edge. Contains edges edge × IsLonger level list longer edge)
      (λ longer edge. (
        (λ by. (get-held edges by.0.0 edge by.0.2, by.1)),
        (λ by. let (k, below, at) = at_place edges edge by.0 in ((k, omega (arith, below, all), at), by.1)),
      )) before after old new gone

  -- the edges are all those of the front
  pub gone-behind : (nodes : List Node) (front : Front) → IsExpanded nodes front.node
      → ((n : Node) (known : List Edge) → slice_get nodes front.node ≡ Some n → n.edges ≡ Some known → edges ≡ known)
      → ((edge : Edge) → Contains edges edge → edge.next < length nodes) → (before after : Prefixes) (old new : List Front)
      → HasGone (λ longer edge. Contains edges edge × IsLonger level list longer edge) weight before after old new
      → HasGoneBehind level weight nodes front list before after old new
  gone-behind nodes front (node, known, at, is) exact within before after old new gone = record {
    known = (node, known, at, is);
    within = λ inside other held.
        let (more, more_is, are) = gone.fronts in
        elim (Contains-append_cases old more other (subst (λ (fs : List Front). Contains fs other) more_is held)) [
          | inl there ↦ inside other there
          | inr new' ↦ let (longer, of, led) = are.each other new' in subst (λ (n : ℕ). n < length nodes) led.2 (within led.0 led.1.0)
        ];
    gone =
        gone-by weight (λ longer edge. Contains edges edge × IsLonger level list longer edge) (λ longer edge. HasEdge nodes front.node edge.rank edge × IsLonger level list longer edge)
        (λ longer edge. (
          (λ by. ((node, known, at, is, subst (λ (es : List Edge). Contains es edge) (exact node known at is) by.0, refl), by.1)),
          (λ by. (subst (λ (es : List Edge). Contains es edge) (sym (exact by.0.0 by.0.1 by.0.2 by.0.3)) by.0.4, by.1)),
        )) before after old new gone;
  }

-- ---- some fronts

-- an edge that was known is there
pub edge-on : (a b : List Node) → Grows a b → (number rank : ℕ) (edge : Edge) → HasEdge a number rank edge → HasEdge b number rank edge
edge-on a b grows number rank edge (node, edges, at, is, held, ranked) =
    let (after, after_at, after_is, keeps) = grows number node at in (after, edges, after_at, keeps edges is, held, ranked)

abbrev pub ByFronts : Option (List Bool) → List Node → List (List ℕ) → List Front → ℕ → List ℕ → Edge → Type 0
ByFronts level nodes lists here count longer edge =
    (k : ℕ) × (front : Front) × (list : List ℕ) × (k < count) × (slice_get here k ≡ Some front) × IsFrontOf lists list front
    × HasEdge nodes front.node edge.rank edge × IsLonger level list longer edge

pub record HasGoneTo (level : Option (List Bool)) (weight : ℕ) (nodes : List Node) (here : List Front) (count : ℕ) (before after : Prefixes) (next : List Front)
    : Type 0 where
  pub known : (k : ℕ) (front : Front) → k < count → slice_get here k ≡ Some front → IsExpanded nodes front.node
  pub within : AreWithin nodes next
  pub gone : HasGone (ByFronts level nodes before.lists here count) weight before after [] next

module _ (level : Option (List Bool)) (weight : ℕ) (here : List Front) where
  pub on-none : (nodes : List Node) (at : Prefixes) (next : List Front) → next ≡ [] → HasGoneTo level weight nodes here 0 at at next
  on-none nodes at next none = record {
    known = λ k front below is. absurd (omega (arith, below));
    within = λ front held. absurd (Contains-none front (subst (λ (fs : List Front). Contains fs front) none held));
    gone =
        subst (HasGone (ByFronts level nodes at.lists here 0) weight at at []) (sym none)
        (gone-none weight (ByFronts level nodes at.lists here 0) (λ longer edge by. absurd (omega (arith, by.3))) at []);
  }

  module _ (lists : List (List ℕ)) (distinct : AreDistinct lists) (apart : AllPairs (λ (one other : Front). one.number ≢ other.number) here) (count : ℕ)
      (front : Front) (list : List ℕ) (at : slice_get here count ≡ Some front) (of : IsFrontOf lists list front) where
    -- no front before this has the list
    fronts-apart : (k : ℕ) (other : Front) → k < count → slice_get here k ≡ Some other → IsFrontOf lists list other → ⊥
    fronts-apart k other below there of' =
        let same : other.number ≡ front.number = distinct other.number front.number (slice_get_within lists other.number list of'.number) (slice_get_within lists front.number list of.number)
        (get_or_from_slice_get lists other.number list [] of'.number ∙ sym (get_or_from_slice_get lists front.number list [] of.number)) in
        let low : get_or here k other ≡ other = get_or_from_slice_get here k other other there in
        let high : get_or here count other ≡ front = get_or_from_slice_get here count front other at in
        apart k count other below (slice_get_within here count front at)
        (ap (λ (f : Front). f.number) low ∙ same ∙ sym (ap (λ (f : Front). f.number) high))

    pub lists-apart : (nodes : List Node) (longer : List ℕ) (edge : Edge) (rank : ℕ) → ByFronts level nodes lists here count longer edge → longer ≡ list ++ rank ∷ [] → ⊥
    lists-apart nodes longer edge rank (k, other, one, below, there, of', has, led) is =
        let same : one ≡ list = (same_from_push one list edge.rank rank (sym led.0 ∙ is)).0 in
        fronts-apart k other below there (subst (λ (l : List ℕ). IsFrontOf lists l other) same of')

  pub on-room : (nodes : List Node) (before mid : Prefixes) → AreDistinct before.lists → AllPairs (λ (one other : Front). one.number ≢ other.number) here
      → (count : ℕ) (front : Front) (list : List ℕ) → slice_get here count ≡ Some front → IsFrontOf before.lists list front → (some : List Front)
      → HasGoneTo level weight nodes here count before mid some → (rank bound : ℕ) → sum_of before (list ++ rank ∷ []) + weight < bound
      → (other : List ℕ) → slice_get mid.lists front.number ≡ Some other → sum_of mid (other ++ rank ∷ []) + weight < bound
  on-room nodes before mid distinct apart count front list at of some gone rank bound room other there =
      let longer : List ℕ = list ++ rank ∷ [] in
      let (more, is, led) = gone.gone.kept in
      let same : list ≡ other = same_Some list other (sym (kept-at before.lists mid.lists more is front.number list of.number) ∙ there) in
      let value : sum_of mid longer ≡ sum_of before longer =
      gone.gone.others longer (λ edge by ends. lists-apart before.lists distinct apart count front list at of nodes longer edge rank by refl) in
      let still : sum_of mid longer + weight < bound = omega (arith, value, room) in
      subst (λ (xs : List ℕ). sum_of mid (xs ++ rank ∷ []) + weight < bound) same still

  pub on-more : (a b : List Node) → Grows a b → (before mid after : Prefixes) → AreDistinct before.lists → AllPairs (λ (one other : Front). one.number ≢ other.number) here
      → (count : ℕ) (front : Front) (list : List ℕ) → slice_get here count ≡ Some front → IsFrontOf before.lists list front → (some next : List Front)
      → HasGoneTo level weight a here count before mid some → HasGoneBehind level weight b front list mid after some next
      → HasGoneTo level weight b here (count + 1) before after next
  on-more a b grows before mid after distinct apart count front list at of some next gone one =
      let P : List ℕ → Edge → Type 0 = ByFronts level b before.lists here count in
      let Q : List ℕ → Edge → Type 0 = λ longer edge. HasEdge b front.node edge.rank edge × IsLonger level list longer edge in
      let now : HasGone P weight before mid [] some =
      gone-by weight (ByFronts level a before.lists here count) P
      (λ longer edge. (
        (λ by. (by.0, by.1, by.2, by.3, by.4, by.5, edge-on a b grows by.1.node edge.rank edge by.6, by.7)),
        (λ by. (by.0, by.1, by.2, by.3, by.4, by.5, edge-back a b grows by.1.node edge.rank edge (gone.known by.0 by.1 by.3 by.4) by.6, by.7)),
      )) before mid [] some gone.gone in
      record {
        known = λ k other below there. elim (last_or_before k count below) [
          | inl less ↦ grows-expanded a b grows other.node (gone.known k other less there)
          | inr last ↦ subst (λ (f : Front). IsExpanded b f.node) (same_Some front other (sym at ∙ ap (slice_get here) (sym last) ∙ there)) one.known
        ];
        within = one.within (λ other held. grows-within a b grows other.node (gone.within other held));
        gone =
            gone-by weight (λ longer edge. P longer edge ⊎ Q longer edge) (ByFronts level b before.lists here (count + 1))
            (λ longer edge. (
              (λ either. elim either [
                | inl by ↦ (by.0, by.1, by.2, omega (arith, by.3), by.4, by.5, by.6, by.7)
                | inr by ↦ (count, front, list, omega arith, at, of, by.0, by.1)
              ]),
              (λ by. elim (last_or_before by.0 count by.3) [
                | inl less ↦ inl (by.0, by.1, by.2, less, by.4, by.5, by.6, by.7)
                | inr last ↦
                    let same : by.1 ≡ front = same_Some by.1 front (sym by.4 ∙ ap (slice_get here) last ∙ at) in
                    let one' : by.2 ≡ list = front-one before.lists by.2 list front (subst (IsFrontOf before.lists by.2) same by.5) of in
                    inr (subst (λ (f : Front). HasEdge b f.node edge.rank edge) same by.6, subst (λ (l : List ℕ). IsLonger level l longer edge) one' by.7)
              ]),
            )) before after [] next
            (gone-both weight P Q before mid after [] some next now one.gone (λ longer e f by by'.
            lists-apart before.lists distinct apart count front list at of b longer e f.rank by by'.1.0));
      }

  pub on-all : (nodes : List Node) (count : ℕ) → length here ≤ count → (before after : Prefixes) (next : List Front)
      → HasGoneTo level weight nodes here count before after next → HasGoneOn level weight nodes here before after next
  on-all nodes count all before after next gone = record {
    known = λ front held. let (k, below, at) = at_place here front held in gone.known k front (omega (arith, below, all)) at;
    within = gone.within;
    gone =
        gone-by weight (ByFronts level nodes before.lists here count) (IsBehind level nodes before.lists here)
        (λ longer edge. (
          (λ by. (by.1, by.2, get-held here by.0 by.1 by.4, by.5, by.6, by.7)),
          (λ by. let (k, below, at) = at_place here by.0 by.2 in (k, by.0, by.1, omega (arith, below, all), at, by.3, by.4, by.5)),
        )) before after [] next gone.gone;
  }
