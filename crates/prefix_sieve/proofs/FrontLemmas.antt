-- Steps of a pass.
use Rattle.std.proofs.Common.{◌≡◌, ℕ, zero, suc, ◌+◌, ◌≤◌, ◌<◌, ◌⊎◌, inl, inr, Bool, IsTrue, Option, Some, List, [], ◌∷◌, ◌++◌, length, slice_get, refl, sym, ap, subst, ◌∙◌, arith, append_assoc, length-append}
use Rattle.std.specs.List.{Contains}
use Rattle.std.proofs.lemmas.Bool.{cases_lt}
use Rattle.std.proofs.lemmas.List.{nil_from_length}
use Rattle.std.proofs.lemmas.Option.{same_Some}
use Rattle.mine_model.specs.declared.item.Item.{Item}
use Rattle.mine_model.specs.Answer.{Data}
use Rattle.mine_model.specs.Support.{Sequence}
use Rattle.mine_model.proofs.ListLemmas.{Contains-first, Contains-cases, Contains-none, last-cases}
use Rattle.candidate_graph.specs.declared.edge.Edge.{Edge}
use Rattle.candidate_graph.specs.Graphs.{Node, IsExpanded, Grows}
use Rattle.candidate_graph.specs.Paths.{Reaches}
use Rattle.prefix_sieve.specs.declared.fronts.Front.{Front}
use Rattle.prefix_sieve.specs.Buckets.{capped, sum_of, AreNoLess}
use Rattle.prefix_sieve.specs.Hashes.{start, mixed, hash_of}
use Rattle.prefix_sieve.specs.Sieves.{HasCandidate, HasBehind, lets_pass, PassesAll, HasRaised}
use Rattle.prefix_sieve.specs.Fronts.{IsPassed, LeadsToAll, root_front, front_behind, IsAdded, AreAdded, IsGone, AreWithin, HasGone, AreGone, AreFronts, AreRaised, HasRaisedBehind, HaveRaised}
use Rattle.prefix_sieve.proofs.PathLemmas.{at_place, last_or_before, grows-within, grows-expanded, edge-back, reaches-behind, reaches-more, passes-before, reaches-back, hash-behind}
use Rattle.mine_model.proofs.ElementLemmas.{get-held}

-- Fronts where nodes grow

module _ (a b : List Node) (grows : Grows a b) where
  pub gone-grows : (level : Option (List Bool)) (front : Front) (next more : List Front) → ((other : Front) → Contains next other → Contains more other)
      → IsGone level a front next → IsGone level b front more
  gone-grows level front next more keeps gone = record {
    known = grows-expanded a b grows front.node gone.known;
    passing = λ rank edge has passes. keeps (front_behind front edge) (gone.passing rank edge (edge-back a b grows front.node rank edge gone.known has) passes);
  }

  pub raised-grows : (front : Front) (weight : ℕ) (before mid after : List ℕ) → ((code : ℕ) → sum_of mid code ≤ sum_of after code)
      → HasRaisedBehind a front weight before mid → HasRaisedBehind b front weight before after
  raised-grows front weight before mid after more raised = record {
    known = grows-expanded a b grows front.node raised.known;
    never_less = λ code. omega (arith, more code, raised.never_less code);
    raised = λ rank edge has.
        omega (arith, more (mixed front.hash edge.rank), raised.raised rank edge (edge-back a b grows front.node rank edge raised.known has));
  }

pub raised-from : (nodes : List Node) (front : Front) (weight : ℕ) (before mid after : List ℕ) → ((code : ℕ) → sum_of before code ≤ sum_of mid code)
    → HasRaisedBehind nodes front weight mid after → HasRaisedBehind nodes front weight before after
raised-from nodes front weight before mid after more raised = record {
  known = raised.known;
  never_less = λ code. omega (arith, more code, raised.never_less code);
  raised = λ rank edge has. omega (arith, more (mixed front.hash edge.rank), raised.raised rank edge has);
}

-- Fronts that are added

pub record AreAddedTo (level : Option (List Bool)) (front : Front) (edges : List Edge) (count : ℕ) (before after : List Front) : Type 0 where
  pub keeps : (other : Front) → Contains before other → Contains after other
  pub others : (other : Front) → Contains after other
      → Contains before other ⊎ ((edge : Edge) × Contains edges edge × (other ≡ front_behind front edge))
  pub here : (k : ℕ) (edge : Edge) → k < count → slice_get edges k ≡ Some edge → IsTrue (lets_pass level (mixed front.hash edge.rank))
      → Contains after (front_behind front edge)

module _ (level : Option (List Bool)) (front : Front) (edges : List Edge) where
  pub added-none : (before : List Front) → AreAddedTo level front edges 0 before before
  added-none before = record {
    keeps = λ other held. held;
    others = λ other held. inl held;
    here = λ k edge below at passes. absurd (omega (arith, below));
  }

  pub added-more : (count : ℕ) (edge : Edge) (before mid after : List Front) → slice_get edges count ≡ Some edge → AreAddedTo level front edges count before mid
      → IsAdded (lets_pass level (mixed front.hash edge.rank)) (front_behind front edge) mid after → AreAddedTo level front edges (count + 1) before after
  added-more count edge before mid after at so_far one = record {
    keeps = λ other held. one.keeps other (so_far.keeps other held);
    others = λ other held. elim (one.others other held) [
      | inl old ↦ so_far.others other old
      | inr same ↦ inr (edge, get-held edges count edge at, same)
    ];
    here = λ k other below there passes. elim (last_or_before k count below) [
      | inl less ↦ one.keeps (front_behind front other) (so_far.here k other less there passes)
      | inr last ↦
          let same : edge ≡ other = same_Some edge other (sym at ∙ ap (slice_get edges) (sym last) ∙ there) in
          subst (λ (e : Edge). Contains after (front_behind front e)) same (one.here (subst (λ (e : Edge). IsTrue (lets_pass level (mixed front.hash e.rank))) (sym same) passes))
    ];
  }

  pub added-all : (count : ℕ) (before after : List Front) → length edges ≤ count → AreAddedTo level front edges count before after
      → AreAdded level front edges before after
  added-all count before after all added = record {
    keeps = added.keeps;
    others = added.others;
    here = λ edge held passes. let (k, below, at) = at_place edges edge held in added.here k edge (omega (arith, below, all)) at passes;
  }

  -- the edges are all those of the front
  pub gone-behind : (nodes : List Node) (before after : List Front) → IsExpanded nodes front.node
      → ((n : Node) (known : List Edge) → slice_get nodes front.node ≡ Some n → n.edges ≡ Some known → edges ≡ known)
      → ((edge : Edge) → Contains edges edge → edge.next < length nodes) → AreAdded level front edges before after → HasGone level nodes front before after
  gone-behind nodes before after known exact within added = record {
    keeps = added.keeps;
    within = λ inside other held. elim (added.others other held) [
      | inl old ↦ inside other old
      | inr new ↦ subst (λ (f : Front). f.node < length nodes) (sym new.2) (within new.0 new.1)
    ];
    gone = record {
      known = known;
      passing = λ rank edge has passes.
          added.here edge (subst (λ (es : List Edge). Contains es edge) (sym (exact has.0 has.1 has.2 has.3)) has.4) passes;
    };
  }

pub record AreGoneTo (level : Option (List Bool)) (nodes : List Node) (here : List Front) (count : ℕ) (next : List Front) : Type 0 where
  pub within : AreWithin nodes next
  pub each : (k : ℕ) (front : Front) → k < count → slice_get here k ≡ Some front → IsGone level nodes front next

module _ (level : Option (List Bool)) (here : List Front) where
  pub gone-none : (nodes : List Node) (next : List Front) → next ≡ [] → AreGoneTo level nodes here 0 next
  gone-none nodes next none = record {
    within = λ front held. absurd (Contains-none front (subst (λ (fs : List Front). Contains fs front) none held));
    each = λ k front below at. absurd (omega (arith, below));
  }

  pub gone-more : (count : ℕ) (front : Front) (a b : List Node) (before after : List Front) → Grows a b → slice_get here count ≡ Some front
      → AreGoneTo level a here count before → HasGone level b front before after → AreGoneTo level b here (count + 1) after
  gone-more count front a b before after grows at so_far one = record {
    within = one.within (λ other held. grows-within a b grows other.node (so_far.within other held));
    each = λ k other below there. elim (last_or_before k count below) [
      | inl less ↦ gone-grows a b grows level other before after one.keeps (so_far.each k other less there)
      | inr last ↦
          let same : front ≡ other = same_Some front other (sym at ∙ ap (slice_get here) (sym last) ∙ there) in
          subst (λ (f : Front). IsGone level b f after) same one.gone
    ];
  }

  pub gone-all : (count : ℕ) (nodes : List Node) (next : List Front) → length here ≤ count → AreGoneTo level nodes here count next
      → AreGone level nodes here next
  gone-all count nodes next all gone = record {
    within = gone.within;
    each = λ front held. let (k, below, at) = at_place here front held in gone.each k front (omega (arith, below, all)) at;
  }

-- From one length to the next

pub fronts-first : (levels : List (List Bool)) (nodes : List Node) (fronts : List Front) → 0 < length nodes → fronts ≡ root_front ∷ [] → AreFronts levels nodes 0 fronts
fronts-first levels nodes fronts root is = record {
  within = λ front held. elim (Contains-cases root_front [] front (subst (λ (fs : List Front). Contains fs front) is held)) [
    | inl same ↦ subst (λ (f : Front). f.node < length nodes) (sym same) root
    | inr none ↦ absurd (Contains-none front none)
  ];
  all = λ list number short passes way.
      let none : list ≡ [] = nil_from_length list short in
      let here : 0 ≡ number = subst (λ (xs : List ℕ). Reaches nodes 0 xs number) none way in
      let front : root_front ≡ record { node = number; hash = hash_of list } =
      ap (λ (n : ℕ). record { node = n; hash = start }) here ∙ ap (λ (xs : List ℕ). record { node = number; hash = hash_of xs }) (sym none) in
      subst (λ (fs : List Front). Contains fs (record { node = number; hash = hash_of list })) (sym is)
      (subst (λ (f : Front). Contains (root_front ∷ []) f) front (Contains-first root_front []));
  known = λ list number short passes way. absurd (omega (arith, short));
}

module _ (levels : List (List Bool)) (a b : List Node) (grows : Grows a b) (count : ℕ) (here : List Front) (fronts : AreFronts levels a count here) where
  -- a path of this length leads to a front
  front-of : (list : List ℕ) (number : ℕ) → length list ≡ count → PassesAll hash_of levels list → Reaches b 0 list number
      → Contains here (record { node = number; hash = hash_of list })
  front-of list number long passes way =
      fronts.all list number long passes (reaches-back levels a b grows count fronts.known list number (omega (arith, long)) passes way)

  known-up_to : ((front : Front) → Contains here front → IsExpanded b front.node)
      → (list : List ℕ) (number : ℕ) → length list ≤ count → PassesAll hash_of levels list → Reaches b 0 list number → IsExpanded b number
  known-up_to each list number short passes way = elim (cases_lt (length list) count) [
    | inl less ↦ grows-expanded a b grows number (fronts.known list number less passes (reaches-back levels a b grows count fronts.known list number short passes way))
    | inr more ↦ each (record { node = number; hash = hash_of list }) (front-of list number (omega (arith, short, more)) passes way)
  ]

  pub fronts-next : (next : List Front) → AreGone (slice_get levels count) b here next → AreFronts levels b (count + 1) next
  fronts-next next gone = record {
    within = gone.within;
    all = λ list number long passes way. elim (last-cases list) [
      | inl none ↦ absurd (omega (arith, long, ap (λ (xs : List ℕ). length xs) none))
      | inr split ↦
          let (front, last, is) = split in
          let one_more : length list ≡ length front + 1 = ap (λ (xs : List ℕ). length xs) is ∙ length-append front (last ∷ []) in
          let short : length front ≡ count = omega (arith, one_more, long) in
          let passed : PassesAll hash_of levels front = passes-before hash_of levels front (last ∷ []) (subst (PassesAll hash_of levels) is passes) in
          let (mid, edge, way_to, has, to) = reaches-behind b 0 front last number (subst (λ (xs : List ℕ). Reaches b 0 xs number) is way) in
          let this : Front = record { node = mid; hash = hash_of front } in
          let held : Contains here this = front-of front mid short passed way_to in
          let hashed : hash_of list ≡ mixed (hash_of front) edge.rank = ap hash_of is ∙ hash-behind front last ∙ ap (mixed (hash_of front)) (sym has.5) in
          let lets : IsTrue (lets_pass (slice_get levels count) (mixed (hash_of front) edge.rank)) =
          subst (λ (code : ℕ). IsTrue (lets_pass (slice_get levels count) code)) (sym (ap hash_of is) ∙ hashed)
          (subst (λ (n : ℕ). IsTrue (lets_pass (slice_get levels n) (hash_of (front ++ last ∷ [])))) short (passes front last [] is)) in
          let found : Contains next (front_behind this edge) = (gone.each this held).passing last edge has lets in
          subst (λ (n : ℕ). Contains next (record { node = n; hash = hash_of list })) to
          (subst (λ (code : ℕ). Contains next (record { node = edge.next; hash = code })) (sym hashed) found)
    ];
    known = λ list number short passes way.
        known-up_to (λ front held. (gone.each front held).known) list number (omega (arith, short)) passes way;
  }

  pub passed : (weight : ℕ) (before after : List ℕ) → count ≡ length levels → HaveRaised b here weight before after → IsPassed levels weight b before after
  passed weight before after whole raised = record {
    known = λ list number short passes way.
        known-up_to (λ front held. (raised.each front held).known) list number (omega (arith, short, whole)) passes way;
    never_less = raised.never_less;
    raised = λ list number long passes way rank edge has.
        let this : Front = record { node = number; hash = hash_of list } in
        let hashed : hash_of (list ++ rank ∷ []) ≡ mixed (hash_of list) edge.rank = hash-behind list rank ∙ ap (mixed (hash_of list)) (sym has.5) in
        subst (λ (code : ℕ). capped (sum_of before code) weight ≤ sum_of after code) (sym hashed)
        ((raised.each this (front-of list number (omega (arith, long, whole)) passes way)).raised rank edge has);
  }

-- ---- sums

pub record AreRaisedTo (edges : List Edge) (hash weight count : ℕ) (before after : List ℕ) : Type 0 where
  pub never_less : AreNoLess before after
  pub raised : (k : ℕ) (edge : Edge) → k < count → slice_get edges k ≡ Some edge
      → capped (sum_of before (mixed hash edge.rank)) weight ≤ sum_of after (mixed hash edge.rank)

module _ (edges : List Edge) (hash weight : ℕ) where
  pub raised-none : (before : List ℕ) → AreRaisedTo edges hash weight 0 before before
  raised-none before = record { never_less = λ code. omega arith; raised = λ k edge below at. absurd (omega (arith, below)) }

  pub raised-more : (count : ℕ) (edge : Edge) (before mid after : List ℕ) → slice_get edges count ≡ Some edge → AreRaisedTo edges hash weight count before mid
      → sum_of after (mixed hash edge.rank) ≡ capped (sum_of mid (mixed hash edge.rank)) weight → ((code : ℕ) → sum_of mid code ≤ sum_of after code)
      → AreRaisedTo edges hash weight (count + 1) before after
  raised-more count edge before mid after at so_far here more = record {
    never_less = λ code. omega (arith, so_far.never_less code, more code);
    raised = λ k other below there. elim (last_or_before k count below) [
      | inl less ↦ omega (arith, so_far.raised k other less there, more (mixed hash other.rank))
      | inr last ↦
          let same : edge ≡ other = same_Some edge other (sym at ∙ ap (slice_get edges) (sym last) ∙ there) in
          let this : capped (sum_of before (mixed hash edge.rank)) weight ≤ sum_of after (mixed hash edge.rank) =
          omega (arith, here, so_far.never_less (mixed hash edge.rank)) in
          subst (λ (e : Edge). capped (sum_of before (mixed hash e.rank)) weight ≤ sum_of after (mixed hash e.rank)) same this
    ];
  }

  pub raised-all : (count : ℕ) (before after : List ℕ) → length edges ≤ count → AreRaisedTo edges hash weight count before after
      → AreRaised edges hash weight before after
  raised-all count before after all raised = record {
    never_less = raised.never_less;
    raised = λ edge held. let (k, below, at) = at_place edges edge held in raised.raised k edge (omega (arith, below, all)) at;
  }

-- the edges are all those of the front
pub raised-behind : (nodes : List Node) (front : Front) (weight : ℕ) (edges : List Edge) (before after : List ℕ) → IsExpanded nodes front.node
    → ((n : Node) (known : List Edge) → slice_get nodes front.node ≡ Some n → n.edges ≡ Some known → edges ≡ known)
    → AreRaised edges front.hash weight before after → HasRaisedBehind nodes front weight before after
raised-behind nodes front weight edges before after known exact raised = record {
  known = known;
  never_less = raised.never_less;
  raised = λ rank edge has. raised.raised edge (subst (λ (es : List Edge). Contains es edge) (sym (exact has.0 has.1 has.2 has.3)) has.4);
}

pub record HaveRaisedTo (nodes : List Node) (here : List Front) (weight count : ℕ) (before after : List ℕ) : Type 0 where
  pub never_less : AreNoLess before after
  pub each : (k : ℕ) (front : Front) → k < count → slice_get here k ≡ Some front → HasRaisedBehind nodes front weight before after

module _ (here : List Front) (weight : ℕ) where
  pub have-none : (nodes : List Node) (before : List ℕ) → HaveRaisedTo nodes here weight 0 before before
  have-none nodes before = record { never_less = λ code. omega arith; each = λ k front below at. absurd (omega (arith, below)) }

  pub have-more : (count : ℕ) (front : Front) (a b : List Node) (before mid after : List ℕ) → Grows a b → slice_get here count ≡ Some front
      → HaveRaisedTo a here weight count before mid → HasRaisedBehind b front weight mid after → HaveRaisedTo b here weight (count + 1) before after
  have-more count front a b before mid after grows at so_far one = record {
    never_less = λ code. omega (arith, so_far.never_less code, one.never_less code);
    each = λ k other below there. elim (last_or_before k count below) [
      | inl less ↦ raised-grows a b grows other weight before mid after one.never_less (so_far.each k other less there)
      | inr last ↦
          let same : front ≡ other = same_Some front other (sym at ∙ ap (slice_get here) (sym last) ∙ there) in
          subst (λ (f : Front). HasRaisedBehind b f weight before after) same (raised-from b front weight before mid after so_far.never_less one)
    ];
  }

  pub have-all : (count : ℕ) (nodes : List Node) (before after : List ℕ) → length here ≤ count → HaveRaisedTo nodes here weight count before after
      → HaveRaised nodes here weight before after
  have-all count nodes before after all raised = record {
    never_less = raised.never_less;
    each = λ front held. let (k, below, at) = at_place here front held in raised.each k front (omega (arith, below, all)) at;
  }

-- What a pass raises

module _ (d : Data Item) (order : List Item) (levels : List (List Bool)) (s : Sequence Item) (nodes : List Node) (before after : List ℕ)
    (leads : LeadsToAll d order s.items nodes) (made : IsPassed levels s.weight nodes before after) where
  behind-before : (front : List ℕ) (last : ℕ) (list : List ℕ) → list ≡ front ++ last ∷ [] → HasBehind d order list s.items → HasBehind d order front s.items
  behind-before front last list is (rest, has) =
      (last ∷ rest, subst (λ (xs : List ℕ). HasCandidate d order xs s.items) (ap (λ (xs : List ℕ). xs ++ rest) is ∙ append_assoc front (last ∷ []) rest) has)

  -- a prefix that passes and has a candidate behind it is reached
  reached : (most : ℕ) (list : List ℕ) → length list ≤ most → length list ≤ length levels → PassesAll hash_of levels list
      → HasBehind d order list s.items → (number : ℕ) × Reaches nodes 0 list number
  reached zero list short less passes behind =
      let none : list ≡ [] = nil_from_length list (omega (arith, short)) in
      (0, subst (λ (xs : List ℕ). Reaches nodes 0 xs 0) (sym none) refl)
  reached (suc most) list short less passes behind = elim (last-cases list) [
    | inl none ↦ (0, subst (λ (xs : List ℕ). Reaches nodes 0 xs 0) (sym none) refl)
    | inr split ↦
        let (front, last, is) = split in
        let long : length list ≡ length front + 1 = ap (λ (xs : List ℕ). length xs) is ∙ length-append front (last ∷ []) in
        let passed : PassesAll hash_of levels front = passes-before hash_of levels front (last ∷ []) (subst (PassesAll hash_of levels) is passes) in
        let (mid, way) = reached most front (omega (arith, long, short)) (omega (arith, long, less)) passed (behind-before front last list is behind) in
        let (edge, has) = leads front mid way (made.known front mid (omega (arith, long, less)) passed way) last (subst (λ (xs : List ℕ). HasBehind d order xs s.items) is behind) in
        (edge.next, subst (λ (xs : List ℕ). Reaches nodes 0 xs edge.next) (sym is) (reaches-more nodes 0 front last mid edge way has))
  ]

  pub pass-raises : HasRaised d order hash_of levels (length levels + 1) s before after
  pass-raises = record {
    never_less = made.never_less;
    raised = λ prefix looked behind. elim (last-cases prefix) [
      | inl none ↦ absurd (omega (arith, looked.longer, ap (λ (xs : List ℕ). length xs) none))
      | inr split ↦
          let (front, last, is) = split in
          let long : length prefix ≡ length front + 1 = ap (λ (xs : List ℕ). length xs) is ∙ length-append front (last ∷ []) in
          let same : length front ≡ length levels = omega (arith, long, looked.longer, looked.most) in
          let passed : PassesAll hash_of levels front = passes-before hash_of levels front (last ∷ []) (subst (PassesAll hash_of levels) is looked.passed) in
          let (mid, way) = reached (length front) front (omega arith) (omega (arith, same)) passed (behind-before front last prefix is behind) in
          let (edge, has) = leads front mid way (made.known front mid (omega (arith, same)) passed way) last (subst (λ (xs : List ℕ). HasBehind d order xs s.items) is behind) in
          subst (λ (xs : List ℕ). capped (sum_of before (hash_of xs)) s.weight ≤ sum_of after (hash_of xs)) (sym is) (made.raised front mid same passed way last edge has)
    ];
  }
