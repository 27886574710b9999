-- Codes that are read.
use Rattle.std.proofs.Common.{◌≡◌, ℕ, ◌+◌, ◌-◌, ◌*◌, ◌≤◌, ◌<◌, ◌↔◌, ◌⊎◌, inl, inr, Bool, true, false, nat_eq, Some, slice_get, List, [], ◌∷◌, ◌++◌, length, map, take, drop, slice_range, get_or, sum_by, refl, sym, ap, ◌∙◌, subst, arith, append_assoc, length-append, length-drop}
use Rattle.std.specs.List.{AllZip, Contains, flat_map}
use Rattle.std.proofs.lemmas.List.{append-nil, map-append, length-map, take-append-le, drop-append-le, take_all, drop_all}
use Rattle.std.proofs.lemmas.List.Concat.{flat_map-cons}
use Rattle.std.proofs.lemmas.List.Sums.{sum_by-cons}
use Rattle.std.proofs.lemmas.Option.{slice_get-get_or}
use Rattle.mine_model.proofs.ElementLemmas.{slice_get-mapped_by}
use Rattle.std.proofs.lemmas.List.Elements.{Contains-get_or, Contains-append_cases, All-contains}
use Rattle.std.proofs.lemmas.Slice.Zip.{all_zipped_more}
use Rattle.mine_model.proofs.ListLemmas.{Contains-cases, Contains-first, Contains-other, Contains-none, Contains-from, slice_range-append}
use Rattle.mine_model.proofs.AncestryLemmas.{slice_range-behind}
use Rattle.automaton_model.specs.declared.groups.Group.{Group}
use Rattle.automaton_model.specs.declared.state.Edge.{Edge}
use Rattle.automaton_model.specs.Automata.{StateValue, Accepts, edge_code, state_code, code_of}
use Rattle.automaton_model.specs.Groups.{LieIn}
use Rattle.automaton_model.specs.Searches.{Load}
use Rattle.automaton_model.proofs.AutomatonLemmas.{code-same, flag_of}
use Rattle.automaton_model.proofs.ZipLemmas.{zip-first}
use Rattle.automaton_model.proofs.LanguageLemmas.{accepts-more}
use Rattle.group_search.specs.declared.loads.LoadedState.{LoadedState}
use Rattle.group_search.specs.declared.decoded.Head.{Head}
use Rattle.group_search.specs.Found.{load_of}
use Rattle.group_search.specs.Searched.{IsTrim, AreFinite, IsSearched}
use Rattle.group_search.specs.Decoded.{state_in, states_in, AreHeld, edges_in, shifted, IsAdded, IsRoot}
use Rattle.group_search.proofs.LawLemmas.{Stands}
use Rattle.group_search.proofs.ShiftLemmas.{shifted_edge, longer-back, shift-forth, shift-back, both-trim}

-- Two numbers at a time

edges-of : (base : ℕ) (edges : List Edge) → edges_in base (flat_map edge_code edges) ≡ map (shifted_edge base) edges
edges-of base [] = refl
edges-of base (edge ∷ edges) = ap (edges_in base) (flat_map-cons edge_code edge edges) ∙ ap (λ l. shifted_edge base edge ∷ l) (edges-of base edges)

pairs-long : (edges : List Edge) → length (flat_map edge_code edges) ≡ 2 * length edges
pairs-long [] = refl
pairs-long (edge ∷ edges) =
    let rest = pairs-long edges in
    let cons : length (flat_map edge_code (edge ∷ edges)) ≡ length (edge_code edge ++ flat_map edge_code edges) = ap length (flat_map-cons edge_code edge edges) in
    let both : length (edge_code edge ++ flat_map edge_code edges) ≡ 2 + length (flat_map edge_code edges) = omega arith in
    omega (arith, rest, cons, both)

-- Heads and edges

held-longer : (edges more : List Edge) (head : Head) → (head.from ≤ head.end) × (head.end ≤ length edges) → state_in (edges ++ more) head ≡ state_in edges head
held-longer edges more head held =
    let same : slice_range (edges ++ more) head.from head.end ≡ slice_range edges head.from head.end = slice_range-append edges more head.from head.end held.0 held.1 in
    λ i. record { accepts = head.accepts; edges = same i }

states-longer : (heads : List Head) (edges more : List Edge) → ((head : Head) → Contains heads head → (head.from ≤ head.end) × (head.end ≤ length edges))
    → states_in heads (edges ++ more) ≡ states_in heads edges
states-longer [] edges more held = refl
states-longer (head ∷ heads) edges more held =
    ap (λ s. s ∷ states_in heads (edges ++ more)) (held-longer edges more head (held head (Contains-first head heads)))
    ∙ ap (λ l. state_in edges head ∷ l) (states-longer heads edges more (λ other inside. held other (Contains-other head heads other inside)))

-- a head with the last edges
pub head-pushed : (heads : List Head) (edges more : List Edge) (head : Head) → AreHeld heads edges → head.from ≡ length edges → head.end ≡ length edges + length more
    → states_in (heads ++ head ∷ []) (edges ++ more) ≡ states_in heads edges ++ (record { accepts = head.accepts; edges = more }) ∷ []
head-pushed heads edges more head held from end =
    let range : slice_range (edges ++ more) head.from head.end ≡ more = (λ i. slice_range (edges ++ more) (from i) head.end) ∙ slice_range-behind edges more head.end end in
    map-append (state_in (edges ++ more)) heads (head ∷ [])
    ∙ ap (λ l. l ++ state_in (edges ++ more) head ∷ []) (states-longer heads edges more (λ other inside. All-contains (λ (h : Head). (h.from ≤ h.end) × (h.end ≤ length edges)) heads other held inside))
    ∙ (λ i. states_in heads edges ++ (record { accepts = head.accepts; edges = range i }) ∷ [])

-- the state of a head
pub head-there : (heads : List Head) (edges : List Edge) (k : ℕ) (d : Head) → k < length heads
    → slice_get (states_in heads edges) k ≡ Some (state_in edges (get_or heads k d))
head-there heads edges k d inside = slice_get-mapped_by (state_in edges) heads k (get_or heads k d) (slice_get-get_or heads k d inside)

pub behind-two : (xs : List ℕ) → take (length xs - 2) (drop 2 xs) ≡ drop 2 xs
behind-two xs = let long = length-drop 2 xs in take_all (length xs - 2) (drop 2 xs) (omega (arith, long))

-- State by state

-- so much of the code was read
pub record IsReading (base : ℕ) (code : List ℕ) (heads : List Head) (edges : List Edge) (left : List ℕ) (all_heads : List Head) (all_edges : List Edge) : Type 0 where
  pub done : List StateValue
  pub rest : List StateValue
  pub cut : code ≡ code_of (done ++ rest)
  pub left_is : left ≡ code_of rest
  pub added : IsAdded base done heads edges all_heads all_edges

pub reading-first : (base : ℕ) (code : List ℕ) (states : List StateValue) (heads : List Head) (edges : List Edge) → code ≡ code_of states → AreHeld heads edges
    → IsReading base code heads edges code heads edges
reading-first base code states heads edges is held = record {
  done = [];
  rest = states;
  cut = is;
  left_is = is;
  added = record { held = held; states = sym (append-nil (states_in heads edges)) };
}

flag-back : (b : Bool) → nat_eq (flag_of b) 1 ≡ b
flag-back true = refl
flag-back false = refl

-- the code of a state and of those behind it
state-first : (state : StateValue) (rest : List StateValue) → code_of (state ∷ rest) ≡ flag_of state.accepts ∷ length state.edges ∷ (flat_map edge_code state.edges ++ code_of rest)
state-first state rest = flat_map-cons state_code state rest

module _ (base : ℕ) (code : List ℕ) (heads : List Head) (edges : List Edge) (left : List ℕ) (all_heads : List Head) (all_edges : List Edge)
    (reading : IsReading base code heads edges left all_heads all_edges) where
  -- where two numbers are left a state is
  state-left : 2 ≤ length left → (state : StateValue) × (more : List StateValue) × (reading.rest ≡ state ∷ more)
  state-left some = go reading.rest (ap length reading.left_is)
    where
      go : (rest : List StateValue) → length left ≡ length (code_of rest) → (state : StateValue) × (more : List StateValue) × (rest ≡ state ∷ more)
      go [] long = absurd (let none : length (code_of []) ≡ 0 = refl in omega (arith, some, long, none))
      go (state ∷ more) long = (state, more, refl)

  shape : (some : 2 ≤ length left) → (state : StateValue) × (more : List StateValue) × (reading.rest ≡ state ∷ more)
      × (left ≡ flag_of state.accepts ∷ length state.edges ∷ (flat_map edge_code state.edges ++ code_of more))
  shape some =
      let (state, more, is) = state-left some in
      (state, more, is, reading.left_is ∙ ap code_of is ∙ state-first state more)

  pub reading-room : 2 ≤ length left → 2 * get_or left 1 0 ≤ length (drop 2 left)
  reading-room some =
      let (state, more, is, parts) = shape some in
      let count : get_or left 1 0 ≡ length state.edges = ap (λ l. get_or l 1 0) parts in
      let later : drop 2 left ≡ flat_map edge_code state.edges ++ code_of more = ap (drop 2) parts in
      let long = ap length later in
      let both = length-append (flat_map edge_code state.edges) (code_of more) in
      let pairs = pairs-long state.edges in
      omega (arith, count, long, both, pairs)

  pub reading-next : 2 ≤ length left → (new_heads : List Head) (new_edges : List Edge) → AreHeld new_heads new_edges
      → states_in new_heads new_edges ≡ states_in all_heads all_edges ++ (record { accepts = nat_eq (get_or left 0 0) 1; edges = edges_in base (take (2 * get_or left 1 0) (drop 2 left)) }) ∷ []
      → IsReading base code heads edges (drop (2 * get_or left 1 0) (drop 2 left)) new_heads new_edges
  reading-next some new_heads new_edges held grown =
      let (state, more, is, parts) = shape some in
      let flag : get_or left 0 0 ≡ flag_of state.accepts = ap (λ l. get_or l 0 0) parts in
      let count : get_or left 1 0 ≡ length state.edges = ap (λ l. get_or l 1 0) parts in
      let later : drop 2 left ≡ flat_map edge_code state.edges ++ code_of more = ap (drop 2) parts in
      let pairs : List ℕ = flat_map edge_code state.edges in
      let long : 2 * get_or left 1 0 ≡ length pairs = ap (λ n. 2 * n) count ∙ sym (pairs-long state.edges) in
      let first : take (2 * get_or left 1 0) (drop 2 left) ≡ pairs =
      (λ i. take (long i) (later i)) ∙ take-append-le (length pairs) pairs (code_of more) (omega arith) ∙ take_all (length pairs) pairs (omega arith) in
      let behind : drop (2 * get_or left 1 0) (drop 2 left) ≡ code_of more =
      (λ i. drop (long i) (later i)) ∙ drop-append-le (length pairs) pairs (code_of more) (omega arith) ∙ ap (λ l. l ++ code_of more) (drop_all (length pairs) pairs (omega arith)) in
      let accepts : nat_eq (get_or left 0 0) 1 ≡ state.accepts = ap (λ n. nat_eq n 1) flag ∙ flag-back state.accepts in
      let out : edges_in base (take (2 * get_or left 1 0) (drop 2 left)) ≡ map (shifted_edge base) state.edges = ap (edges_in base) first ∙ edges-of base state.edges in
      record {
        done = reading.done ++ state ∷ [];
        rest = more;
        cut = reading.cut ∙ ap (λ r. code_of (reading.done ++ r)) is ∙ ap code_of (sym (append_assoc reading.done (state ∷ []) more));
        left_is = behind;
        added = record {
          held = held;
          states = grown
              ∙ (λ i. reading.added.states i ++ (record { accepts = accepts i; edges = out i }) ∷ [])
              ∙ append_assoc (states_in heads edges) (map (shifted base) reading.done) (shifted base state ∷ [])
              ∙ ap (λ l. states_in heads edges ++ l) (sym (map-append (shifted base) reading.done (state ∷ [])));
        };
      }

  pub reading-done : length left < 2 → (states : List StateValue) × (code ≡ code_of states) × IsAdded base states heads edges all_heads all_edges
  reading-done few = (reading.done, reading.cut ∙ ap (λ r. code_of (reading.done ++ r)) (none reading.rest (ap length reading.left_is)) ∙ ap code_of (append-nil reading.done), reading.added)
    where
      none : (rest : List StateValue) → length left ≡ length (code_of rest) → rest ≡ []
      none [] long = refl
      none (state ∷ more) long = absurd (let parts = ap length (state-first state more) in omega (arith, few, long, parts))

-- Group by group

-- the automata of these groups were read
pub record AreRead (groups : List Group) (heads : List Head) (edges : List Edge) (loads : List LoadedState) : Type 0 where
  pub held : AreHeld heads edges
  pub trim : IsTrim (states_in heads edges)
  pub roots : AllZip (IsRoot (states_in heads edges)) loads groups

-- what is accepted from the first state of a searched code lies in it
searched-lies : (count most : ℕ) (code : List ℕ) (is : IsSearched count most code) (list : List ℕ) → Accepts is.states 0 list ↔ LieIn list code
searched-lies count most code is list = (
  (λ accepts. (is.states, is.coded, accepts)),
  (λ (states, coded, accepts). subst (λ s. Accepts s 0 list) (code-same states is.states (sym coded ∙ is.coded)) accepts),
)

root-longer : (states more : List StateValue) → IsTrim states → (load : LoadedState) (group : Group) → IsRoot states load group → IsRoot (states ++ more) load group
root-longer states more trim load group root = record {
  there = (let inside = root.there in let long = length-append states more in omega (arith, inside, long));
  same = λ list. (
    (λ accepts. (root.same list).0 (longer-back states more trim list load.state root.there accepts)),
    (λ lies. accepts-more states more list load.state ((root.same list).1 lies)),
  );
  weight = root.weight;
}

roots-longer : (states more : List StateValue) → IsTrim states → (loads : List LoadedState) (groups : List Group) → AllZip (IsRoot states) loads groups → AllZip (IsRoot (states ++ more)) loads groups
roots-longer states more trim [] [] zip = zip
roots-longer states more trim [] (group ∷ groups) zip = absurd zip
roots-longer states more trim (load ∷ loads) [] zip = absurd zip
roots-longer states more trim (load ∷ loads) (group ∷ groups) zip = (root-longer states more trim load group zip.0, roots-longer states more trim loads groups zip.1)

module _ (front states : List StateValue) (group : Group) (count most : ℕ) (searched : IsSearched count most group.automaton) (coded : group.automaton ≡ code_of states)
    (base : ℕ) (base_is : base ≡ length front) where
  these : searched.states ≡ states
  these = code-same searched.states states (sym searched.coded ∙ coded)

  states-trim : IsTrim states
  states-trim = subst IsTrim these searched.trim

  states-some : 0 < length states
  states-some = subst (λ s. 0 < length s) these searched.some

  pub grown-trim : IsTrim front → IsTrim (front ++ map (shifted (length front)) states)
  grown-trim before = both-trim front states before states-trim

  at-base : 0 + length front ≡ base
  at-base = omega (arith, base_is)

  pub root-new : IsRoot (front ++ map (shifted (length front)) states) (record { state = base; weight = group.count }) group
  root-new = record {
    there = (let long = length-append front (map (shifted (length front)) states) in let same = length-map states (shifted (length front)) in let some = states-some in omega (arith, base_is, long, same, some));
    same = λ list. (
      (λ accepts. (
        states,
        coded,
        shift-back front states states-trim list 0 states-some
            (subst (λ k. Accepts (front ++ map (shifted (length front)) states) k list) (sym at-base) accepts),
      )),
      (λ lies. (let here : Accepts searched.states 0 list = (searched-lies count most group.automaton searched list).1 lies in
          subst (λ k. Accepts (front ++ map (shifted (length front)) states) k list) at-base
          (shift-forth front states list 0 (subst (λ s. Accepts s 0 list) these here)))),
    );
    weight = refl;
  }

pub read-more : (groups : List Group) (heads : List Head) (edges : List Edge) (loads : List LoadedState) → AreRead groups heads edges loads
    → (group : Group) (count most : ℕ) → IsSearched count most group.automaton → (base : ℕ) → base ≡ length heads
    → (states : List StateValue) → group.automaton ≡ code_of states → (new_heads : List Head) (new_edges : List Edge) → IsAdded base states heads edges new_heads new_edges
    → AreRead (groups ++ group ∷ []) new_heads new_edges (loads ++ (record { state = base; weight = group.count }) ∷ [])
read-more groups heads edges loads read group count most searched base base_is states coded new_heads new_edges added =
    let front : List StateValue = states_in heads edges in
    let here : base ≡ length (states_in heads edges) = base_is ∙ sym (length-map heads (state_in edges)) in
    let whole : states_in new_heads new_edges ≡ states_in heads edges ++ map (shifted (length (states_in heads edges))) states =
    added.states ∙ ap (λ b. states_in heads edges ++ map (shifted b) states) here in
    record {
      held = added.held;
      trim = subst IsTrim (sym whole) (grown-trim (states_in heads edges) states group count most searched coded base here read.trim);
      roots = subst (λ s. AllZip (IsRoot s) (loads ++ (record { state = base; weight = group.count }) ∷ []) (groups ++ group ∷ [])) (sym whole)
          (all_zipped_more (IsRoot (states_in heads edges ++ map (shifted (length (states_in heads edges))) states)) loads groups (record { state = base; weight = group.count }) group
          (roots-longer (states_in heads edges) (map (shifted (length (states_in heads edges))) states) read.trim loads groups read.roots)
          (root-new (states_in heads edges) states group count most searched coded base here));
    }

-- What the search asks of what was read

pub roots-there : (states : List StateValue) (loads : List LoadedState) (groups : List Group) → AllZip (IsRoot states) loads groups
    → (load : LoadedState) → Contains loads load → load.state < length states
roots-there states loads groups zip load held = (let (group, inside, root) = zip-first (IsRoot states) loads groups zip load held in root.there)

pub roots-finite : (states : List StateValue) (count most : ℕ) (loads : List LoadedState) (groups : List Group) → AllZip (IsRoot states) loads groups
    → ((group : Group) → Contains groups group → IsSearched count most group.automaton) → AreFinite states count most (map load_of loads)
roots-finite states count most loads groups zip searched = λ load held list accepts.
    let (from, inside, is) = Contains-from load_of loads load held in
    let (group, there, root) = zip-first (IsRoot states) loads groups zip from inside in
    let code = searched group there in
    let state : load.state ≡ from.state = ap (λ (l : Load). l.state) is in
    code.finite list ((searched-lies count most group.automaton code list).1 ((root.same list).0 (subst (λ k. Accepts states k list) state accepts)))

pub roots-weigh : (states : List StateValue) (loads : List LoadedState) (groups : List Group) → AllZip (IsRoot states) loads groups
    → sum_by (λ (load : LoadedState). load.weight) loads ≡ sum_by (λ (group : Group). group.count) groups
roots-weigh states [] [] zip = refl
roots-weigh states [] (group ∷ groups) zip = absurd zip
roots-weigh states (load ∷ loads) [] zip = absurd zip
roots-weigh states (load ∷ loads) (group ∷ groups) zip =
    sum_by-cons (λ (l : LoadedState). l.weight) load loads
    ∙ (λ i. zip.0.weight i + roots-weigh states loads groups zip.1 i)
    ∙ sym (sum_by-cons (λ (g : Group). g.count) group groups)

pub roots-stand : (states : List StateValue) (loads : List LoadedState) (groups : List Group) → AllZip (IsRoot states) loads groups → AllZip (Stands states) (map load_of loads) groups
roots-stand states [] [] zip = zip
roots-stand states [] (group ∷ groups) zip = absurd zip
roots-stand states (load ∷ loads) [] zip = absurd zip
roots-stand states (load ∷ loads) (group ∷ groups) zip = (record { same = zip.0.same; weight = zip.0.weight }, roots-stand states loads groups zip.1)
