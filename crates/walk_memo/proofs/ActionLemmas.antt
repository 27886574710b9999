-- The actions that a loop over states writes.
use Rattle.std.proofs.Common.{◌≡◌, ℕ, zero, suc, ◌<◌, ◌↔◌, inl, inr, Bool, true, false, eqb, IsTrue, List, [], ◌∷◌, ◌++◌, map, length, get_or, arith, refl, sym, subst, append_assoc, eq-eqb}
use Rattle.std.specs.List.{Contains, AllPairs}
use Rattle.std.specs.List.Sorted.{IsStrictlyIncreasing}
use Rattle.std.specs.Int.{bit_at}
use Rattle.std.proofs.lemmas.Bool.{eqb-true, cases_Bool}
use Rattle.std.proofs.lemmas.List.{append-nil, length-map, map-append}
use Rattle.std.proofs.lemmas.List.Elements.{Contains-append_right}
use Rattle.std.proofs.lemmas.List.Kept.{AllPairs-from_increasing}
use Rattle.mine_model.proofs.ListLemmas.{Contains-by, Contains-from}
use Rattle.state_bits.specs.Members.{Has}
use Rattle.walk_memo.specs.declared.action.Action.{Action}
use Rattle.walk_memo.specs.Moves.{MoveSets}
use Rattle.walk_memo.specs.Steps.{AreWritten, IsMarked}

-- the action of a state
abbrev pub action_of : MoveSets → ℕ → Action
action_of move q =
    record { state = q; more = eqb (bit_at move.more q) 1; unseen = eqb (bit_at move.unseen q) 1; ends = eqb (bit_at move.ends q) 1 }

-- a test of membership is the one of the bit
pub test_is : (test : Bool) (members q : ℕ) → IsTrue test ↔ Has members q → test ≡ eqb (bit_at members q) 1
unfolding Has
test_is true members q is = sym (eq-eqb (bit_at members q) 1 (is.0 refl))
test_is false members q is = elim (cases_Bool (eqb (bit_at members q) 1)) [
  | inl there ↦ absurd (let t : IsTrue false = is.1 (eqb-true (bit_at members q) 1 there) in cc)
  | inr none ↦ sym none
]

pub test_tells : (members q : ℕ) → IsTrue (eqb (bit_at members q) 1) ↔ Has members q
unfolding Has
test_tells members q = (
  (λ is. eqb-true (bit_at members q) 1 is),
  (λ has. eq-eqb (bit_at members q) 1 has),
)

-- an edge writes into the state
abbrev pub IsWriter : ℕ → MoveSets → ℕ → Type 0
IsWriter targets move q = Has targets q × Has move.writes q

-- the states of a walk over the writers up to here have their actions behind those from before
pub record IsWrittenSoFar (targets : ℕ) (move : MoveSets) (done left : List ℕ) (before now : List Action) : Type 0 where
  pub rising : IsStrictlyIncreasing (done ++ left)
  pub members : (q : ℕ) → Contains (done ++ left) q ↔ IsWriter targets move q
  pub written : now ≡ before ++ map (action_of move) done

pub written-none : (targets : ℕ) (move : MoveSets) (left : List ℕ) (before : List Action) → IsStrictlyIncreasing left → ((q : ℕ) → Contains left q ↔ IsWriter targets move q)
    → IsWrittenSoFar targets move [] left before before
written-none targets move left before rising members = record { rising = rising; members = members; written = sym (append-nil before) }

pub written-more : (targets : ℕ) (move : MoveSets) (done left later : List ℕ) (before now after : List Action) (state : ℕ) (action : Action)
    → IsWrittenSoFar targets move done left before now → left ≡ state ∷ later → after ≡ now ++ action ∷ [] → action ≡ action_of move state
    → IsWrittenSoFar targets move (done ++ state ∷ []) later before after
written-more targets move done left later before now after state action so_far next pushed is =
    let same : done ++ left ≡ (done ++ state ∷ []) ++ later = rw next (sym (append_assoc done (state ∷ []) later)) in
    record {
      rising = subst IsStrictlyIncreasing same so_far.rising;
      members = subst (λ (xs : List ℕ). (q : ℕ) → Contains xs q ↔ IsWriter targets move q) same so_far.members;
      written = rw (pushed, so_far.written, is, map-append (action_of move) done (state ∷ [])) (append_assoc before (map (action_of move) done) (action_of move state ∷ []));
    }

-- the next state of the walk is a writer
pub next_writer : {targets : ℕ} {move : MoveSets} {done left : List ℕ} {before now : List Action} (state : ℕ) (later : List ℕ) → IsWrittenSoFar targets move done left before now
    → left ≡ state ∷ later → IsWriter targets move state
next_writer {done = done} {left = left} state later so_far next =
    (so_far.members state).0 (Contains-append_right done left state (rw next (0, omega arith, refl)))

state_at : (move : MoveSets) (xs : List ℕ) (k : ℕ) (d : Action) → k < length xs → (get_or (map (action_of move) xs) k d).state ≡ get_or xs k 0
state_at move [] k d short = absurd (omega arith)
state_at move (x ∷ xs) zero d short = refl
state_at move (x ∷ xs) (suc k) d short = state_at move xs k d (omega arith)

rising_by_state : (move : MoveSets) (xs : List ℕ) → AllPairs (λ x y. x < y) xs → AllPairs (λ one other. one.state < other.state) (map (action_of move) xs)
rising_by_state move xs rising i j d below inside =
    let short : j < length xs = omega (arith, inside, length-map xs (action_of move)) in
    let first : (get_or (map (action_of move) xs) i d).state ≡ get_or xs i 0 = state_at move xs i d (omega arith) in
    let second : (get_or (map (action_of move) xs) j d).state ≡ get_or xs j 0 = state_at move xs j d short in
    rw (first, second) (rising i j 0 below short)

pub written-all : (targets : ℕ) (move : MoveSets) (done left : List ℕ) (before now : List Action) → IsWrittenSoFar targets move done left before now → left ≡ []
    → (more : List Action) × (now ≡ before ++ more) × AreWritten targets move more
written-all targets move done left before now so_far none =
    let all : done ++ left ≡ done = rw none (append-nil done) in
    let members : (q : ℕ) → Contains done q ↔ IsWriter targets move q = subst (λ (xs : List ℕ). (q : ℕ) → Contains xs q ↔ IsWriter targets move q) all so_far.members in (
      map (action_of move) done,
      so_far.written,
      record {
        rising = rising_by_state move done (AllPairs-from_increasing done (subst IsStrictlyIncreasing all so_far.rising));
        exact = λ action. (
          (λ held.
              let (q, inside, is) = Contains-from (action_of move) done action held in
              let (target, writes) = (members q).0 inside in
              subst (λ (a : Action). Has targets a.state × Has move.writes a.state × IsMarked move a) (sym is)
              (target, writes, record { more = test_tells move.more q; unseen = test_tells move.unseen q; ends = test_tells move.ends q })),
          (λ (target, writes, marked).
              let inside : Contains done action.state = (members action.state).1 (target, writes) in
              let more : action.more ≡ eqb (bit_at move.more action.state) 1 = test_is action.more move.more action.state marked.more in
              let unseen : action.unseen ≡ eqb (bit_at move.unseen action.state) 1 = test_is action.unseen move.unseen action.state marked.unseen in
              let ends : action.ends ≡ eqb (bit_at move.ends action.state) 1 = test_is action.ends move.ends action.state marked.ends in
              let same : action_of move action.state ≡ action = rw (← more, ← unseen, ← ends) refl in
              subst (Contains (map (action_of move) done)) same (Contains-by (action_of move) done action.state inside)),
        );
      },
    )
