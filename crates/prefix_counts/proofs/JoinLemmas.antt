-- The sums of another, joined list by list.
use Rattle.std.proofs.Common.{◌≡◌, ℕ, zero, suc, ◌+◌, ◌≤◌, ◌<◌, ◌^◌, inl, inr, Bool, true, cond, nat_eq, Some, List, [], ◌∷◌, ◌++◌, length, take, get_or, slice_get, refl, sym, ap, subst, ◌∙◌, arith, append_assoc, true≢false}
use Rattle.std.specs.List.{Contains}
use Rattle.std.specs.Cmp.Lexicographic.{pointwise}
use Rattle.std.proofs.lemmas.Bool.{cases_Bool, cases_eq}
use Rattle.std.proofs.lemmas.List.{append-nil, length_push, take_all, get_or_append_left, get_or_push}
use Rattle.std.proofs.lemmas.List.Elements.{Contains-append_cases}
use Rattle.std.proofs.lemmas.Option.{none-some, same_Some, slice_get_within}
use Rattle.mine_model.specs.Names.{AreDistinct}
use Rattle.mine_model.proofs.ListLemmas.{Contains-none}
use Rattle.mine_model.proofs.ElementLemmas.{get-some, get-held, get-place, get-left, decides}
use Rattle.pattern_counts.specs.Tally.{sum_in}
use Rattle.prefix_counts.specs.declared.node.Node.{Node}
use Rattle.prefix_counts.specs.Nodes.{IsNodeOf}
use Rattle.prefix_counts.specs.Prefixes.{Prefixes, ArePrefixes}
use Rattle.prefix_counts.specs.Sums.{sum_of, IsTaken, AreJoined}
use Rattle.prefix_counts.proofs.SumLemmas.{either-none, test-same, test-apart, distinct-first, distinct-rest, sum-at}

-- ---- the sums of the first so many lists

none-before : (lists : List (List ℕ)) (sums : List ℕ) (k : ℕ) (list : List ℕ) → AreDistinct lists → slice_get lists k ≡ Some list
    → sum_in (take k lists) (take k sums) list ≡ 0
none-before [] sums k list distinct at = absurd (none-some list at)
none-before (first ∷ lists) sums zero list distinct at = refl
none-before (first ∷ lists) [] (suc k) list distinct at = refl
none-before (first ∷ lists) (s ∷ sums) (suc k) list distinct at =
    ap (λ (b : Bool). cond b s (sum_in (take k lists) (take k sums) list)) (test-apart first list (distinct-first first lists k list distinct at))
    ∙ none-before lists sums k list (distinct-rest first lists distinct) at

next-here : (lists : List (List ℕ)) (sums : List ℕ) (k : ℕ) (list : List ℕ) (sum : ℕ) → AreDistinct lists → slice_get lists k ≡ Some list → slice_get sums k ≡ Some sum
    → sum_in (take (suc k) lists) (take (suc k) sums) list ≡ sum
next-here [] sums k list sum distinct at is = absurd (none-some list at)
next-here (first ∷ lists) [] k list sum distinct at is = absurd (none-some sum is)
next-here (first ∷ lists) (s ∷ sums) zero list sum distinct at is =
    ap (λ (b : Bool). cond b s 0) (test-same first list (same_Some first list at)) ∙ same_Some s sum is
next-here (first ∷ lists) (s ∷ sums) (suc k) list sum distinct at is =
    ap (λ (b : Bool). cond b s (sum_in (take (suc k) lists) (take (suc k) sums) list)) (test-apart first list (distinct-first first lists k list distinct at))
    ∙ next-here lists sums k list sum (distinct-rest first lists distinct) at is

next-other : (lists : List (List ℕ)) (sums : List ℕ) (k : ℕ) (here list : List ℕ) → slice_get lists k ≡ Some here → (list ≡ here → ⊥)
    → sum_in (take (suc k) lists) (take (suc k) sums) list ≡ sum_in (take k lists) (take k sums) list
next-other [] sums k here list at other = absurd (none-some here at)
next-other (first ∷ lists) [] zero here list at other = refl
next-other (first ∷ lists) [] (suc k) here list at other = refl
next-other (first ∷ lists) (s ∷ sums) zero here list at other =
    ap (λ (b : Bool). cond b s 0) (test-apart first list (λ same. other (sym same ∙ same_Some first here at)))
next-other (first ∷ lists) (s ∷ sums) (suc k) here list at other =
    ap (λ (n : ℕ). cond (pointwise nat_eq first list) s n) (next-other lists sums k here list at other)

abbrev pub first_of : ℕ → Prefixes → Prefixes
first_of count prefixes = record { lists = take count prefixes.lists; sums = take count prefixes.sums }

all-first : (prefixes : Prefixes) (count : ℕ) → ArePrefixes prefixes → length prefixes.lists ≤ count → (list : List ℕ) → sum_of (first_of count prefixes) list ≡ sum_of prefixes list
all-first prefixes count are most list =
    ap (λ (ls : List (List ℕ)). sum_in ls (take count prefixes.sums) list) (take_all count prefixes.lists most)
    ∙ ap (λ (ss : List ℕ). sum_in prefixes.lists ss list) (take_all count prefixes.sums (omega (arith, most, are.each)))

-- the first is the empty list, to which nothing was added
none-first : (lists : List (List ℕ)) (sums : List ℕ) → slice_get sums 0 ≡ Some 0 → (list : List ℕ) → sum_in (take 1 lists) (take 1 sums) list ≡ 0
none-first [] sums is list = refl
none-first (first ∷ lists) [] is list = refl
none-first (first ∷ lists) (s ∷ sums) is list =
    ap (λ (n : ℕ). cond (pointwise nat_eq first list) n 0) (same_Some s 0 is) ∙ either-none (pointwise nat_eq first list) 0

-- ---- the list of a node

-- its parent has a number here, under which the list without its last rank stands
pub parent-place : (here theirs : Prefixes) (numbers : List ℕ) (number : ℕ) (node : Node) (place : ℕ) → IsNodeOf theirs number node → number < length theirs.lists
    → place ≡ get_or numbers node.parent 0
    → ((k : ℕ) → k < number → slice_get here.lists (get_or numbers k 0) ≡ slice_get theirs.lists k)
    → (list : List ℕ) × (slice_get here.lists place ≡ Some list) × (slice_get theirs.lists number ≡ Some (list ++ node.rank ∷ []))
parent-place here theirs numbers number node place is within at held =
    let before = is.before in
    let (list, there) = get-some theirs.lists node.parent (omega (arith, before, within)) in
    (list, ap (λ (n : ℕ). slice_get here.lists n) at ∙ held node.parent before ∙ there, is.list list there)

-- its sum is that of the list
pub node-sum : (theirs : Prefixes) (number : ℕ) (node : Node) (list : List ℕ) → ArePrefixes theirs → IsNodeOf theirs number node → slice_get theirs.lists number ≡ Some list
    → node.sum ≡ sum_of theirs list
node-sum theirs number node list are is at = same_Some node.sum (sum_of theirs list) (sym is.sum ∙ sum-at theirs number list are at)

-- ---- list by list

-- the first so many lists have these numbers, and their sums were added
pub record AreJoinedSoFar (mine theirs joined : Prefixes) (numbers : List ℕ) (count : ℕ) : Type 0 where
  pub long : length numbers ≡ count
  pub numbered : (k : ℕ) → k < count → slice_get joined.lists (get_or numbers k 0) ≡ slice_get theirs.lists k
  pub kept : (more : List (List ℕ)) × (joined.lists ≡ mine.lists ++ more) × ((list : List ℕ) → Contains more list → Contains theirs.lists list)
  pub added : (list : List ℕ) → sum_of joined list ≡ sum_of mine list + sum_of (first_of count theirs) list

module _ (mine theirs : Prefixes) (there : ArePrefixes theirs) where
  pub joined-none : ArePrefixes mine → (numbers : List ℕ) → numbers ≡ 0 ∷ [] → AreJoinedSoFar mine theirs mine numbers 1
  joined-none here numbers is = record {
    long = ap (λ (ns : List ℕ). length ns) is;
    numbered = λ k below.
        let zeroth : k ≡ 0 = omega (arith, below) in
        ap (λ (n : ℕ). slice_get mine.lists n) (ap (λ (ns : List ℕ). get_or ns k 0) is ∙ ap (λ (i : ℕ). get_or (0 ∷ []) i 0) zeroth)
        ∙ here.first ∙ sym there.first ∙ sym (ap (λ (i : ℕ). slice_get theirs.lists i) zeroth);
    kept = ([], sym (append-nil mine.lists), λ list held. absurd (Contains-none list held));
    added = λ list.
        let nothing : sum_of (first_of 1 theirs) list ≡ 0 = none-first theirs.lists theirs.sums there.nothing list in
        omega (arith, nothing);
  }

  -- there is room for the next sum
  pub next-room : (joined : Prefixes) (numbers : List ℕ) (count : ℕ) → AreJoinedSoFar mine theirs joined numbers count
      → ((list : List ℕ) → sum_of mine list + sum_of theirs list < 2 ^ 64) → (list : List ℕ) → slice_get theirs.lists count ≡ Some list
      → sum_of joined list + sum_of theirs list < 2 ^ 64
  next-room joined numbers count so_far room list at =
      let before : sum_of (first_of count theirs) list ≡ 0 = none-before theirs.lists theirs.sums count list there.distinct at in
      let both : sum_of mine list + sum_of theirs list < 2 ^ 64 = room list in
      omega (arith, so_far.added list, before, both)

  pub joined-next : (joined after : Prefixes) (numbers more : List ℕ) (count place : ℕ) (list : List ℕ) → AreJoinedSoFar mine theirs joined numbers count
      → slice_get theirs.lists count ≡ Some list → IsTaken list true (sum_of theirs list) place joined after → more ≡ numbers ++ place ∷ []
      → AreJoinedSoFar mine theirs after more (count + 1)
  joined-next joined after numbers more count place list so_far at taken is = record {
    long = ap (λ (ns : List ℕ). length ns) is ∙ length_push numbers place ∙ ap (λ (n : ℕ). n + 1) so_far.long;
    numbered = λ k below. elim (cases_eq k count) [
      | inl last ↦
          ap (λ (n : ℕ). slice_get after.lists n)
          (ap (λ (ns : List ℕ). get_or ns k 0) is ∙ get_or_push numbers place 0 k (so_far.long ∙ sym last))
          ∙ taken.number ∙ sym at ∙ sym (ap (λ (i : ℕ). slice_get theirs.lists i) last)
      | inr other ↦
          let less : k < count = omega (arith, below, other) in
          let (old, old_at) = get-some theirs.lists k (omega (arith, less, slice_get_within theirs.lists count list at)) in
          let (new, all, alone) = taken.kept in
          ap (λ (n : ℕ). slice_get after.lists n)
          (ap (λ (ns : List ℕ). get_or ns k 0) is ∙ get_or_append_left numbers (place ∷ []) 0 k (omega (arith, less, so_far.long)))
          ∙ ap (λ (ls : List (List ℕ)). slice_get ls (get_or numbers k 0)) all
          ∙ get-left joined.lists new (get_or numbers k 0) old (so_far.numbered k less ∙ old_at)
          ∙ sym old_at
    ];
    kept =
        let (new, all, alone) = taken.kept in
        let (before, held, theirs_all) = so_far.kept in (
          before ++ new,
          all ∙ ap (λ (ls : List (List ℕ)). ls ++ new) held ∙ append_assoc mine.lists before new,
          λ other there_is. elim (Contains-append_cases before new other there_is) [
            | inl old ↦ theirs_all other old
            | inr one ↦ subst (Contains theirs.lists) (sym (alone other one)) (get-held theirs.lists count list at)
          ],
        );
    added = λ other.
        let next : count + 1 ≡ suc count = omega arith in
        let until : sum_of (first_of (count + 1) theirs) other ≡ sum_of (first_of (suc count) theirs) other =
        ap (λ (n : ℕ). sum_of (first_of n theirs) other) next in
        elim (cases_Bool (pointwise nat_eq other list)) [
          | inl passes ↦ one other ((decides other list).0 passes)
          | inr fails ↦
              let apart : other ≡ list → ⊥ = λ same. true≢false (sym ((decides other list).1 same) ∙ fails) in
              let same : sum_of after other ≡ sum_of joined other = taken.others other (λ is'. absurd (apart is')) in
              let rest : sum_of (first_of (suc count) theirs) other ≡ sum_of (first_of count theirs) other = next-other theirs.lists theirs.sums count list other at apart in
              let whole = so_far.added other in
              omega (arith, same, rest, whole, until)
        ];
  }
    where
      one : (other : List ℕ) → other ≡ list → sum_of after other ≡ sum_of mine other + sum_of (first_of (count + 1) theirs) other
      one other same =
          let here : sum_of after list ≡ sum_of joined list + sum_of theirs list = taken.counted refl in
          let before : sum_of (first_of count theirs) list ≡ 0 = none-before theirs.lists theirs.sums count list there.distinct at in
          let now : sum_of (first_of (suc count) theirs) list ≡ sum_of theirs list =
          next-here theirs.lists theirs.sums count list (sum_of theirs list) there.distinct at (sum-at theirs count list there at) in
          let next : count + 1 ≡ suc count = omega arith in
          let until : sum_of (first_of (count + 1) theirs) list ≡ sum_of (first_of (suc count) theirs) list = ap (λ (n : ℕ). sum_of (first_of n theirs) list) next in
          subst (λ (xs : List ℕ). sum_of after xs ≡ sum_of mine xs + sum_of (first_of (count + 1) theirs) xs) (sym same)
          (let whole = so_far.added list in omega (arith, here, before, now, until, whole))

  -- ALL LISTS are joined
  pub joined-all : (joined : Prefixes) (numbers : List ℕ) (count : ℕ) → AreJoinedSoFar mine theirs joined numbers count → count ≡ length theirs.lists → AreJoined mine theirs joined
  joined-all joined numbers count so_far all = record {
    kept = so_far.kept;
    held = λ list held.
        let (k, at) = get-place theirs.lists list held in
        let below : k < count = omega (arith, all, slice_get_within theirs.lists k list at) in
        get-held joined.lists (get_or numbers k 0) list (so_far.numbered k below ∙ at);
    added = λ list.
        let whole = so_far.added list in
        let until : sum_of (first_of count theirs) list ≡ sum_of theirs list = all-first theirs count there (omega (arith, all)) list in
        omega (arith, whole, until);
  }
