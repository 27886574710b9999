-- The pairs of a list of sequences, and what is told of them.
use Rattle.std.proofs.Common.{◌≡◌, ℕ, zero, suc, ◌+◌, ◌-◌, ◌%◌, ◌≤◌, ◌<◌, nat_lt, inl, inr, Bool, cond, Some, List, [], ◌∷◌, ◌++◌, filter, length, take, get_or, slice_get, slice_index, refl, sym, ap, ◌∙◌, subst, arith}
use Rattle.std.specs.List.{range_with_len, sum}
use Rattle.std.proofs.lemmas.Bool.{le-ltb}
use Rattle.std.proofs.lemmas.List.{take_all}
use Rattle.std.proofs.lemmas.List.FromFn.{length-range_with_len, get_or-range_with_len}
use Rattle.std.proofs.lemmas.List.Sums.{sum_by_more}
use Rattle.std.proofs.lemmas.Option.{slice_get-get_or, slice_get_within, get_or_from_slice_get}
use Rattle.mine_model.specs.declared.item.Item.{Item}
use Rattle.mine_model.specs.Answer.{Data}
use Rattle.mine_model.specs.Candidates.{IsCandidate}
use Rattle.mine_model.specs.Counted.{HasCandidates, HasPairs, IsTold, told_of}
use Rattle.mine_model.specs.Database.{sequence_at}
use Rattle.mine_model.specs.Ranks.{AreRanked}
use Rattle.mine_model.specs.Support.{Sequence}
use Rattle.search_tree.proofs.SearchAnswerLemmas.{frequent-ranks}
use Rattle.mining_job.specs.Problems.{Problem, IsWhole, data_of, items_of}
use Rattle.prefix_sieve.specs.Sieves.{AreDealt}
use Rattle.worker_shares.specs.Shares.{sequences_at, share_of}
use Rattle.worker_shares.proofs.ShareLemmas.{shares_to, sequences-more, dealt-shares, shares-all}
use Rattle.worker_threads.specs.Doing.{AreDone}
use Rattle.worker_threads.proofs.DoingLemmas.{done-at, done-long}
use Rattle.candidate_pairs.specs.Shares.{HaveAllTold}
use Rattle.candidate_pairs.proofs.NumberLemmas.{number-none}

-- ---- the pairs of lists

-- one sequence more at the end
pairs-push : (d : Data Item) (done : List (Sequence Item)) (sequence : Sequence Item) (n m : ℕ) → HasPairs d done n → HasCandidates d sequence.items m
    → HasPairs d (done ++ sequence ∷ []) (n + m)
pairs-push d [] sequence n m none here = (m, 0, omega (arith, none), here, refl)
pairs-push d (first ∷ done) sequence n m (one, rest, is, has, behind) here =
    (one, rest + m, omega (arith, is), has, pairs-push d done sequence rest m behind here)

-- without one of the sequences
pairs-without : (d : Data Item) (before behind : List (Sequence Item)) (sequence : Sequence Item) (n : ℕ) → HasPairs d (before ++ sequence ∷ behind) n
    → (one : ℕ) × (rest : ℕ) × (n ≡ one + rest) × HasCandidates d sequence.items one × HasPairs d (before ++ behind) rest
pairs-without d [] behind sequence n has = has
pairs-without d (first ∷ before) behind sequence n (here, more, is, has, later) =
    let (one, rest, also, candidates, pairs) = pairs-without d before behind sequence more later in
    (one, here + rest, omega (arith, is, also), candidates, (here, rest, refl, has, pairs))

-- THE PAIRS OF ALL are those of the one worker and those of the other
pairs-dealt : (d : Data Item) (all some others : List (Sequence Item)) (n m : ℕ) → AreDealt all some others → HasPairs d some n → HasPairs d others m
    → HasPairs d all (n + m)
pairs-dealt d [] some others n m (none, also) one other =
    let first : n ≡ 0 = subst (λ (ss : List (Sequence Item)). HasPairs d ss n) none one in
    let second : m ≡ 0 = subst (λ (ss : List (Sequence Item)). HasPairs d ss m) also other in
    omega (arith, first, second)
pairs-dealt d (sequence ∷ all) some others n m (inl (before, behind, is, dealt)) one other =
    let (here, rest, sum, has, pairs) = pairs-without d before behind sequence n (subst (λ (ss : List (Sequence Item)). HasPairs d ss n) is one) in
    (here, rest + m, omega (arith, sum), has, pairs-dealt d all (before ++ behind) others rest m dealt pairs other)
pairs-dealt d (sequence ∷ all) some others n m (inr (before, behind, is, dealt)) one other =
    let (here, rest, sum, has, pairs) = pairs-without d before behind sequence m (subst (λ (ss : List (Sequence Item)). HasPairs d ss m) is other) in
    (here, n + rest, omega (arith, sum), has, pairs-dealt d all some (before ++ behind) n rest dealt one pairs)

-- ---- what is told

-- WHAT IS TOLD OF PARTS is enough to tell of both
told-both : (a b n m : ℕ) → told_of a ≡ told_of n → told_of b ≡ told_of m → told_of (a + b) ≡ told_of (n + m)
told-both a b n m one other = omega (arith, one, other)

-- what is told of a sum so far, and of one number more
pub told-more : (shares : List ℕ) (i told : ℕ) (d : ℕ) → i < length shares → told ≡ told_of (sum (take i shares))
    → told_of (told + get_or shares i d) ≡ told_of (sum (take (i + 1) shares))
told-more shares i told d below is =
    told-both told (get_or shares i d) (sum (take i shares)) (get_or shares i d) again refl ∙ ap told_of (sym (sum_by_more (λ x. x) shares i d below))
  where
    again : told_of told ≡ told_of (sum (take i shares))
    again = omega (arith, is)

-- ---- a worker's sequences

-- the first so many of these numbers, and the next
pub told-next : (problem : Problem) (numbers : List ℕ) (index so_far told more : ℕ) → index < length numbers
    → IsTold (HasPairs (data_of problem) (sequences_at problem.sequences (take index numbers))) so_far
    → IsTold (HasCandidates (data_of problem) (items_of problem (slice_index numbers index))) told → more ≡ told_of (so_far + told)
    → IsTold (HasPairs (data_of problem) (sequences_at problem.sequences (take (index + 1) numbers))) more
told-next problem numbers index so_far told more below (n, has, first) (m, here, second) is =
    let before : List (Sequence Item) = sequences_at problem.sequences (take index numbers) in (
      n + m,
      subst (λ (ss : List (Sequence Item)). HasPairs (data_of problem) ss (n + m)) (sym (sequences-more problem.sequences numbers index below))
          (pairs-push (data_of problem) before (sequence_at problem.sequences (slice_index numbers index)) n m has here),
      is ∙ both,
    )
  where
    both : told_of (so_far + told) ≡ told_of (n + m)
    both = omega (arith, first, second)

-- ---- no item is frequent

-- there is no candidate
no-candidate : (problem : Problem) → IsWhole problem → length problem.ranking.order ≡ 0 → (items pattern : List Item) → IsCandidate (data_of problem) items pattern → ⊥
no-candidate problem whole none items [] is = is.generated.0 refl
no-candidate problem whole none items (v ∷ pattern) is = never (frequent-ranks (data_of problem) problem.ranking whole.ranks (v ∷ pattern) is.allowed)
  where
    never : (ranks : List ℕ) × AreRanked problem.ranking.order (v ∷ pattern) ranks → ⊥
    never ([], unranked) = unranked
    never (rank ∷ ranks, ranked) =
        let below : rank - 1 < length problem.ranking.order = slice_get_within problem.ranking.order (rank - 1) v ranked.0.place in
        omega (arith, below, none)

pairs-never : (problem : Problem) → IsWhole problem → length problem.ranking.order ≡ 0 → (sequences : List (Sequence Item)) → HasPairs (data_of problem) sequences 0
pairs-never problem whole none [] = refl
pairs-never problem whole none (sequence ∷ sequences) =
    (0, 0, refl, number-none (IsCandidate (data_of problem) sequence.items) (no-candidate problem whole none sequence.items), pairs-never problem whole none sequences)

-- SO THERE ARE NO PAIRS
pub told-never : (problem : Problem) → IsWhole problem → length problem.ranking.order ≡ 0 → (sequences : List (Sequence Item)) → IsTold (HasPairs (data_of problem) sequences) 0
told-never problem whole none sequences = (0, pairs-never problem whole none sequences, refl)

-- ---- all workers

-- the number of a worker is that of its place
number-at : (workers k worker : ℕ) → slice_get (range_with_len 0 workers) k ≡ Some worker → worker ≡ k
number-at workers k worker at =
    let below : k < workers = omega (arith, slice_get_within (range_with_len 0 workers) k worker at, length-range_with_len 0 workers) in
    let here : get_or (range_with_len 0 workers) k 0 ≡ 0 + k = get_or-range_with_len 0 workers k 0 below in
    omega (arith, here, get_or_from_slice_get (range_with_len 0 workers) k worker 0 at)

pub number-below : (workers : ℕ) (numbers : List ℕ) → numbers ≡ range_with_len 0 workers → (k d : ℕ) → k < length numbers → get_or numbers k d < workers
number-below workers numbers is k d below =
    let less : k < workers = omega (arith, below, ap (λ (ns : List ℕ). length ns) is, length-range_with_len 0 workers) in
    let here : get_or numbers k d ≡ 0 + k = ap (λ (ns : List ℕ). get_or ns k d) is ∙ get_or-range_with_len 0 workers k d less in
    omega (arith, here, less)

-- none of the workers has no sequence
none-taken : (workers : ℕ) (numbers : List ℕ) → filter (λ n. nat_lt (n % workers) 0) numbers ≡ []
none-taken workers [] = refl
none-taken workers (n ∷ numbers) =
    let rest : List ℕ = filter (λ k. nat_lt (k % workers) 0) numbers in
    ap (λ (b : Bool). cond b (n ∷ rest) rest) (le-ltb (n % workers) 0 (omega arith)) ∙ none-taken workers numbers

module _ (problem : Problem) (workers : ℕ) where
  -- the worker with this number told the pairs of its sequences
  abbrev pub IsToldBy : ℕ → ℕ → Type 0
  IsToldBy worker told = IsTold (HasPairs (data_of problem) (share_of problem.sequences workers worker)) told

  pub all-told : (shares : List ℕ) → AreDone IsToldBy (range_with_len 0 workers) shares → HaveAllTold problem workers shares
  all-told shares done = record {
    all = done-long IsToldBy (range_with_len 0 workers) shares done ∙ length-range_with_len 0 workers;
    each = λ k told at.
        let (worker, there, is) = done-at IsToldBy (range_with_len 0 workers) shares done k told at in
        subst (λ (w : ℕ). IsToldBy w told) (number-at workers k worker there) is;
  }

  -- the pairs of the first so many workers
  told-first : (shares : List ℕ) → HaveAllTold problem workers shares → (count : ℕ) → count ≤ workers
      → IsTold (HasPairs (data_of problem) (shares_to problem.sequences workers count)) (told_of (sum (take count shares)))
  told-first shares have zero most = (0, subst (λ (ss : List (Sequence Item)). HasPairs (data_of problem) ss 0) (sym none) refl, refl)
    where
      none : shares_to problem.sequences workers 0 ≡ []
      none = ap (sequences_at problem.sequences) (none-taken workers (range_with_len 0 (length problem.sequences)))
  told-first shares have (suc count) most =
      let below : count < length shares = omega (arith, most, have.all) in
      let here : ℕ = get_or shares count 0 in
      let (n, one, first) = told-first shares have count (omega (arith, most)) in
      let (m, other, second) = have.each count here (slice_get-get_or shares count 0 below) in
      let next : suc count ≡ count + 1 = omega arith in (
        n + m,
        subst (λ (k : ℕ). HasPairs (data_of problem) (shares_to problem.sequences workers k) (n + m)) (sym next)
            (pairs-dealt (data_of problem) _ _ _ n m (dealt-shares problem.sequences workers count) one other),
        ap (λ (k : ℕ). told_of (sum (take k shares))) next ∙ ap told_of (sum_by_more (λ x. x) shares count 0 below)
            ∙ told-both (sum (take count shares)) here n m first (again here m second),
      )
    where
      again : (a n : ℕ) → a ≡ told_of n → told_of a ≡ told_of n
      again a n is = omega (arith, is)

  -- ALL WORKERS tell the pairs of all
  pub told-all : 1 ≤ workers → (shares : List ℕ) → HaveAllTold problem workers shares → IsTold (HasPairs (data_of problem) problem.sequences) (told_of (sum shares))
  told-all some shares have =
      subst (λ (ss : List (Sequence Item)). IsTold (HasPairs (data_of problem) ss) (told_of (sum shares))) (shares-all problem.sequences workers some)
      (subst (λ (xs : List ℕ). IsTold (HasPairs (data_of problem) (shares_to problem.sequences workers workers)) (told_of (sum xs))) (take_all workers shares (omega (arith, have.all)))
      (told-first shares have workers (omega arith)))
