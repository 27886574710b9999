-- The shares of all workers are all sequences, each once.
use Rattle.std.proofs.Common.{◌≡◌, ◌≢◌, ℕ, zero, suc, ◌+◌, ◌%◌, ◌<◌, ◌≤◌, ◌==◌, nat_lt, inl, inr, Bool, true, false, cond, List, [], ◌∷◌, ◌++◌, filter, length, map, take, refl, sym, ap, ◌∙◌, subst, arith, slice_index}
use Rattle.std.specs.List.{range_with_len}
use Rattle.std.proofs.lemmas.Bool.{cases_eq, cases_lt, lt-ltb, le-ltb}
use Rattle.std.proofs.lemmas.List.{append-nil, append_assoc, take_all, take_more, map-append, length-map}
use Rattle.std.proofs.lemmas.List.FromFn.{length-range_with_len}
use Rattle.mine_model.specs.declared.item.Item.{Item}
use Rattle.mine_model.specs.Database.{sequence_at}
use Rattle.mine_model.specs.Support.{Sequence}
use Rattle.prefix_sieve.specs.Sieves.{AreDealt}
use Rattle.worker_shares.specs.Shares.{takes_of, numbers_of, sequences_at, share_of}
use Rattle.worker_shares.proofs.NumberLemmas.{filter-next}

-- ---- dealt to two

dealt-all : (all : List (Sequence Item)) → AreDealt all all []
dealt-all [] = (refl, refl)
dealt-all (sequence ∷ all) = inl ([], all, refl, dealt-all all)

dealt-swap : (all some others : List (Sequence Item)) → AreDealt all some others → AreDealt all others some
dealt-swap [] some others (none, also) = (also, none)
dealt-swap (sequence ∷ all) some others (inl (before, behind, is, dealt)) = inr (before, behind, is, dealt-swap all (before ++ behind) others dealt)
dealt-swap (sequence ∷ all) some others (inr (before, behind, is, dealt)) = inl (before, behind, is, dealt-swap all some (before ++ behind) dealt)

-- more that the one takes
dealt-one : (all some others more : List (Sequence Item)) → AreDealt all some others → AreDealt (all ++ more) (some ++ more) others
dealt-one [] some others more (none, also) =
    subst (λ (ss : List (Sequence Item)). AreDealt more (ss ++ more) others) (sym none)
    (subst (λ (os : List (Sequence Item)). AreDealt more more os) (sym also) (dealt-all more))
dealt-one (sequence ∷ all) some others more (inl (before, behind, is, dealt)) = inl (
  before,
  behind ++ more,
  ap (λ (ss : List (Sequence Item)). ss ++ more) is ∙ append_assoc before (sequence ∷ behind) more,
  subst (λ (ss : List (Sequence Item)). AreDealt (all ++ more) ss others) (append_assoc before behind more) (dealt-one all (before ++ behind) others more dealt),
)
dealt-one (sequence ∷ all) some others more (inr (before, behind, is, dealt)) =
    inr (before, behind, is, dealt-one all some (before ++ behind) more dealt)

-- more that the other takes
dealt-other : (all some others more : List (Sequence Item)) → AreDealt all some others → AreDealt (all ++ more) some (others ++ more)
dealt-other all some others more dealt = dealt-swap (all ++ more) (others ++ more) some (dealt-one all others some more (dealt-swap all some others dealt))

dealt-by : (all some others : List (Sequence Item)) (all' some' others' : List (Sequence Item)) → all ≡ all' → some ≡ some' → others ≡ others'
    → AreDealt all' some' others' → AreDealt all some others
dealt-by all some others all' some' others' one two three dealt =
    subst (λ (ss : List (Sequence Item)). AreDealt ss some others) (sym one)
    (subst (λ (ss : List (Sequence Item)). AreDealt all' ss others) (sym two)
    (subst (λ (ss : List (Sequence Item)). AreDealt all' some' ss) (sym three) dealt))

-- ---- sequences that are taken

-- those of the first so many sequences that are taken
abbrev pub taken_of : (ℕ → Bool) → List (Sequence Item) → ℕ → List (Sequence Item)
taken_of takes sequences count = sequences_at sequences (filter takes (range_with_len 0 count))

taken-next : (takes : ℕ → Bool) (sequences : List (Sequence Item)) (n : ℕ)
    → taken_of takes sequences (suc n) ≡ taken_of takes sequences n ++ sequences_at sequences (cond (takes n) (n ∷ []) [])
taken-next takes sequences n =
    ap (sequences_at sequences) (filter-next takes n) ∙ map-append (sequence_at sequences) (filter takes (range_with_len 0 n)) (cond (takes n) (n ∷ []) [])

taken-with : (takes : ℕ → Bool) (sequences : List (Sequence Item)) (n : ℕ) → takes n ≡ true
    → taken_of takes sequences (suc n) ≡ taken_of takes sequences n ++ sequence_at sequences n ∷ []
taken-with takes sequences n is =
    taken-next takes sequences n ∙ ap (λ (b : Bool). taken_of takes sequences n ++ sequences_at sequences (cond b (n ∷ []) [])) is

taken-without : (takes : ℕ → Bool) (sequences : List (Sequence Item)) (n : ℕ) → takes n ≡ false
    → taken_of takes sequences (suc n) ≡ taken_of takes sequences n
taken-without takes sequences n is =
    taken-next takes sequences n ∙ ap (λ (b : Bool). taken_of takes sequences n ++ sequences_at sequences (cond b (n ∷ []) [])) is
    ∙ append-nil (taken_of takes sequences n)

-- those of the first so many workers
abbrev pub takes_below : ℕ → ℕ → ℕ → Bool
takes_below workers count n = nat_lt (n % workers) count

abbrev pub shares_to : List (Sequence Item) → ℕ → ℕ → List (Sequence Item)
shares_to sequences workers count = taken_of (takes_below workers count) sequences (length sequences)

-- ONE WORKER MORE takes its sequences, and those before it take theirs
dealt-taken : (sequences : List (Sequence Item)) (workers worker count : ℕ)
    → AreDealt (taken_of (takes_below workers (worker + 1)) sequences count) (taken_of (takes_below workers worker) sequences count) (taken_of (takes_of workers worker) sequences count)
dealt-taken sequences workers worker zero = (refl, refl)
dealt-taken sequences workers worker (suc n) =
    let more : List (Sequence Item) = sequence_at sequences n ∷ [] in
    let all : List (Sequence Item) = taken_of (takes_below workers (worker + 1)) sequences n in
    let some : List (Sequence Item) = taken_of (takes_below workers worker) sequences n in
    let others : List (Sequence Item) = taken_of (takes_of workers worker) sequences n in
    let before : AreDealt all some others = dealt-taken sequences workers worker n in
    elim (cases_lt (n % workers) worker) [
      | inl low ↦
          dealt-by _ _ _ (all ++ more) (some ++ more) others
          (taken-with (takes_below workers (worker + 1)) sequences n (lt-ltb (n % workers) (worker + 1) (omega (arith, low))))
          (taken-with (takes_below workers worker) sequences n (lt-ltb (n % workers) worker low))
          (taken-without (takes_of workers worker) sequences n (apart (omega (arith, low))))
          (dealt-one all some others more before)
      | inr not ↦
          elim (cases_eq (n % workers) worker) [
            | inl same ↦
                dealt-by _ _ _ (all ++ more) some (others ++ more)
                (taken-with (takes_below workers (worker + 1)) sequences n (lt-ltb (n % workers) (worker + 1) (omega (arith, same))))
                (taken-without (takes_below workers worker) sequences n (le-ltb (n % workers) worker (omega (arith, same))))
                (taken-with (takes_of workers worker) sequences n (here same))
                (dealt-other all some others more before)
            | inr differ ↦
                dealt-by _ _ _ all some others
                (taken-without (takes_below workers (worker + 1)) sequences n (le-ltb (n % workers) (worker + 1) (omega (arith, not, differ))))
                (taken-without (takes_below workers worker) sequences n (le-ltb (n % workers) worker (omega (arith, not))))
                (taken-without (takes_of workers worker) sequences n (apart differ))
                before
          ]
    ]
  where
    here : n % workers ≡ worker → (n % workers == worker) ≡ true
    here same = grind (arith, same)

    apart : n % workers ≢ worker → (n % workers == worker) ≡ false
    apart differ = grind (arith, differ)

pub dealt-shares : (sequences : List (Sequence Item)) (workers worker : ℕ)
    → AreDealt (shares_to sequences workers (worker + 1)) (shares_to sequences workers worker) (share_of sequences workers worker)
dealt-shares sequences workers worker = dealt-taken sequences workers worker (length sequences)

-- the share of the first worker is that of the first one
taken-first : (sequences : List (Sequence Item)) (workers count : ℕ) → taken_of (takes_of workers 0) sequences count ≡ taken_of (takes_below workers 1) sequences count
taken-first sequences workers zero = refl
taken-first sequences workers (suc n) =
    taken-next (takes_of workers 0) sequences n
    ∙ ap (λ (ss : List (Sequence Item)). ss ++ sequences_at sequences (cond (n % workers == 0) (n ∷ []) [])) (taken-first sequences workers n)
    ∙ ap (λ (b : Bool). taken_of (takes_below workers 1) sequences n ++ sequences_at sequences (cond b (n ∷ []) [])) same
    ∙ sym (taken-next (takes_below workers 1) sequences n)
  where
    same : (n % workers == 0) ≡ nat_lt (n % workers) 1
    same = elim (cases_eq (n % workers) 0) [
      | inl none ↦ first none ∙ sym (lt-ltb (n % workers) 1 (omega (arith, none)))
      | inr some ↦ second some ∙ sym (le-ltb (n % workers) 1 (omega (arith, some)))
    ]
      where
        first : n % workers ≡ 0 → (n % workers == 0) ≡ true
        first none = grind (arith, none)

        second : n % workers ≢ 0 → (n % workers == 0) ≡ false
        second some = grind (arith, some)

pub share-first : (sequences : List (Sequence Item)) (workers : ℕ) → share_of sequences workers 0 ≡ shares_to sequences workers 1
share-first sequences workers = taken-first sequences workers (length sequences)

-- ALL WORKERS take all
taken-all : (sequences : List (Sequence Item)) (workers count : ℕ) → 1 ≤ workers → count ≤ length sequences
    → taken_of (takes_below workers workers) sequences count ≡ take count sequences
taken-all sequences workers zero some most = refl
taken-all sequences workers (suc n) some most =
    let none : Sequence Item = record { items = []; weight = 0 } in
    let next : suc n ≡ n + 1 = omega arith in
    taken-with (takes_below workers workers) sequences n (lt-ltb (n % workers) workers below)
    ∙ ap (λ (ss : List (Sequence Item)). ss ++ sequence_at sequences n ∷ []) (taken-all sequences workers n some (omega (arith, most)))
    ∙ sym (ap (λ (k : ℕ). take k sequences) next ∙ take_more sequences n none (omega (arith, most)))
  where
    below : n % workers < workers
    below = grind (arith, some)

pub shares-all : (sequences : List (Sequence Item)) (workers : ℕ) → 1 ≤ workers → shares_to sequences workers workers ≡ sequences
shares-all sequences workers some =
    taken-all sequences workers (length sequences) some (omega arith) ∙ take_all (length sequences) sequences (omega arith)

-- ---- one after the other

pub sequences-more : (sequences : List (Sequence Item)) (numbers : List ℕ) (index : ℕ) → index < length numbers
    → sequences_at sequences (take (index + 1) numbers) ≡ sequences_at sequences (take index numbers) ++ sequence_at sequences (slice_index numbers index) ∷ []
sequences-more sequences numbers index below =
    ap (sequences_at sequences) (take_more numbers index 0 below)
    ∙ map-append (sequence_at sequences) (take index numbers) (slice_index numbers index ∷ [])

pub sequences-all : (sequences : List (Sequence Item)) (numbers : List ℕ) (index : ℕ) → length numbers ≤ index
    → sequences_at sequences (take index numbers) ≡ sequences_at sequences numbers
sequences-all sequences numbers index most = ap (sequences_at sequences) (take_all index numbers most)

-- ---- how many there are

filter-few : (takes : ℕ → Bool) (numbers : List ℕ) → length (filter takes numbers) ≤ length numbers
filter-few takes [] = omega arith
filter-few takes (n ∷ numbers) =
    let few = filter-few takes numbers in
    elim (takes n) as (λ b. length (cond b (n ∷ filter takes numbers) (filter takes numbers)) ≤ length (n ∷ numbers)) [
      | true ↦ omega (arith, few)
      | false ↦ omega (arith, few)
    ]

pub taken-few : (takes : ℕ → Bool) (sequences : List (Sequence Item)) (count : ℕ) → length (taken_of takes sequences count) ≤ count
taken-few takes sequences count =
    let few = filter-few takes (range_with_len 0 count) in
    omega (arith, few, length-map (filter takes (range_with_len 0 count)) (sequence_at sequences), length-range_with_len 0 count)

pub share-few : (sequences : List (Sequence Item)) (workers worker : ℕ) → length (share_of sequences workers worker) ≤ length sequences
share-few sequences workers worker = taken-few (takes_of workers worker) sequences (length sequences)

pub numbers-few : (workers worker count : ℕ) → length (numbers_of workers worker count) ≤ count
numbers-few workers worker count = let few = filter-few (takes_of workers worker) (range_with_len 0 count) in omega (arith, few, length-range_with_len 0 count)
