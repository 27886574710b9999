-- The places at which paths write, and the states that they reach where they write nothing.
use Rattle.std.proofs.Common.{◌≡◌, ◌≢◌, ◌↔◌, ℕ, ◌+◌, ◌≤◌, ◌<◌, ◌⊎◌, inl, inr, false, true, Option, Some, None, IfSome, List, [], ◌∷◌, ◌++◌, length, take, drop, slice_get, refl, sym, ap, ◌∙◌, subst, arith, append_assoc}
use Rattle.std.specs.List.{Contains}
use Rattle.std.proofs.lemmas.List.{append-nil, length-append, length-take-le, take-append-drop, take_at, drop_at}
use Rattle.std.proofs.lemmas.Option.{slice_get_within}
use Rattle.state_bits.specs.Members.{Has}
use Rattle.mine_model.specs.declared.item.Item.{Item}
use Rattle.mine_model.proofs.ElementLemmas.{take-next}
use Rattle.mine_model.proofs.ListLemmas.{Contains-cases, Contains-none}
use Rattle.fst_compile.specs.Transducer.{Leads}
use Rattle.mining_job.specs.declared.bound.Bound.{Bound}
use Rattle.mining_job.specs.Problems.{Problem, IsWhole}
use Rattle.sequence_grids.specs.Grids.{Completes, Ends, Reads}
use Rattle.sequence_grids.specs.Kinds.{IsNeededRank, Writes, Needs}
use Rattle.sequence_grids.proofs.PathLemmas.{path-step}
use Rattle.part_windows.specs.Windows.{WritesRanks, IsReached, HoldNeeded, IsWrittenAt}
use Rattle.part_windows.proofs.RunLemmas.{runs-join, runs-split, runs-end, runs-cut, ranks-path, ends-silent, run-completes}

-- the final states
abbrev pub Final : Problem → ℕ → Type 0
Final problem = Has problem.transducer.finals

at-front : {X : Type 0} (xs : List X) (x : X) (ys : List X) → slice_get (xs ++ x ∷ ys) (length xs) ≡ Some x
at-front [] x ys = refl
at-front (z ∷ xs) x ys = at-front xs x ys

module _ (problem : Problem) (bound : Bound) where
  -- where a path writes something over the items in the middle, a place among these matters
  pub written : (items xs ys zs : List Item) (p q : ℕ) (before : List ℕ) (rank : ℕ) (more behind : List ℕ) → items ≡ xs ++ (ys ++ zs)
      → WritesRanks problem bound (λ s. s ≡ p) 0 xs before → WritesRanks problem bound (λ s. s ≡ q) p ys (rank ∷ more)
      → WritesRanks problem bound (Final problem) q zs behind → HoldNeeded bound (before ++ ((rank ∷ more) ++ behind))
      → (place : ℕ) × (length xs ≤ place) × (place < length xs + length ys)
      × (matters : IsWrittenAt problem bound items place) × (matters.early ≡ before) × (matters.late ≡ more ++ behind)
  written items xs ys zs p q before rank more behind is first second last needed =
      let (early, t, late, state, next, cut, silent, leads, writes, rest) = runs-cut problem bound (λ s. s ≡ q) p ys rank more second in
      let front : List Item = xs ++ early in
      let place : ℕ = length front in
      let long : place ≡ length xs + length early = length-append xs early in
      let fits : length ys ≡ length early + length (t ∷ late) = ap length cut ∙ length-append early (t ∷ late) in
      let whole_is : items ≡ front ++ t ∷ (late ++ zs) =
      is ∙ ap (λ (l : List Item). xs ++ (l ++ zs)) cut ∙ ap (λ (l : List Item). xs ++ l) (append_assoc early (t ∷ late) zs) ∙ sym (append_assoc xs early (t ∷ (late ++ zs))) in
      let taken : take place items ≡ front = ap (take place) whole_is ∙ take_at front (t ∷ (late ++ zs)) place refl in
      let further : front ++ t ∷ (late ++ zs) ≡ (front ++ t ∷ []) ++ (late ++ zs) = sym (append_assoc front (t ∷ []) (late ++ zs)) in
      let dropped : drop (place + 1) items ≡ late ++ zs = ap (drop (place + 1)) (whole_is ∙ further) ∙ drop_at (front ++ t ∷ []) (late ++ zs) (place + 1) (length-append front (t ∷ [])) in (
        place,
        omega (arith, long),
        omega (arith, long, fits),
        record {
          t = t;
          state = state;
          next = next;
          early = before ++ [];
          rank = rank;
          late = more ++ behind;
          at = ap (λ (l : List Item). slice_get l place) whole_is ∙ at-front front t (late ++ zs);
          before = subst (λ (l : List Item). WritesRanks problem bound (λ s. s ≡ state) 0 l (before ++ [])) (sym taken)
              (runs-join problem bound (λ s. s ≡ state) p 0 xs before early [] first silent);
          leads = leads;
          writes = writes;
          behind = subst (λ (l : List Item). WritesRanks problem bound (Final problem) next l (more ++ behind)) (sym dropped)
              (runs-join problem bound (Final problem) q next late more zs behind rest last);
          needed = subst (λ (r : List ℕ). HoldNeeded bound (r ++ rank ∷ (more ++ behind))) (sym (append-nil before)) needed;
        },
        append-nil before,
        refl,
      )

  -- the items before a place, the one there, and those behind it
  at-place : (items : List Item) (place : ℕ) (t : Item) → slice_get items place ≡ Some t → items ≡ take place items ++ (t ∷ drop (place + 1) items)
  at-place items place t at =
      sym (take-append-drop (place + 1) items) ∙ ap (λ (l : List Item). l ++ drop (place + 1) items) (take-next items place t at)
      ∙ append_assoc (take place items) (t ∷ []) (drop (place + 1) items)

  -- where a path writes, it has written first there or before
  pub first-written : (items : List Item) (place : ℕ) (matters : IsWrittenAt problem bound items place) (early : List ℕ) → matters.early ≡ early
      → (first : ℕ) × (first ≤ place) × (other : IsWrittenAt problem bound items first) × (other.early ≡ [])
  first-written items place matters [] same = (place, omega arith, matters, same)
  first-written items place matters (rank ∷ more) same =
      let run = subst (WritesRanks problem bound (λ s. s ≡ matters.state) 0 (take place items)) same matters.before in
      let needed = subst (λ (r : List ℕ). HoldNeeded bound (r ++ matters.rank ∷ matters.late)) same matters.needed in
      let inside : place < length items = slice_get_within items place matters.t matters.at in
      let long : length (take place items) ≡ place = (let le : place ≤ length items = omega (arith, inside) in length-take-le place items le) in
      let (first, least, most, other, early, late) = written items [] (take place items) (matters.t ∷ drop (place + 1) items) 0 matters.state [] rank more (matters.rank ∷ matters.late)
      (at-place items place matters.t matters.at) (refl, refl) run
      (matters.next, matters.leads, inr (matters.rank, matters.late, refl, matters.writes, matters.behind)) needed in
      (first, omega (arith, most, long), other, early)

  -- and it writes last there or behind
  pub last-written : (items : List Item) (late : List ℕ) (place : ℕ) (matters : IsWrittenAt problem bound items place) → matters.late ≡ late
      → (last : ℕ) × (place ≤ last) × (other : IsWrittenAt problem bound items last) × (other.late ≡ [])
  last-written items [] place matters same = (place, omega arith, matters, same)
  last-written items (rank ∷ more) place matters same =
      let run = subst (WritesRanks problem bound (Final problem) matters.next (drop (place + 1) items)) same matters.behind in
      let (z, final, to_z) = runs-end problem bound (Final problem) matters.next (drop (place + 1) items) (rank ∷ more) run in
      let inside : place < length items = slice_get_within items place matters.t matters.at in
      let long : length (take (place + 1) items) ≡ place + 1 = (let le : place + 1 ≤ length items = omega (arith, inside) in length-take-le (place + 1) items le) in
      let written_so = matters.early ++ matters.rank ∷ [] in
      let before : WritesRanks problem bound (λ s. s ≡ matters.next) 0 (take (place + 1) items) written_so =
      subst (λ (l : List Item). WritesRanks problem bound (λ s. s ≡ matters.next) 0 l written_so) (sym (take-next items place matters.t matters.at))
      (runs-join problem bound (λ s. s ≡ matters.next) matters.state 0 (take place items) matters.early (matters.t ∷ []) (matters.rank ∷ []) matters.before
      (matters.next, matters.leads, inr (matters.rank, [], refl, matters.writes, (refl, refl)))) in
      let cut : items ≡ take (place + 1) items ++ (drop (place + 1) items ++ []) =
      sym (take-append-drop (place + 1) items) ∙ ap (λ (l : List Item). take (place + 1) items ++ l) (sym (append-nil (drop (place + 1) items))) in
      let all : matters.early ++ matters.rank ∷ matters.late ≡ written_so ++ ((rank ∷ more) ++ []) =
      ap (λ (r : List ℕ). matters.early ++ matters.rank ∷ r) (same ∙ sym (append-nil (rank ∷ more))) ∙ sym (append_assoc matters.early (matters.rank ∷ []) ((rank ∷ more) ++ [])) in
      let (next, least, most, other, early, late) = written items (take (place + 1) items) (drop (place + 1) items) [] matters.next z written_so rank more [] cut before to_z (final, refl)
      (subst (HoldNeeded bound) all matters.needed) in
      let (last, above, found, none) = last-written items more next other (late ∙ append-nil more) in
      (last, omega (arith, least, long, above), found, none)

  -- so the places that matter lie between those of first and of last writes
  pub written-between : (items : List Item) (from to : ℕ)
      → ((place : ℕ) (matters : IsWrittenAt problem bound items place) → matters.early ≡ [] → from ≤ place)
      → ((place : ℕ) (matters : IsWrittenAt problem bound items place) → matters.late ≡ [] → place < to)
      → (place : ℕ) → IsWrittenAt problem bound items place → (from ≤ place) × (place < to)
  written-between items from to firsts lasts place matters =
      let (first, before, one, none) = first-written items place matters matters.early refl in
      let (last, behind, other, nothing) = last-written items matters.late place matters refl in
      let least : from ≤ first = firsts first one none in
      let most : last < to = lasts last other nothing in
      (omega (arith, before, least), omega (arith, behind, most))

-- ---- states that are reached where nothing was written

no-silent : (first last : List ℕ) → [] ≡ first ++ last → (first ≡ []) × (last ≡ [])
no-silent [] last same = (refl, sym same)
no-silent (rank ∷ first) last same = absurd (cc)

module _ (problem : Problem) (bound : Bound) where
  pub reached-none : (k : ℕ) → IsReached problem bound [] k ↔ (0 ≡ k)
  reached-none k = ((λ run. run.0), (λ same. (same, refl)))

  reached-step : (t : Item) (q k : ℕ) → WritesRanks problem bound (λ s. s ≡ k) q (t ∷ []) [] → Leads problem.transducer q k × Reads problem t k []
  reached-step t q k (next, leads, either) = elim either [
    | inl (silent, run) ↦ (subst (Leads problem.transducer q) run.0 leads, subst (λ (s : ℕ). Reads problem t s []) run.0 silent)
    | inr (rank, more, same, writes, run) ↦ absurd (cc)
  ]

  pub reached-more : (items : List Item) (t : Item) (k : ℕ) → IsReached problem bound (items ++ t ∷ []) k
      ↔ ((q : ℕ) × IsReached problem bound items q × Leads problem.transducer q k × Reads problem t k [])
  reached-more items t k = (
    (λ run.
        let (q, first, last, same, before, step) = runs-split problem bound (λ s. s ≡ k) 0 items (t ∷ []) [] run in
        let (none, nothing) = no-silent first last same in
        let (leads, silent) = reached-step t q k (subst (WritesRanks problem bound (λ s. s ≡ k) q (t ∷ [])) nothing step) in
        (q, subst (WritesRanks problem bound (λ s. s ≡ q) 0 items) none before, leads, silent)),
    (λ (q, before, leads, silent). runs-join problem bound (λ s. s ≡ k) q 0 items [] (t ∷ []) [] before (k, leads, inl (silent, (refl, refl)))),
  )

  pub reached-live : IsWhole problem → (items : List Item) (t : Item) (rest : List Item) (k : ℕ) → IsReached problem bound (items ++ t ∷ []) k
      → Completes problem bound rest k false
      → (q : ℕ) × IsReached problem bound items q × Completes problem bound (t ∷ rest) q false × Leads problem.transducer q k × Reads problem t k []
  reached-live whole items t rest k run (output, path, allowed, met) =
      let (q, before, leads, silent) = (reached-more items t k).0 run in
      (q, before, (output, (path-step problem whole q t rest output).1 (k, [], output, leads, silent, refl, path), allowed, met), leads, silent)

module _ (problem : Problem) (whole : IsWhole problem) (bound : Bound) where
  needed-first : (need : Option ℕ) (rank : ℕ) (late : List ℕ) → IfSome need (Contains (rank ∷ late))
      → IsNeededRank need rank ⊎ ((late ≢ []) × IfSome need (Contains late))
  needed-first None rank late held = inl tt
  needed-first (Some n) rank late held = elim (Contains-cases rank late n held) [
    | inl same ↦ inl (sym same)
    | inr other ↦ inr ((λ none. Contains-none n (subst (λ (l : List ℕ). Contains l n) none other)), other)
  ]

  -- what a path writes first it can write, and complete
  pub first-completes : (items : List Item) (place : ℕ) (matters : IsWrittenAt problem bound items place) → matters.early ≡ []
      → (Writes problem bound matters.t matters.next × Completes problem bound (drop (place + 1) items) matters.next false)
      ⊎ (Needs problem bound matters.t matters.next × Completes problem bound (drop (place + 1) items) matters.next true)
  first-completes items place matters none =
      let needed = subst (λ (r : List ℕ). HoldNeeded bound (r ++ matters.rank ∷ matters.late)) none matters.needed in
      elim (needed-first bound.need matters.rank matters.late needed) [
        | inl is ↦
            let (output, path, ranked, allowed) = ranks-path problem whole bound matters.next (drop (place + 1) items) matters.late matters.behind in
            inr ((matters.rank, matters.writes, is), (output, path, allowed, inl refl))
        | inr (some, held) ↦ inl (
          (matters.rank, matters.writes),
          run-completes problem whole bound matters.next (drop (place + 1) items) matters.late some held matters.behind,
        )
      ]

  -- behind what it writes last it ends
  pub last-ends : (items : List Item) (place : ℕ) (matters : IsWrittenAt problem bound items place) → matters.late ≡ []
      → Ends problem (drop (place + 1) items) matters.next
  last-ends items place matters none =
      (ends-silent problem whole bound matters.next (drop (place + 1) items)).1
      (subst (WritesRanks problem bound (Has problem.transducer.finals) matters.next (drop (place + 1) items)) none matters.behind)
