-- What is written in a window is what is written in the sequence.
use Rattle.std.proofs.Common.{◌≡◌, ◌≢◌, ◌↔◌, ℕ, zero, suc, ◌+◌, ◌-◌, ◌≤◌, ◌<◌, ◌⊎◌, inl, inr, false, List, [], ◌∷◌, ◌++◌, length, take, drop, refl, sym, ap, ◌∙◌, subst, arith, append_assoc}
use Rattle.std.specs.List.{AllZip}
use Rattle.std.proofs.Math.Seq.{drop-length}
use Rattle.std.proofs.lemmas.List.{append-nil, length-append, length-drop, length-take-le, take-append-drop}
use Rattle.std.proofs.lemmas.List.Folds.{drop_split}
use Rattle.std.proofs.lemmas.Nat.Bits.{bit_at-pow_same, bit_at-pow_other}
use Rattle.std.proofs.lemmas.Option.{slice_get_within}
use Rattle.state_bits.specs.Members.{Has}
use Rattle.mine_model.specs.declared.item.Item.{Item}
use Rattle.mine_model.specs.Ranks.{AreRanked}
use Rattle.mine_model.proofs.RankedLemmas.{up-ranks}
use Rattle.fst_compile.specs.Transducer.{Leads}
use Rattle.mining_job.specs.declared.bound.Bound.{Bound}
use Rattle.mining_job.specs.Problems.{Problem, IsWhole}
use Rattle.sequence_grids.specs.Grids.{Completes, Ends, Reads, WritesRank}
use Rattle.sequence_grids.specs.Kinds.{IsTarget}
use Rattle.sequence_grids.proofs.PathLemmas.{target-of}
use Rattle.part_windows.specs.Patterns.{IsPatternWithin, HaveSamePatterns}
use Rattle.part_windows.specs.Windows.{WritesRanks, IsReached, HoldNeeded, Window, items_in, IsWindow, IsWrittenIn, whole_window, AreOfOneKind, AreAlike}
use Rattle.part_windows.proofs.RunLemmas.{runs-join, runs-split, runs-end, runs-weaker, run-state, runs-ends, ends-silent, run-completes, pattern-runs}
use Rattle.part_windows.proofs.PlaceLemmas.{Final, written}

module _ (problem : Problem) (whole : IsWhole problem) (bound : Bound) where
  -- a sequence by its window: what comes before, what lies in it, and what comes behind
  module _ (window : Window) (is : IsWindow problem bound window) where
    abbrev front : List Item
    front = take window.from window.items

    abbrev back : List Item
    back = drop window.to window.items

    front-long : length front ≡ window.from
    front-long = let inside : window.from ≤ length window.items = omega (arith, is.forward, is.inside) in length-take-le window.from window.items inside

    behind-front : drop window.from window.items ≡ items_in window ++ back
    behind-front = drop_split window.items window.from window.to is.forward

    parts : window.items ≡ front ++ (items_in window ++ back)
    parts = sym (take-append-drop window.from window.items) ∙ ap (λ (l : List Item). front ++ l) behind-front

    to-long : length front + length (items_in window) ≡ window.to
    to-long =
        let all : length window.items ≡ length front + (length (items_in window) + length back) =
        ap length parts ∙ length-append front (items_in window ++ back) ∙ ap (λ (n : ℕ). length front + n) (length-append (items_in window) back) in
        let rest : length back ≡ length window.items - window.to = length-drop window.to window.items in
        omega (arith, all, rest, is.inside)

    -- nothing is written before the window, nor behind it
    front-silent : (p : ℕ) (before behind : List ℕ) → HoldNeeded bound (before ++ behind)
        → WritesRanks problem bound (λ s. s ≡ p) 0 front before → WritesRanks problem bound (Final problem) p (items_in window ++ back) behind → before ≡ []
    front-silent p [] behind needed first last = refl
    front-silent p (rank ∷ more) behind needed first last =
        let (place, least, most, matters, early, late) = written problem bound window.items [] front (items_in window ++ back) 0 p [] rank more behind parts (refl, refl) first last needed in
        let above : window.from ≤ place = (is.all place matters).0 in
        absurd (omega (arith, above, most, front-long))

    back-silent : (q : ℕ) (before behind : List ℕ) → HoldNeeded bound (before ++ behind)
        → WritesRanks problem bound (λ s. s ≡ q) 0 (front ++ items_in window) before → WritesRanks problem bound (Final problem) q back behind → behind ≡ []
    back-silent q before [] needed first last = refl
    back-silent q before (rank ∷ more) needed first last =
        let (z, final, run) = runs-end problem bound (Final problem) q back (rank ∷ more) last in
        let same : window.items ≡ (front ++ items_in window) ++ (back ++ []) =
        parts ∙ sym (append_assoc front (items_in window) back) ∙ ap (λ (l : List Item). (front ++ items_in window) ++ l) (sym (append-nil back)) in
        let (place, least, most, matters, early, late) = written problem bound window.items (front ++ items_in window) back [] q z before rank more [] same first run (final, refl)
        (subst (λ (r : List ℕ). HoldNeeded bound (before ++ r)) (sym (append-nil (rank ∷ more))) needed) in
        let below : place < window.to = (is.all place matters).1 in
        absurd (omega (arith, below, least, length-append front (items_in window), to-long))

    -- so what a run writes within the bound is written in the window
    pub into-window : (ranks : List ℕ) → ranks ≢ [] → HoldNeeded bound ranks → WritesRanks problem bound (Final problem) 0 window.items ranks
        → IsWrittenIn problem bound window ranks
    into-window ranks some needed run =
        let (p, r1, rest, cut1, run1, runs) = runs-split problem bound (Final problem) 0 front (items_in window ++ back) ranks
        (subst (λ (l : List Item). WritesRanks problem bound (Final problem) 0 l ranks) parts run) in
        let (q, r2, r3, cut2, run2, run3) = runs-split problem bound (Final problem) p (items_in window) back rest runs in
        let none1 : r1 ≡ [] = front-silent p r1 rest (subst (HoldNeeded bound) cut1 needed) run1 runs in
        let silent = subst (WritesRanks problem bound (λ s. s ≡ p) 0 front) none1 run1 in
        let rest_is : ranks ≡ rest = cut1 ∙ ap (λ (r : List ℕ). r ++ rest) none1 in
        let none3 : r3 ≡ [] = back-silent q (r1 ++ r2) r3
        (subst (HoldNeeded bound) (cut1 ∙ ap (λ (r : List ℕ). r1 ++ r) cut2 ∙ sym (append_assoc r1 r2 r3)) needed)
        (runs-join problem bound (λ s. s ≡ q) p 0 front r1 (items_in window) r2 run1 run2) run3 in
        let middle_is : ranks ≡ r2 = rest_is ∙ cut2 ∙ ap (λ (r : List ℕ). r2 ++ r) none3 ∙ append-nil r2 in
        let inside_p : p ≤ length problem.transducer.labels = run-state problem whole bound 0 front [] p (omega arith) silent in
        let inside_q : q ≤ length problem.transducer.labels = run-state problem whole bound p (items_in window) r2 q inside_p run2 in
        let completes : Completes problem bound (drop window.from window.items) p false =
        subst (λ (l : List Item). Completes problem bound l p false) (sym behind-front)
        (run-completes problem whole bound p (items_in window ++ back) ranks some needed (subst (WritesRanks problem bound (Final problem) p (items_in window ++ back)) (sym rest_is) runs)) in
        let ends : Has window.ends q = (is.ends q inside_q).1 ((ends-silent problem whole bound q back).1 (subst (WritesRanks problem bound (Final problem) q back) none3 run3)) in (
          some,
          needed,
          (
            p,
            is.live p silent completes,
            runs-weaker problem bound (λ s. s ≡ q) (Has window.ends) (λ s at. subst (Has window.ends) (sym at) ends) p (items_in window) ranks
                (subst (WritesRanks problem bound (λ s. s ≡ q) p (items_in window)) (sym middle_is) run2),
          ),
        )

    -- and what is written in the window a run writes
    pub out-of-window : (ranks : List ℕ) → IsWrittenIn problem bound window ranks → WritesRanks problem bound (Final problem) 0 window.items ranks
    out-of-window ranks (some, needed, (p, starts, run)) =
        let silent : IsReached problem bound front p = is.reached p starts in
        let inside_p : p ≤ length problem.transducer.labels = run-state problem whole bound 0 front [] p (omega arith) silent in
        let (q, ends, to_q) = runs-end problem bound (Has window.ends) p (items_in window) ranks run in
        let inside_q : q ≤ length problem.transducer.labels = run-state problem whole bound p (items_in window) ranks q inside_p to_q in
        let last = (ends-silent problem whole bound q back).0 ((is.ends q inside_q).0 ends) in
        let both = runs-join problem bound (Final problem) p 0 front [] (items_in window ++ back) (ranks ++ []) silent
        (runs-join problem bound (Final problem) q p (items_in window) ranks back [] to_q last) in
        subst (λ (l : List Item). WritesRanks problem bound (Final problem) 0 l ranks) (sym parts)
        (subst (WritesRanks problem bound (Final problem) 0 (front ++ (items_in window ++ back))) (append-nil ranks) both)

    pub window-patterns : (pattern : List Item) (ranks : List ℕ) → AreRanked problem.ranking.order pattern ranks
        → IsPatternWithin problem bound window.items pattern ↔ IsWrittenIn problem bound window ranks
    window-patterns pattern ranks ranked =
        let runs = pattern-runs problem whole bound window.items pattern ranks ranked in (
          (λ pattern_is. let (some, needed, run) = runs.0 pattern_is in into-window ranks some needed run),
          (λ in_window. runs.1 (in_window.0, in_window.1, out-of-window ranks in_window)),
        )

  -- ---- windows that are alike

  -- over items of the same kinds runs write the same
  runs-alike : (IsEnd : ℕ → Type 0) (from : ℕ) (input others : List Item) (ranks : List ℕ) → AllZip (AreOfOneKind problem bound) input others
      → WritesRanks problem bound IsEnd from input ranks → WritesRanks problem bound IsEnd from others ranks
  runs-alike IsEnd from [] [] ranks kinds run = run
  runs-alike IsEnd from [] (u ∷ others) ranks kinds run = absurd kinds
  runs-alike IsEnd from (t ∷ input) [] ranks kinds run = absurd kinds
  runs-alike IsEnd from (t ∷ input) (u ∷ others) ranks (kind, kinds) (next, leads, either) = (
    next,
    leads,
    step-alike IsEnd next t u input others ranks kind (target-of problem whole from next leads) either
        (λ more run. runs-alike IsEnd next input others more kinds run),
  )
    where
      step-alike : (IsEnd : ℕ → Type 0) (next : ℕ) (t u : Item) (input others : List Item) (ranks : List ℕ) → AreOfOneKind problem bound t u → IsTarget problem next
          → (Reads problem t next [] × WritesRanks problem bound IsEnd next input ranks)
          ⊎ ((rank : ℕ) × (more : List ℕ) × (ranks ≡ rank ∷ more) × WritesRank problem bound t next rank × WritesRanks problem bound IsEnd next input more)
          → ((more : List ℕ) → WritesRanks problem bound IsEnd next input more → WritesRanks problem bound IsEnd next others more)
          → (Reads problem u next [] × WritesRanks problem bound IsEnd next others ranks)
          ⊎ ((rank : ℕ) × (more : List ℕ) × (ranks ≡ rank ∷ more) × WritesRank problem bound u next rank × WritesRanks problem bound IsEnd next others more)
      step-alike IsEnd next t u input others ranks kind target (inl (silent, run)) rest = inl ((kind.silent next target).0 silent, rest ranks run)
      step-alike IsEnd next t u input others ranks kind target (inr (rank, more, same, writes, run)) rest = inr (rank, more, same, (kind.writes next rank target).0 writes, rest more run)

  -- a run over one item and more may begin in any state from which an edge leads into its second
  begins-alike : (IsEnd : ℕ → Type 0) (from : ℕ) (items : List Item) (ranks : List ℕ) → ranks ≢ [] → WritesRanks problem bound IsEnd from items ranks
      → (next : ℕ) × Leads problem.transducer from next
      × ((other : ℕ) → Leads problem.transducer other next → WritesRanks problem bound IsEnd other items ranks)
  begins-alike IsEnd from [] ranks some (end, none) = absurd (some none)
  begins-alike IsEnd from (t ∷ items) ranks some (next, leads, either) = (next, leads, λ other also. (next, also, either))

  alike-written : (one other : Window) → IsWindow problem bound one → AreAlike problem bound one other → (ranks : List ℕ)
      → IsWrittenIn problem bound one ranks → IsWrittenIn problem bound other ranks
  alike-written one other is alike ranks (some, needed, (p, starts, run)) =
      let inside : p ≤ length problem.transducer.labels = run-state problem whole bound 0 (take one.from one.items) [] p (omega arith) (is.reached p starts) in
      let to_ends = runs-ends problem whole bound (Has one.ends) (Has other.ends) (λ q below ends. (alike.ends q below).0 ends) p (items_in one) ranks inside run in
      let over = runs-alike (Has other.ends) p (items_in one) (items_in other) ranks alike.kinds to_ends in
      let (next, leads, any) = begins-alike (Has other.ends) p (items_in other) ranks some over in
      let (start, among, also) = (alike.followers next (target-of problem whole p next leads)).0 (p, starts, leads) in
      (some, needed, (start, among, any start also))

  kinds-back : (input others : List Item) → AllZip (AreOfOneKind problem bound) input others → AllZip (AreOfOneKind problem bound) others input
  kinds-back [] [] kinds = tt
  kinds-back [] (u ∷ others) kinds = absurd kinds
  kinds-back (t ∷ input) [] kinds = absurd kinds
  kinds-back (t ∷ input) (u ∷ others) (kind, kinds) = (
    record {
      silent = λ k target. ((kind.silent k target).1, (kind.silent k target).0);
      writes = λ k rank target. ((kind.writes k rank target).1, (kind.writes k rank target).0);
    },
    kinds-back input others kinds,
  )

  alike-back : (one other : Window) → AreAlike problem bound one other → AreAlike problem bound other one
  alike-back one other alike = record {
    followers = λ k target. ((alike.followers k target).1, (alike.followers k target).0);
    kinds = kinds-back (items_in one) (items_in other) alike.kinds;
    ends = λ q below. ((alike.ends q below).1, (alike.ends q below).0);
  }

  alike-pattern : (one other : Window) → IsWindow problem bound one → IsWindow problem bound other → AreAlike problem bound one other
      → (pattern : List Item) → IsPatternWithin problem bound one.items pattern → IsPatternWithin problem bound other.items pattern
  alike-pattern one other is also alike pattern of_one =
      let (ranks, ranked) = up-ranks problem.ranking.order bound.top pattern of_one.within.ranked in
      (window-patterns other also pattern ranks ranked).1
      (alike-written one other is alike ranks ((window-patterns one is pattern ranks ranked).0 of_one))

  pub alike-patterns : (one other : Window) → IsWindow problem bound one → IsWindow problem bound other → AreAlike problem bound one other
      → HaveSamePatterns problem bound one.items other.items
  alike-patterns one other is also alike pattern =
      (alike-pattern one other is also alike pattern, alike-pattern other one also is (alike-back one other alike) pattern)

-- ---- the window of all items

module _ (problem : Problem) (bound : Bound) where
  start-alone : (q : ℕ) → Has 1 q → 0 ≡ q
  unfolding Has
  start-alone zero has = refl
  start-alone (suc q) has = absurd (let other : suc q ≢ 0 = omega arith in let none = bit_at-pow_other 0 (suc q) other in omega (arith, none, has))

  start-among : (q : ℕ) → 0 ≡ q → Has 1 q
  unfolding Has
  start-among q is = subst (λ (k : ℕ). Has 1 k) is (bit_at-pow_same 0)

  pub all-window : (items : List Item) → IsWindow problem bound (whole_window problem items)
  all-window items = record {
    forward = omega arith;
    inside = omega arith;
    all = λ place matters. (omega arith, slice_get_within items place matters.t matters.at);
    reached = λ q has. (start-alone q has, refl);
    live = λ q reached completes. start-among q reached.0;
    ends = λ q below. (
      (λ final. subst (λ (l : List Item). Ends problem l q) (sym (drop-length items)) (final, refl)),
      (λ ends. (subst (λ (l : List Item). Ends problem l q) (drop-length items) ends).0),
    );
  }
