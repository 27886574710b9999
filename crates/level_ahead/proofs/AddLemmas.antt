-- What follows behind ranks, sequence after sequence.
use Rattle.std.proofs.Common.{◌≡◌, ℕ, ◌+◌, ◌≤◌, ◌<◌, ◌⊎◌, ◌↔◌, inl, inr, Option, List, [], ◌∷◌, ◌++◌, length, get_or, drop, append_assoc, refl, sym, ap, ◌∙◌, subst, arith}
use Rattle.std.specs.List.{Contains, slice_range}
use Rattle.std.proofs.lemmas.List.{map-append, drop_all}
use Rattle.mine_model.specs.Support.{Counts}
use Rattle.mine_model.proofs.ListLemmas.{Contains-cases, Contains-first, Contains-other, Contains-none}
use Rattle.mine_model.proofs.FrequencyLemmas.{Counts-append}
use Rattle.state_bits.specs.Members.{Has}
use Rattle.place_walk.specs.declared.visit.Visit.{Visit}
use Rattle.place_walk.specs.Courses.{Course}
use Rattle.stand_sums.specs.Writings.{Ranks, follows}
use Rattle.stand_sums.specs.Sequences.{weighed, all_weighed, AreSequences}
use Rattle.stand_sums.proofs.CutLemmas.{AreNone, next-cut, all-none}
use Rattle.mask_sums.proofs.SetLemmas.{has-or-not}
use Rattle.mask_sums.proofs.RunLemmas.{range-none, range-more}
use Rattle.state_bits.proofs.NeighbourLemmas.{Has-none}
use Rattle.level_ahead.specs.declared.gathered.Gathered.{Gathered}
use Rattle.level_ahead.specs.Behind.{goes_further, FollowsBehind, GoesOnBehind}
use Rattle.level_ahead.specs.Counts.{Behind, AreAdded}
use Rattle.level_ahead.specs.Kept.{HasGathered, HaveOneMore, IsReadTo, behind_at}
use Rattle.level_ahead.proofs.BehindLemmas.{behind-none, behind-more}
use Rattle.mask_sums.specs.Kept.{lacks}

-- ---- visit after visit

-- what one visit adds
pub record IsVisitRead (course : Course) (ranks : Ranks) (lacking : Option ℕ) (asked : ℕ) (visit : Visit) (before after : Gathered) : Type 0 where
  pub touched : (rank : ℕ) → Has after.touched rank → Has before.touched rank ⊎ Has asked rank
  pub met : (rank other : ℕ) → Has asked rank → HasGathered after rank other ↔ (HasGathered before rank other ⊎ FollowsBehind course ranks lacking rank other (visit ∷ []))
  pub ended : (rank : ℕ) → Has asked rank → GoesOnBehind course ranks lacking rank (visit ∷ []) → ⊥

-- what the visits of a sequence up to the end have added
pub record AreRead (course : Course) (ranks : Ranks) (lacking : Option ℕ) (asked : ℕ) (visits : List Visit) (gathered : Gathered) : Type 0 where
  pub touched : (rank : ℕ) → Has gathered.touched rank → Has asked rank
  pub met : (rank other : ℕ) → Has asked rank → HasGathered gathered rank other ↔ FollowsBehind course ranks lacking rank other visits
  pub ended : (rank : ℕ) → Has asked rank → GoesOnBehind course ranks lacking rank visits → ⊥

pub read-start : (course : Course) (ranks : Ranks) (lacking : Option ℕ) (asked : ℕ) (visits : List Visit) (from : ℕ) (gathered : Gathered) → gathered.touched ≡ 0 → AreRead course ranks lacking asked (slice_range visits from from) gathered
read-start course ranks lacking asked visits from gathered none =
    let nobody : (rank : ℕ) → Has gathered.touched rank → ⊥ = λ rank has. Has-none rank (subst (λ (n : ℕ). Has n rank) none has) in
    subst (λ (vs : List Visit). AreRead course ranks lacking asked vs gathered) (sym (range-none visits from)) (record {
      touched = λ rank has. absurd (nobody rank has);
      met = λ rank other is. ((λ met. absurd (nobody rank met.0)), (λ has. absurd (behind-none course ranks lacking rank (follows ranks (lacks lacking) other) has)));
      ended = λ rank is goes. behind-none course ranks lacking rank (goes_further ranks lacking) goes;
    })

pub read-more : (course : Course) (ranks : Ranks) (lacking : Option ℕ) (asked : ℕ) (visits : List Visit) (from end : ℕ) (d : Visit) (before after : Gathered) → from ≤ end → end < length visits
    → AreRead course ranks lacking asked (slice_range visits from end) before → IsVisitRead course ranks lacking asked (get_or visits end d) before after → AreRead course ranks lacking asked (slice_range visits from (end + 1)) after
read-more course ranks lacking asked visits from end d before after forward inside are is =
    let done : List Visit = slice_range visits from end in
    let visit : Visit = get_or visits end d in
    subst (λ (vs : List Visit). AreRead course ranks lacking asked vs after) (sym (range-more visits from end d forward inside)) (record {
      touched = λ rank has. elim (is.touched rank has) [ inl had ↦ are.touched rank had | inr asks ↦ asks ];
      met = λ rank other asks.
          let more = behind-more course ranks lacking rank (follows ranks (lacks lacking) other) done visit in (
            (λ met. more.1 (elim ((is.met rank other asks).0 met) [ inl was ↦ inl ((are.met rank other asks).0 was) | inr new ↦ inr new ])),
            (λ has. (is.met rank other asks).1 (elim (more.0 has) [ inl was ↦ inl ((are.met rank other asks).1 was) | inr new ↦ inr new ])),
          );
      ended = λ rank asks goes. elim ((behind-more course ranks lacking rank (goes_further ranks lacking) done visit).0 goes) [
        | inl was ↦ are.ended rank asks was
        | inr new ↦ is.ended rank asks new
      ];
    })

-- ---- what was met

-- what was met behind a rank or not
pub met-or-not : (gathered : Gathered) (rank other : ℕ) → HasGathered gathered rank other ⊎ (HasGathered gathered rank other → ⊥)
met-or-not gathered rank other = elim (has-or-not gathered.touched rank) [
  | inl touched ↦ elim (has-or-not (get_or gathered.sets.items rank 0) other) [
    | inl has ↦ inl (touched, has)
    | inr lacks ↦ inr (λ met. lacks met.1)
  ]
  | inr not_touched ↦ inr (λ met. not_touched met.0)
]

module _ (course : Course) (ranks : Ranks) (lacking : Option ℕ) where
  -- ---- one sequence

  counts-one : (rank other : ℕ) (here : List Visit) (IsMember : Type 0) (before after : ℕ) → IsMember ⊎ (IsMember → ⊥) → IsMember ↔ FollowsBehind course ranks lacking rank other here
      → (IsMember → after ≡ before + 1) → ((IsMember → ⊥) → after ≡ before)
      → (n : ℕ) × Counts (FollowsBehind course ranks lacking rank other) (all_weighed [] (here ∷ [])) n × (after ≡ before + n)
  counts-one rank other [] IsMember before after decided is adds stays =
      (0, inr (behind-none course ranks lacking rank (follows ranks (lacks lacking) other), refl), let same = stays (λ has. behind-none course ranks lacking rank (follows ranks (lacks lacking) other) (is.0 has)) in omega arith)
  counts-one rank other (visit ∷ visits) IsMember before after decided is adds stays = elim decided [
    | inl has ↦ (1, inl (is.0 has, (0, refl, refl)), adds has)
    | inr lacks ↦ (0, inr ((λ one. lacks (is.1 one)), refl), let same = stays lacks in omega arith)
  ]

  pub sequence-added : (asked : ℕ) (visits : List Visit) (from end : ℕ) (gathered : Gathered) (before after : List (List ℕ)) → IsReadTo course ranks lacking asked visits from gathered end → HaveOneMore gathered before after
      → (rank : ℕ) → Has asked rank → AreAdded course ranks lacking (slice_range visits from end ∷ []) (behind_at before rank) (behind_at after rank)
  sequence-added asked visits from end gathered before after read more rank is = record {
    same = refl;
    counted = λ other few.
        counts-one rank other (slice_range visits from end) (HasGathered gathered rank other) (get_or (get_or before rank []) other 0) (get_or (get_or after rank []) other 0)
        (met-or-not gathered rank other) (read.met rank other is) ((more rank).members other few) ((more rank).others other);
    ended = λ here held goes. elim (Contains-cases (slice_range visits from end) [] here held) [
      | inl same ↦ read.ended rank is (subst (GoesOnBehind course ranks lacking rank) same goes)
      | inr no' ↦ Contains-none here no'
    ];
  }

  -- ---- one after another

  pub none-added : (sequences : List (List Visit)) (behind : Behind) → AreNone sequences → AreAdded course ranks lacking sequences behind behind
  none-added sequences behind none = record {
    same = refl;
    counted = λ other few. (0, none-counted behind.rank other sequences none, omega arith);
    ended = λ here held goes. none-goes behind.rank sequences none here held goes;
  }
    where
      none-counted : (rank other : ℕ) (sequences : List (List Visit)) → AreNone sequences → Counts (FollowsBehind course ranks lacking rank other) (all_weighed [] sequences) 0
      none-counted rank other [] none = refl
      none-counted rank other (here ∷ sequences) (none, others) =
          inr ((λ has. behind-none course ranks lacking rank (follows ranks (lacks lacking) other) (subst (FollowsBehind course ranks lacking rank other) none has)), none-counted rank other sequences others)

      none-goes : (rank : ℕ) (sequences : List (List Visit)) → AreNone sequences → (here : List Visit) → Contains sequences here → GoesOnBehind course ranks lacking rank here → ⊥
      none-goes rank [] none here held goes = Contains-none here held
      none-goes rank (one ∷ sequences) (none, others) here held goes = elim (Contains-cases one sequences here held) [
        | inl same ↦ behind-none course ranks lacking rank (goes_further ranks lacking) (subst (GoesOnBehind course ranks lacking rank) (same ∙ none) goes)
        | inr there ↦ none-goes rank sequences others here there goes
      ]

  pub more-added : (xs ys : List (List Visit)) (before between after : Behind) → AreAdded course ranks lacking xs before between → AreAdded course ranks lacking ys between after → AreAdded course ranks lacking (xs ++ ys) before after
  more-added xs ys before between after first then = record {
    same = then.same ∙ first.same;
    counted = λ other few.
        let (n, counts, is) = first.counted other few in
        let (m, others, also) = then.counted other few in
        let others' : Counts (FollowsBehind course ranks lacking before.rank other) (all_weighed [] ys) m = subst (λ (r : ℕ). Counts (FollowsBehind course ranks lacking r other) (all_weighed [] ys) m) first.same others in (
          n + m,
          subst (λ (l : List _). Counts (FollowsBehind course ranks lacking before.rank other) l (n + m)) (sym (map-append (weighed []) xs ys))
              (Counts-append (FollowsBehind course ranks lacking before.rank other) (all_weighed [] xs) (all_weighed [] ys) n m counts others'),
          omega (arith, is, also),
        );
    ended = λ here held goes. elim (either-list xs ys here held) [
      | inl there ↦ first.ended here there goes
      | inr there ↦ then.ended here there (subst (λ (r : ℕ). GoesOnBehind course ranks lacking r here) (sym first.same) goes)
    ];
  }
    where
      either-list : (xs ys : List (List Visit)) (here : List Visit) → Contains (xs ++ ys) here → Contains xs here ⊎ Contains ys here
      either-list [] ys here held = inr held
      either-list (x ∷ xs) ys here held = elim (Contains-cases x (xs ++ ys) here held) [
        | inl same ↦ inl (subst (Contains (x ∷ xs)) (sym same) (Contains-first x xs))
        | inr there ↦ elim (either-list xs ys here there) [
          | inl left ↦ inl (Contains-other x xs here left)
          | inr right ↦ inr right
        ]
      ]

  -- so many of the visits were counted, sequence after sequence
  pub record AreAddedTo (asked : ℕ) (visits : List Visit) (from : ℕ) (sequences : List (List Visit)) (before now : List (List ℕ)) : Type 0 where
    pub done : List (List Visit)
    pub left : List (List Visit)
    pub cut : sequences ≡ done ++ left
    pub left_are : AreSequences (drop from visits) left
    pub added : (rank : ℕ) → Has asked rank → AreAdded course ranks lacking done (behind_at before rank) (behind_at now rank)

  pub added-start : (asked : ℕ) (visits : List Visit) (sequences : List (List Visit)) (counts : List (List ℕ)) → AreSequences visits sequences → AreAddedTo asked visits 0 sequences counts counts
  added-start asked visits sequences counts are = record {
    done = [];
    left = sequences;
    cut = refl;
    left_are = are;
    added = λ rank is. none-added [] (behind_at counts rank) tt;
  }

  pub added-more : (asked : ℕ) (visits : List Visit) (from end : ℕ) (sequences : List (List Visit)) (gathered : Gathered) (before between now : List (List ℕ)) → AreAddedTo asked visits from sequences before between
      → IsReadTo course ranks lacking asked visits from gathered end → HaveOneMore gathered between now → AreAddedTo asked visits end sequences before now
  added-more asked visits from end sequences gathered before between now to read more =
      let next = next-cut visits from end read.end_is to.left to.left_are in
      let here : List Visit = slice_range visits from end in
      record {
        done = to.done ++ next.none ++ here ∷ [];
        left = next.others;
        cut = to.cut ∙ ap (λ (l : List (List Visit)). to.done ++ l) next.cut ∙ sym (append_assoc to.done next.none (here ∷ next.others))
            ∙ sym (append_assoc (to.done ++ next.none) (here ∷ []) next.others);
        left_are = next.are;
        added = λ rank is.
            let middle : Behind = behind_at between rank in
            more-added (to.done ++ next.none) (here ∷ []) (behind_at before rank) middle (behind_at now rank)
            (more-added to.done next.none (behind_at before rank) middle middle (to.added rank is) (none-added next.none middle next.empty))
            (sequence-added asked visits from end gathered between now read more rank is);
      }

  pub added-all : (asked : ℕ) (visits : List Visit) (from : ℕ) (sequences : List (List Visit)) (before now : List (List ℕ)) → AreAddedTo asked visits from sequences before now → length visits ≤ from
      → (rank : ℕ) → Has asked rank → AreAdded course ranks lacking sequences (behind_at before rank) (behind_at now rank)
  added-all asked visits from sequences before now to past rank is =
      let none : drop from visits ≡ [] = drop_all from visits past in
      let after : Behind = behind_at now rank in
      rw (to.cut)
      (more-added to.done to.left (behind_at before rank) after after (to.added rank is) (none-added to.left after (all-none (drop from visits) to.left none to.left_are)))
