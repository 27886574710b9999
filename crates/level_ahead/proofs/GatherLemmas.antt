-- Sets by rank, and counts by rank, over the members of a set.
use Rattle.std.proofs.Common.{◌≡◌, ℕ, ◌<◌, ◌⊎◌, ◌↔◌, inl, inr, List, [], ◌∷◌, ◌++◌, length, get_or, set, append_assoc, refl, sym, ap, ◌∙◌, subst, arith}
use Rattle.std.specs.List.{Contains, AllPairs}
use Rattle.std.specs.List.Sorted.{IsStrictlyIncreasing}
use Rattle.std.proofs.lemmas.Bool.{cases_eq}
use Rattle.std.proofs.lemmas.List.{append-nil, length-set, get_or-set_same, get_or-set_other}
use Rattle.std.proofs.lemmas.List.Elements.{Contains-push, Contains-push_cases, Contains-append_left, Contains-append_right}
use Rattle.std.proofs.lemmas.List.Kept.{AllPairs-from_increasing}
use Rattle.mine_model.proofs.ListLemmas.{Contains-cases, Contains-first, Contains-none, AllPairs-head, AllPairs-tail}
use Rattle.state_bits.specs.Members.{Has}
use Rattle.mask_sums.specs.Kept.{HasOneMore}
use Rattle.mask_sums.proofs.SetLemmas.{has-or-not}
use Rattle.level_ahead.specs.declared.gathered.Gathered.{Gathered}
use Rattle.level_ahead.specs.Kept.{HasGathered, HaveOneMore}

-- ---- the members of a set, one after another: those that came, and those that are left

pub record AreLeft (IsMember : ℕ → Type 0) (done left : List ℕ) : Type 0 where
  pub rising : IsStrictlyIncreasing (done ++ left)
  pub exact : (rank : ℕ) → Contains (done ++ left) rank ↔ IsMember rank

pub left-start : (IsMember : ℕ → Type 0) (items : List ℕ) → IsStrictlyIncreasing items → ((rank : ℕ) → Contains items rank ↔ IsMember rank) → AreLeft IsMember [] items
left-start IsMember items rising exact = record { rising = rising; exact = exact }

module _ (IsMember : ℕ → Type 0) (done left later : List ℕ) (rank : ℕ) (are : AreLeft IsMember done left) (next : left ≡ rank ∷ later) where
  pub left-more : AreLeft IsMember (done ++ rank ∷ []) later
  left-more =
      let same : done ++ left ≡ (done ++ rank ∷ []) ++ later = rw next (sym (append_assoc done (rank ∷ []) later)) in
      record {
        rising = subst IsStrictlyIncreasing same are.rising;
        exact = subst (λ (xs : List ℕ). (q : ℕ) → Contains xs q ↔ IsMember q) same are.exact;
      }

  pub left-member : IsMember rank
  left-member = (are.exact rank).0 (Contains-append_right done left rank (rw next (Contains-first rank later)))

  -- it was not there before
  pub left-new : Contains done rank → ⊥
  left-new held =
      let pairs : AllPairs (λ x y. x < y) (done ++ left) = AllPairs-from_increasing (done ++ left) are.rising in
      let less : rank < rank = before done pairs held in
      omega arith
    where
      before : (front : List ℕ) → AllPairs (λ x y. x < y) (front ++ left) → Contains front rank → rank < rank
      before [] pairs there = absurd (Contains-none rank there)
      before (one ∷ front) pairs there = elim (Contains-cases one front rank there) [
        | inl same ↦
            let less : one < rank = AllPairs-head (λ x y. x < y) one (front ++ left) pairs rank (Contains-append_right front left rank (rw next (Contains-first rank later))) in
            subst (λ (n : ℕ). n < rank) (sym same) less
        | inr behind ↦ before front (AllPairs-tail (λ x y. x < y) one (front ++ left) pairs) behind
      ]

pub left-all : (IsMember : ℕ → Type 0) (done left : List ℕ) → AreLeft IsMember done left → left ≡ [] → (rank : ℕ) → Contains done rank ↔ IsMember rank
left-all IsMember done left are none = subst (λ (xs : List ℕ). (q : ℕ) → Contains xs q ↔ IsMember q) (rw none (append-nil done)) are.exact

-- ---- gathering

-- behind the ranks that were done these next ones were met
pub record AreGathered (before now : Gathered) (next : ℕ) (done : List ℕ) : Type 0 where
  pub room : length now.sets.items ≡ length before.sets.items
  pub touched : (rank : ℕ) → Has now.touched rank ↔ (Has before.touched rank ⊎ Contains done rank)
  pub met : (rank other : ℕ) → HasGathered now rank other ↔ (HasGathered before rank other ⊎ (Contains done rank × Has next other))

pub gathered-none : (before : Gathered) (next : ℕ) → AreGathered before before next []
gathered-none before next = record {
  room = refl;
  touched = λ rank. ((λ has. inl has), (λ either. elim either [ inl has ↦ has | inr no' ↦ absurd (Contains-none rank no') ]));
  met = λ rank other. ((λ has. inl has), (λ either. elim either [ inl has ↦ has | inr no' ↦ absurd (Contains-none rank no'.0) ]));
}

pub gathered-more : (before now after : Gathered) (next : ℕ) (done : List ℕ) (rank : ℕ) → AreGathered before now next done → length after.sets.items ≡ length now.sets.items
    → ((r : ℕ) → Has after.touched r ↔ (Has now.touched r ⊎ (r ≡ rank))) → ((r other : ℕ) → HasGathered after r other ↔ (HasGathered now r other ⊎ ((r ≡ rank) × Has next other)))
    → AreGathered before after next (done ++ rank ∷ [])
gathered-more before now after next done rank are room touched met = record {
  room = room ∙ are.room;
  touched = λ r. (
    (λ has. elim ((touched r).0 has) [
      | inl had ↦ elim ((are.touched r).0 had) [ inl was ↦ inl was | inr held ↦ inr (Contains-append_left done (rank ∷ []) r held) ]
      | inr same ↦ inr (subst (Contains (done ++ rank ∷ [])) (sym same) (Contains-push done rank))
    ]),
    (λ either. (touched r).1 (elim either [
      | inl was ↦ inl ((are.touched r).1 (inl was))
      | inr held ↦ elim (Contains-push_cases done rank r held) [ inl there ↦ inl ((are.touched r).1 (inr there)) | inr same ↦ inr (sym same) ]
    ])),
  );
  met = λ r other. (
    (λ has. elim ((met r other).0 has) [
      | inl had ↦ elim ((are.met r other).0 had) [ inl was ↦ inl was | inr held ↦ inr (Contains-append_left done (rank ∷ []) r held.0, held.1) ]
      | inr this ↦ inr (subst (Contains (done ++ rank ∷ [])) (sym this.0) (Contains-push done rank), this.1)
    ]),
    (λ either. (met r other).1 (elim either [
      | inl was ↦ inl ((are.met r other).1 (inl was))
      | inr held ↦ elim (Contains-push_cases done rank r held.0) [ inl there ↦ inl ((are.met r other).1 (inr (there, held.1))) | inr same ↦ inr (sym same, held.1) ]
    ])),
  );
}

pub gathered-all : (before now : Gathered) (wanted next : ℕ) (done left : List ℕ) → AreLeft (Has wanted) done left → left ≡ [] → AreGathered before now next done
    → ((rank : ℕ) → Has now.touched rank ↔ (Has before.touched rank ⊎ Has wanted rank))
    × ((rank other : ℕ) → HasGathered now rank other ↔ (HasGathered before rank other ⊎ (Has wanted rank × Has next other)))
gathered-all before now wanted next done left members none are =
    let all = left-all (Has wanted) done left members none in (
      (λ rank. (
        (λ has. elim ((are.touched rank).0 has) [ inl was ↦ inl was | inr held ↦ inr ((all rank).0 held) ]),
        (λ either. (are.touched rank).1 (elim either [ inl was ↦ inl was | inr has ↦ inr ((all rank).1 has) ])),
      )),
      (λ rank other. (
        (λ met. elim ((are.met rank other).0 met) [ inl was ↦ inl was | inr new ↦ inr ((all rank).0 new.0, new.1) ]),
        (λ either. (are.met rank other).1 (elim either [ inl was ↦ inl was | inr new ↦ inr ((all rank).1 new.0, new.1) ])),
      )),
    )

-- ---- counting

-- one more of each that was met behind the ranks that were done
pub record AreCountedSoFar (sets : List ℕ) (before now : List (List ℕ)) (done : List ℕ) : Type 0 where
  pub room : length now ≡ length before
  pub more : (rank : ℕ) → Contains done rank → HasOneMore (Has (get_or sets rank 0)) (get_or before rank []) (get_or now rank [])
  pub rest : (rank : ℕ) → (Contains done rank → ⊥) → get_or now rank [] ≡ get_or before rank []

pub counted-none : (sets : List ℕ) (before : List (List ℕ)) → AreCountedSoFar sets before before []
counted-none sets before = record {
  room = refl;
  more = λ rank held. absurd (Contains-none rank held);
  rest = λ rank lacks. refl;
}

pub counted-more : (sets : List ℕ) (before now : List (List ℕ)) (done : List ℕ) (rank : ℕ) (added : List ℕ) → AreCountedSoFar sets before now done → rank < length now → (Contains done rank → ⊥)
    → HasOneMore (Has (get_or sets rank 0)) (get_or now rank []) added → AreCountedSoFar sets before (set now rank added) (done ++ rank ∷ [])
counted-more sets before now done rank added so_far inside new one = record {
  room = length-set now rank added ∙ so_far.room;
  more = λ r held. elim (cases_eq r rank) [
    | inl same ↦
        let old : HasOneMore (Has (get_or sets rank 0)) (get_or before rank []) added =
        subst (λ (l : List ℕ). HasOneMore (Has (get_or sets rank 0)) l added) (so_far.rest rank new) one in
        subst (λ (n : ℕ). HasOneMore (Has (get_or sets n 0)) (get_or before n []) (get_or (set now rank added) n [])) (sym same)
        (subst (HasOneMore (Has (get_or sets rank 0)) (get_or before rank [])) (sym (get_or-set_same now rank added [] inside)) old)
    | inr apart ↦ elim (Contains-push_cases done rank r held) [
      | inl there ↦ subst (HasOneMore (Has (get_or sets r 0)) (get_or before r [])) (sym (get_or-set_other now rank r added [] apart)) (so_far.more r there)
      | inr same ↦ absurd (apart (sym same))
    ]
  ];
  rest = λ r lacks. elim (cases_eq r rank) [
    | inl same ↦ absurd (lacks (subst (Contains (done ++ rank ∷ [])) (sym same) (Contains-push done rank)))
    | inr apart ↦ get_or-set_other now rank r added [] apart ∙ so_far.rest r (λ there. lacks (Contains-append_left done (rank ∷ []) r there))
  ];
}

pub counted-all : (gathered : Gathered) (before now : List (List ℕ)) (done : List ℕ) → ((rank : ℕ) → Contains done rank ↔ Has gathered.touched rank) → AreCountedSoFar gathered.sets.items before now done
    → HaveOneMore gathered before now
counted-all gathered before now done all so_far rank = elim (has-or-not gathered.touched rank) [
  | inl has ↦
      let more = so_far.more rank ((all rank).1 has) in
      record {
        members = λ q few met. more.members q few met.1;
        others = λ q lacks. more.others q (λ has'. lacks (has, has'));
      }
  | inr lacks ↦
      let same = so_far.rest rank (λ held. lacks ((all rank).0 held)) in
      record {
        members = λ q few met. absurd (lacks met.0);
        others = λ q none. ap (λ (l : List ℕ). get_or l q 0) same;
      }
]
