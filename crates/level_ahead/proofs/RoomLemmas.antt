-- The entries of the room.
use Rattle.std.proofs.Common.{◌≡◌, ℕ, zero, suc, ◌+◌, ◌<◌, ◌≤◌, ◌⊎◌, ◌↔◌, inl, inr, Bool, true, false, cond, Option, Some, None, List, [], ◌∷◌, ◌++◌, length, map, take, get_or, set, replicate, refl, sym, ap, ◌∙◌, subst, arith}
use Rattle.std.specs.List.{Contains, AllPairs, slice_get, filter}
use Rattle.std.specs.Option.{IfSome}
use Rattle.std.specs.List.Sorted.{IsStrictlyIncreasing}
use Rattle.std.proofs.lemmas.List.{append-nil, map-append, take_all, take_more, length-map, length-set, get_or-set_same, get_or-set_other}
use Rattle.std.proofs.lemmas.Bool.{cases_eq}
use Rattle.std.proofs.lemmas.Option.{same_Some}
use Rattle.std.proofs.lemmas.List.Elements.{Contains-get_or, filter-append, Contains-push, Contains-push_cases, Contains-append_left}
use Rattle.std.proofs.lemmas.List.Kept.{AllPairs-from_increasing}
use Rattle.mine_model.proofs.ListLemmas.{Contains-by, Contains-from, Contains-first, Contains-other, Contains-none}
use Rattle.state_bits.specs.Members.{Has}
use Rattle.state_bits.proofs.NeighbourLemmas.{Has-none}
use Rattle.stand_sums.specs.declared.next_rank.NextRank.{NextRank}
use Rattle.level_ahead.specs.declared.next_of.NextOf.{NextOf}
use Rattle.level_ahead.specs.Counts.{Behind, is_asked, nothing_behind, asked_of, AreReaching}
use Rattle.level_ahead.specs.Kept.{behind_at, behinds, IsRoom}
use Rattle.level_ahead.proofs.GatherLemmas.{AreLeft, left-all}

-- ---- the ranks that reach a count

abbrev pub next_at : List ℕ → ℕ → NextOf
next_at counts rank = record { rank = rank; count = get_or counts rank 0 }

rank-at : (counts xs : List ℕ) (k : ℕ) (d : NextOf) → k < length xs → (get_or (map (next_at counts) xs) k d).rank ≡ get_or xs k 0
rank-at counts [] k d short = absurd (omega arith)
rank-at counts (x ∷ xs) zero d short = refl
rank-at counts (x ∷ xs) (suc k) d short = rank-at counts xs k d (omega arith)

pub reached-all : (least : ℕ) (counts done left : List ℕ) (found : List NextOf) → AreLeft (λ rank. (rank < 256) × (least ≤ get_or counts rank 0)) done left → left ≡ [] → found ≡ map (next_at counts) done
    → AreReaching least counts found
reached-all least counts done left found are none is =
    let all = left-all (λ rank. (rank < 256) × (least ≤ get_or counts rank 0)) done left are none in
    let rising : AllPairs (λ x y. x < y) done = AllPairs-from_increasing done (subst IsStrictlyIncreasing (rw none (append-nil done)) are.rising) in
    rw is (record {
      rising = λ i j d below inside.
          let short : j < length done = omega (arith, inside, length-map done (next_at counts)) in
          let first : (get_or (map (next_at counts) done) i d).rank ≡ get_or done i 0 = rank-at counts done i d (omega arith) in
          let second : (get_or (map (next_at counts) done) j d).rank ≡ get_or done j 0 = rank-at counts done j d short in
          rw (first, second) (rising i j 0 below short);
      exact = λ next. (
        (λ held.
            let (rank, there, same) = Contains-from (next_at counts) done next held in
            let (few, enough) = (all rank).0 there in
            subst (λ (n : NextOf). (n.rank < 256) × (n.count ≡ get_or counts n.rank 0) × (least ≤ n.count)) (sym same) (few, refl, enough)),
        (λ (few, same, enough).
            let there : Contains done next.rank = (all next.rank).1 (few, omega arith) in
            let is' : next_at counts next.rank ≡ next = λ i. record { rank = next.rank; count = sym same i } in
            subst (Contains (map (next_at counts) done)) is' (Contains-by (next_at counts) done next.rank there)),
      );
    })

-- ---- no rank is asked about

pub room-none : (ranks : List ℕ) (asked : ℕ) (sets : List ℕ) (counts : List (List ℕ)) → ranks ≡ [] → asked ≡ 0 → IsRoom ranks asked sets counts
room-none ranks asked sets counts none empty =
    let nobody : (rank : ℕ) → Has asked rank → ⊥ = λ rank has. Has-none rank (subst (λ (n : ℕ). Has n rank) empty has) in
    record {
      asked_are = λ rank. ((λ has. absurd (nobody rank has)), (λ held. absurd (Contains-none rank (subst (λ (l : List ℕ). Contains l rank) none held))));
      sets_room = λ rank has. absurd (nobody rank has);
      counts_room = λ rank has. absurd (nobody rank has);
    }

-- ---- the ranks that are asked about, one after another

-- of the first so many of those that were found
pub record AreBegun (lacking : Option ℕ) (found : List NextRank) (k : ℕ) (ranks : List ℕ) (asked : ℕ) (before now : List (List ℕ)) : Type 0 where
  pub asked_are : (rank : ℕ) → Has asked rank ↔ Contains ranks rank
  pub few : (rank : ℕ) → Has asked rank → rank < 256
  pub room : length now ≡ length before
  pub ranks_are : ranks ≡ map (λ (n : NextRank). n.rank) (filter (is_asked lacking) (take k found))
  pub none : (rank : ℕ) → Contains ranks rank → get_or now rank [] ≡ replicate 256 0

pub begun-start : (lacking : Option ℕ) (found : List NextRank) (ranks : List ℕ) (asked : ℕ) (counts : List (List ℕ)) → ranks ≡ [] → asked ≡ 0 → AreBegun lacking found 0 ranks asked counts counts
begun-start lacking found ranks asked counts none empty =
    let nobody : (rank : ℕ) → Has asked rank → ⊥ = λ rank has. Has-none rank (subst (λ (n : ℕ). Has n rank) empty has) in
    let nothing : (rank : ℕ) → Contains ranks rank → ⊥ = λ rank held. Contains-none rank (subst (λ (l : List ℕ). Contains l rank) none held) in
    record {
      asked_are = λ rank. ((λ has. absurd (nobody rank has)), (λ held. absurd (nothing rank held)));
      few = λ rank has. absurd (nobody rank has);
      room = refl;
      ranks_are = none;
      none = λ rank held. absurd (nothing rank held);
    }

module _ (lacking : Option ℕ) (found : List NextRank) (k : ℕ) (d : NextRank) (inside : k < length found) where
  abbrev pub this : NextRank
  this = get_or found k d

  kept-more : filter (is_asked lacking) (take (k + 1) found) ≡ filter (is_asked lacking) (take k found) ++ cond (is_asked lacking this) (this ∷ []) []
  kept-more = ap (filter (is_asked lacking)) (take_more found k d inside) ∙ filter-append (is_asked lacking) (take k found) (this ∷ [])

  pub begun-skip : (ranks : List ℕ) (asked : ℕ) (before now : List (List ℕ)) → is_asked lacking this ≡ false → AreBegun lacking found k ranks asked before now → AreBegun lacking found (k + 1) ranks asked before now
  begun-skip ranks asked before now is begun = record {
    asked_are = begun.asked_are;
    few = begun.few;
    room = begun.room;
    ranks_are = begun.ranks_are
        ∙ ap (map (λ (n : NextRank). n.rank))
        (sym (append-nil (filter (is_asked lacking) (take k found))) ∙ ap (λ (b : Bool). filter (is_asked lacking) (take k found) ++ cond b (this ∷ []) []) (sym is) ∙ sym kept-more);
    none = begun.none;
  }

  pub begun-more : (ranks : List ℕ) (asked after : ℕ) (before now : List (List ℕ)) → is_asked lacking this ≡ true → this.rank < 256 → 256 ≤ length before → AreBegun lacking found k ranks asked before now
      → ((r : ℕ) → Has after r ↔ (Has asked r ⊎ (r ≡ this.rank))) → AreBegun lacking found (k + 1) (ranks ++ this.rank ∷ []) after before (set now this.rank (replicate 256 0))
  begun-more ranks asked after before now is few long begun adds =
      let rank : ℕ = this.rank in
      let room = begun.room in
      record {
        asked_are = λ r. (
          (λ has. elim ((adds r).0 has) [
            | inl had ↦ Contains-append_left ranks (rank ∷ []) r ((begun.asked_are r).0 had)
            | inr same ↦ subst (Contains (ranks ++ rank ∷ [])) (sym same) (Contains-push ranks rank)
          ]),
          (λ held. (adds r).1 (elim (Contains-push_cases ranks rank r held) [
            | inl there ↦ inl ((begun.asked_are r).1 there)
            | inr same ↦ inr (sym same)
          ])),
        );
        few = λ r has. elim ((adds r).0 has) [ inl had ↦ begun.few r had | inr same ↦ omega (arith, same, few) ];
        room = length-set now rank (replicate 256 0) ∙ room;
        ranks_are = ap (λ (l : List ℕ). l ++ rank ∷ []) begun.ranks_are ∙ sym (map-append (λ (n : NextRank). n.rank) (filter (is_asked lacking) (take k found)) (this ∷ []))
            ∙ ap (map (λ (n : NextRank). n.rank)) (ap (λ (b : Bool). filter (is_asked lacking) (take k found) ++ cond b (this ∷ []) []) (sym is) ∙ sym kept-more);
        none = λ r held. elim (cases_eq r rank) [
          | inl same ↦ ap (λ (n : ℕ). get_or (set now rank (replicate 256 0)) n []) same ∙ get_or-set_same now rank (replicate 256 0) [] (omega (arith, few, long, room))
          | inr apart ↦ elim (Contains-push_cases ranks rank r held) [
            | inl there ↦ get_or-set_other now rank r (replicate 256 0) [] apart ∙ begun.none r there
            | inr same ↦ absurd (apart (sym same))
          ]
        ];
      }

nothing-of : (counts : List (List ℕ)) (xs : List NextRank) → ((rank : ℕ) → Contains (map (λ (n : NextRank). n.rank) xs) rank → get_or counts rank [] ≡ replicate 256 0)
    → map (behind_at counts) (map (λ (n : NextRank). n.rank) xs) ≡ map nothing_behind xs
nothing-of counts [] none = refl
nothing-of counts (x ∷ xs) none =
    let here : get_or counts x.rank [] ≡ replicate 256 0 = none x.rank (Contains-first x.rank (map (λ (n : NextRank). n.rank) xs)) in
    λ i. record { rank = x.rank; counts = here i } ∷ nothing-of counts xs (λ rank held. none rank (Contains-other x.rank (map (λ (n : NextRank). n.rank) xs) rank held)) i

pub begun-all : (lacking : Option ℕ) (found : List NextRank) (k : ℕ) (ranks : List ℕ) (asked : ℕ) (before now : List (List ℕ)) → AreBegun lacking found k ranks asked before now → length found ≤ k
    → behinds now ranks ≡ map nothing_behind (filter (is_asked lacking) found)
begun-all lacking found k ranks asked before now begun past =
    let ranks_are : ranks ≡ map (λ (n : NextRank). n.rank) (filter (is_asked lacking) found) = begun.ranks_are ∙ ap (λ (l : List NextRank). map (λ (n : NextRank). n.rank) (filter (is_asked lacking) l)) (take_all k found past) in
    ap (map (behind_at now)) ranks_are ∙ nothing-of now (filter (is_asked lacking) found) (subst (λ (l : List ℕ). (rank : ℕ) → Contains l rank → get_or now rank [] ≡ replicate 256 0) ranks_are begun.none)

-- the room, where there is room for all ranks
pub room-all : (ranks : List ℕ) (asked : ℕ) (sets : List ℕ) (counts : List (List ℕ)) → ((rank : ℕ) → Has asked rank ↔ Contains ranks rank) → ((rank : ℕ) → Has asked rank → rank < 256)
    → 256 ≤ length sets → 256 ≤ length counts → IsRoom ranks asked sets counts
room-all ranks asked sets counts are few sets_long counts_long = record {
  asked_are = are;
  sets_room = λ rank has. let less = few rank has in omega (arith, less, sets_long);
  counts_room = λ rank has. let less = few rank has in omega (arith, less, counts_long);
}

-- ---- the entries

pub asked-is : (counts : List (List ℕ)) (ranks : List ℕ) → asked_of (behinds counts ranks) ≡ ranks
asked-is counts [] = refl
asked-is counts (rank ∷ ranks) = ap (λ (l : List ℕ). rank ∷ l) (asked-is counts ranks)

pub entry-at : (counts : List (List ℕ)) (ranks : List ℕ) (k : ℕ) (behind : Behind) → slice_get (behinds counts ranks) k ≡ Some behind → (rank : ℕ) × (slice_get ranks k ≡ Some rank) × (behind ≡ behind_at counts rank)
entry-at counts [] k behind at = absurd (cc)
entry-at counts (rank ∷ ranks) zero behind at = (rank, refl, sym (same_Some (behind_at counts rank) behind at))
entry-at counts (rank ∷ ranks) (suc k) behind at = entry-at counts ranks k behind at

-- there is room for the rank of an entry
pub rank-asked : (counts : List (List ℕ)) (ranks : List ℕ) (asked : ℕ) (sets : List ℕ) (entries : List Behind) (entry rank : ℕ) → IsRoom ranks asked sets counts → behinds counts ranks ≡ entries → entry < length entries
    → rank ≡ get_or ranks entry rank → rank < length counts
rank-asked counts ranks asked sets entries entry rank room view inside is =
    let long : length entries ≡ length ranks = ap (λ (l : List Behind). length l) (sym view) ∙ length-map ranks (behind_at counts) in
    let held : Contains ranks rank = subst (Contains ranks) (sym is) (Contains-get_or ranks entry rank (omega arith)) in
    room.counts_room rank ((room.asked_are rank).1 held)

-- the lacking rank is not asked about
pub not-asked : (lacking : Option ℕ) (ranks entries : List ℕ) (asked : ℕ) → entries ≡ ranks → ((rank : ℕ) → Has asked rank ↔ Contains ranks rank) → IfSome lacking (λ need. Contains entries need → ⊥)
    → IfSome lacking (λ need. Has asked need → ⊥)
not-asked None ranks entries asked same are apart = tt
not-asked (Some need) ranks entries asked same are apart = λ has. apart (subst (λ (l : List ℕ). Contains l need) (sym same) ((are need).0 has))
