-- Lemmas on levels of a sieve, and on what the sums of a level hold.
use Rattle.std.proofs.Common.{◌≡◌, ℕ, zero, suc, ◌+◌, ◌-◌, ◌%◌, ◌≤◌, ◌<◌, min, ◌⊎◌, inl, inr, Bool, true, IsTrue, Option, Some, List, [], ◌∷◌, ◌++◌, length, take, get_or, slice_get, refl, sym, ap, subst, ◌∙◌, arith, append_assoc, length-append}
use Rattle.std.proofs.lemmas.List.{append-nil, length-map, length-take, get_or-take}
use Rattle.std.proofs.lemmas.Option.{slice_get_cases, slice_get-get_or}
use Rattle.std.proofs.lemmas.Bool.{le-leb}
use Rattle.mine_model.specs.declared.item.Item.{Item}
use Rattle.mine_model.specs.Answer.{Data}
use Rattle.mine_model.specs.Candidates.{IsCandidate}
use Rattle.mine_model.specs.Growth.{WeighAtLeast}
use Rattle.mine_model.specs.Ranks.{AreRanked}
use Rattle.mine_model.specs.Support.{Sequence, Counts}
use Rattle.mine_model.proofs.AliveLemmas.{WeighAtLeast-counted, WeighAtLeast-less, WeighAtLeast-weaker}
use Rattle.prefix_sieve.specs.Buckets.{top, capped, sum_of, reaches, flags_of, flag_of, AreJoined}
use Rattle.prefix_sieve.specs.Sieves.{HasCandidate, HasBehind, lets_pass, PassesAll, IsLookedAt, HasEnough, HasRaised, AreDealt, AreLevels}

-- Weights

module _ (Has : List Item → Type 0) where
  -- with one sequence more
  weigh_more : (sequences : List (Sequence Item)) (s : Sequence Item) (n : ℕ) → WeighAtLeast Has (sequences ++ s ∷ []) n
      → (Has s.items × WeighAtLeast Has sequences (n - s.weight)) ⊎ WeighAtLeast Has sequences n
  weigh_more [] s n weigh = weigh
  weigh_more (x ∷ sequences) s n (inl p) = elim (weigh_more sequences s (n - x.weight) p.1) [
    | inl q ↦
        let turned : n - x.weight - s.weight ≡ n - s.weight - x.weight = omega arith in
        inl (q.0, inl (p.0, subst (WeighAtLeast Has sequences) turned q.1))
    | inr q ↦ inr (inl (p.0, q))
  ]
  weigh_more (x ∷ sequences) s n (inr p) = elim (weigh_more sequences s n p) [
    | inl q ↦ inl (q.0, inr q.1)
    | inr q ↦ inr (inr q)
  ]

  -- what weighs so much was dealt out
  record HaveBoth (some others : List (Sequence Item)) (n : ℕ) : Type 0 where
    mine : ℕ
    theirs : ℕ
    some_weigh : WeighAtLeast Has some mine
    others_weigh : WeighAtLeast Has others theirs
    enough : n ≤ mine + theirs

  -- with one sequence more among them
  weigh_past : (before behind : List (Sequence Item)) (s : Sequence Item) (n : ℕ) → WeighAtLeast Has (before ++ behind) n → WeighAtLeast Has (before ++ s ∷ behind) n
  weigh_past [] behind s n weigh = inr weigh
  weigh_past (x ∷ before) behind s n (inl p) = inl (p.0, weigh_past before behind s (n - x.weight) p.1)
  weigh_past (x ∷ before) behind s n (inr p) = inr (weigh_past before behind s n p)

  weigh_with : (before behind : List (Sequence Item)) (s : Sequence Item) (n : ℕ) → Has s.items → WeighAtLeast Has (before ++ behind) n
      → WeighAtLeast Has (before ++ s ∷ behind) (n + s.weight)
  weigh_with [] behind s n has weigh = let back : n ≡ n + s.weight - s.weight = omega arith in inl (has, subst (WeighAtLeast Has behind) back weigh)
  weigh_with (x ∷ before) behind s n has (inl p) =
      let all : WeighAtLeast Has (before ++ s ∷ behind) (n - x.weight + s.weight) = weigh_with before behind s (n - x.weight) has p.1 in
      inl (p.0, WeighAtLeast-less Has (before ++ s ∷ behind) (n - x.weight + s.weight) (n + s.weight - x.weight) (omega arith) all)
  weigh_with (x ∷ before) behind s n has (inr p) = inr (weigh_with before behind s n has p)

  weigh_dealt : (all some others : List (Sequence Item)) (n : ℕ) → AreDealt all some others → WeighAtLeast Has all n → HaveBoth some others n
  weigh_dealt [] some others n dealt weigh = record {
    mine = 0;
    theirs = 0;
    some_weigh = subst (λ (xs : List (Sequence Item)). WeighAtLeast Has xs 0) (sym dealt.0) refl;
    others_weigh = subst (λ (xs : List (Sequence Item)). WeighAtLeast Has xs 0) (sym dealt.1) refl;
    enough = omega (arith, weigh);
  }
  weigh_dealt (s ∷ all) some others n (inl d) (inl w) =
      let both : HaveBoth (d.0 ++ d.1) others (n - s.weight) = weigh_dealt all (d.0 ++ d.1) others (n - s.weight) d.3 w.1 in
      record {
        mine = both.mine + s.weight;
        theirs = both.theirs;
        some_weigh = subst (λ (xs : List (Sequence Item)). WeighAtLeast Has xs (both.mine + s.weight)) (sym d.2) (weigh_with d.0 d.1 s both.mine w.0 both.some_weigh);
        others_weigh = both.others_weigh;
        enough = omega (arith, both.enough);
      }
  weigh_dealt (s ∷ all) some others n (inl d) (inr w) =
      let both : HaveBoth (d.0 ++ d.1) others n = weigh_dealt all (d.0 ++ d.1) others n d.3 w in
      record {
        mine = both.mine;
        theirs = both.theirs;
        some_weigh = subst (λ (xs : List (Sequence Item)). WeighAtLeast Has xs (both.mine)) (sym d.2) (weigh_past d.0 d.1 s both.mine both.some_weigh);
        others_weigh = both.others_weigh;
        enough = omega (arith, both.enough);
      }
  weigh_dealt (s ∷ all) some others n (inr d) (inl w) =
      let both : HaveBoth some (d.0 ++ d.1) (n - s.weight) = weigh_dealt all some (d.0 ++ d.1) (n - s.weight) d.3 w.1 in
      record {
        mine = both.mine;
        theirs = both.theirs + s.weight;
        some_weigh = both.some_weigh;
        others_weigh = subst (λ (xs : List (Sequence Item)). WeighAtLeast Has xs (both.theirs + s.weight)) (sym d.2) (weigh_with d.0 d.1 s both.theirs w.0 both.others_weigh);
        enough = omega (arith, both.enough);
      }
  weigh_dealt (s ∷ all) some others n (inr d) (inr w) =
      let both : HaveBoth some (d.0 ++ d.1) n = weigh_dealt all some (d.0 ++ d.1) n d.3 w in
      record {
        mine = both.mine;
        theirs = both.theirs;
        some_weigh = both.some_weigh;
        others_weigh = subst (λ (xs : List (Sequence Item)). WeighAtLeast Has xs (both.theirs)) (sym d.2) (weigh_past d.0 d.1 s both.theirs both.others_weigh);
        enough = omega (arith, both.enough);
      }

-- Sums

module _ (d : Data Item) (order : List Item) (hash : List ℕ → ℕ) (levels : List (List Bool)) (longest : ℕ) where
  pub enough_of_none : (sums : List ℕ) → HasEnough d order hash levels longest [] sums
  enough_of_none sums = λ prefix looked n most weigh. omega (arith, weigh)

  pub enough_of_more : (sequences : List (Sequence Item)) (s : Sequence Item) (before after : List ℕ) → HasEnough d order hash levels longest sequences before
      → HasRaised d order hash levels longest s before after → HasEnough d order hash levels longest (sequences ++ s ∷ []) after
  enough_of_more sequences s before after enough raised = λ prefix looked n most weigh.
      elim (weigh_more (HasBehind d order prefix) sequences s n weigh) [
        | inl p ↦
            let rest : n - s.weight ≤ sum_of before (hash prefix) = enough prefix looked (n - s.weight) (omega (arith, most)) p.1 in
            let more : capped (sum_of before (hash prefix)) s.weight ≤ sum_of after (hash prefix) = raised.raised prefix looked p.0 in
            omega (arith, rest, more, most)
        | inr p ↦
            let same : n ≤ sum_of before (hash prefix) = enough prefix looked n most p in
            omega (arith, same, raised.never_less (hash prefix))
      ]

  joined_at : (mine theirs sums : List ℕ) → AreJoined mine theirs sums → (at : ℕ) → sum_of sums at ≡ capped (sum_of mine at) (sum_of theirs at)
  joined_at mine theirs sums joined at =
      rw (joined.same, joined.long) (joined.each (at % length mine))

  pub enough_of_all : (all some others : List (Sequence Item)) (mine theirs sums : List ℕ) → AreDealt all some others
      → HasEnough d order hash levels longest some mine → HasEnough d order hash levels longest others theirs → AreJoined mine theirs sums
      → HasEnough d order hash levels longest all sums
  enough_of_all all some others mine theirs sums dealt enough too joined = λ prefix looked n most weigh.
      let Has : List Item → Type 0 = HasBehind d order prefix in
      let both : HaveBoth Has some others n = weigh_dealt Has all some others n dealt weigh in
      let first : min both.mine top ≤ sum_of mine (hash prefix) =
      enough prefix looked (min both.mine top) (omega arith) (WeighAtLeast-less Has some both.mine (min both.mine top) (omega arith) both.some_weigh) in
      let second : min both.theirs top ≤ sum_of theirs (hash prefix) =
      too prefix looked (min both.theirs top) (omega arith) (WeighAtLeast-less Has others both.theirs (min both.theirs top) (omega arith) both.others_weigh) in
      omega (arith, first, second, both.enough, most, joined_at mine theirs sums joined (hash prefix))

-- Levels

flag_at : (threshold : ℕ) (sums : List ℕ) (bucket : ℕ) → min threshold top ≤ get_or sums bucket 0 → IsTrue (get_or (flags_of threshold sums) bucket true)
flag_at threshold [] bucket enough = refl
flag_at threshold (sum ∷ sums) zero enough = le-leb (min threshold top) sum enough
flag_at threshold (sum ∷ sums) (suc bucket) enough = flag_at threshold sums bucket enough

flag_is : (threshold : ℕ) (sums : List ℕ) (hash : ℕ) → min threshold top ≤ sum_of sums hash → IsTrue (flag_of (flags_of threshold sums) hash)
flag_is threshold sums hash enough = rw (length-map sums (reaches threshold)) (flag_at threshold sums (hash % length sums) enough)

module _ (d : Data Item) (order : List Item) (hash : List ℕ → ℕ) (levels : List (List Bool)) (are : AreLevels d order hash levels)
    (list : List ℕ) (alive : WeighAtLeast (HasBehind d order list) d.sequences d.threshold) where
  -- what is behind the list is behind its prefixes
  alive_before : (prefix behind : List ℕ) → list ≡ prefix ++ behind → WeighAtLeast (HasBehind d order prefix) d.sequences d.threshold
  alive_before prefix behind is =
      WeighAtLeast-weaker (HasBehind d order list) (HasBehind d order prefix)
      (λ items has. (behind ++ has.0, (has.1.0, has.1.1, subst (AreRanked order has.1.0) (ap (λ (xs : List ℕ). xs ++ has.0) is ∙ append_assoc prefix behind has.0) has.1.2)))
      d.sequences d.threshold alive

  -- by the first levels pass those that pass by all
  passes_at : (known at code : ℕ) → (at < known → IsTrue (lets_pass (slice_get levels at) code))
      → IsTrue (lets_pass (slice_get (take known levels) at) code)
  passes_at known at code passes = elim ((slice_get_cases (take known levels) at).1) [
    | inl there ↦
        let long : length (take known levels) ≡ min known (length levels) = length-take known levels in
        let below : at < known = omega (arith, there.1, long) in
        let inside : at < length levels = omega (arith, there.1, long) in
        let same : slice_get levels at ≡ slice_get (take known levels) at =
        slice_get-get_or levels at there.0 inside ∙ ap (λ (x : List Bool). Some x) (sym (get_or-take known levels at there.0 below) ∙ there.3) ∙ sym there.2 in
        subst (λ (level : Option (List Bool)). IsTrue (lets_pass level code)) same (passes below)
    | inr past ↦ subst (λ (level : Option (List Bool)). IsTrue (lets_pass level code)) (sym past.1) refl
  ]

  -- a prefix passes at its level where its own prefixes pass at theirs
  passes_level : (before : List ℕ) (rank : ℕ) (behind : List ℕ) → list ≡ before ++ rank ∷ behind
      → ((b : List ℕ) (r : ℕ) (e : List ℕ) → length b < length before → list ≡ b ++ r ∷ e
      → IsTrue (lets_pass (slice_get levels (length b)) (hash (b ++ r ∷ []))))
      → (flags : List Bool) → slice_get levels (length before) ≡ Some flags
      → IsTrue (flag_of flags (hash (before ++ rank ∷ [])))
  passes_level before rank behind is shorter flags at =
      let (known, sums, less, are_flags, enough) = are (length before) flags at in
      let prefix : List ℕ = before ++ rank ∷ [] in
      let long : length prefix ≡ length before + 1 = length-append before (rank ∷ []) in
      let cut : length (take known levels) ≡ min known (length levels) = length-take known levels in
      let whole : list ≡ prefix ++ behind = is ∙ sym (append_assoc before (rank ∷ []) behind) in
      let looked : IsLookedAt hash (take known levels) (length before + 1) prefix = record {
        longer = omega (arith, long, cut, less);
        most = omega (arith, long);
        passed = λ b r e split.
            let shown : list ≡ b ++ r ∷ (e ++ behind) = whole ∙ ap (λ (xs : List ℕ). xs ++ behind) split ∙ append_assoc b (r ∷ e) behind in
            passes_at known (length b) (hash (b ++ r ∷ [])) (λ below. shorter b r (e ++ behind) (omega (arith, below, less)) shown);
      } in
      let sum : min d.threshold top ≤ sum_of sums (hash prefix) =
      enough prefix looked (min d.threshold top) (omega arith)
      (WeighAtLeast-less (HasBehind d order prefix) d.sequences d.threshold (min d.threshold top) (omega arith) (alive_before prefix behind whole)) in
      subst (λ (all : List Bool). IsTrue (flag_of all (hash prefix))) (sym are_flags) (flag_is d.threshold sums (hash prefix) sum)

  passes_some : (before : List ℕ) (code : ℕ) → ((flags : List Bool) → slice_get levels (length before) ≡ Some flags → IsTrue (flag_of flags code))
      → IsTrue (lets_pass (slice_get levels (length before)) code)
  passes_some before code passes = elim ((slice_get_cases levels (length before)).1) [
    | inl there ↦ subst (λ (level : Option (List Bool)). IsTrue (lets_pass level code)) (sym there.2) (passes there.0 there.2)
    | inr past ↦ subst (λ (level : Option (List Bool)). IsTrue (lets_pass level code)) (sym past.1) refl
  ]

  passes_below : (k : ℕ) (before : List ℕ) (rank : ℕ) (behind : List ℕ) → length before < k → list ≡ before ++ rank ∷ behind
      → IsTrue (lets_pass (slice_get levels (length before)) (hash (before ++ rank ∷ [])))
  passes_below zero before rank behind below is = absurd (omega (arith, below))
  passes_below (suc k) before rank behind below is =
      passes_some before (hash (before ++ rank ∷ []))
      (passes_level before rank behind is (λ b r e less split. passes_below k b r e (omega (arith, less, below)) split))

  pub passes_all : PassesAll hash levels list
  passes_all = λ before rank behind is. passes_below (suc (length before)) before rank behind (omega arith) is

pub passes_frequent : (d : Data Item) (order : List Item) (hash : List ℕ → ℕ) (levels : List (List Bool)) → AreLevels d order hash levels
    → (pattern : List Item) (list : List ℕ) → AreRanked order pattern list
    → (support : ℕ) → Counts (λ items. IsCandidate d items pattern) d.sequences support → d.threshold ≤ support → PassesAll hash levels list
passes_frequent d order hash levels are pattern list ranked support counted enough =
    let Has : List Item → Type 0 = λ items. IsCandidate d items pattern in
    let weigh : WeighAtLeast Has d.sequences d.threshold = (WeighAtLeast-counted Has d.sequences support d.threshold counted).1 enough in
    passes_all d order hash levels are list
    (WeighAtLeast-weaker Has (HasBehind d order list)
    (λ items has. ([], (pattern, has, subst (AreRanked order pattern) (sym (append-nil list)) ranked)))
    d.sequences d.threshold weigh)

pub passes_counted : (d : Data Item) (order : List Item) (hash : List ℕ → ℕ) (levels : List (List Bool)) → AreLevels d order hash levels
    → (list : List ℕ) (n : ℕ) → Counts (HasCandidate d order list) d.sequences n → d.threshold ≤ n → PassesAll hash levels list
passes_counted d order hash levels are list n counted enough =
    let Has : List Item → Type 0 = HasCandidate d order list in
    let weigh : WeighAtLeast Has d.sequences d.threshold = (WeighAtLeast-counted Has d.sequences n d.threshold counted).1 enough in
    passes_all d order hash levels are list
    (WeighAtLeast-weaker Has (HasBehind d order list)
    (λ items has. ([], (has.0, has.1, subst (AreRanked order has.0) (sym (append-nil list)) has.2)))
    d.sequences d.threshold weigh)
