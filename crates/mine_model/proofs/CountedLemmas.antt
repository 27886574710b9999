-- The counted work of a run under other names of the items.
use Rattle.std.proofs.Common.{◌≡◌, ◌≢◌, ℕ, ◌-◌, ◌≤◌, inl, inr, false, List, [], ◌∷◌, ◌++◌, map, length, take, drop, sym, ap, ◌∙◌, subst, Contains, get_or, arith}
use Rattle.std.specs.List.{AllByRecursion, AllPairs}
use Rattle.std.proofs.lemmas.List.{length-map, get_or_default, map-append, take-append-drop, take-map}
use Rattle.std.proofs.Math.Seq.{take-append_seam}
use Rattle.std.proofs.lemmas.List.Kept.{AllPairs-cons}
use Rattle.mine_model.specs.Hierarchy.{Link, IsAncestor}
use Rattle.mine_model.specs.Expression.{tree_by, named_in}
use Rattle.mine_model.specs.Generation.{IsPatternOf}
use Rattle.mine_model.specs.Support.{Sequence, HoldsUnder, HasFrequency}
use Rattle.mine_model.specs.Answer.{Data}
use Rattle.mine_model.specs.Candidates.{IsFrequentItem, IsCandidate}
use Rattle.mine_model.specs.Counted.{HasCandidates, HasPairs}
use Rattle.mine_model.specs.Growth.{WeighAtLeast, HasPatternBehind, AreFrequentItems, IsSearchWork}
use Rattle.mine_model.specs.declared.mined.Work.{Work}
use Rattle.mine_model.specs.Names.{sequence_by}
use Rattle.mine_model.proofs.ListLemmas.{Contains-by, Contains-from, Contains-first, Contains-other, AllByRecursion-contained, AllPairs-head, AllPairs-tail, front_of_both}
use Rattle.mine_model.proofs.AliveLemmas.{WeighAtLeast-some}
use Rattle.mine_model.proofs.NumberingLemmas.{Renames, renamed_data, pattern-forth, pattern-back, one_to_one-lists, generated-in}

module _ {A B : Type 0} (links : List (Link A)) (others : List (Link B)) (P : A → Type 0) (f : A → B) (renames : Renames links others P f) where
  holds-forth : (w : A) (items : List A) → P w → AllByRecursion P items → HoldsUnder links w items → HoldsUnder others (f w) (map f items)
  holds-forth w items p all (t, inside, above) =
      (f t, Contains-by f items t inside, renames.forth w t p (AllByRecursion-contained P items t all inside) above)

  holds-back : (w : A) (items : List A) → P w → AllByRecursion P items → HoldsUnder others (f w) (map f items) → HoldsUnder links w items
  holds-back w items p all (v, inside, above) =
      let (t, held, same) = Contains-from f items v inside in
      (t, held, renames.back w t p (AllByRecursion-contained P items t all held) (subst (IsAncestor others (f w)) same above))

  frequency-forth : (w : A) (sequences : List (Sequence A)) (n : ℕ) → P w → AllByRecursion (λ s. AllByRecursion P s.items) sequences
      → HasFrequency links sequences w n → HasFrequency others (map (sequence_by f) sequences) (f w) n
  frequency-forth w [] n p all none = none
  frequency-forth w (s ∷ sequences) n p all (inl (has, (rest, sum, more))) =
      inl (holds-forth w s.items p all.0 has, (rest, sum, frequency-forth w sequences rest p all.1 more))
  frequency-forth w (s ∷ sequences) n p all (inr (hasnt, more)) =
      inr ((λ has. hasnt (holds-back w s.items p all.0 has)), frequency-forth w sequences n p all.1 more)

  frequency-back : (w : A) (sequences : List (Sequence A)) (n : ℕ) → P w → AllByRecursion (λ s. AllByRecursion P s.items) sequences
      → HasFrequency others (map (sequence_by f) sequences) (f w) n → HasFrequency links sequences w n
  frequency-back w [] n p all none = none
  frequency-back w (s ∷ sequences) n p all (inl (has, (rest, sum, more))) =
      inl (holds-back w s.items p all.0 has, (rest, sum, frequency-back w sequences rest p all.1 more))
  frequency-back w (s ∷ sequences) n p all (inr (hasnt, more)) =
      inr ((λ has. hasnt (holds-forth w s.items p all.0 has)), frequency-back w sequences n p all.1 more)

module _ {A B : Type 0} (f : A → B) (others : List (Link B)) (d : Data A) (P : A → Type 0) (renames : Renames d.links others P f)
    (named : AllByRecursion P (named_in d.expression)) (all : AllByRecursion (λ (s : Sequence A). AllByRecursion P s.items) d.sequences) where
  abbrev Frequent : A → Type 0
  Frequent = IsFrequentItem d.links d.sequences d.threshold

  abbrev FrequentNamed : B → Type 0
  FrequentNamed = IsFrequentItem others (map (sequence_by f) d.sequences) d.threshold

  frequent-forth : (w : A) → P w → Frequent w → FrequentNamed (f w)
  frequent-forth w p is = record {
    frequency = is.frequency;
    exact = frequency-forth d.links others P f renames w d.sequences is.frequency p all is.exact;
    enough = is.enough;
  }

  frequent-back : (w : A) → P w → FrequentNamed (f w) → Frequent w
  frequent-back w p is = record {
    frequency = is.frequency;
    exact = frequency-back d.links others P f renames w d.sequences is.frequency p all is.exact;
    enough = is.enough;
  }

  allowed-forth : (pattern : List A) → AllByRecursion P pattern → AllByRecursion Frequent pattern → AllByRecursion FrequentNamed (map f pattern)
  allowed-forth [] inside allowed = tt
  allowed-forth (w ∷ pattern) inside allowed = (frequent-forth w inside.0 allowed.0, allowed-forth pattern inside.1 allowed.1)

  allowed-back : (pattern : List A) → AllByRecursion P pattern → AllByRecursion FrequentNamed (map f pattern) → AllByRecursion Frequent pattern
  allowed-back [] inside allowed = tt
  allowed-back (w ∷ pattern) inside allowed = (frequent-back w inside.0 allowed.0, allowed-back pattern inside.1 allowed.1)

  abbrev Candidate : List A → List A → Type 0
  Candidate = IsCandidate d

  abbrev CandidateNamed : List B → List B → Type 0
  CandidateNamed = IsCandidate (renamed_data f others d)

  inside-of : (items pattern : List A) → AllByRecursion P items → Candidate items pattern → AllByRecursion P pattern
  inside-of items pattern within is =
      generated-in d.links others P f renames d.expression false items pattern is.generated.1 within

  candidate-forth : (items pattern : List A) → AllByRecursion P items → Candidate items pattern → CandidateNamed (map f items) (map f pattern)
  candidate-forth items pattern within is = record {
    generated = pattern-forth d.links others P f renames d.expression named items pattern within is.generated;
    allowed = allowed-forth pattern (inside-of items pattern within is) is.allowed;
  }

  candidate-back : (items : List A) (pattern : List B) → AllByRecursion P items → CandidateNamed (map f items) pattern
      → (own : List A) × (pattern ≡ map f own) × Candidate items own
  candidate-back items pattern within is =
      let (own, same, made, inside) = pattern-back d.links others P f renames d.expression named items pattern within is.generated in
      (own, same, record { generated = made; allowed = allowed-back own inside (subst (AllByRecursion FrequentNamed) same is.allowed) })

  -- different candidates have different names
  once-forth : (items : List A) (candidates : List (List A)) → AllByRecursion P items → ((pattern : List A) → Contains candidates pattern → Candidate items pattern)
      → AllPairs (λ p q. p ≢ q) candidates → AllPairs (λ p q. p ≢ q) (map (map f) candidates)
  once-forth items [] within each once = once-none
    where
      once-none : AllPairs (λ (p : List B) q. p ≢ q) []
      once-none = λ i j d less inside. absurd (omega arith)
  once-forth items (first ∷ candidates) within each once =
      AllPairs-cons (λ p q. p ≢ q) (map f first) (map (map f) candidates)
      (λ k other below. apart (get_or (map (map f) candidates) k other)
      (k, below, get_or_default (map (map f) candidates) k (get_or (map (map f) candidates) k other) other below))
      (once-forth items candidates within (λ pattern inside. each pattern (Contains-other first candidates pattern inside))
      (AllPairs-tail (λ p q. p ≢ q) first candidates once))
    where
      apart : (q : List B) → Contains (map (map f) candidates) q → map f first ≢ q
      apart q held same =
          let (own, inside, is) = Contains-from (map f) candidates q held in
          AllPairs-head (λ p q. p ≢ q) first candidates once own inside
          (one_to_one-lists d.links others P f renames first own
          (inside-of items first within (each first (Contains-first first candidates)))
          (inside-of items own within (each own (Contains-other first candidates own inside))) (same ∙ is))

  candidates-forth : (items : List A) (n : ℕ) → AllByRecursion P items → HasCandidates d items n → HasCandidates (renamed_data f others d) (map f items) n
  candidates-forth items n within has = record {
    things = map (map f) has.things;
    once = once-forth items has.things within (λ pattern. (has.exact pattern).0) has.once;
    exact = λ pattern. (
      λ inside. let (own, held, same) = Contains-from (map f) has.things pattern inside in
          subst (CandidateNamed (map f items)) (sym same) (candidate-forth items own within ((has.exact own).0 held)),
      λ is. let (own, same, is_own) = candidate-back items pattern within is in
          subst (Contains (map (map f) has.things)) (sym same) (Contains-by (map f) has.things own ((has.exact own).1 is_own)),
    );
    counted = has.counted ∙ sym (length-map has.things (map f));
  }

  -- so many pairs there are under the other names too
  pub pairs-forth : (sequences : List (Sequence A)) (n : ℕ) → AllByRecursion (λ (s : Sequence A). AllByRecursion P s.items) sequences
      → HasPairs d sequences n
      → HasPairs (renamed_data f others d)
      (map (sequence_by f) sequences) n
  pairs-forth [] n within none = none
  pairs-forth (s ∷ sequences) n within (first, rest, sum, here, more) =
      (first, rest, sum, candidates-forth s.items first within.0 here, pairs-forth sequences rest within.1 more)

  -- the same of prefixes

  abbrev Behind : List A → List A → Type 0
  Behind prefix items = HasPatternBehind d (AreFrequentItems d) prefix items

  abbrev BehindNamed : List B → List B → Type 0
  BehindNamed prefix items = HasPatternBehind (renamed_data f others d) (AreFrequentItems (renamed_data f others d)) prefix items

  behind-inside : (prefix items : List A) → AllByRecursion P items → Behind prefix items → AllByRecursion P prefix
  behind-inside prefix items within (more, pattern, frequent) =
      front_of_both P prefix more (inside-of items (prefix ++ more) within (record { generated = pattern; allowed = frequent }))

  behind-forth : (prefix items : List A) → AllByRecursion P items → Behind prefix items → BehindNamed (map f prefix) (map f items)
  behind-forth prefix items within (more, pattern, frequent) =
      let is = candidate-forth items (prefix ++ more) within (record { generated = pattern; allowed = frequent }) in
      let cut = map-append f prefix more in (
        map f more,
        subst (λ l. IsPatternOf others (tree_by f d.expression) (map f items) l) cut is.generated,
        subst (AllByRecursion FrequentNamed) cut is.allowed,
      )

  behind-back : (prefix : List B) (items : List A) → AllByRecursion P items → BehindNamed prefix (map f items)
      → (own : List A) × (prefix ≡ map f own) × AllByRecursion P own × Behind own items
  behind-back prefix items within (more, pattern, frequent) =
      let (own, same, is) = candidate-back items (prefix ++ more) within (record { generated = pattern; allowed = frequent }) in
      let whole : take (length prefix) own ++ drop (length prefix) own ≡ own = take-append-drop (length prefix) own in
      let front : prefix ≡ map f (take (length prefix) own) =
      sym (take-append_seam prefix more) ∙ ap (λ l. take (length prefix) l) same ∙ take-map f (length prefix) own in
      let behind : Behind (take (length prefix) own) items = (
        drop (length prefix) own,
        subst (λ l. IsPatternOf d.links d.expression items l) (sym whole) is.generated,
        subst (AllByRecursion Frequent) (sym whole) is.allowed,
      ) in
      (take (length prefix) own, front, behind-inside (take (length prefix) own) items within behind, behind)

  weigh-forth : (prefix : List A) (sequences : List (Sequence A)) (n : ℕ) → AllByRecursion (λ (s : Sequence A). AllByRecursion P s.items) sequences
      → WeighAtLeast (Behind prefix) sequences n → WeighAtLeast (BehindNamed (map f prefix)) (map (sequence_by f) sequences) n
  weigh-forth prefix [] n within weigh = weigh
  weigh-forth prefix (s ∷ sequences) n within (inl p) =
      inl (behind-forth prefix s.items within.0 p.0, weigh-forth prefix sequences (n - s.weight) within.1 p.1)
  weigh-forth prefix (s ∷ sequences) n within (inr p) = inr (weigh-forth prefix sequences n within.1 p)

  weigh-back : (prefix : List A) → AllByRecursion P prefix → (sequences : List (Sequence A)) (n : ℕ)
      → AllByRecursion (λ (s : Sequence A). AllByRecursion P s.items) sequences
      → WeighAtLeast (BehindNamed (map f prefix)) (map (sequence_by f) sequences) n → WeighAtLeast (Behind prefix) sequences n
  weigh-back prefix inside [] n within weigh = weigh
  weigh-back prefix inside (s ∷ sequences) n within (inl p) =
      let (own, same, held, behind) = behind-back (map f prefix) s.items within.0 p.0 in
      let is : own ≡ prefix = one_to_one-lists d.links others P f renames own prefix held inside (sym same) in
      inl (subst (λ l. Behind l s.items) is behind, weigh-back prefix inside sequences (n - s.weight) within.1 p.1)
  weigh-back prefix inside (s ∷ sequences) n within (inr p) = inr (weigh-back prefix inside sequences n within.1 p)

  -- what weighs something is the other name of a prefix
  weigh-own : (prefix : List B) (n : ℕ) → 1 ≤ n → WeighAtLeast (BehindNamed prefix) (map (sequence_by f) d.sequences) n
      → (own : List A) × (prefix ≡ map f own) × AllByRecursion P own
  weigh-own prefix n some weigh =
      let (s, held, behind) = WeighAtLeast-some (BehindNamed prefix) (map (sequence_by f) d.sequences) n some weigh in
      let (t, inside, same) = Contains-from (sequence_by f) d.sequences s held in
      let (own, is, within, _) = behind-back prefix t.items (AllByRecursion-contained (λ (s : Sequence A). AllByRecursion P s.items) d.sequences t all inside)
      (subst (λ (s : Sequence B). BehindNamed prefix s.items) same behind) in
      (own, is, within)

  prefixes-once : (prefixes : List (List A)) → ((prefix : List A) → Contains prefixes prefix → AllByRecursion P prefix)
      → AllPairs (λ p q. p ≢ q) prefixes → AllPairs (λ p q. p ≢ q) (map (map f) prefixes)
  prefixes-once [] each once = λ i j e less inside. absurd (omega arith)
  prefixes-once (first ∷ prefixes) each once =
      AllPairs-cons (λ p q. p ≢ q) (map f first) (map (map f) prefixes)
      (λ k other below. apart (get_or (map (map f) prefixes) k other)
      (k, below, get_or_default (map (map f) prefixes) k (get_or (map (map f) prefixes) k other) other below))
      (prefixes-once prefixes (λ prefix inside. each prefix (Contains-other first prefixes prefix inside))
      (AllPairs-tail (λ p q. p ≢ q) first prefixes once))
    where
      apart : (q : List B) → Contains (map (map f) prefixes) q → map f first ≢ q
      apart q held same =
          let (own, inside, is) = Contains-from (map f) prefixes q held in
          AllPairs-head (λ p q. p ≢ q) first prefixes once own inside
          (one_to_one-lists d.links others P f renames first own (each first (Contains-first first prefixes))
          (each own (Contains-other first prefixes own inside)) (same ∙ is))

  -- the work of a search by prefixes is the same under the other names
  pub search-forth : 1 ≤ d.threshold → (work : Work) → IsSearchWork d work
      → IsSearchWork (renamed_data f others d) work
  search-forth some work is = record {
    nodes = record {
      things = map (map f) is.nodes.things;
      once = prefixes-once is.nodes.things (λ prefix inside. within-own prefix ((is.nodes.exact prefix).0 inside)) is.nodes.once;
      exact = λ prefix. (
        λ inside. let (own, held, same) = Contains-from (map f) is.nodes.things prefix inside in
            subst (λ l. WeighAtLeast (BehindNamed l) (map (sequence_by f) d.sequences) d.threshold) (sym same)
            (weigh-forth own d.sequences d.threshold all ((is.nodes.exact own).0 held)),
        λ weigh. let (own, same, inside) = weigh-own prefix d.threshold some weigh in
            subst (Contains (map (map f) is.nodes.things)) (sym same)
            (Contains-by (map f) is.nodes.things own ((is.nodes.exact own).1 (weigh-back own inside d.sequences d.threshold all
            (subst (λ l. WeighAtLeast (BehindNamed l) (map (sequence_by f) d.sequences) d.threshold) same weigh)))),
      );
      counted = is.nodes.counted ∙ sym (length-map is.nodes.things (map f));
    };
    parts = elim is.parts [
      | inl one ↦ inl (one.0, weigh-forth [] d.sequences d.threshold all one.1)
      | inr none ↦ inr (none.0, λ weigh. none.1 (weigh-back [] tt d.sequences d.threshold all weigh))
    ];
    candidates = is.candidates;
  }
    where
      within-own : (prefix : List A) → WeighAtLeast (Behind prefix) d.sequences d.threshold → AllByRecursion P prefix
      within-own prefix weigh =
          let (s, held, behind) = WeighAtLeast-some (Behind prefix) d.sequences d.threshold some weigh in
          behind-inside prefix s.items (AllByRecursion-contained (λ (s : Sequence A). AllByRecursion P s.items) d.sequences s all held) behind
