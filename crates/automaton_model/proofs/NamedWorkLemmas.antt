-- The work of the engine over candidate automata: there is at most one, and that by items is that by names.
use Rattle.std.proofs.Common.{◌≡◌, ◌⊎◌, ◌↔◌, ℕ, ◌≤◌, inl, inr, false, List, [], ◌∷◌, map, refl, sym, ap, ◌∙◌, subst}
use Rattle.std.specs.List.{AllByRecursion, Contains}
use Rattle.mine_model.specs.declared.mined.Work.{Work}
use Rattle.mine_model.specs.Hierarchy.{Link}
use Rattle.mine_model.specs.Expression.{tree_by, named_in}
use Rattle.mine_model.specs.Generation.{IsPatternOf}
use Rattle.mine_model.specs.Support.{Sequence}
use Rattle.mine_model.specs.Answer.{Data}
use Rattle.mine_model.specs.Candidates.{IsFrequentItem}
use Rattle.mine_model.specs.Names.{sequence_by}
use Rattle.mine_model.specs.Growth.{IsAlive}
use Rattle.mine_model.specs.PartitionWork.{RanksBefore, IsPivotOf}
use Rattle.mine_model.proofs.ListLemmas.{Contains-by, Contains-from, AllByRecursion-contained}
use Rattle.mine_model.proofs.NumberingLemmas.{Renames, renamed_data, pattern-forth, pattern-back, one_to_one-lists, generated-in}
use Rattle.mine_model.proofs.PartitionWorkLemmas.{frequent-same, earlier-same, alive-same, label-named, label-own}
use Rattle.automaton_model.specs.NamedWork.{PivotCandidates, IsPivotCandidate, AreOfPart, AreSameSet, IsCandidateSetWork}
use Rattle.automaton_model.proofs.ClassLemmas.{classes-by, classes-unique}

-- THERE IS one work
module _ {A : Type 0} (Ties : A → A → Type 0) (d : Data A) where
  set_turned : (x y : PivotCandidates A) → AreSameSet Ties d x y → AreSameSet Ties d y x
  set_turned x y is = record { pivot = sym is.pivot; same = λ pattern. ((is.same pattern).1, (is.same pattern).0) }

  set_through : (x y z : PivotCandidates A) → AreSameSet Ties d x y → AreSameSet Ties d y z → AreSameSet Ties d x z
  set_through x y z one other = record {
    pivot = one.pivot ∙ other.pivot;
    same = λ pattern. (
      (λ is. (other.same pattern).0 ((one.same pattern).0 is)),
      (λ is. (one.same pattern).1 ((other.same pattern).1 is)),
    );
  }

  pub set-work-unique : (first second : Work) → IsCandidateSetWork Ties d first → IsCandidateSetWork Ties d second → first ≡ second
  set-work-unique first second one other =
      let nodes : first.nodes ≡ second.nodes = one.nodes ∙ sym other.nodes in
      let parts : first.parts ≡ second.parts =
      classes-unique (AreOfPart Ties d) (AreSameSet Ties d) set_turned set_through first.parts second.parts one.parts other.parts in
      let candidates : first.candidates ≡ second.candidates = one.candidates ∙ sym other.candidates in
      λ i. record { nodes = nodes i; parts = parts i; candidates = candidates i }

-- Under other names of the items

module _ {A B : Type 0} (f : A → B) (others : List (Link B)) (d : Data A) (P : A → Type 0) (renames : Renames d.links others P f)
    (named : AllByRecursion P (named_in d.expression)) (all : AllByRecursion (λ (s : Sequence A). AllByRecursion P s.items) d.sequences)
    (Ties : B → B → Type 0) (least : 1 ≤ d.threshold) where
  abbrev Own : A → A → Type 0
  Own v w = Ties (f v) (f w)

  abbrev Named : Data B
  Named = renamed_data f others d

  abbrev Frequent : A → Type 0
  Frequent = IsFrequentItem d.links d.sequences d.threshold

  abbrev FrequentNamed : B → Type 0
  FrequentNamed = IsFrequentItem others (map (sequence_by f) d.sequences) d.threshold

  -- the pivot of items is that of their names
  module _ (pivot : A) (p : P pivot) where
    abbrev Last : A → Type 0
    Last v = (v ≡ pivot) ⊎ RanksBefore Own d v pivot

    abbrev LastNamed : B → Type 0
    LastNamed v = (v ≡ f pivot) ⊎ RanksBefore Ties Named v (f pivot)

    last_forth : (v : A) → P v → Last v → LastNamed (f v)
    last_forth v q (inl same) = inl (ap f same)
    last_forth v q (inr before) = inr ((earlier-same f others d P renames named all Ties v pivot q p).0 before)

    last_back : (v : A) → P v → LastNamed (f v) → Last v
    last_back v q (inl same) = inl (renames.one_to_one v pivot q p same)
    last_back v q (inr before) = inr ((earlier-same f others d P renames named all Ties v pivot q p).1 before)

    items_forth : (items : List A) → AllByRecursion P items → AllByRecursion Frequent items → AllByRecursion Last items
        → AllByRecursion FrequentNamed (map f items) × AllByRecursion LastNamed (map f items)
    items_forth [] inside frequent last = (tt, tt)
    items_forth (v ∷ items) inside frequent last =
        let rest = items_forth items inside.1 frequent.1 last.1 in (
          ((frequent-same f others d P renames named all Ties v inside.0).0 frequent.0, rest.0),
          (last_forth v inside.0 last.0, rest.1),
        )

    items_back : (items : List A) → AllByRecursion P items → AllByRecursion FrequentNamed (map f items) → AllByRecursion LastNamed (map f items)
        → AllByRecursion Frequent items × AllByRecursion Last items
    items_back [] inside frequent last = (tt, tt)
    items_back (v ∷ items) inside frequent last =
        let rest = items_back items inside.1 frequent.1 last.1 in (
          ((frequent-same f others d P renames named all Ties v inside.0).1 frequent.0, rest.0),
          (last_back v inside.0 last.0, rest.1),
        )

    pivot_forth : (items : List A) → AllByRecursion P items → IsPivotOf Own d pivot items → IsPivotOf Ties Named (f pivot) (map f items)
    pivot_forth items inside is =
        let both = items_forth items inside is.frequent is.last in
        record { frequent = both.0; held = Contains-by f items pivot is.held; last = both.1 }

    pivot_back : (items : List A) → AllByRecursion P items → IsPivotOf Ties Named (f pivot) (map f items) → IsPivotOf Own d pivot items
    pivot_back items inside is =
        let both = items_back items inside is.frequent is.last in
        let (v, held, same) = Contains-from f items (f pivot) is.held in
        let one : v ≡ pivot = renames.one_to_one v pivot (AllByRecursion-contained P items v inside held) p (sym same) in
        record { frequent = both.0; held = subst (Contains items) one held; last = both.1 }

  -- a pivot and a sequence by names
  abbrev by_names : PivotCandidates A → PivotCandidates B
  by_names of = record { pivot = f of.pivot; sequence = sequence_by f of.sequence }

  module _ (of : PivotCandidates A) (p : P of.pivot) (inside : AllByRecursion P of.sequence.items) where
    candidate_forth : (pattern : List A) → IsPivotCandidate Own d of pattern → IsPivotCandidate Ties Named (by_names of) (map f pattern)
    candidate_forth pattern is = record {
      generated = pattern-forth d.links others P f renames d.expression named of.sequence.items pattern inside is.generated;
      bounded = pivot_forth of.pivot p pattern (generated-in d.links others P f renames d.expression false of.sequence.items pattern is.generated.1 inside) is.bounded;
    }

    candidate_back : (pattern : List B) → IsPivotCandidate Ties Named (by_names of) pattern
        → (own : List A) × (pattern ≡ map f own) × AllByRecursion P own × IsPivotCandidate Own d of own
    candidate_back pattern is =
        let (own, same, made, within) = pattern-back d.links others P f renames d.expression named of.sequence.items pattern inside is.generated in (
          own,
          same,
          within,
          record { generated = made; bounded = pivot_back of.pivot p own within (subst (IsPivotOf Ties Named (f of.pivot)) same is.bounded) },
        )

    -- a list of items is a candidate where its names are
    candidate_own : (pattern : List A) → AllByRecursion P pattern → IsPivotCandidate Ties Named (by_names of) (map f pattern) → IsPivotCandidate Own d of pattern
    candidate_own pattern within is =
        let (own, same, own_within, made) = candidate_back (map f pattern) is in
        subst (IsPivotCandidate Own d of) (sym (one_to_one-lists d.links others P f renames pattern own within own_within same)) made

    candidate_named : (pattern : List A) → IsPivotCandidate Own d of pattern → AllByRecursion P pattern
    candidate_named pattern is = generated-in d.links others P f renames d.expression false of.sequence.items pattern is.generated.1 inside

  pivot_named : (of : PivotCandidates A) → AreOfPart Own d of → P of.pivot
  pivot_named of is = (label-named f others d P renames named all Ties least of.pivot [] is.alive).0

  items_named : (of : PivotCandidates A) → AreOfPart Own d of → AllByRecursion P of.sequence.items
  items_named of is = AllByRecursion-contained (λ (s : Sequence A). AllByRecursion P s.items) d.sequences of.sequence all is.held

  abbrev Shows : PivotCandidates A → PivotCandidates B → Type 0
  Shows of other = AreOfPart Own d of × (other ≡ by_names of)

  show : (of : PivotCandidates A) → AreOfPart Own d of → (other : PivotCandidates B) × AreOfPart Ties Named other × Shows of other
  show of is =
      let p = pivot_named of is in
      let inside = items_named of is in (
        by_names of,
        record {
          alive = (alive-same f others d P renames named all Ties of.pivot p [] tt).0 is.alive;
          held = Contains-by (sequence_by f) d.sequences of.sequence is.held;
          some = (map f is.some.0, candidate_forth of p inside is.some.0 is.some.1);
        },
        (is, refl),
      )

  own_set : (other : PivotCandidates B) → AreOfPart Ties Named other → (of : PivotCandidates A) × AreOfPart Own d of × Shows of other
  own_set other is =
      let (pivot, own, same, fronts, p, none) = label-own f others d P renames named all Ties least other.pivot [] is.alive in
      let (s, held, same_s) = Contains-from (sequence_by f) d.sequences other.sequence is.held in
      let of : PivotCandidates A = record { pivot = pivot; sequence = s } in
      let one : other ≡ by_names of = (λ i. record { pivot = same i; sequence = same_s i }) in
      let inside : AllByRecursion P s.items = AllByRecursion-contained (λ (t : Sequence A). AllByRecursion P t.items) d.sequences s all held in
      let (pattern, is_pattern, within, made) = candidate_back of p inside is.some.0 (subst (λ (c : PivotCandidates B). IsPivotCandidate Ties Named c is.some.0) one is.some.1) in
      let counted : AreOfPart Own d of = record {
        alive = (alive-same f others d P renames named all Ties pivot p [] tt).1 (subst (λ v. IsAlive Named (IsPivotOf Ties Named v) []) same is.alive);
        held = held;
        some = (pattern, made);
      } in
      (of, counted, (counted, one))

  module _ (first second : PivotCandidates A) (one : AreOfPart Own d first) (other : AreOfPart Own d second) where
    names_forth : ((pattern : List A) → IsPivotCandidate Own d first pattern → IsPivotCandidate Own d second pattern)
        → (pattern : List B) → IsPivotCandidate Ties Named (by_names first) pattern → IsPivotCandidate Ties Named (by_names second) pattern
    names_forth also pattern is =
        let (own, same, within, made) = candidate_back first (pivot_named first one) (items_named first one) pattern is in
        subst (IsPivotCandidate Ties Named (by_names second)) (sym same) (candidate_forth second (pivot_named second other) (items_named second other) own (also own made))

    names_back : ((pattern : List B) → IsPivotCandidate Ties Named (by_names first) pattern → IsPivotCandidate Ties Named (by_names second) pattern)
        → (pattern : List A) → IsPivotCandidate Own d first pattern → IsPivotCandidate Own d second pattern
    names_back also pattern is =
        candidate_own second (pivot_named second other) (items_named second other) pattern (candidate_named first (pivot_named first one) (items_named first one) pattern is)
        (also (map f pattern) (candidate_forth first (pivot_named first one) (items_named first one) pattern is))

  set_forth : (first second : PivotCandidates A) → AreOfPart Own d first → AreOfPart Own d second → AreSameSet Own d first second → AreSameSet Ties Named (by_names first) (by_names second)
  set_forth first second one other is = record {
    pivot = ap f is.pivot;
    same = λ pattern. (
      names_forth first second one other (λ own. (is.same own).0) pattern,
      names_forth second first other one (λ own. (is.same own).1) pattern,
    );
  }

  set_back : (first second : PivotCandidates A) → AreOfPart Own d first → AreOfPart Own d second → AreSameSet Ties Named (by_names first) (by_names second) → AreSameSet Own d first second
  set_back first second one other is = record {
    pivot = renames.one_to_one first.pivot second.pivot (pivot_named first one) (pivot_named second other) is.pivot;
    same = λ pattern. (
      names_back first second one other (λ list. (is.same list).0) pattern,
      names_back second first other one (λ list. (is.same list).1) pattern,
    );
  }

  apart : (first second : PivotCandidates A) (y also : PivotCandidates B) → Shows first y → Shows second also → AreSameSet Ties Named y also → AreSameSet Own d first second
  apart first second y also p q is =
      set_back first second p.0 q.0 (subst (λ v. AreSameSet Ties Named v (by_names second)) p.1 (subst (AreSameSet Ties Named y) q.1 is))

  alike : (first second : PivotCandidates A) (y also : PivotCandidates B) → Shows first y → Shows second also → AreSameSet Own d first second → AreSameSet Ties Named y also
  alike first second y also p q is =
      subst (λ v. AreSameSet Ties Named v also) (sym p.1) (subst (AreSameSet Ties Named (by_names first)) (sym q.1) (set_forth first second p.0 q.0 is))

  -- THE WORK by items is that by names
  pub set-work-names : (work : Work) → IsCandidateSetWork Own d work → IsCandidateSetWork Ties Named work
  set-work-names work is = record {
    nodes = is.nodes;
    parts = classes-by (AreOfPart Own d) (AreSameSet Own d) (AreOfPart Ties Named) (AreSameSet Ties Named) Shows show own_set apart alike work.parts is.parts;
    candidates = is.candidates;
  }
