-- The rows of the lists whose sums reach the threshold.
use Rattle.std.proofs.Common.{◌≡◌, ◌≢◌, ℕ, ◌+◌, ◌<◌, ◌≤◌, Some, List, [], ◌∷◌, ◌++◌, length, get_or, sym, subst, ap, ◌∙◌, inl, inr, arith}
use Rattle.std.specs.List.{slice_get, All, AllByRecursion, AllPairs, Contains}
use Rattle.std.proofs.lemmas.Bool.{cases_eq}
use Rattle.std.proofs.lemmas.List.Elements.{Contains-append_left, Contains-push, Contains-push_cases, Contains-get_or}
use Rattle.std.proofs.lemmas.List.Quantifiers.{all_pairs_push}
use Rattle.std.proofs.lemmas.Option.{same_Some, slice_get_within, get_or_from_slice_get}
use Rattle.mine_model.specs.declared.item.Item.{Item}
use Rattle.mine_model.specs.declared.row.Row.{Row}
use Rattle.mine_model.specs.Numbered.{PatternsDiffer, AreFrequent}
use Rattle.mine_model.specs.Answer.{IsFrequent}
use Rattle.mine_model.specs.Ranks.{AreRanked}
use Rattle.mine_model.proofs.ListLemmas.{Contains-none}
use Rattle.mine_model.proofs.RankedLemmas.{ranked-same, same_ranks}
use Rattle.mining_job.specs.Problems.{Problem, IsWhole, data_of}
use Rattle.prefix_counts.specs.Prefixes.{Prefixes, ArePrefixes}
use Rattle.frequent_rows.proofs.AnswerLemmas.{HasCount, AreAllHeld, IsEachCounted, sum-of-pattern, support-is-count, frequent-by-count, ranks-of-pattern, items-within}

-- the row is that of the list with this number
pub record IsRowAt (prefixes : Prefixes) (order : List Item) (threshold number : ℕ) (row : Row) : Type 0 where
  pub list : List ℕ
  pub at : slice_get prefixes.lists number ≡ Some list
  pub sum : slice_get prefixes.sums number ≡ Some row.support
  pub ranked : AreRanked order row.pattern list
  pub enough : threshold ≤ row.support

-- they are the rows of the lists with smaller numbers, each once
pub record AreRowsBelow (prefixes : Prefixes) (order : List Item) (threshold n : ℕ) (rows : List Row) : Type 0 where
  pub from : (row : Row) → Contains rows row → (number : ℕ) × (number < n) × IsRowAt prefixes order threshold number row
  pub to : (row : Row) (number : ℕ) → number < n → IsRowAt prefixes order threshold number row → Contains rows row
  pub once : PatternsDiffer rows

module _ (prefixes : Prefixes) (order : List Item) (threshold : ℕ) (are : ArePrefixes prefixes) where
  -- the empty list has no row
  pub rows-begin : 1 ≤ threshold → AreRowsBelow prefixes order threshold 1 []
  rows-begin positive = record {
    from = λ row held. absurd (Contains-none row held);
    to = λ row number below is.
        let first : number ≡ 0 = omega (arith, below) in
        let none : 0 ≡ row.support = same_Some 0 row.support (sym are.nothing ∙ sym (ap (slice_get prefixes.sums) first) ∙ is.sum) in
        absurd (omega (arith, positive, none, is.enough));
    once = λ i j d before below. absurd (omega (arith, below));
  }

  pub rows-skip : (n sum : ℕ) (rows : List Row) → slice_get prefixes.sums n ≡ Some sum → sum < threshold
      → AreRowsBelow prefixes order threshold n rows → AreRowsBelow prefixes order threshold (n + 1) rows
  rows-skip n sum rows here few r = record {
    from = λ row held. let f = r.from row held in (f.0, omega (arith, f.1), f.2);
    to = λ row number below is. elim (cases_eq number n) [
      | inl same ↦
          let read : sum ≡ row.support = same_Some sum row.support (sym here ∙ sym (ap (slice_get prefixes.sums) same) ∙ is.sum) in
          absurd (omega (arith, read, is.enough, few))
      | inr apart ↦ r.to row number (omega (arith, apart, below)) is
    ];
    once = r.once;
  }

  same-row : (r s : Row) → r.pattern ≡ s.pattern → r.support ≡ s.support → r ≡ s
  same-row r s e f = ap (λ (p : List Item). let x : Row = record { pattern = p; support = r.support } in x) e ∙ ap (λ (n : ℕ). let x : Row = record { pattern = s.pattern; support = n } in x) f

  -- a list makes one row
  one-row : (number : ℕ) (r s : Row) → IsRowAt prefixes order threshold number r → IsRowAt prefixes order threshold number s → r ≡ s
  one-row number r s first second =
      let list : first.list ≡ second.list = same_Some first.list second.list (sym first.at ∙ second.at) in
      let ranked : AreRanked order r.pattern second.list = subst (λ (xs : List ℕ). AreRanked order r.pattern xs) list first.ranked in
      same-row r s (ranked-same order r.pattern s.pattern second.list ranked second.ranked) (same_Some r.support s.support (sym first.sum ∙ second.sum))

  module _ (different : AllPairs (λ v w. v ≢ w) order) where
    -- a pattern is that of one list
    one-list : (number other : ℕ) (r s : Row) → IsRowAt prefixes order threshold number r → IsRowAt prefixes order threshold other s → r.pattern ≡ s.pattern → number ≡ other
    one-list number other r s first second same =
        let ranked : AreRanked order s.pattern first.list = subst (λ (p : List Item). AreRanked order p first.list) same first.ranked in
        let list : first.list ≡ second.list = same_ranks order different s.pattern first.list second.list ranked second.ranked in
        are.distinct number other (slice_get_within prefixes.lists number first.list first.at) (slice_get_within prefixes.lists other second.list second.at)
        (get_or_from_slice_get prefixes.lists number first.list [] first.at ∙ list ∙ sym (get_or_from_slice_get prefixes.lists other second.list [] second.at))

    pub rows-push : (n : ℕ) (rows next : List Row) (row : Row) → next ≡ rows ++ row ∷ [] → IsRowAt prefixes order threshold n row
        → AreRowsBelow prefixes order threshold n rows → AreRowsBelow prefixes order threshold (n + 1) next
    rows-push n rows next row e is r = rw e (record {
      from = λ other held. elim (Contains-push_cases rows row other held) [
        | inl before ↦ (let f = r.from other before in (f.0, omega (arith, f.1), f.2))
        | inr same ↦ (n, omega arith, subst (λ (x : Row). IsRowAt prefixes order threshold n x) same is)
      ];
      to = λ other number below is_other. elim (cases_eq number n) [
        | inl same ↦
            let here : IsRowAt prefixes order threshold n other = subst (λ (i : ℕ). IsRowAt prefixes order threshold i other) same is_other in
            subst (λ (x : Row). Contains (rows ++ row ∷ []) x) (one-row n row other is here) (Contains-push rows row)
        | inr apart ↦ Contains-append_left rows (row ∷ []) other (r.to other number (omega (arith, apart, below)) is_other)
      ];
      once = all_pairs_push (λ (x y : Row). x.pattern ≢ y.pattern) rows row r.once (λ k d below same.
          (let f = r.from (get_or rows k d) (Contains-get_or rows k d below) in
          omega (arith, one-list f.0 n (get_or rows k d) row f.2 is same, f.1)));
    })

-- ---- the answer

module _ (problem : Problem) (whole : IsWhole problem) (prefixes : Prefixes) (each : IsEachCounted problem prefixes)
    (ends : All (λ link. (link.child.0 < problem.hierarchy.items) × (link.parent.0 < problem.hierarchy.items)) problem.hierarchy.links) where
  abbrev IsRowOf : ℕ → Row → Type 0
  IsRowOf = IsRowAt prefixes problem.ranking.order problem.threshold

  abbrev AreRowsOf : ℕ → List Row → Type 0
  AreRowsOf = AreRowsBelow prefixes problem.ranking.order problem.threshold

  row-count : (number : ℕ) (row : Row) → IsRowOf number row → HasCount problem row.pattern row.support
  row-count number row r =
      sum-of-pattern problem prefixes each number r.list row.support r.at r.sum (omega (arith, whole.least, r.enough)) row.pattern r.ranked

  row-of-frequent : AreAllHeld problem prefixes → (row : Row) → IsFrequent (data_of problem) row.pattern row.support
      → (number : ℕ) × (number < length prefixes.lists) × IsRowOf number row
  row-of-frequent all row f =
      let counted = (support-is-count problem whole ends row.pattern row.support f.enough).0 f.exact in
      let (list, ranked) = ranks-of-pattern problem whole ends row.pattern row.support f.enough counted in
      let (number, at, is) = all row.pattern list ranked row.support counted f.enough (omega (arith, whole.least, f.enough)) in
      (number, slice_get_within prefixes.lists number list at, record { list = list; at = at; sum = is; ranked = ranked; enough = f.enough })

  -- the rows of all lists are the frequent patterns
  pub rows-frequent : AreAllHeld problem prefixes → (n : ℕ) (rows : List Row) → length prefixes.lists ≤ n → AreRowsOf n rows → AreFrequent (data_of problem) rows
  rows-frequent all n rows past r = record {
    once = r.once;
    frequent = λ row. (
      (λ held. let f = r.from row held in frequent-by-count problem whole ends row f.2.enough (row-count f.0 row f.2)),
      (λ frequent. let g = row-of-frequent all row frequent in r.to row g.0 (omega (arith, g.1, past)) g.2),
    );
  }

  -- their items are those of the hierarchy
  pub rows-within : (n : ℕ) (rows : List Row) → AreRowsOf n rows → (row : Row) → Contains rows row → AllByRecursion (λ t. t.0 < problem.hierarchy.items) row.pattern
  rows-within n rows r row held =
      let f = r.from row held in
      items-within problem whole ends row.pattern row.support f.2.enough (row-count f.0 row f.2)
