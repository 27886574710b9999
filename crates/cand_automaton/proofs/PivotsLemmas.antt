-- The rows and the sets of the parts of some pivots, put together.
use Rattle.std.proofs.Common.{◌≢◌, ◌↔◌, ℕ, ◌+◌, ◌≤◌, inl, inr, List, [], ◌∷◌, ◌++◌, refl, sym, ap, subst, arith, length-append}
use Rattle.std.specs.List.{AllPairs, Contains}
use Rattle.std.proofs.lemmas.List.Elements.{Contains-append_left, Contains-append_right, Contains-append_cases}
use Rattle.mine_model.specs.declared.item.Item.{Item}
use Rattle.mine_model.specs.declared.row.Row.{Row}
use Rattle.mine_model.specs.Support.{HasFrequency}
use Rattle.mine_model.specs.Answer.{Data}
use Rattle.mine_model.specs.Numbered.{AreFrequent}
use Rattle.mine_model.specs.Ranks.{Ranking, AreRanks}
use Rattle.mine_model.specs.Pivots.{IsWithinPivot, IsAliveLabel}
use Rattle.mine_model.proofs.ListLemmas.{Contains-cases, Contains-none, Contains-first, AllPairs-append}
use Rattle.mine_model.proofs.FrequencyLemmas.{frequent-items}
use Rattle.mine_model.proofs.AliveLemmas.{IsAlive-frequent, IsAlive-shorter}
use Rattle.search_tree.proofs.PivotLemmas.{pivot-same, place_of}
use Rattle.search_tree.proofs.SearchAnswerLemmas.{frequent-ranks}
use Rattle.automaton_model.specs.Groups.{AreRowsOfPivot}
use Rattle.automaton_model.specs.Work.{CodeOfPart, IsAutomatonWork}
use Rattle.cand_automaton.specs.Pivots.{AreRowsOfPivots, AreSetsOfPivots}

module _ (d : Data Item) (order : List Item) where
  -- No pivots

  pub rows-none : AreRowsOfPivots d order [] []
  rows-none = record {
    once = λ i j e less inside. absurd (omega (arith, inside));
    exact = λ row. ((λ held. absurd (Contains-none row held)), (λ (frequent, (pivot, held, within)). absurd (Contains-none pivot held)));
  }

  pub sets-none : AreSetsOfPivots d order [] 0
  sets-none = record {
    pairs = [];
    once = λ i j e less inside. absurd (omega (arith, inside));
    exact = λ pair. ((λ held. absurd (Contains-none pair held)), (λ (held, counted). absurd (Contains-none pair.pivot held)));
    counted = refl;
  }

  -- One pivot

  pub rows-one : (pivot : ℕ) (rows : List Row) → AreRowsOfPivot d order pivot rows → AreRowsOfPivots d order (pivot ∷ []) rows
  rows-one pivot rows are = record {
    once = are.once;
    exact = λ row. (
      (λ held. let (frequent, within) = (are.exact row).0 held in (frequent, (pivot, Contains-first pivot [], within))),
      (λ (frequent, (other, held, within)). elim (Contains-cases pivot [] other held) [
        | inl same ↦ (are.exact row).1 (frequent, subst (λ p. IsWithinPivot order p row.pattern) same within)
        | inr none ↦ absurd (Contains-none other none)
      ]),
    );
  }

  -- The same pivots in another list

  pub rows-same : (pivots others : List ℕ) (rows : List Row) → ((pivot : ℕ) → Contains pivots pivot ↔ Contains others pivot)
      → AreRowsOfPivots d order pivots rows → AreRowsOfPivots d order others rows
  rows-same pivots others rows same are = record {
    once = are.once;
    exact = λ row. (
      (λ held. let (frequent, (pivot, inside, within)) = (are.exact row).0 held in (frequent, (pivot, (same pivot).0 inside, within))),
      (λ (frequent, (pivot, inside, within)). (are.exact row).1 (frequent, (pivot, (same pivot).1 inside, within))),
    );
  }

  pub sets-same : (pivots others : List ℕ) (count : ℕ) → ((pivot : ℕ) → Contains pivots pivot ↔ Contains others pivot)
      → AreSetsOfPivots d order pivots count → AreSetsOfPivots d order others count
  sets-same pivots others count same are = record {
    pairs = are.pairs;
    once = are.once;
    exact = λ pair. (
      (λ held. let (inside, counted) = (are.exact pair).0 held in ((same pair.pivot).0 inside, counted)),
      (λ (inside, counted). (are.exact pair).1 ((same pair.pivot).1 inside, counted)),
    );
    counted = are.counted;
  }

  -- Two lists of pivots without a common one

  pub sets-join : (pivots others : List ℕ) (count more : ℕ) → ((p q : ℕ) → Contains pivots p → Contains others q → p ≢ q)
      → AreSetsOfPivots d order pivots count → AreSetsOfPivots d order others more → AreSetsOfPivots d order (pivots ++ others) (count + more)
  sets-join pivots others count more apart are also = record {
    pairs = are.pairs ++ also.pairs;
    once = AllPairs-append (λ (first : CodeOfPart) second. first ≢ second) are.pairs also.pairs are.once also.once
        (λ x y here there same. apart x.pivot y.pivot ((are.exact x).0 here).0 ((also.exact y).0 there).0 (ap (λ (pair : CodeOfPart). pair.pivot) same));
    exact = λ pair. (
      (λ held. elim (Contains-append_cases are.pairs also.pairs pair held) [
        | inl here ↦ (let (inside, counted) = (are.exact pair).0 here in (Contains-append_left pivots others pair.pivot inside, counted))
        | inr there ↦ (let (inside, counted) = (also.exact pair).0 there in (Contains-append_right pivots others pair.pivot inside, counted))
      ]),
      (λ (inside, counted). elim (Contains-append_cases pivots others pair.pivot inside) [
        | inl here ↦ Contains-append_left are.pairs also.pairs pair ((are.exact pair).1 (here, counted))
        | inr there ↦ Contains-append_right are.pairs also.pairs pair ((also.exact pair).1 (there, counted))
      ]),
    );
    counted = omega (arith, are.counted, also.counted, length-append are.pairs also.pairs);
  }

  module _ (once : AllPairs (λ v w. v ≢ w) order) where
    pub rows-join : (pivots others : List ℕ) (rows more : List Row) → ((p q : ℕ) → Contains pivots p → Contains others q → p ≢ q)
        → ((p : ℕ) → Contains pivots p → 1 ≤ p) → ((q : ℕ) → Contains others q → 1 ≤ q)
        → AreRowsOfPivots d order pivots rows → AreRowsOfPivots d order others more → AreRowsOfPivots d order (pivots ++ others) (rows ++ more)
    rows-join pivots others rows more apart least also_least are also = record {
      once = AllPairs-append (λ (first : Row) (second : Row). first.pattern ≢ second.pattern) rows more are.once also.once
          (λ x y here there same.
          let (first, (p, inside, within)) = (are.exact x).0 here in
          let (second, (q, among, over)) = (also.exact y).0 there in
          apart p q inside among (pivot-same order once p q (least p inside) (also_least q among) x.pattern within (subst (IsWithinPivot order q) (sym same) over)));
      exact = λ row. (
        (λ held. elim (Contains-append_cases rows more row held) [
          | inl here ↦ (let (frequent, (p, inside, within)) = (are.exact row).0 here in (frequent, (p, Contains-append_left pivots others p inside, within)))
          | inr there ↦ (let (frequent, (p, inside, within)) = (also.exact row).0 there in (frequent, (p, Contains-append_right pivots others p inside, within)))
        ]),
        (λ (frequent, (p, inside, within)). elim (Contains-append_cases pivots others p inside) [
          | inl here ↦ Contains-append_left rows more row ((are.exact row).1 (frequent, (p, here, within)))
          | inr there ↦ Contains-append_right rows more row ((also.exact row).1 (frequent, (p, there, within)))
        ]),
      );
    }

-- All alive pivots

module _ (d : Data Item) (ranking : Ranking) (are : AreRanks d.links d.sequences d.threshold ranking) (pivots : List ℕ)
    (alive : (pivot : ℕ) → Contains pivots pivot ↔ ((1 ≤ pivot) × IsAliveLabel d ranking.order pivot [])) where
  -- THE ROWS of all alive pivots are the frequent patterns
  pub rows-all : ((w : Item) → (m : ℕ) × HasFrequency d.links d.sequences w m) → (rows : List Row) → AreRowsOfPivots d ranking.order pivots rows → AreFrequent d rows
  rows-all known rows of_pivots = record {
    once = of_pivots.once;
    frequent = λ row. (
      (λ held. ((of_pivots.exact row).0 held).0),
      (λ frequent.
          let items = frequent-items d.links d.sequences known d.threshold d.expression row.pattern row.support frequent.exact frequent.enough in
          let (ranks, ranked) = frequent-ranks d ranking are row.pattern items in
          let (pivot, least, within) = place_of ranking.order row.pattern ranks frequent.not_empty ranked in
          let label : IsAliveLabel d ranking.order pivot [] = record {
            prefix = [];
            ranked = tt;
            alive = IsAlive-shorter d (IsWithinPivot ranking.order pivot) [] row.pattern (IsAlive-frequent d (IsWithinPivot ranking.order pivot) row.pattern row.support frequent within);
          } in
          (of_pivots.exact row).1 (frequent, (pivot, (alive pivot).1 (least, label), within))),
    );
  }

  -- THE WORK is the number of their sets
  pub sets-all : (count : ℕ) → AreSetsOfPivots d ranking.order pivots count → IsAutomatonWork d ranking.order (record { nodes = 0; parts = count; candidates = 0 })
  sets-all count of_pivots = record {
    pairs = of_pivots.pairs;
    once = of_pivots.once;
    exact = λ pair. (
      (λ held. ((of_pivots.exact pair).0 held).1),
      (λ counted. (of_pivots.exact pair).1 ((alive pair.pivot).1 (counted.least, counted.alive), counted)),
    );
    nodes = refl;
    parts = of_pivots.counted;
    candidates = refl;
  }
