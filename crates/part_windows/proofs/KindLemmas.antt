-- Items of one kind, by the kinds that a table has for them.
use Rattle.std.proofs.Common.{◌≡◌, ℕ, ◌≤◌, List, sym, ◌∙◌, subst, arith}
use Rattle.std.proofs.lemmas.Option.{same_Some}
use Rattle.mine_model.specs.declared.item.Item.{Item}
use Rattle.mining_job.specs.declared.bound.Bound.{Bound}
use Rattle.mining_job.specs.Problems.{Problem}
use Rattle.sequence_grids.specs.declared.kinds.Kind.{Kind}
use Rattle.sequence_grids.specs.declared.kinds.Kinds.{Kinds}
use Rattle.sequence_grids.specs.Grids.{WritesRank}
use Rattle.sequence_grids.specs.Kinds.{IsClassFor, IsKind, HasKind}
use Rattle.sequence_grids.specs.Tables.{ClassSets}
use Rattle.part_windows.specs.Windows.{AreOfOneKind, AgreeUpTo}

module _ (problem : Problem) (bound : Bound) where
  kind-alike : (classes : List ClassSets) (kinds : Kinds) (kind : Kind) (t u : Item)
      → IsKind problem bound classes kinds.columns kinds.ends.items kinds.ranks.items t kind
      → IsKind problem bound classes kinds.columns kinds.ends.items kinds.ranks.items u kind → AreOfOneKind problem bound t u
  kind-alike classes kinds kind t u of_t of_u =
      let (c, at, class_t) = of_t.class in
      let (d, also, other) = of_u.class in
      let same : d ≡ c = same_Some d c (sym also ∙ at) in
      let class_u = subst (IsClassFor problem bound u) same other in
      record {
        silent = λ k target. (
          (λ reads. (class_u.silent k target).0 ((class_t.silent k target).1 reads)),
          (λ reads. (class_t.silent k target).0 ((class_u.silent k target).1 reads)),
        );
        writes = λ k rank target. (
          (λ writes. ((of_u.cells k target).outputs rank).0 (((of_t.cells k target).outputs rank).1 writes)),
          (λ writes. ((of_t.cells k target).outputs rank).0 (((of_u.cells k target).outputs rank).1 writes)),
        );
      }

  pub numbers-alike : (classes : List ClassSets) (kinds : Kinds) (t u : Item) (number : ℕ) → HasKind problem bound classes kinds t number
      → HasKind problem bound classes kinds u number → AreOfOneKind problem bound t u
  numbers-alike classes kinds t u number (kind, at, of_t) (other, also, of_u) =
      let same : other ≡ kind = same_Some other kind (sym also ∙ at) in
      kind-alike classes kinds kind t u of_t (subst (IsKind problem bound classes kinds.columns kinds.ends.items kinds.ranks.items u) same of_u)

  -- ranks up to a lesser top are ranks up to the greater
  wide-rank : (wide : Bound) → bound.top ≤ wide.top → (t : Item) (k rank : ℕ) → WritesRank problem bound t k rank → WritesRank problem wide t k rank
  wide-rank wide less t k rank (v, has, low, reads) = (v, has, omega (arith, low, less), reads)

  low-rank : (wide : Bound) (t : Item) (k rank : ℕ) → rank ≤ bound.top → WritesRank problem wide t k rank → WritesRank problem bound t k rank
  low-rank wide t k rank low (v, has, most, reads) = (v, has, low, reads)

  rank-low : (t : Item) (k rank : ℕ) → WritesRank problem bound t k rank → rank ≤ bound.top
  rank-low t k rank (v, has, low, reads) = low

  pub narrower-alike : (wide : Bound) (t u : Item) → bound.top ≤ wide.top → AreOfOneKind problem wide t u → AreOfOneKind problem bound t u
  narrower-alike wide t u less alike = record {
    silent = alike.silent;
    writes = λ k rank target. (
      (λ writes. low-rank wide u k rank (rank-low t k rank writes) ((alike.writes k rank target).0 (wide-rank wide less t k rank writes))),
      (λ writes. low-rank wide t k rank (rank-low u k rank writes) ((alike.writes k rank target).1 (wide-rank wide less u k rank writes))),
    );
  }

  -- kinds of a wider bound that agree up to the top
  pub cut-alike : (wide : Bound) (classes : List ClassSets) (kinds : Kinds) (t u : Item) (one other : Kind) → bound.top ≤ wide.top
      → IsKind problem wide classes kinds.columns kinds.ends.items kinds.ranks.items t one
      → IsKind problem wide classes kinds.columns kinds.ends.items kinds.ranks.items u other
      → AgreeUpTo problem bound.top classes kinds one other → AreOfOneKind problem bound t u
  cut-alike wide classes kinds t u one other less of_t of_u agree =
      let (c, at, class_t) = of_t.class in
      let (d, also, class_u) = of_u.class in
      record {
        silent = λ k target. (
          (λ reads. (class_u.silent k target).0 ((agree.silent c d at also k target).0 ((class_t.silent k target).1 reads))),
          (λ reads. (class_t.silent k target).0 ((agree.silent c d at also k target).1 ((class_u.silent k target).1 reads))),
        );
        writes = λ k rank target. (
          (λ writes.
              let low = rank-low t k rank writes in
              let held = ((of_t.cells k target).outputs rank).1 (wide-rank wide less t k rank writes) in
              low-rank wide u k rank low (((of_u.cells k target).outputs rank).0 ((agree.ranks k rank target low).0 held))),
          (λ writes.
              let low = rank-low u k rank writes in
              let held = ((of_u.cells k target).outputs rank).1 (wide-rank wide less u k rank writes) in
              low-rank wide t k rank low (((of_t.cells k target).outputs rank).0 ((agree.ranks k rank target low).1 held))),
        );
      }
