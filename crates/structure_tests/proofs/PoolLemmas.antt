-- A pool whose seats did their shifts is still whole.
use Rattle.std.proofs.Common.{◌≡◌, ℕ, List, ◌++◌, sym, ◌∙◌, subst, length, take, drop, arith}
use Rattle.std.proofs.lemmas.Option.{slice_get_within}
use Rattle.node_pool.specs.declared.seat.Seat.{Seat}
use Rattle.node_pool.specs.Pool.{IsWholePool}
use Rattle.structure_tests.specs.Pools.{SameSeats}
use Rattle.mine_model.proofs.ListLemmas.{written_back}
use Rattle.mine_model.proofs.ElementLemmas.{get-some}

module _ {T G : Type 0} where
  pub whole_same : (old new : List (Seat T G)) → SameSeats old new → IsWholePool old → IsWholePool new
  whole_same old new same w = (
    w.0,
    w.1,
    w.2 ∙ sym same.0,
    λ k t e.
        let within = slice_get_within new k t e in
        let s = get-some old k (omega (arith, same.0)) in
        let f = same.1 k s.0 t s.1 e in
        let place = w.3 k s.0 s.1 in
        (f.0 ∙ place.0, f.1 ∙ place.1, f.2 ∙ place.2),
  )

  pub whole_refilled : (old new : List (Seat T G)) (n : ℕ) → n ≡ length old → SameSeats old new → IsWholePool old → IsWholePool (take n (new ++ drop (length new) old))
  whole_refilled old new n size same w = subst IsWholePool (sym (written_back new old n (size ∙ sym same.0))) (whole_same old new same w)
