-- The shelf that was found for a rank.
use Rattle.std.proofs.Common.{◌≡◌, ◌<◌, ℕ, List, Some, length, get_or, sym, ap, ◌∙◌, subst, arith}
use Rattle.std.specs.List.{All, slice_get}
use Rattle.std.proofs.lemmas.Option.{slice_get_within, get_or_from_slice_get}
use Rattle.place_walk.specs.declared.stand.Stand.{Stand}
use Rattle.stand_sums.specs.declared.shelf.Shelf.{Shelf}
use Rattle.stand_sums.specs.Kept.{HasRoomFor, AreShelved}
use Rattle.stand_sums.proofs.FileLemmas.{shelf-lies}

pub record IsFound (shelves : List Shelf) (place : ℕ) (shelf : Shelf) (rank : ℕ) : Type 0 where
  pub at : slice_get shelves place ≡ Some shelf
  pub rank_is : shelf.rank ≡ rank
  pub kept : shelf.first < shelf.last

pub shelf-found : (shelves listed : List Shelf) (place : ℕ) (shelf : Shelf) (rank : ℕ) → listed ≡ shelves
    → ((found : Shelf) × (slice_get listed place ≡ Some found) × (found.rank ≡ rank) × (found.first < found.last)) → shelf ≡ get_or shelves place shelf → IsFound shelves place shelf rank
shelf-found shelves listed place shelf rank same (found, there, rank_is, kept) read =
    let at : slice_get shelves place ≡ Some found = ap (λ (l : List Shelf). slice_get l place) (sym same) ∙ there in
    let is : shelf ≡ found = read ∙ get_or_from_slice_get shelves place found shelf at in
    record {
      at = at ∙ ap (λ (s : Shelf). Some s) (sym is);
      rank_is = ap (λ (s : Shelf). s.rank) is ∙ rank_is;
      kept = subst (λ (s : Shelf). s.first < s.last) (sym is) kept;
    }

module _ (shelves : List Shelf) (place : ℕ) (shelf : Shelf) (rank : ℕ) (found : IsFound shelves place shelf rank) (room : All (HasRoomFor rank) shelves) where
  pub shelf-free : shelf.next < shelf.last
  shelf-free =
      let same : get_or shelves place shelf ≡ shelf = get_or_from_slice_get shelves place shelf shelf found.at in
      let one : HasRoomFor rank shelf = subst (HasRoomFor rank) same (room place shelf (slice_get_within shelves place shelf found.at)) in
      one found.rank_is found.kept

  pub shelf-within : (run : List Stand) → AreShelved 0 shelves (length run) → shelf.next < length run
  shelf-within run shelved =
      let lies = shelf-lies 0 shelves (length run) place shelf shelved found.at in
      let free = shelf-free in
      let within = lies.within in
      omega arith
