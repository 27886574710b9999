-- Where the snapshots of sequences stand among places that lie one behind another.
use Rattle.std.specs.Prelude.{◌≡◌, ◌≢◌, ℕ, ◌+◌, ◌<◌, ◌≤◌, ◌^◌, ◌↔◌, Bool, IsTrue, Option, Some, List, ◌∷◌, ⊤, length, AllPairs, All, slice_get, slice_index}
use Rattle.std.specs.List.{AllZip}
use Rattle.packed_snapshots.specs.declared.snapshot.PlainSnapshot.{PlainSnapshot}
use Rattle.packed_snapshots.specs.Snapshots.{start, RisesBehind}
use Rattle.place_walk.specs.declared.stand.Stand.{Stand}

-- the numbers of sequences, and of each the place of its first item: both rise
pub record IsLayout (sequences starts : List ℕ) : Type 0 where
  pub rising : AllPairs (λ low high. low < high) sequences
  pub forward : AllPairs (λ low high. low < high) starts
  pub same : length starts ≡ length sequences

-- the stand is before the place of the snapshot, which is not one of the next sequence, and in its state
pub record IsStandOf (sequences starts : List ℕ) (one : PlainSnapshot) (stand : Stand) : Type 0 where
  pub grid : ℕ
  pub sequence : slice_get sequences grid ≡ Some one.sequence
  pub place : stand.place ≡ slice_index starts grid + one.position
  pub room : (next : ℕ) → slice_get starts (grid + 1) ≡ Some next → stand.place < next
  pub state : stand.state ≡ one.state

-- the snapshot has a stand that the program can hold
pub record HasStand (sequences starts : List ℕ) (one : PlainSnapshot) : Type 0 where
  pub stand : Stand
  pub is : IsStandOf sequences starts one stand
  pub fits : stand.place < 2 ^ 32

-- the stands are those of the snapshots, which rise and whose positions the program can hold
pub record AreStandsOf (sequences starts : List ℕ) (list : List PlainSnapshot) (stands : List Stand)
    : Type 0 where
  pub rising : RisesBehind start list
  pub near : All (λ one. one.position < 2 ^ 16) list
  pub are : AllZip (IsStandOf sequences starts) list stands

-- each stand is marked exactly where its snapshot is not of the sequence of the one before it
abbrev pub AreMarked : Option ℕ → List PlainSnapshot → List Stand → Type 0
AreMarked before (one ∷ more) (stand ∷ stands) =
    (IsTrue stand.first ↔ (before ≢ Some one.sequence)) × AreMarked (Some one.sequence) more stands
AreMarked before _ _ = ⊤

-- whether it has seen
abbrev pub HasSeen : Bool → PlainSnapshot → Type 0
HasSeen seen one = one.seen ≡ seen

-- the last index whose number is not above the value
pub record IsLastUpTo (list : List ℕ) (value index : ℕ) : Type 0 where
  pub within : index < length list
  pub not_above : slice_index list index ≤ value
  pub above : index + 1 < length list → value < slice_index list (index + 1)
