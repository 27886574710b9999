-- What the room of a worker knows.
use Rattle.std.specs.Prelude.{◌≡◌, ℕ, true, false, Option}
use Rattle.sequence_grids.specs.Grids.{GridList}
use Rattle.place_records.specs.Values.{moves_for}
use Rattle.snapshot_project.specs.declared.part.Ground.{Ground}
use Rattle.snapshot_project.specs.declared.terrain.Terrain.{Terrain}
use Rattle.snapshot_project.specs.declared.terrain.AnyTerrain.{AnyTerrain}
use Rattle.snapshot_project.specs.declared.terrain.AnyTerrain.TheVariants.{One, Four, Wide}
use Rattle.snapshot_project.specs.declared.room.Memos.{Memos}
use Rattle.snapshot_project.specs.Terrains.{part_on, IsKept}

-- up to which rank there is room, and the part that was met last, if it is known
pub record RoomValue : Type 0 where
  pub ranks : ℕ
  pub part : Option GridList

-- the memos are those of the rows and of the moves of the terrain
pub record AreMemosOver {W : ℕ} (terrain : Terrain W) (memos : Memos W) : Type 0 where
  pub early_rows : memos.early.rows ≡ terrain.rows.items
  pub early_moves : memos.early.moves ≡ moves_for terrain.records false
  pub late_rows : memos.late.rows ≡ terrain.rows.items
  pub late_moves : memos.late.moves ≡ moves_for terrain.records true

-- so those of its width
abbrev pub AreMemosOf : AnyTerrain → Memos 1 → Memos 4 → Memos 17 → Type 0
AreMemosOf (One terrain) one four wide = AreMemosOver terrain one
AreMemosOf (Four terrain) one four wide = AreMemosOver terrain four
AreMemosOf (Wide terrain) one four wide = AreMemosOver terrain wide

-- a part is made of it, and the memos are those of its terrain
pub record IsKnown (one : Memos 1) (four : Memos 4) (wide : Memos 17) (made : Ground) : Type 0 where
  pub kept : IsKept (part_on made) made.terrain made.weights.items made.starts.items
  pub memos : AreMemosOf made.terrain one four wide
