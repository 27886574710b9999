-- the words of the promise
pub mod Runs
pub mod Aims
pub mod Snapshots
pub mod Extensions
pub mod Stands
-- what the proofs keep
pub mod Live
pub mod Walks
pub mod Grouped
pub mod Layouts
pub mod Terrains
pub mod Rooms
pub mod Ahead
pub mod Kept
pub mod Founds
pub mod Longer
