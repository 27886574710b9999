-- the words of the promise
pub mod Moves
pub mod Steps
pub mod Memos
pub mod Cuts
-- what the proofs keep
pub mod Cells
pub mod Kept
