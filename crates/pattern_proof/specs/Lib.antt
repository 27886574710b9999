-- the words of the promise
pub mod Runs
pub mod ProofLines
pub mod Proofs
pub mod Judging
pub mod Writings
-- what the proofs keep
pub mod Steps
pub mod Pieces
pub mod Reading
pub mod Checking
pub mod Standing
pub mod Taking
pub mod Finding
pub mod Rooms
pub mod Listing
pub mod Putting
