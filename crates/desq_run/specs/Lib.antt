-- the words of the promise
pub mod Sources
pub mod Said
pub mod Parts
pub mod Merged
pub mod Ends
pub mod Shared
pub mod Checked
pub mod Reported
-- what the proofs keep
pub mod Inputs
pub mod Tasks
pub mod Merging
