-- the words of the promise
pub mod Branches
pub mod Shares
pub mod Sums
