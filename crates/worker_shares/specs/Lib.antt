-- the words of the promise
pub mod Shares
