-- the words of the promise
pub mod SearchTree
pub mod RankedPartition
pub mod Cover
