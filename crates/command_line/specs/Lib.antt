-- the words of the promise
pub mod Options
pub mod Words
-- what crates share
pub mod Commands
pub mod PlainWords
pub mod Items
-- what the proofs keep
pub mod Arguments
