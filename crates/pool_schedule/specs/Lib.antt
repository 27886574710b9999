pub mod State
pub mod Steps
pub mod Schedule
pub mod Worker
pub mod Machine
pub mod FrontCoding
