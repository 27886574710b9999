pub mod SetLemmas
pub mod LackLemmas
pub mod RunLemmas
pub mod RoomLemmas
pub mod NextLemmas
