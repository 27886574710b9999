pub mod PartLemmas
pub mod KidLemmas
pub mod RowLemmas
pub mod RootLemmas
pub mod NodeLemmas
pub mod TestLemmas
pub mod OutputLemmas
pub mod TreeLemmas
