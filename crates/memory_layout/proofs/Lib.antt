pub mod SaidLaws
pub mod PartLaws
pub mod CheckedLaws
pub mod TryLaws
pub mod PassLaws
