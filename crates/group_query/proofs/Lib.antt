pub mod QueryLaws
pub mod MarkLaws
