pub mod RangeLaws
pub mod TwinLaws
