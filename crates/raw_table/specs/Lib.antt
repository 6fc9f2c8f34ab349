pub mod Seq
pub mod Said
