pub mod Answer
pub mod Buffered
