pub mod Sound
pub mod History
pub mod Promises
