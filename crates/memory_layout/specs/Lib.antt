pub mod Checked
pub mod Said
pub mod TableParts
