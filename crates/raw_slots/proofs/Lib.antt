pub mod FindLaws
pub mod OpenedLaws
pub mod WalkLaws
pub mod SaidOnce
