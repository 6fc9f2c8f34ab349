pub mod SeqLaws
pub mod TurnLaws
pub mod WriteLaws
pub mod WordLaws
pub mod OpenLaws
pub mod SaidOnce
