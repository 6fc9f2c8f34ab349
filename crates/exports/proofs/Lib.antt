pub mod ValueLaws
pub mod SaidOnce
