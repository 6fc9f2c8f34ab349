pub mod SaidSlot
pub mod SaidIter
