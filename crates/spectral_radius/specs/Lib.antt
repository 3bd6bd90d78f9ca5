-- What the contracts of the estimate's inner functions cite.
pub mod Power
