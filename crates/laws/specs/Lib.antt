-- Words that contracts of more than one crate cite.
pub mod Bounds
pub mod Every
pub mod Packed
pub mod Scatter
pub mod WholeRoot
