-- What the contracts of `adjacency` cite.
pub mod Order
pub mod Collect
pub mod Strengths
pub mod WellFormed
pub mod Lists
pub mod Blocks
pub mod Norms
pub mod Lined
pub mod Flat
pub mod Fits
pub mod Within
