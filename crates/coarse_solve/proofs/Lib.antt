pub mod Sums
pub mod Filling
pub mod Solving
pub mod ByPolicy
