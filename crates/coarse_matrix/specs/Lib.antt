pub mod Scatter
pub mod Calls
pub mod Galerkin
pub mod Accepted
