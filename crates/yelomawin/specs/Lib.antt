pub mod Boundary
pub mod Calls
