pub mod Front
pub mod Calls
