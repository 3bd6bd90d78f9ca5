pub mod Calls
pub mod Lanes
pub mod Rows
