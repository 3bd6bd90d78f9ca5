pub mod Zeros
pub mod Starting
pub mod Rows
pub mod Sides
