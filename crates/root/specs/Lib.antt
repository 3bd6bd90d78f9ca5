pub mod Fields
pub mod Starts
