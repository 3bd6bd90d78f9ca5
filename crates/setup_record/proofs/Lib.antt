pub mod Limits
pub mod Misfits
