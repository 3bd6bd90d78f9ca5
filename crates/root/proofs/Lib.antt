mod Bounds
mod Correction
mod Division
mod Exponent
mod Pattern
mod Assembled
mod Special
pub mod StartRule
