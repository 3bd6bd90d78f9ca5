pub mod Infinities
pub mod Over
pub mod Passing
