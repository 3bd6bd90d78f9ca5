pub mod Receiving
pub mod Policies
pub mod Handing
