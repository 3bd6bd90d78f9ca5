-- The laws of the public functions.
mod Program
pub mod Agrees
pub mod Lengths
pub mod Pieces
