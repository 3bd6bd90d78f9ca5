-- the columns that a row touches, its weights, and the call
pub mod Touched
pub mod Weights
pub mod Call
pub mod Accepted
