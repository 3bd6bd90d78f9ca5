-- The laws of the checks that several proofs cite.
pub mod Order
mod Cut
