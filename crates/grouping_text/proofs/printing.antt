-- The laws of printing that several proofs cite.
pub mod Bytes
