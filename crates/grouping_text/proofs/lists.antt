-- The laws of reading lists that several proofs cite.
pub mod Nodes
