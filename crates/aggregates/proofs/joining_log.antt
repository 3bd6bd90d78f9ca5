-- The laws that several proofs of the joining log cite.
pub mod Ruling
