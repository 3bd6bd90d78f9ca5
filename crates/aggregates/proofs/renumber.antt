-- The laws of renumbering that several proofs cite.
mod Numbering
