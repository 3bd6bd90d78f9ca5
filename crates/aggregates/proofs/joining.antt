-- The laws that several proofs of joining cite.
pub mod Counting
pub mod Together
mod Names
mod Chains
mod Moving
mod Linking
mod Edges
mod Moved
mod Turns
mod Ruled
mod Whole
mod Rounds
mod Begun
pub mod Fewer
pub mod Noted
pub mod Grouped
pub mod Ordered
mod Members
mod Candidates
pub mod Rule
pub mod Along
