-- lists with zeros after them, and their parts lent and put back
pub mod Padding
pub mod Lending
-- setup is its stages put together, and what is refused from the blocks on clears the lists
pub mod Composition
pub mod Clearing
-- the stages: fine level, transfer, coarse part
pub mod FineParts
pub mod Damping
pub mod Columns
pub mod Weights
pub mod Bases
pub mod Matrices
pub mod Storing
pub mod CoarseParts
-- put together: room, sizes before entries, the two levels, and all of setup
pub mod Rooms
pub mod Asking
pub mod Levels
pub mod Checks
pub mod Lengths
