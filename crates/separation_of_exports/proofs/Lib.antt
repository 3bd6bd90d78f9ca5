-- what the number 0 tells of a call; the theorem on typed lists
pub mod Accepted
pub mod Exports
-- what an accepted setup stores are f64s, u32s and u64s; the theorem on byte lists
pub mod F64s
pub mod Held
pub mod ByteExports
-- an instance of each
pub mod Instance
