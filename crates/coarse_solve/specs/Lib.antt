pub mod Calls
pub mod RowSums
