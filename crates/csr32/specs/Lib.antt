-- laws for callers: checks in order, a matrix that validate accepts, and the entries of a row as a loop walks them
pub mod Calls
pub mod Rows
pub mod Valid
pub mod Found
pub mod Seen
pub mod Parts
