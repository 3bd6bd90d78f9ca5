pub mod Passing
pub mod Squares
pub mod Causes
pub mod Marking
pub mod Weighing
pub mod Product
pub mod Zeros
