pub mod Sums
pub mod Products
pub mod Scaling
pub mod Stages
pub mod Course
pub mod Cleared
pub mod Checks
