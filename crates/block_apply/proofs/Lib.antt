pub mod Sums
pub mod Triangles
pub mod Places
pub mod Calling
