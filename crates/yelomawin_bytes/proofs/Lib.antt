pub mod Carried
pub mod Handing
pub mod Reading
