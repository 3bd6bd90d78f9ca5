pub mod Filling
pub mod Laws
pub mod RoundTrip
pub mod Examples
