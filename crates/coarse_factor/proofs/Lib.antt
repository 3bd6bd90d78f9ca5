pub mod Fronts
pub mod Cholesky
pub mod Fitting
