-- a row of the table as numbers
pub mod Told
