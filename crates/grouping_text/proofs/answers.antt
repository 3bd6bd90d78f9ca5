-- The laws of the printed answer.
pub mod Printed
