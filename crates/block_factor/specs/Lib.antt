-- the numbers of a dense block, and what factoring it answers
pub mod Dense
pub mod Factored
pub mod Held
