-- What the contracts of `grouping_text` cite besides the definitions.
pub mod Numbers
pub mod Feeding
pub mod Steps
pub mod Puts
