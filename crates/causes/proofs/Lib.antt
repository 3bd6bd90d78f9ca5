-- what a call leaves
pub mod Left
