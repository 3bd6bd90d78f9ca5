-- What antt computes with the definitions: checked, and nothing to believe.
pub mod Opened
pub mod Examples
pub mod Instances
