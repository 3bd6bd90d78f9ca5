-- What the contracts of `aggregates` cite besides the definitions.
pub mod Lists
pub mod Stored
pub mod Stated
pub mod Growth
pub mod JoinChoice
pub mod JoinState
pub mod Checked
pub mod Settled
pub mod Within
pub mod Log
pub mod LogRead
