-- The laws of the public functions.
mod Upto
mod NodeLists
mod Stages
mod StoredLists
mod Answered
mod LogAnswered
pub mod Appearance
pub mod Stops
pub mod Log
pub mod LogExamples
