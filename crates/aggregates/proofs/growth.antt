-- The laws of growth that several proofs cite.
mod Free
mod Growing
mod Enqueued
mod Queued
mod Pushing
mod Queue
mod Seeding
pub mod Between
