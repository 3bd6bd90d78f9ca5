-- what is built so far and the stages on it, what the checks leave, and what each stage promises
pub mod Stages
pub mod Fit
pub mod Promises
pub mod Memory
pub mod Asking
