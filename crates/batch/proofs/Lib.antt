-- The laws of `batch`, by which the crates above know its definitions. Its promises stand in `batch_promises`.
pub mod Acts
pub mod Verdicts
pub mod Laws
