-- The laws of a verdict's bytes, by which the crates above know them.
pub mod Verdicts
