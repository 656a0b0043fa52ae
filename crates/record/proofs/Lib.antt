-- The laws of `record`, by which the crates above know its definitions: none of them has to unfold one.
pub mod Parts
pub mod Numbers
pub mod Heads
pub mod Records
