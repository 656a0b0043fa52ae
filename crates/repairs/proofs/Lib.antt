-- The laws of `repairs`.
pub mod Repairs
