-- The definitions that the contracts of `repairs` cite.
pub mod Repairs
pub mod Inner
