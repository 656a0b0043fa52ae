-- The definitions that the contracts of `codes` cite.
pub mod Codes
pub mod Inner
