-- The definitions that the contracts of `bic` cite.
pub mod Bic
