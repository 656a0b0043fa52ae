-- The definitions that the contracts of `common` cite.
pub mod Cents
