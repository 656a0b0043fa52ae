-- The definitions that the contracts of `currency` cite.
pub mod Currency
