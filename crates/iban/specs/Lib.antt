-- The definitions that the contracts of `iban` cite.
pub mod Electronic
pub mod Iban
pub mod Format
pub mod Inner
