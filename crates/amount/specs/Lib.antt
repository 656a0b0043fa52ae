-- The definitions that the contracts of `amount` cite.
pub mod Amount
