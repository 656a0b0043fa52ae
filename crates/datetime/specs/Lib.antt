-- The definitions that the contracts of `datetime` cite.
pub mod Date
pub mod Datetime
