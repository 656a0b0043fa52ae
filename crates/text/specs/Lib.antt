-- The definitions that the contracts of `text` cite.
pub mod Ranges
pub mod Class
pub mod Decimal
pub mod Field
pub mod Quote
pub mod Same
