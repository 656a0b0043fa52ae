-- The definitions that the contracts of `sheet` cite.
pub mod Sheets
pub mod Load
pub mod Inner
