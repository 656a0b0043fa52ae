-- The definitions that the contracts of `report` cite.
pub mod Digits
pub mod Text
pub mod Offset
pub mod Inner
