-- The laws and theorems of `text`.
pub mod Ranges
pub mod Classes
pub mod Decimals
pub mod Fields
pub mod Low
pub mod Near
pub mod Same
pub mod Worked
