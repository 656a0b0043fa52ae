-- The laws of `sheet`.
pub mod Plain
pub mod Fits
pub mod Loads
pub mod Sheets
