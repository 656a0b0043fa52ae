-- The laws and theorems of `iban`.
pub mod Electronics
pub mod Padded
pub mod Blanks
pub mod Formats
pub mod Places
pub mod Worked
