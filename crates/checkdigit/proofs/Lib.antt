-- The laws and theorems of `checkdigit`.
pub mod Mod
pub mod Digits
pub mod Letters
pub mod Place
pub mod Errors
pub mod Iban
pub mod Fill
pub mod Places
pub mod Promises
pub mod Worked
