-- The laws and theorems of `datetime`.
pub mod Digits
pub mod Accepted
pub mod Places
pub mod Worked
