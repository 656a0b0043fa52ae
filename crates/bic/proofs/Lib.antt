-- The laws and theorems of `bic`.
pub mod Accepted
pub mod Places
pub mod Worked
