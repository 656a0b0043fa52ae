-- The laws and theorems of `amount`.
pub mod Zeros
pub mod Accepted
pub mod Places
pub mod Worked
