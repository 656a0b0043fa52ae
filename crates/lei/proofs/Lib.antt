-- The laws and theorems of `lei`.
pub mod Accepted
pub mod Places
pub mod Worked
