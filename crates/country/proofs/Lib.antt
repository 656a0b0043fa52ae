-- The laws and theorems of `country`.
pub mod Promises
pub mod Accepted
pub mod Places
pub mod Worked
